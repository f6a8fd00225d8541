-- The line of a record, read again: two records have two lines, in words and in JSON.
use Rattle.std.proofs.Common.{◌≡◌, ◌∙◌, ℕ, ◌+◌, ◌*◌, ◌<◌, ◌^◌, List, [], ◌∷◌, ◌++◌, length, refl, ap, sym, arith}
use Rattle.std.specs.Prelude.{codes, ◌==◌, if◌then◌else◌}
use Rattle.std.specs.List.{AllByRecursion, flat_map}
use Rattle.std.proofs.lemmas.List.{append_cancel_left}
use Rattle.page_core.specs.declared.change.Change.{Change}
use Rattle.page_core.specs.declared.change.Change.TheVariants.{Add, Set}
use Rattle.log_records.specs.declared.dirty_page.DirtyPage.{DirtyPage}
use Rattle.log_records.specs.declared.dirty_page.DirtyPages.{DirtyPages}
use Rattle.log_records.specs.declared.dirty_page.DirtyPages.TheVariants.{One, Three, Two}
use Rattle.log_records.specs.declared.record.Record.{Record}
use Rattle.log_records.specs.declared.record.Record.TheVariants.{Abort, Begin, BeginChkpt, ChkptPages}
use Rattle.log_records.specs.declared.record.Record.TheVariants.{ChkptTxns, Commit, Comp, End, EndChkpt}
use Rattle.log_records.specs.declared.record.Record.TheVariants.{Extend, Update}
use Rattle.log_records.specs.declared.txn_phase.TxnPhase.{TxnPhase}
use Rattle.log_records.specs.declared.txn_phase.TxnPhase.TheVariants.{Active, Rolling}
use Rattle.log_records.specs.Record.{AreDirtyPages, IsChange, IsDirtyPage, IsRecord}
use Rattle.file_view.specs.declared.lines.Form.{Form}
use Rattle.file_view.specs.declared.lines.Form.TheVariants.{Json, Words}
use Rattle.file_view.specs.RecordText.{change_text, chkpt_pages_text, deed_text, dirty_list_text}
use Rattle.file_view.specs.RecordText.{dirty_pages_text, dirty_text, fields, kind_text, line, line_of, number_text, phase_text}
use Rattle.file_view.specs.RecordText.{set_text, step_text, undo_text, value_text, word_text}
use Rattle.file_view.proofs.Reading.{Fits, at, ended, read, read_line, run, start, word}

-- ---- the numbers of a line fit

set_fits : (form : Form) (before after : ℕ) → before < 2 ^ 64 → after < 2 ^ 64
    → Fits (set_text form before after)
unfolding deed_text number_text set_text value_text word_text
set_fits Words before after b a = assumption
set_fits Json before after b a = assumption

undo_fits : (form : Form) (it : Change) → IsChange it → Fits (undo_text form it)
unfolding deed_text undo_text value_text word_text
undo_fits form (Set before after) valid = assumption
undo_fits form (Add amount) valid = assumption

change_fits : (form : Form) (it : Change) → IsChange it → Fits (change_text form it)
unfolding change_text
change_fits form (Set before after) valid = set_fits form before after valid.0 valid.1
change_fits form (Add amount) valid = undo_fits form (Add amount) valid

phase_fits : (form : Form) (state : TxnPhase) → Fits (phase_text form state)
unfolding phase_text word_text
phase_fits form Active = tt
phase_fits form Rolling = tt

dirty_fits : (form : Form) (at : ℕ) (it : DirtyPage) → IsDirtyPage at it → Fits (dirty_text form it)
unfolding dirty_text number_text
dirty_fits form at it valid = let p : it.page < 2 ^ 64 = omega (arith, valid.page) in assumption

pages_fit : (form : Form) (at : ℕ) (pages : DirtyPages) → AreDirtyPages at pages
    → Fits (dirty_list_text form pages)
unfolding dirty_list_text dirty_pages_text
pages_fit form at (One a) valid = let d = dirty_fits form at a valid in assumption
pages_fit form at (Two a b) valid =
    let d = dirty_fits form at a valid.0 in let e = dirty_fits form at b valid.1 in assumption
pages_fit form at (Three a b c) valid =
    let d = dirty_fits form at a valid.0 in
    let e = dirty_fits form at b valid.1 in
    let f = dirty_fits form at c valid.2 in
    assumption

line_fits : (form : Form) (r : Record) → IsRecord r → Fits (line form r)
unfolding chkpt_pages_text fields kind_text number_text step_text word_text
line_fits form (Begin lsn txn) valid = let t : txn < 2 ^ 64 = omega (arith, valid.1) in assumption
line_fits form (Update lsn txn prev page slot it) valid =
    let t : txn < 2 ^ 64 = omega (arith, valid.1) in
    let p : page < 2 ^ 64 = omega (arith, valid.3.page) in
    let s : slot < 2 ^ 64 = omega (arith, valid.3.slot) in
    let c = change_fits form it valid.3.change in
    assumption
line_fits form (Comp lsn txn prev next page slot it) valid =
    let t : txn < 2 ^ 64 = omega (arith, valid.1) in
    let p : page < 2 ^ 64 = omega (arith, valid.3.page) in
    let s : slot < 2 ^ 64 = omega (arith, valid.3.slot) in
    let c = undo_fits form it valid.3.change in
    assumption
line_fits form (Commit lsn txn prev) valid = let t : txn < 2 ^ 64 = omega (arith, valid.1) in assumption
line_fits form (Abort lsn txn prev) valid = let t : txn < 2 ^ 64 = omega (arith, valid.1) in assumption
line_fits form (End lsn txn prev) valid = let t : txn < 2 ^ 64 = omega (arith, valid.1) in assumption
line_fits form (BeginChkpt lsn) valid = assumption
line_fits form (ChkptPages lsn begin pages) valid =
    let d = pages_fit form lsn pages valid.2 in assumption
line_fits form (ChkptTxns lsn begin txn state last next) valid =
    let t : txn < 2 ^ 64 = omega (arith, valid.2) in
    let s = phase_fits form state in
    assumption
line_fits form (EndChkpt lsn begin redo) valid = assumption
line_fits form (Extend lsn pages) valid =
    let p : pages < 2 ^ 64 = omega (arith, valid.1.most) in assumption

-- ---- what the pieces of a line tell, by their places

-- how many names stand before a word
abbrev names : Form → ℕ
names Words = 0
names Json = 1

-- the place behind the kind and so many numbers, each of which has its name before it
abbrev behind : Form → ℕ → ℕ
behind form count = 3 + names form + 2 * count

abbrev told_number : Form → List ℕ → ℕ → ℕ
told_number form ps count = at ps (behind form count + 1)

-- of a Set at a place
abbrev told_set : Form → List ℕ → ℕ → Change
told_set Words ps i = Set (at ps (i + 3)) (at ps (i + 1))
told_set Json ps i = Set (at ps (i + 2)) (at ps (i + 4))

abbrev told_change : Form → List ℕ → ℕ → Change
told_change form ps i =
    if at ps i == word (codes "set") then told_set form ps i else Add (at ps (i + 1 + names form))

abbrev told_undo : Form → List ℕ → ℕ → Change
told_undo form ps i =
    let n = at ps (i + 1 + names form) in if at ps i == word (codes "set") then Set 0 n else Add n

abbrev told_dirty : List ℕ → ℕ → DirtyPage
told_dirty ps i = record { page = at ps (i + 1); rec_lsn = at ps (i + 3) }

abbrev told_dirties : List ℕ → ℕ → DirtyPages
told_dirties ps i =
    if length ps == i + 4 then One (told_dirty ps i)
    else (if length ps == i + 8 then Two (told_dirty ps i) (told_dirty ps (i + 4))
    else Three (told_dirty ps i) (told_dirty ps (i + 4)) (told_dirty ps (i + 8)))

abbrev told_phase : ℕ → TxnPhase
told_phase piece = if piece == word (codes "active") then Active else Rolling

abbrev told : Form → List ℕ → Record
told form ps =
    let kind = at ps (2 + names form) in
    let lsn = at ps 1 in
    let n = told_number form ps in
    let w = λ (count : ℕ). behind form count + names form in
    if kind == word (codes "begin") then Begin lsn (n 0)
    else (if kind == word (codes "update") then
    Update lsn (n 0) (n 1) (n 2) (n 3) (told_change form ps (w 4))
    else (if kind == word (codes "comp") then
    Comp lsn (n 0) (n 1) (n 2) (n 3) (n 4) (told_undo form ps (w 5))
    else (if kind == word (codes "commit") then Commit lsn (n 0) (n 1)
    else (if kind == word (codes "abort") then Abort lsn (n 0) (n 1)
    else (if kind == word (codes "end") then End lsn (n 0) (n 1)
    else (if kind == word (codes "begin_chkpt") then BeginChkpt lsn
    else (if kind == word (codes "chkpt_pages") then ChkptPages lsn (n 0) (told_dirties ps (w 1))
    else (if kind == word (codes "chkpt_txns") then
    ChkptTxns lsn (n 0) (n 1) (told_phase (at ps (w 2))) (at ps (w 2 + 2)) (at ps (w 2 + 4))
    else (if kind == word (codes "end_chkpt") then EndChkpt lsn (n 0) (n 1)
    else Extend lsn (n 0))))))))))

both : (P : Form → Type 0) → P Words → P Json → (form : Form) → P form
both P words json Words = words
both P words json Json = json

told_again : (r : Record) → IsRecord r → (form : Form) → told form (ended (read start (line form r))) ≡ r
unfolding change_text chkpt_pages_text deed_text dirty_list_text dirty_pages_text dirty_text fields
    kind_text number_text phase_text set_text step_text undo_text value_text word_text
told_again (Begin lsn txn) valid = both _ refl refl
told_again (Update lsn txn prev page slot (Set before after)) valid = both _ refl refl
told_again (Update lsn txn prev page slot (Add amount)) valid = both _ refl refl
told_again (Comp lsn txn prev next page slot (Set before after)) valid =
    let same = ap (λ number. Comp lsn txn prev next page slot (Set number after)) (sym valid.5) in
    both _ same same
told_again (Comp lsn txn prev next page slot (Add amount)) valid = both _ refl refl
told_again (Commit lsn txn prev) valid = both _ refl refl
told_again (Abort lsn txn prev) valid = both _ refl refl
told_again (End lsn txn prev) valid = both _ refl refl
told_again (BeginChkpt lsn) valid = both _ refl refl
told_again (ChkptPages lsn begin (One a)) valid = both _ refl refl
told_again (ChkptPages lsn begin (Two a b)) valid = both _ refl refl
told_again (ChkptPages lsn begin (Three a b c)) valid = both _ refl refl
told_again (ChkptTxns lsn begin txn Active last next) valid = both _ refl refl
told_again (ChkptTxns lsn begin txn Rolling last next) valid = both _ refl refl
told_again (EndChkpt lsn begin redo) valid = both _ refl refl
told_again (Extend lsn pages) valid = both _ refl refl

-- ---- lines

-- a line is read as its record, whatever follows
again : (form : Form) (r : Record) (xs : List ℕ) → IsRecord r
    → told form (ended (run start (line_of form r ++ xs))) ≡ r
again form r xs valid =
    ap (told form) (read_line (line form r) xs (line_fits form r valid)) ∙ told_again r valid form

pub apart : (form : Form) (a b : Record) (x y : List ℕ) → IsRecord a → IsRecord b
    → line_of form a ++ x ≡ line_of form b ++ y → a ≡ b
apart form a b x y a_valid b_valid same =
    sym (again form a x a_valid) ∙ ap (λ (bs : List ℕ). told form (ended (run start bs))) same
    ∙ again form b y b_valid

-- no line is empty
no_line : {P : Type 0} (form : Form) (a : Record) (x : List ℕ) → [] ≡ line_of form a ++ x → P
no_line Words a x same = cc
no_line Json a x same = cc

pub listings_apart : (form : Form) (a b : List Record) → AllByRecursion IsRecord a
    → AllByRecursion IsRecord b → flat_map (line_of form) a ≡ flat_map (line_of form) b → a ≡ b
listings_apart form [] [] a_valid b_valid same = refl
listings_apart form [] (s ∷ b) a_valid b_valid same = no_line form s (flat_map (line_of form) b) same
listings_apart form (r ∷ a) [] a_valid b_valid same =
    no_line form r (flat_map (line_of form) a) (sym same)
listings_apart form (r ∷ a) (s ∷ b) a_valid b_valid same =
    let x = flat_map (line_of form) a in
    let y = flat_map (line_of form) b in
    let first : r ≡ s = apart form r s x y a_valid.0 b_valid.0 same in
    let rest : x ≡ y =
    append_cancel_left (line_of form s) x y (ap (λ t. line_of form t ++ x) (sym first) ∙ same) in
    ap (λ t. t ∷ a) first
    ∙ ap (λ (ts : List Record). s ∷ ts) (listings_apart form a b a_valid.1 b_valid.1 rest)
