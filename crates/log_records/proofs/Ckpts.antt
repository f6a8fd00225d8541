-- The numbers in the bytes of a checkpoint's record.
use Rattle.std.proofs.Common.{◌≡◌, ℕ, ◌<◌, ◌^◌, List, refl, sym, ap, subst, ◌∙◌, arith, lit<}
use Rattle.std.specs.Prelude.{slice_range, Option, Some}
use Rattle.std.specs.Int.{w32, w64, to_le_bytes}
use Rattle.log_records.specs.declared.dirty_page.DirtyPage.{DirtyPage}
use Rattle.log_records.specs.declared.dirty_page.DirtyPages.{DirtyPages}
use Rattle.log_records.specs.declared.dirty_page.DirtyPages.TheVariants.{One, Two, Three}
use Rattle.log_records.specs.declared.fields.TheConstants.{BEGIN_CHKPT, CHKPT_PAGES, CHKPT_TXNS, END_CHKPT}
use Rattle.log_records.specs.declared.record.Record.{Record}
use Rattle.log_records.specs.declared.record.Record.TheVariants.{Begin, Update, Comp, Commit, Abort, End, BeginChkpt}
use Rattle.log_records.specs.declared.record.Record.TheVariants.{ChkptPages, ChkptTxns, EndChkpt, Extend}
use Rattle.log_records.specs.declared.txn_phase.TxnPhase.{TxnPhase}
use Rattle.log_records.specs.declared.txn_phase.TxnPhase.TheVariants.{Active, Rolling}
use Rattle.log_records.specs.CkptBytes.{ckpt_bytes, code_of, entry_bytes, pages_body, redo_body, txn_body}
use Rattle.log_records.specs.Record.{AreDirtyPages, IsOfCheckpoint, SpellsRecord, own_lsn, record_bytes}

-- ---- dirty pages

count_of : DirtyPages → ℕ
count_of (One a) = 1
count_of (Two a b) = 2
count_of (Three a b c) = 3

count_fits : (pages : DirtyPages) → count_of pages < 2 ^ 32
unfolding count_of
count_fits (One a) = lit< tt
count_fits (Two a b) = lit< tt
count_fits (Three a b c) = lit< tt

count_at : (kind begin lsn : ℕ) (pages : DirtyPages) (bs : List ℕ) → bs ≡ ckpt_bytes kind begin (pages_body pages) lsn
    → to_le_bytes w32 (count_of pages) ≡ slice_range bs 16 20
unfolding ckpt_bytes pages_body count_of
count_at kind begin lsn (One a) bs same = sym (ap (λ (xs : List ℕ). slice_range xs 16 20) same)
count_at kind begin lsn (Two a b) bs same = sym (ap (λ (xs : List ℕ). slice_range xs 16 20) same)
count_at kind begin lsn (Three a b c) bs same = sym (ap (λ (xs : List ℕ). slice_range xs 16 20) same)

-- a number that was read at an offset
abbrev pub Reads32 : List ℕ → ℕ → ℕ → ℕ → Type 0
Reads32 bs from to n = (m : ℕ) → m < 2 ^ 32 → to_le_bytes w32 m ≡ slice_range bs from to → n ≡ m

abbrev pub Reads64 : List ℕ → ℕ → ℕ → ℕ → Type 0
Reads64 bs from to n = (m : ℕ) → m < 2 ^ 64 → to_le_bytes w64 m ≡ slice_range bs from to → n ≡ m

abbrev pub ReadsEntry : List ℕ → ℕ → ℕ → ℕ → DirtyPage → Type 0
ReadsEntry bs from mid to x = (e : DirtyPage) → e.page < 2 ^ 32 → e.rec_lsn < 2 ^ 64
    → to_le_bytes w32 e.page ≡ slice_range bs from mid → to_le_bytes w64 e.rec_lsn ≡ slice_range bs mid to → x ≡ e

count_is : (kind begin lsn n : ℕ) (pages : DirtyPages) (bs : List ℕ)
    → bs ≡ ckpt_bytes kind begin (pages_body pages) lsn → Reads32 bs 16 20 n → n ≡ count_of pages
count_is kind begin lsn n pages bs same reads = reads (count_of pages) (count_fits pages)
    (count_at kind begin lsn pages bs same)

one_on : (kind begin lsn at n : ℕ) (pages : DirtyPages) (bs : List ℕ) (x : DirtyPage)
    → bs ≡ ckpt_bytes kind begin (pages_body pages) lsn → AreDirtyPages at pages → n ≡ 1 → n ≡ count_of pages
    → ReadsEntry bs 20 24 32 x → One x ≡ pages
unfolding ckpt_bytes pages_body entry_bytes count_of
one_on kind begin lsn at n (One a) bs x same valid is count first =
    let part = λ (i j : ℕ). sym (ap (λ (xs : List ℕ). slice_range xs i j) same) in
    rw (first a (omega (arith, valid.page)) valid.rec_lsn.place.fits (part 20 24) (part 24 32)) refl
one_on kind begin lsn at n (Two a b) bs x same valid is count first = absurd (omega (arith, is, count))
one_on kind begin lsn at n (Three a b c) bs x same valid is count first = absurd (omega (arith, is, count))

pub one_is : (kind begin lsn at n : ℕ) (pages : DirtyPages) (bs : List ℕ) (x : DirtyPage)
    → bs ≡ ckpt_bytes kind begin (pages_body pages) lsn → AreDirtyPages at pages → n ≡ 1 → Reads32 bs 16 20 n
    → ReadsEntry bs 20 24 32 x → One x ≡ pages
one_is kind begin lsn at n pages bs x same valid is reads =
    one_on kind begin lsn at n pages bs x same valid is (count_is kind begin lsn n pages bs same reads)

two_on : (kind begin lsn at n : ℕ) (pages : DirtyPages) (bs : List ℕ) (x y : DirtyPage)
    → bs ≡ ckpt_bytes kind begin (pages_body pages) lsn → AreDirtyPages at pages → n ≡ 2 → n ≡ count_of pages
    → ReadsEntry bs 20 24 32 x → ReadsEntry bs 32 36 44 y → Two x y ≡ pages
unfolding ckpt_bytes pages_body entry_bytes count_of
two_on kind begin lsn at n (One a) bs x y same valid is count first second = absurd (omega (arith, is, count))
two_on kind begin lsn at n (Two a b) bs x y same valid is count first second =
    let part = λ (i j : ℕ). sym (ap (λ (xs : List ℕ). slice_range xs i j) same) in
    rw (
      first a (omega (arith, valid.0.page)) valid.0.rec_lsn.place.fits (part 20 24) (part 24 32),
      second b (omega (arith, valid.1.page)) valid.1.rec_lsn.place.fits (part 32 36) (part 36 44),
    ) refl
two_on kind begin lsn at n (Three a b c) bs x y same valid is count first second = absurd (omega (arith, is, count))

pub two_is : (kind begin lsn at n : ℕ) (pages : DirtyPages) (bs : List ℕ) (x y : DirtyPage)
    → bs ≡ ckpt_bytes kind begin (pages_body pages) lsn → AreDirtyPages at pages → n ≡ 2 → Reads32 bs 16 20 n
    → ReadsEntry bs 20 24 32 x → ReadsEntry bs 32 36 44 y → Two x y ≡ pages
two_is kind begin lsn at n pages bs x y same valid is reads =
    two_on kind begin lsn at n pages bs x y same valid is (count_is kind begin lsn n pages bs same reads)

three_on : (kind begin lsn at n : ℕ) (pages : DirtyPages) (bs : List ℕ) (x y z : DirtyPage)
    → bs ≡ ckpt_bytes kind begin (pages_body pages) lsn → AreDirtyPages at pages → ((n ≡ 1) → ⊥)
    → ((n ≡ 2) → ⊥) → n ≡ count_of pages
    → ReadsEntry bs 20 24 32 x → ReadsEntry bs 32 36 44 y → ReadsEntry bs 44 48 56 z → Three x y z ≡ pages
unfolding ckpt_bytes pages_body entry_bytes count_of
three_on kind begin lsn at n (One a) bs x y z same valid one two count first second third = absurd (one count)
three_on kind begin lsn at n (Two a b) bs x y z same valid one two count first second third = absurd (two count)
three_on kind begin lsn at n (Three a b c) bs x y z same valid one two count first second third =
    let part = λ (i j : ℕ). sym (ap (λ (xs : List ℕ). slice_range xs i j) same) in
    rw (
      first a (omega (arith, valid.0.page)) valid.0.rec_lsn.place.fits (part 20 24) (part 24 32),
      second b (omega (arith, valid.1.page)) valid.1.rec_lsn.place.fits (part 32 36) (part 36 44),
      third c (omega (arith, valid.2.page)) valid.2.rec_lsn.place.fits (part 44 48) (part 48 56),
    ) refl

pub three_is : (kind begin lsn at n : ℕ) (pages : DirtyPages) (bs : List ℕ) (x y z : DirtyPage)
    → bs ≡ ckpt_bytes kind begin (pages_body pages) lsn → AreDirtyPages at pages → ((n ≡ 1) → ⊥)
    → ((n ≡ 2) → ⊥) → Reads32 bs 16 20 n
    → ReadsEntry bs 20 24 32 x → ReadsEntry bs 32 36 44 y → ReadsEntry bs 44 48 56 z → Three x y z ≡ pages
three_is kind begin lsn at n pages bs x y z same valid one two reads =
    three_on kind begin lsn at n pages bs x y z same valid one two (count_is kind begin lsn n pages bs same reads)

-- ---- records

-- its kind
pub kind_of : Record → ℕ
kind_of (BeginChkpt lsn) = BEGIN_CHKPT
kind_of (ChkptPages lsn begin pages) = CHKPT_PAGES
kind_of (ChkptTxns lsn begin txn state last undo_next) = CHKPT_TXNS
kind_of other = END_CHKPT

pub kind_is : (n : ℕ) (r : Record) (bs : List ℕ) → IsOfCheckpoint r → bs ≡ record_bytes r → Reads32 bs 0 4 n
    → n ≡ kind_of r
unfolding ckpt_bytes kind_of
kind_is n (BeginChkpt lsn) bs of same reads = reads 7 (lit< tt) (sym (ap (λ (xs : List ℕ). slice_range xs 0 4) same))
kind_is n (ChkptPages lsn begin pages) bs of same reads =
    reads 8 (lit< tt) (sym (ap (λ (xs : List ℕ). slice_range xs 0 4) same))
kind_is n (ChkptTxns lsn begin txn state last undo_next) bs of same reads =
    reads 9 (lit< tt) (sym (ap (λ (xs : List ℕ). slice_range xs 0 4) same))
kind_is n (EndChkpt lsn begin redo) bs of same reads =
    reads 10 (lit< tt) (sym (ap (λ (xs : List ℕ). slice_range xs 0 4) same))
kind_is n (Begin lsn txn) bs of same reads = absurd of
kind_is n (Update lsn txn prev page slot change) bs of same reads = absurd of
kind_is n (Comp lsn txn prev undo_next page slot change) bs of same reads = absurd of
kind_is n (Commit lsn txn prev) bs of same reads = absurd of
kind_is n (Abort lsn txn prev) bs of same reads = absurd of
kind_is n (End lsn txn prev) bs of same reads = absurd of
kind_is n (Extend lsn pages) bs of same reads = absurd of

-- the one answer to these bytes
abbrev pub Answers : List ℕ → ℕ → Option Record → Type 0
Answers bs at o = (r : Record) → IsOfCheckpoint r → own_lsn r ≡ at → SpellsRecord r bs → o ≡ Some r

abbrev pub Written : List ℕ → Record → Option Record → Type 0
Written bs r o = SpellsRecord r bs → o ≡ Some r

-- what was made and is the record is what was asked for
pub written : (bs : List ℕ) (x r : Record) (o : Option Record) → Written bs x o → x ≡ r → SpellsRecord r bs → o ≡ Some r
written bs x r o wrote same spells =
    wrote (subst (λ (y : Record). SpellsRecord y bs) (sym same) spells) ∙ ap Some same

pub begin_answers : (bs : List ℕ) (at n : ℕ) (o : Option Record) → n ≡ BEGIN_CHKPT → Reads32 bs 0 4 n
    → Written bs (BeginChkpt at) o → Answers bs at o
unfolding kind_of
begin_answers bs at n o is reads wrote (BeginChkpt lsn) of own spells =
    written bs (BeginChkpt at) (BeginChkpt lsn) o wrote (ap BeginChkpt (sym own)) spells
begin_answers bs at n o is reads wrote (ChkptPages lsn begin pages) of own spells =
    let kind = kind_is n (ChkptPages lsn begin pages) bs of spells.spelled reads in absurd (omega (arith, is, kind))
begin_answers bs at n o is reads wrote (ChkptTxns lsn begin txn state last undo_next) of own spells =
    let kind = kind_is n (ChkptTxns lsn begin txn state last undo_next) bs of spells.spelled reads in
    absurd (omega (arith, is, kind))
begin_answers bs at n o is reads wrote (EndChkpt lsn begin redo) of own spells =
    let kind = kind_is n (EndChkpt lsn begin redo) bs of spells.spelled reads in absurd (omega (arith, is, kind))
begin_answers bs at n o is reads wrote other of own spells = absurd of

pub pages_answers : (bs : List ℕ) (at begin n : ℕ) (pages : DirtyPages) (o : Option Record) → n ≡ CHKPT_PAGES
    → Reads32 bs 0 4 n → Reads64 bs 8 16 begin
    → ((at begin lsn : ℕ) (ps : DirtyPages) → AreDirtyPages at ps
    → bs ≡ ckpt_bytes CHKPT_PAGES begin (pages_body ps) lsn → pages ≡ ps)
    → Written bs (ChkptPages at begin pages) o → Answers bs at o
unfolding kind_of ckpt_bytes
pages_answers bs at begin n pages o is reads begins entries wrote (ChkptPages lsn b ps) of own spells =
    let same = spells.spelled in
    let x = begins b spells.valid.1.place.fits (sym (ap (λ (xs : List ℕ). slice_range xs 8 16) same)) in
    let y = entries lsn b lsn ps spells.valid.2 same in
    written bs (ChkptPages at begin pages) (ChkptPages lsn b ps) o wrote (rw (sym own, x, y) refl) spells
pages_answers bs at begin n pages o is reads begins entries wrote (BeginChkpt lsn) of own spells =
    let kind = kind_is n (BeginChkpt lsn) bs of spells.spelled reads in absurd (omega (arith, is, kind))
pages_answers bs at begin n pages o is reads begins entries wrote
    (ChkptTxns lsn b txn state last undo_next) of own spells =
    let kind = kind_is n (ChkptTxns lsn b txn state last undo_next) bs of spells.spelled reads in
    absurd (omega (arith, is, kind))
pages_answers bs at begin n pages o is reads begins entries wrote (EndChkpt lsn b redo) of own spells =
    let kind = kind_is n (EndChkpt lsn b redo) bs of spells.spelled reads in absurd (omega (arith, is, kind))
pages_answers bs at begin n pages o is reads begins entries wrote other of own spells = absurd of

pub txns_answers : (bs : List ℕ) (at begin n txn code : ℕ) (state : TxnPhase) (last undo_next : ℕ) (o : Option Record)
    → n ≡ CHKPT_TXNS → Reads32 bs 0 4 n → Reads64 bs 8 16 begin → Reads32 bs 20 24 txn → Reads32 bs 24 28 code
    → ((s : TxnPhase) → code_of s ≡ code → state ≡ s) → Reads64 bs 28 36 last → Reads64 bs 36 44 undo_next
    → Written bs (ChkptTxns at begin txn state last undo_next) o → Answers bs at o
unfolding kind_of ckpt_bytes txn_body
txns_answers bs at begin n txn code state last undo_next o is reads begins txns codes phase lasts undos wrote
    (ChkptTxns lsn b t s l u) of own spells =
    let part = λ (i j : ℕ). sym (ap (λ (xs : List ℕ). slice_range xs i j) spells.spelled) in
    let valid = spells.valid in
    let x = begins b valid.1.place.fits (part 8 16) in
    let y = txns t valid.2.fits (part 20 24) in
    let z = phase s (sym (codes (code_of s) (code_fits s) (part 24 28))) in
    let v = lasts l valid.3.place.fits (part 28 36) in
    let w = undos u valid.4.place.fits (part 36 44) in
    written bs (ChkptTxns at begin txn state last undo_next) (ChkptTxns lsn b t s l u) o wrote
    (rw (sym own, x, y, z, v, w) refl) spells
  where
    code_fits : (s : TxnPhase) → code_of s < 2 ^ 32
    code_fits Active = lit< tt
    code_fits Rolling = lit< tt
txns_answers bs at begin n txn code state last undo_next o is reads begins txns codes phase lasts undos wrote
    (BeginChkpt lsn) of own spells =
    let kind = kind_is n (BeginChkpt lsn) bs of spells.spelled reads in absurd (omega (arith, is, kind))
txns_answers bs at begin n txn code state last undo_next o is reads begins txns codes phase lasts undos wrote
    (ChkptPages lsn b ps) of own spells =
    let kind = kind_is n (ChkptPages lsn b ps) bs of spells.spelled reads in absurd (omega (arith, is, kind))
txns_answers bs at begin n txn code state last undo_next o is reads begins txns codes phase lasts undos wrote
    (EndChkpt lsn b redo) of own spells =
    let kind = kind_is n (EndChkpt lsn b redo) bs of spells.spelled reads in absurd (omega (arith, is, kind))
txns_answers bs at begin n txn code state last undo_next o is reads begins txns codes phase lasts undos wrote
    other of own spells = absurd of

pub end_answers : (bs : List ℕ) (at begin n redo : ℕ) (o : Option Record) → n ≡ END_CHKPT → Reads32 bs 0 4 n
    → Reads64 bs 8 16 begin → Reads64 bs 24 32 redo → Written bs (EndChkpt at begin redo) o → Answers bs at o
unfolding kind_of ckpt_bytes redo_body
end_answers bs at begin n redo o is reads begins redos wrote (EndChkpt lsn b d) of own spells =
    let part = λ (i j : ℕ). sym (ap (λ (xs : List ℕ). slice_range xs i j) spells.spelled) in
    let x = begins b spells.valid.1.place.fits (part 8 16) in
    let y = redos d spells.valid.2.place.fits (part 24 32) in
    written bs (EndChkpt at begin redo) (EndChkpt lsn b d) o wrote (rw (sym own, x, y) refl) spells
end_answers bs at begin n redo o is reads begins redos wrote (BeginChkpt lsn) of own spells =
    let kind = kind_is n (BeginChkpt lsn) bs of spells.spelled reads in absurd (omega (arith, is, kind))
end_answers bs at begin n redo o is reads begins redos wrote (ChkptPages lsn b ps) of own spells =
    let kind = kind_is n (ChkptPages lsn b ps) bs of spells.spelled reads in absurd (omega (arith, is, kind))
end_answers bs at begin n redo o is reads begins redos wrote (ChkptTxns lsn b t s l u) of own spells =
    let kind = kind_is n (ChkptTxns lsn b t s l u) bs of spells.spelled reads in absurd (omega (arith, is, kind))
end_answers bs at begin n redo o is reads begins redos wrote other of own spells = absurd of

-- there are four kinds
pub none_answers : (bs : List ℕ) (at n : ℕ) (o : Option Record) → Reads32 bs 0 4 n → ((n ≡ BEGIN_CHKPT) → ⊥)
    → ((n ≡ CHKPT_PAGES) → ⊥) → ((n ≡ CHKPT_TXNS) → ⊥) → ((n ≡ END_CHKPT) → ⊥) → Answers bs at o
unfolding kind_of
none_answers bs at n o reads a b c d (BeginChkpt lsn) of own spells =
    absurd (a (kind_is n (BeginChkpt lsn) bs of spells.spelled reads))
none_answers bs at n o reads a b c d (ChkptPages lsn e ps) of own spells =
    absurd (b (kind_is n (ChkptPages lsn e ps) bs of spells.spelled reads))
none_answers bs at n o reads a b c d (ChkptTxns lsn e t s l u) of own spells =
    absurd (c (kind_is n (ChkptTxns lsn e t s l u) bs of spells.spelled reads))
none_answers bs at n o reads a b c d (EndChkpt lsn e r) of own spells =
    absurd (d (kind_is n (EndChkpt lsn e r) bs of spells.spelled reads))
none_answers bs at n o reads a b c d other of own spells = absurd of
