-- The numbers of a record that a log may have.
use Rattle.std.proofs.Common.{◌≡◌, ℕ, ◌<◌, ◌^◌, List, ◌++◌, take, length, refl, sym, ap, ◌+◌, ◌∙◌, ◌⊎◌, inl, inr, arith}
use Rattle.std.proofs.Common.{lit<}
use Rattle.std.specs.Prelude.{slice_range, ◌==◌, if◌then◌else◌}
use Rattle.std.specs.Int.{w16, w32, w64, to_le_bytes, from_le_bytes}
use Rattle.std.proofs.lemmas.List.{take_at}
use Rattle.std.proofs.lemmas.Nat.{from_le_bytes-to_le_bytes_2, from_le_bytes-to_le_bytes_4, from_le_bytes-to_le_bytes_8}
use Rattle.page_core.proofs.Public.{HaveLength}
use Rattle.page_core.specs.declared.change.Change.{Change}
use Rattle.page_core.specs.declared.change.Change.TheVariants.{Set, Add}
use Rattle.log_records.specs.declared.page_change.PageChange.{PageChange}
use Rattle.log_records.specs.declared.record.Record.{Record}
use Rattle.log_records.specs.declared.record.Record.TheVariants.{Begin, Update, Comp, Commit, Abort, End, BeginChkpt}
use Rattle.log_records.specs.declared.record.Record.TheVariants.{ChkptPages, ChkptTxns, EndChkpt, Extend}
use Rattle.log_records.specs.declared.fields.Fields.{Fields}
use Rattle.log_records.specs.declared.fields.TheConstants.{ABORT, BEGIN, COMMIT, COMP, END, EXTEND, SET, UPDATE}
use Rattle.log_records.specs.declared.fields.TheConstants.{BEGIN_CHKPT, CHKPT_PAGES, CHKPT_TXNS, END_CHKPT}
use Rattle.log_records.specs.declared.ckpt_codec.TheConstants.{ACTIVE}
use Rattle.log_records.specs.declared.dirty_page.DirtyPage.{DirtyPage}
use Rattle.log_records.specs.declared.dirty_page.DirtyPages.{DirtyPages}
use Rattle.log_records.specs.declared.dirty_page.DirtyPages.TheVariants.{One, Two, Three}
use Rattle.log_records.specs.declared.txn_phase.TxnPhase.{TxnPhase}
use Rattle.log_records.specs.declared.txn_phase.TxnPhase.TheVariants.{Active, Rolling}
use Rattle.log_records.specs.CkptBytes.{ckpt_bytes, code_of, entry_bytes, no_body, pages_body, redo_body, txn_body}
use Rattle.log_records.specs.Fields.{AreInRange, fields_bytes, fields_of, fields_of_change, no_fields}
use Rattle.log_records.proofs.Changes.{valid_change}
use Rattle.log_records.specs.Record.{IsChange, IsDirtyPage, IsLsn, IsOfCheckpoint, IsPageChange}
use Rattle.log_records.specs.Fields.{HasFields}
use Rattle.log_records.specs.Record.{IsRecord, IsTxn, own_lsn, record_bytes}

-- ---- they fit their bytes

change_in_range : (change : Change) → IsChange change → AreInRange (fields_of_change change)
change_in_range (Set before after) fits = record {
  kind = lit< tt;
  txn = lit< tt;
  prev = lit< tt;
  undo_next = lit< tt;
  page = lit< tt;
  slot = lit< tt;
  change = lit< tt;
  before = fits.0;
  after = fits.1;
  spare = lit< tt;
  lsn = lit< tt;
}
change_in_range (Add amount) fits = record {
  kind = lit< tt;
  txn = lit< tt;
  prev = lit< tt;
  undo_next = lit< tt;
  page = lit< tt;
  slot = lit< tt;
  change = lit< tt;
  before = lit< tt;
  after = fits;
  spare = lit< tt;
  lsn = lit< tt;
}

-- of a record with no change
plain : (kind txn prev lsn : ℕ) → kind < 2 ^ 32 → IsTxn txn → prev < 2 ^ 64 → IsLsn lsn
    → AreInRange (record no_fields { kind = kind; txn = txn; prev = prev; lsn = lsn })
plain kind txn prev lsn kind_fits txn_valid prev_fits lsn_valid = record {
  kind = kind_fits;
  txn = txn_valid.fits;
  prev = prev_fits;
  undo_next = lit< tt;
  page = lit< tt;
  slot = lit< tt;
  change = lit< tt;
  before = lit< tt;
  after = lit< tt;
  spare = lit< tt;
  lsn = lsn_valid.fits;
}

-- of a record with one
changing : (kind txn prev undo_next lsn : ℕ) (c : PageChange) → kind < 2 ^ 32 → IsTxn txn → prev < 2 ^ 64
    → undo_next < 2 ^ 64
    → IsLsn lsn → IsPageChange c
    → AreInRange (record (fields_of_change c.change) {
      kind = kind;
      txn = txn;
      prev = prev;
      undo_next = undo_next;
      page = c.page;
      slot = c.slot;
      lsn = lsn;
    })
changing kind txn prev undo_next lsn c kind_fits txn_valid prev_fits undo_next_fits lsn_valid c_valid =
    let fits = change_in_range c.change c_valid.change in
    record {
      kind = kind_fits;
      txn = txn_valid.fits;
      prev = prev_fits;
      undo_next = undo_next_fits;
      page = omega (arith, c_valid.page);
      slot = omega (arith, c_valid.slot);
      change = fits.change;
      before = fits.before;
      after = fits.after;
      spare = fits.spare;
      lsn = lsn_valid.fits;
    }

-- of a record of a checkpoint
none_in_range : AreInRange no_fields
none_in_range = record {
  kind = lit< tt;
  txn = lit< tt;
  prev = lit< tt;
  undo_next = lit< tt;
  page = lit< tt;
  slot = lit< tt;
  change = lit< tt;
  before = lit< tt;
  after = lit< tt;
  spare = lit< tt;
  lsn = lit< tt;
}

pub in_range : (r : Record) → IsRecord r → AreInRange (fields_of r)
in_range (Begin lsn txn) valid = plain BEGIN txn 0 lsn (lit< tt) valid.1 (lit< tt) valid.0
in_range (Update lsn txn prev page slot change) valid =
    changing UPDATE txn prev (fields_of_change change).undo_next lsn
    (record { page = page; slot = slot; change = change })
    (lit< tt) valid.1 valid.2.place.fits (change_in_range change valid.3.change).undo_next valid.0 valid.3
in_range (Comp lsn txn prev undo_next page slot change) valid =
    changing COMP txn prev undo_next lsn (record { page = page; slot = slot; change = change })
    (lit< tt) valid.1 valid.2.place.fits valid.4.place.fits valid.0 valid.3
in_range (Commit lsn txn prev) valid = plain COMMIT txn prev lsn (lit< tt) valid.1 valid.2.place.fits valid.0
in_range (Abort lsn txn prev) valid = plain ABORT txn prev lsn (lit< tt) valid.1 valid.2.place.fits valid.0
in_range (End lsn txn prev) valid = plain END txn prev lsn (lit< tt) valid.1 valid.2.place.fits valid.0
in_range (BeginChkpt lsn) valid = none_in_range
in_range (ChkptPages lsn begin pages) valid = none_in_range
in_range (ChkptTxns lsn begin txn state last undo_next) valid = none_in_range
in_range (EndChkpt lsn begin redo) valid = none_in_range
in_range (Extend lsn pages) valid = record {
  kind = lit< tt;
  txn = lit< tt;
  prev = lit< tt;
  undo_next = lit< tt;
  page = omega (arith, valid.1.most);
  slot = lit< tt;
  change = lit< tt;
  before = lit< tt;
  after = lit< tt;
  spare = lit< tt;
  lsn = valid.0.fits;
}

pub record_length : HaveLength record_bytes 64
unfolding fields_bytes ckpt_bytes no_body pages_body entry_bytes txn_body redo_body
record_length = record { each = long }
  where
    long : (r : Record) → length (record_bytes r) ≡ 64
    long (Begin lsn txn) = refl
    long (Update lsn txn prev page slot change) = refl
    long (Comp lsn txn prev undo_next page slot change) = refl
    long (Commit lsn txn prev) = refl
    long (Abort lsn txn prev) = refl
    long (End lsn txn prev) = refl
    long (BeginChkpt lsn) = refl
    long (ChkptPages lsn begin (One a)) = refl
    long (ChkptPages lsn begin (Two a b)) = refl
    long (ChkptPages lsn begin (Three a b c)) = refl
    long (ChkptTxns lsn begin txn state last undo_next) = refl
    long (EndChkpt lsn begin redo) = refl
    long (Extend lsn pages) = refl

-- ---- two records with the same bytes are one

abbrev num16 : List ℕ → ℕ → ℕ → ℕ
num16 bytes a b = from_le_bytes w16 (slice_range bytes a b)

abbrev num32 : List ℕ → ℕ → ℕ → ℕ
num32 bytes a b = from_le_bytes w32 (slice_range bytes a b)

abbrev num64 : List ℕ → ℕ → ℕ → ℕ
num64 bytes a b = from_le_bytes w64 (slice_range bytes a b)

-- the numbers in these bytes
abbrev fields_in : List ℕ → Fields
fields_in bytes = record {
  kind = num32 bytes 0 4;
  txn = num32 bytes 4 8;
  prev = num64 bytes 8 16;
  undo_next = num64 bytes 16 24;
  page = num32 bytes 24 28;
  slot = num16 bytes 28 30;
  change = num16 bytes 30 32;
  before = num64 bytes 32 40;
  after = num64 bytes 40 48;
  spare = num64 bytes 48 56;
  lsn = num64 bytes 56 64;
}

fields_again : (f : Fields) → AreInRange f → fields_in (fields_bytes f) ≡ f
unfolding fields_bytes
fields_again f fits = λ i. record {
  kind = from_le_bytes-to_le_bytes_4 f.kind fits.kind i;
  txn = from_le_bytes-to_le_bytes_4 f.txn fits.txn i;
  prev = from_le_bytes-to_le_bytes_8 f.prev fits.prev i;
  undo_next = from_le_bytes-to_le_bytes_8 f.undo_next fits.undo_next i;
  page = from_le_bytes-to_le_bytes_4 f.page fits.page i;
  slot = from_le_bytes-to_le_bytes_2 f.slot fits.slot i;
  change = from_le_bytes-to_le_bytes_2 f.change fits.change i;
  before = from_le_bytes-to_le_bytes_8 f.before fits.before i;
  after = from_le_bytes-to_le_bytes_8 f.after fits.after i;
  spare = from_le_bytes-to_le_bytes_8 f.spare fits.spare i;
  lsn = from_le_bytes-to_le_bytes_8 f.lsn fits.lsn i;
}

-- the record that has these numbers, if one does
change_from : Fields → Change
change_from f = if f.change == SET then Set f.before f.after else Add f.after

record_from : Fields → Record
record_from f =
    if f.kind == BEGIN then Begin f.lsn f.txn
    else (if f.kind == UPDATE then Update f.lsn f.txn f.prev f.page f.slot (change_from f)
    else (if f.kind == COMP then Comp f.lsn f.txn f.prev f.undo_next f.page f.slot (change_from f)
    else (if f.kind == COMMIT then Commit f.lsn f.txn f.prev
    else (if f.kind == ABORT then Abort f.lsn f.txn f.prev
    else (if f.kind == EXTEND then Extend f.lsn f.page
    else End f.lsn f.txn f.prev)))))

change_again : (change : Change) → change_from (fields_of_change change) ≡ change
unfolding change_from
change_again (Set before after) = refl
change_again (Add amount) = refl

record_again : (r : Record) → HasFields r → record_from (fields_of r) ≡ r
unfolding record_from change_from
record_again (Begin lsn txn) of = refl
record_again (Update lsn txn prev page slot change) of = ap (Update lsn txn prev page slot) (change_again change)
record_again (Comp lsn txn prev undo_next page slot change) of =
    ap (Comp lsn txn prev undo_next page slot) (change_again change)
record_again (Commit lsn txn prev) of = refl
record_again (Abort lsn txn prev) of = refl
record_again (End lsn txn prev) of = refl
record_again (BeginChkpt lsn) of = absurd of
record_again (ChkptPages lsn begin pages) of = absurd of
record_again (ChkptTxns lsn begin txn state last undo_next) of = absurd of
record_again (EndChkpt lsn begin redo) of = absurd of
record_again (Extend lsn pages) of = refl

-- the dirty pages in these bytes
abbrev entry_from : ℕ → ℕ → DirtyPage
entry_from page rec_lsn = record { page = page; rec_lsn = rec_lsn }

abbrev entry_in : List ℕ → ℕ → DirtyPage
entry_in bytes a = entry_from (num32 bytes a (a + 4)) (num64 bytes (a + 4) (a + 12))

abbrev pages_in : List ℕ → DirtyPages
pages_in bytes =
    if num32 bytes 16 20 == 1 then One (entry_in bytes 20)
    else (if num32 bytes 16 20 == 2 then Two (entry_in bytes 20) (entry_in bytes 32)
    else Three (entry_in bytes 20) (entry_in bytes 32) (entry_in bytes 44))

entry_again : (at : ℕ) (e : DirtyPage) → IsDirtyPage at e
    → entry_from (from_le_bytes w32 (to_le_bytes w32 e.page)) (from_le_bytes w64 (to_le_bytes w64 e.rec_lsn)) ≡ e
entry_again at e valid =
    let page : e.page < 2 ^ 32 = omega (arith, valid.page) in
    λ i. record {
      page = from_le_bytes-to_le_bytes_4 e.page page i;
      rec_lsn = from_le_bytes-to_le_bytes_8 e.rec_lsn valid.rec_lsn.place.fits i;
    }

-- the record in these bytes
abbrev record_in : List ℕ → Record
record_in bytes =
    if num32 bytes 0 4 == BEGIN_CHKPT then BeginChkpt (num64 bytes 56 64)
    else (if num32 bytes 0 4 == CHKPT_PAGES then ChkptPages (num64 bytes 56 64) (num64 bytes 8 16) (pages_in bytes)
    else (if num32 bytes 0 4 == CHKPT_TXNS
    then ChkptTxns (num64 bytes 56 64) (num64 bytes 8 16) (num32 bytes 20 24)
    (if num32 bytes 24 28 == ACTIVE then Active else Rolling) (num64 bytes 28 36) (num64 bytes 36 44)
    else (if num32 bytes 0 4 == END_CHKPT then EndChkpt (num64 bytes 56 64) (num64 bytes 8 16) (num64 bytes 24 32)
    else record_from (fields_in bytes))))

of_fields : (r : Record) → HasFields r → IsRecord r → record_from (fields_in (fields_bytes (fields_of r))) ≡ r
of_fields r of valid = ap record_from (fields_again (fields_of r) (in_range r valid)) ∙ record_again r of

state_again : (state : TxnPhase)
    → (if from_le_bytes w32 (to_le_bytes w32 (code_of state)) == ACTIVE then Active else Rolling) ≡ state
state_again Active = refl
state_again Rolling = refl

read_again : (r : Record) → IsRecord r → record_in (record_bytes r) ≡ r
unfolding fields_bytes ckpt_bytes no_body txn_body redo_body pages_body entry_bytes
read_again (Begin lsn txn) valid = of_fields (Begin lsn txn) tt valid
read_again (Update lsn txn prev page slot change) valid =
    of_fields (Update lsn txn prev page slot change) tt valid
read_again (Comp lsn txn prev undo_next page slot change) valid =
    of_fields (Comp lsn txn prev undo_next page slot change) tt valid
read_again (Commit lsn txn prev) valid = of_fields (Commit lsn txn prev) tt valid
read_again (Abort lsn txn prev) valid = of_fields (Abort lsn txn prev) tt valid
read_again (End lsn txn prev) valid = of_fields (End lsn txn prev) tt valid
read_again (Extend lsn pages) valid = of_fields (Extend lsn pages) tt valid
read_again (BeginChkpt lsn) valid = ap BeginChkpt (from_le_bytes-to_le_bytes_8 lsn valid.fits)
read_again (ChkptPages lsn begin (One a)) valid =
    rw (
      entry_again lsn a valid.2,
      from_le_bytes-to_le_bytes_8 lsn valid.0.fits,
      from_le_bytes-to_le_bytes_8 begin
          valid.1.place.fits,
    ) refl
read_again (ChkptPages lsn begin (Two a b)) valid =
    rw (
      entry_again lsn a valid.2.0,
      entry_again lsn b valid.2.1,
      from_le_bytes-to_le_bytes_8 lsn valid.0.fits,
      from_le_bytes-to_le_bytes_8 begin valid.1.place.fits,
    ) refl
read_again (ChkptPages lsn begin (Three a b c)) valid =
    rw (
      entry_again lsn a valid.2.0,
      entry_again lsn b valid.2.1,
      entry_again lsn c valid.2.2,
      from_le_bytes-to_le_bytes_8 lsn valid.0.fits,
      from_le_bytes-to_le_bytes_8 begin valid.1.place.fits,
    ) refl
read_again (ChkptTxns lsn begin txn state last undo_next) valid =
    rw (
      from_le_bytes-to_le_bytes_8 lsn valid.0.fits,
      from_le_bytes-to_le_bytes_8 begin valid.1.place.fits,
      from_le_bytes-to_le_bytes_4 txn valid.2.fits,
      state_again state,
      from_le_bytes-to_le_bytes_8 last valid.3.place.fits,
      from_le_bytes-to_le_bytes_8 undo_next valid.4.place.fits,
    ) refl
read_again (EndChkpt lsn begin redo) valid =
    rw (
      from_le_bytes-to_le_bytes_8 lsn valid.0.fits,
      from_le_bytes-to_le_bytes_8 begin valid.1.place.fits,
      from_le_bytes-to_le_bytes_8 redo valid.2.place.fits,
    ) refl

own_at : (r : Record) → slice_range (record_bytes r) 56 64 ≡ to_le_bytes w64 (own_lsn r)
unfolding fields_bytes ckpt_bytes no_body pages_body entry_bytes txn_body redo_body
own_at (Begin lsn txn) = refl
own_at (Update lsn txn prev page slot change) = refl
own_at (Comp lsn txn prev undo_next page slot change) = refl
own_at (Commit lsn txn prev) = refl
own_at (Abort lsn txn prev) = refl
own_at (End lsn txn prev) = refl
own_at (BeginChkpt lsn) = refl
own_at (ChkptPages lsn begin (One a)) = refl
own_at (ChkptPages lsn begin (Two a b)) = refl
own_at (ChkptPages lsn begin (Three a b c)) = refl
own_at (ChkptTxns lsn begin txn state last undo_next) = refl
own_at (EndChkpt lsn begin redo) = refl
own_at (Extend lsn pages) = refl

-- the last number in a record's bytes is its LSN
pub lsn_is : (r : Record) (f : Fields) → IsRecord r → f.lsn < 2 ^ 64 → fields_bytes f ≡ record_bytes r
    → f.lsn ≡ own_lsn r
unfolding fields_bytes
lsn_is r f valid fits same =
    sym (from_le_bytes-to_le_bytes_8 f.lsn fits)
    ∙ ap (λ (bs : List ℕ). from_le_bytes w64 (slice_range bs 56 64)) same ∙ ap (from_le_bytes w64) (own_at r)
    ∙ from_le_bytes-to_le_bytes_8 (own_lsn r) (let change = valid_change r valid in change.0.fits)

-- a record that its numbers tell is their bytes
pub of_fields_alone : (r : Record) → HasFields r → record_bytes r ≡ fields_bytes (fields_of r)
of_fields_alone (Begin lsn txn) of = refl
of_fields_alone (Update lsn txn prev page slot change) of = refl
of_fields_alone (Comp lsn txn prev undo_next page slot change) of = refl
of_fields_alone (Commit lsn txn prev) of = refl
of_fields_alone (Abort lsn txn prev) of = refl
of_fields_alone (End lsn txn prev) of = refl
of_fields_alone (BeginChkpt lsn) of = absurd of
of_fields_alone (ChkptPages lsn begin pages) of = absurd of
of_fields_alone (ChkptTxns lsn begin txn state last undo_next) of = absurd of
of_fields_alone (EndChkpt lsn begin redo) of = absurd of
of_fields_alone (Extend lsn pages) of = refl

-- a record is one or the other
pub of_either : (r : Record) → HasFields r ⊎ IsOfCheckpoint r
of_either (BeginChkpt lsn) = inr tt
of_either (ChkptPages lsn begin pages) = inr tt
of_either (ChkptTxns lsn begin txn state last undo_next) = inr tt
of_either (EndChkpt lsn begin redo) = inr tt
of_either (Extend lsn pages) = inl tt
of_either (Begin lsn txn) = inl tt
of_either (Update lsn txn prev page slot change) = inl tt
of_either (Comp lsn txn prev undo_next page slot change) = inl tt
of_either (Commit lsn txn prev) = inl tt
of_either (Abort lsn txn prev) = inl tt
of_either (End lsn txn prev) = inl tt

pub same_record : (r s : Record) → IsRecord r → IsRecord s → record_bytes r ≡ record_bytes s → r ≡ s
same_record r s r_valid s_valid e = sym (read_again r r_valid) ∙ ap record_in e ∙ read_again s s_valid

-- no record's bytes begin another's
pub records_apart : (r s : Record) (x y : List ℕ) → IsRecord r → IsRecord s → record_bytes r ++ x ≡ record_bytes s ++ y
    → r ≡ s
records_apart r s x y r_valid s_valid e =
    same_record r s r_valid s_valid
    (sym (take_at (record_bytes r) x 64 (record_length.each r)) ∙ ap (take 64) e
    ∙ take_at (record_bytes s) y 64 (record_length.each s))
