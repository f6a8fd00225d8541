-- The line of a record, in words and in JSON: one walk over its fields, each of which a form spells.
-- In words, for example: 'lsn 320 comp txn 3 prev 256 undo_next 64 page 1 slot 2 add 5'.
use Rattle.std.specs.Prelude.{ℕ, ◌++◌, List, [], codes}
use Rattle.std.specs.Fmt.{decimal}
use Rattle.page_core.specs.declared.change.Change.{Change}
use Rattle.page_core.specs.declared.change.Change.TheVariants.{Add, Set}
use Rattle.log_records.specs.declared.dirty_page.DirtyPage.{DirtyPage}
use Rattle.log_records.specs.declared.dirty_page.DirtyPages.{DirtyPages}
use Rattle.log_records.specs.declared.dirty_page.DirtyPages.TheVariants.{One, Three, Two}
use Rattle.log_records.specs.declared.record.Record.{Record}
use Rattle.log_records.specs.declared.record.Record.TheVariants.{Abort, Begin, BeginChkpt}
use Rattle.log_records.specs.declared.record.Record.TheVariants.{ChkptPages, ChkptTxns, Commit}
use Rattle.log_records.specs.declared.record.Record.TheVariants.{Comp, End, EndChkpt, Extend}
use Rattle.log_records.specs.declared.record.Record.TheVariants.{Update}
use Rattle.log_records.specs.declared.txn_phase.TxnPhase.{TxnPhase}
use Rattle.log_records.specs.declared.txn_phase.TxnPhase.TheVariants.{Active, Rolling}
use Rattle.log_records.specs.Record.{own_lsn}
use Rattle.file_view.specs.declared.lines.Form.{Form}
use Rattle.file_view.specs.declared.lines.Form.TheVariants.{Json, Words}

-- a text that is made of fixed ones and of numbers
pub data Text : Type 0 where
  Fixed : (text : List ℕ) → Text
  Number : (n : ℕ) → Text
  Both : (a b : Text) → Text

infixl 60 ◌&◌
abbrev pub ◌&◌ : Text → Text → Text
a & b = Both a b

abbrev pub text_of : Text → List ℕ
text_of (Fixed text) = text
text_of (Number n) = decimal n
text_of (Both a b) = text_of a ++ text_of b

-- ---- the alphabet of a form

abbrev pub either : Form → List ℕ → List ℕ → List ℕ
either Words words json = words
either Json words json = json

-- a number behind its name
unfoldable pub number_text : Form → List ℕ → ℕ → Text
number_text form name n =
    Fixed (either form (codes " " ++ name ++ codes " ") (codes ",\"" ++ name ++ codes "\":"))
    & Number n

-- a number that is behind its name in JSON alone
unfoldable pub value_text : Form → List ℕ → ℕ → Text
value_text form name n =
    Fixed (either form (codes " ") (codes ",\"" ++ name ++ codes "\":")) & Number n

-- a word that is behind its name in JSON alone
unfoldable pub word_text : Form → List ℕ → List ℕ → Text
word_text form name it =
    Fixed (either form (codes " " ++ it) (codes ",\"" ++ name ++ codes "\":\"" ++ it ++ codes "\""))

-- ---- parts of a record

-- what is done to a slot, and the number that it is done with
unfoldable pub deed_text : Form → List ℕ → List ℕ → ℕ → Text
deed_text form verb name n = word_text form (codes "change") verb & value_text form name n

-- the change of a compensation record, whose Set does not say what it replaces
unfoldable pub undo_text : Form → Change → Text
undo_text form (Set before after) = deed_text form (codes "set") (codes "after") after
undo_text form (Add amount) = deed_text form (codes "add") (codes "amount") amount

-- a number is set in place of another one, which is told last in words
unfoldable pub set_text : Form → ℕ → ℕ → Text
set_text Words before after =
    deed_text Words (codes "set") (codes "after") after & number_text Words (codes "before") before
set_text Json before after =
    deed_text Json (codes "set") (codes "before") before & number_text Json (codes "after") after

-- the change of an Update
unfoldable pub change_text : Form → Change → Text
change_text form (Set before after) = set_text form before after
change_text form (Add amount) = undo_text form (Add amount)

unfoldable pub dirty_text : Form → DirtyPage → Text
dirty_text form it =
    Fixed (either form (codes " page ") (codes "{\"page\":")) & Number it.page
    & number_text form (codes "rec_lsn") it.rec_lsn & Fixed (either form [] (codes "}"))

unfoldable pub dirty_pages_text : Form → DirtyPages → Text
dirty_pages_text form (One a) = dirty_text form a
dirty_pages_text form (Two a b) =
    dirty_text form a & Fixed (either form [] (codes ",")) & dirty_text form b
dirty_pages_text form (Three a b c) =
    dirty_text form a & Fixed (either form [] (codes ",")) & dirty_text form b
    & Fixed (either form [] (codes ",")) & dirty_text form c

unfoldable pub dirty_list_text : Form → DirtyPages → Text
dirty_list_text form pages =
    Fixed (either form [] (codes ",\"dirty\":[")) & dirty_pages_text form pages
    & Fixed (either form [] (codes "]"))

unfoldable pub phase_text : Form → TxnPhase → Text
phase_text form Active = word_text form (codes "state") (codes "active")
phase_text form Rolling = word_text form (codes "state") (codes "rolling")

-- the kind of a record, and its first number
unfoldable pub kind_text : Form → List ℕ → List ℕ → ℕ → Text
kind_text form kind name n = word_text form (codes "kind") kind & number_text form name n

-- the kind of a record of dirty pages, the record with which its checkpoint begins, and the pages
unfoldable pub chkpt_pages_text : Form → ℕ → DirtyPages → Text
chkpt_pages_text form begin pages =
    kind_text form (codes "chkpt_pages") (codes "begin") begin & dirty_list_text form pages

-- the kind of a record of a transaction, the transaction, and its record before
unfoldable pub step_text : Form → List ℕ → ℕ → ℕ → Text
step_text form kind txn prev =
    kind_text form kind (codes "txn") txn & number_text form (codes "prev") prev

-- ---- the walk

-- the kind of a record, and its fields
unfoldable pub fields : Form → Record → Text
fields form (Begin lsn txn) = kind_text form (codes "begin") (codes "txn") txn
fields form (Update lsn txn prev page slot change) =
    step_text form (codes "update") txn prev & number_text form (codes "page") page
    & number_text form (codes "slot") slot & change_text form change
fields form (Comp lsn txn prev undo_next page slot change) =
    step_text form (codes "comp") txn prev & number_text form (codes "undo_next") undo_next
    & number_text form (codes "page") page & number_text form (codes "slot") slot
    & undo_text form change
fields form (Commit lsn txn prev) = step_text form (codes "commit") txn prev
fields form (Abort lsn txn prev) = step_text form (codes "abort") txn prev
fields form (End lsn txn prev) = step_text form (codes "end") txn prev
fields form (BeginChkpt lsn) = word_text form (codes "kind") (codes "begin_chkpt")
fields form (ChkptPages lsn begin pages) = chkpt_pages_text form begin pages
fields form (ChkptTxns lsn begin txn state last undo_next) =
    kind_text form (codes "chkpt_txns") (codes "begin") begin & number_text form (codes "txn") txn
    & phase_text form state & number_text form (codes "last") last
    & number_text form (codes "undo_next") undo_next
fields form (EndChkpt lsn begin redo) =
    kind_text form (codes "end_chkpt") (codes "begin") begin & number_text form (codes "redo") redo
fields form (Extend lsn pages) = kind_text form (codes "extend") (codes "pages") pages

-- the LSN of a record, and its fields; in JSON as an object
abbrev pub line : Form → Record → Text
line form r =
    Fixed (either form (codes "lsn ") (codes "{\"lsn\":")) & Number (own_lsn r) & fields form r
    & Fixed (either form [] (codes "}"))

-- what is written of a record: its line, with a line feed
abbrev pub line_of : Form → Record → List ℕ
line_of form r = text_of (line form r) ++ codes "\n"
