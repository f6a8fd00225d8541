-- What the bytes of a record are after its numbers are written into them, one after another.
use Rattle.std.proofs.Common.{◌≡◌, ◌++◌, ℕ, List, refl, take, drop}
use Rattle.std.specs.Prelude.{replicate}
use Rattle.std.specs.Int.{w16, w32, w64, to_le_bytes}
use Rattle.log_records.specs.CkptBytes.{ckpt_bytes, entry_bytes, txn_body}
use Rattle.log_records.specs.Fields.{fields_bytes}
use Rattle.log_records.specs.declared.dirty_page.DirtyPage.{DirtyPage}
use Rattle.log_records.specs.declared.fields.Fields.{Fields}

-- the bytes with a field in the place of the bytes from one offset up to another
abbrev put : ℕ → ℕ → List ℕ → List ℕ → List ℕ
put at past field bytes = take at bytes ++ field ++ drop past bytes

pub fields_put : (f : Fields) (a b c d e g h i j k l : List ℕ)
    → a ≡ put 0 4 (to_le_bytes w32 f.kind) (replicate 64 0) → b ≡ put 4 8 (to_le_bytes w32 f.txn) a
    → c ≡ put 8 16 (to_le_bytes w64 f.prev) b → d ≡ put 16 24 (to_le_bytes w64 f.undo_next) c
    → e ≡ put 24 28 (to_le_bytes w32 f.page) d → g ≡ put 28 30 (to_le_bytes w16 f.slot) e
    → h ≡ put 30 32 (to_le_bytes w16 f.change) g → i ≡ put 32 40 (to_le_bytes w64 f.before) h
    → j ≡ put 40 48 (to_le_bytes w64 f.after) i → k ≡ put 48 56 (to_le_bytes w64 f.spare) j
    → l ≡ put 56 64 (to_le_bytes w64 f.lsn) k → l ≡ fields_bytes f
unfolding fields_bytes
fields_put f a b c d e g h i j k l is-a is-b is-c is-d is-e is-g is-h is-i is-j is-k is-l =
    rw (is-l, is-k, is-j, is-i, is-h, is-g, is-e, is-d, is-c, is-b, is-a) refl

pub pages_put : (kind begin count lsn : ℕ) (x y z : DirtyPage) (a b c d e g h i j k : List ℕ)
    → a ≡ put 0 4 (to_le_bytes w32 kind) (replicate 64 0) → b ≡ put 8 16 (to_le_bytes w64 begin) a
    → c ≡ put 16 20 (to_le_bytes w32 count) b → d ≡ put 20 24 (to_le_bytes w32 x.page) c
    → e ≡ put 24 32 (to_le_bytes w64 x.rec_lsn) d → g ≡ put 32 36 (to_le_bytes w32 y.page) e
    → h ≡ put 36 44 (to_le_bytes w64 y.rec_lsn) g → i ≡ put 44 48 (to_le_bytes w32 z.page) h
    → j ≡ put 48 56 (to_le_bytes w64 z.rec_lsn) i → k ≡ put 56 64 (to_le_bytes w64 lsn) j
    → k ≡ ckpt_bytes kind begin (to_le_bytes w32 count ++ entry_bytes x ++ entry_bytes y ++ entry_bytes z) lsn
unfolding ckpt_bytes entry_bytes
pages_put kind begin count lsn x y z a b c d e g h i j k is-a is-b is-c is-d is-e is-g is-h is-i is-j is-k =
    rw (is-k, is-j, is-i, is-h, is-g, is-e, is-d, is-c, is-b, is-a) refl

pub txn_put : (kind begin txn state last undo_next lsn : ℕ) (a b c d e g h : List ℕ)
    → a ≡ put 0 4 (to_le_bytes w32 kind) (replicate 64 0) → b ≡ put 8 16 (to_le_bytes w64 begin) a
    → c ≡ put 20 24 (to_le_bytes w32 txn) b → d ≡ put 24 28 (to_le_bytes w32 state) c
    → e ≡ put 28 36 (to_le_bytes w64 last) d → g ≡ put 36 44 (to_le_bytes w64 undo_next) e
    → h ≡ put 56 64 (to_le_bytes w64 lsn) g → h ≡ ckpt_bytes kind begin (txn_body txn state last undo_next) lsn
unfolding ckpt_bytes txn_body
txn_put kind begin txn state last undo_next lsn a b c d e g h is-a is-b is-c is-d is-e is-g is-h =
    rw (is-h, is-g, is-e, is-d, is-c, is-b, is-a) refl
