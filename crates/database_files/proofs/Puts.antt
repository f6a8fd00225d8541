-- A file that was put in place.
use Rattle.std.proofs.Common.{◌≡◌, ◌++◌, List, ℕ, ap, arith, get_or, inl, inr, subst, sym, ◌∙◌}
use Rattle.std.specs.Prelude.{◌≢◌, IfSome, None, Option, Some, codes}
use Rattle.saved_files.specs.Folder.{Changes, Entries, IsSame, KeepsOthers, LeavesEither, LeavesWhole, MayLeave, Puts}
use Rattle.saved_files.specs.Folder.{PutsOrKeeps, Remains, stored}
use Rattle.database_files.specs.LeftOut.{IsKept, WasKept}

-- it stands there once the names are synced
pub put_and_synced : (name : List ℕ) (fits : List ℕ → Type 0) (a b c : Option Entries) → Changes (Puts name fits) a b
    → Changes IsSame b c → Changes (Puts name fits) a c
put_and_synced name fits None None None put same = tt
put_and_synced name fits None None (Some new) put same = absurd same
put_and_synced name fits None (Some mid) c put same = absurd put
put_and_synced name fits (Some old) None c put same = absurd put
put_and_synced name fits (Some old) (Some mid) None put same = absurd same
put_and_synced name fits (Some old) (Some mid) (Some new) put same = record {
  bytes = put.bytes;
  right = put.right;
  put = same name ∙ put.put;
  others = λ n other. same n ∙ put.others n other;
}

-- or it may not stand there
pub put_or_kept : (name : List ℕ) (fits : List ℕ → Type 0) (a b c : Option Entries) → Changes (Puts name fits) a b
    → Changes IsSame b c → Changes (PutsOrKeeps name fits) a c
put_or_kept name fits None None None put same = tt
put_or_kept name fits None None (Some new) put same = absurd same
put_or_kept name fits None (Some mid) c put same = absurd put
put_or_kept name fits (Some old) None c put same = absurd put
put_or_kept name fits (Some old) (Some mid) None put same = absurd same
put_or_kept name fits (Some old) (Some mid) (Some new) put same = record {
  either = inl (put.bytes, put.right, same name ∙ put.put);
  others = λ n other. inl (same n ∙ put.others n other);
}

-- where its name is not known to last, a crash leaves what it might leave before
pub whole_kept : (name : List ℕ) (fits : List ℕ → Type 0) (before mid after : Remains) (a b c : Option Entries)
    → IfSome b (MayLeave mid) → Changes (LeavesWhole name fits before mid) a b → Changes IsSame b c
    → Changes (LeavesEither mid after) b c → Changes (LeavesWhole name fits before after) a c
whole_kept name fits before mid after None None None stands whole same either = tt
whole_kept name fits before mid after None None (Some new) stands whole same either = absurd same
whole_kept name fits before mid after None (Some b) c stands whole same either = absurd whole
whole_kept name fits before mid after (Some old) None c stands whole same either = absurd whole
whole_kept name fits before mid after (Some old) (Some b) None stands whole same either = absurd same
whole_kept name fits before mid after (Some old) (Some b) (Some new) stands whole same either = record {
  earlier = λ n e may. either.earlier n e (whole.earlier n e may);
  only = λ n e may. elim (either.only n e may) [
    | inl was ↦ whole.only n e was
    | inr has ↦ elim has [
      | inl is ↦ whole.only n e (subst (mid n) (sym is) (stands n))
      | inr is ↦ whole.only n e (subst (mid n) (sym (is ∙ same n)) (stands n))
    ]
  ];
}

-- what was kept stands there, though the note of a closing is removed
pub was_kept : (bytes : List ℕ) (a b c : Option Entries) → IsKept a bytes b → Changes (KeepsOthers (codes "closed")) b c
    → WasKept bytes c
was_kept bytes a b None kept removed = tt
was_kept bytes a None (Some new) kept removed = absurd removed
was_kept bytes None (Some mid) (Some new) (name, apart, free, put) removed = absurd put
was_kept bytes (Some old) (Some mid) (Some new) (name, apart, free, put) removed =
    (name, removed name apart ∙ put.put ∙ ap stored put.right)

-- bytes that are left out have another name than that note
pub is_no_note : (name digits : List ℕ) → name ≡ codes "log.left-out-" ++ digits → name ≢ codes "closed"
is_no_note name digits is same =
    let first : 108 ≡ 99 = ap (λ (it : List ℕ). get_or it 0 0) (sym is ∙ same) in
    absurd (omega (arith, first))
