-- A log of which nobody knows that it was longer.
use Rattle.std.proofs.Common.{◌≡◌, ◌↔◌, ◌<◌, ◌≤◌, ℕ, List, [], subst, sym, ◌∙◌}
use Rattle.std.specs.Prelude.{Option, IfSome}
use Rattle.std.specs.List.{All}
use Rattle.log_prefix.specs.Remains.{WasForced}
use Rattle.log_store.specs.declared.master.Master.{Master}
use Rattle.manifest.specs.Entries.{Listed}
use Rattle.database_files.specs.Evidence.{Weighs, IsBegunIn, IsFileWithin, LacksNothing, log_line}
use Rattle.database_files.specs.declared.closed_note.ClosedNote.{ClosedNote}
use Rattle.database_files.specs.declared.evidence.ForcedEndClaim.{ForcedEndClaim}
use Rattle.database_files.specs.declared.found_copies.CopyFile.{CopyFile}
use Rattle.database_files.proofs.Weighed.{none_weighed}

-- each of them was weighed, of the same end: no claim is noted just where nothing is missed
pub weighed_all : (end e0 e e1 e2 e3 : ℕ) (by1 by2 by3 by4 by5 : ForcedEndClaim → Type 0) (c0 c c1 c2 c3 c4 : List ForcedEndClaim)
    (note : Option ClosedNote) (manifest : Option Listed) (master : Option Master) (copies : List CopyFile)
    (bytes : List ℕ) → e0 ≡ end → e ≡ e0 → e1 ≡ e → e2 ≡ e1 → e3 ≡ e2 → c0 ≡ []
    → Weighs by1 c0 c (IfSome note (λ it. it.end ≤ e0))
    → Weighs by2 c c1 (IfSome (log_line manifest) (IsBegunIn e bytes))
    → Weighs by3 c1 c2 (IfSome master (λ it. it.end < e1))
    → Weighs by4 c2 c3 (All (IsFileWithin e2) copies)
    → Weighs by5 c3 c4 ((at : ℕ) → e3 ≤ at → ¬ WasForced bytes at)
    → (c4 ≡ []) ↔ LacksNothing end note manifest master copies bytes
weighed_all end e0 e e1 e2 e3 by1 by2 by3 by4 by5 c0 c c1 c2 c3 c4 note manifest master copies bytes at0 at_listed
    at_named at2 at3 begun notes listed masters files behind =
    let at1 : e1 ≡ e0 = at_named ∙ at_listed in
    let first = none_weighed by1 c0 c (IfSome note (λ it. it.end ≤ e0)) notes in
    let line = none_weighed by2 c c1 (IfSome (log_line manifest) (IsBegunIn e bytes)) listed in
    let second = none_weighed by3 c1 c2 (IfSome master (λ it. it.end < e1)) masters in
    let third = none_weighed by4 c2 c3 (All (IsFileWithin e2) copies) files in
    let fourth = none_weighed by5 c3 c4 ((at : ℕ) → e3 ≤ at → ¬ WasForced bytes at) behind in (
      λ none.
          let a4 = fourth.0 none in
          let a3 = third.0 a4.0 in
          let a2 = second.0 a3.0 in
          let a1 = line.0 a2.0 in
          let a0 = first.0 a1.0 in
          record {
            closed = subst (λ e. IfSome note (λ it. it.end ≤ e)) at0 a0.1;
            listed = subst (λ e. IfSome (log_line manifest) (IsBegunIn e bytes)) (at_listed ∙ at0) a1.1;
            named = subst (λ e. IfSome master (λ it. it.end < e)) (at1 ∙ at0) a2.1;
            copied = subst (λ e. All (IsFileWithin e) copies) (at2 ∙ at1 ∙ at0) a3.1;
            behind = subst (λ e. (at : ℕ) → e ≤ at → ¬ WasForced bytes at) (at3 ∙ at2 ∙ at1 ∙ at0) a4.1;
          },
      λ whole.
          let b0 = first.1 (begun, subst (λ e. IfSome note (λ it. it.end ≤ e)) (sym at0) whole.closed) in
          let b1 = line.1 (b0, subst (λ e. IfSome (log_line manifest) (IsBegunIn e bytes)) (sym (at_listed ∙ at0)) whole.listed) in
          let b2 = second.1 (b1, subst (λ e. IfSome master (λ it. it.end < e)) (sym (at1 ∙ at0)) whole.named) in
          let b3 = third.1 (b2, subst (λ e. All (IsFileWithin e) copies) (sym (at2 ∙ at1 ∙ at0)) whole.copied) in
          fourth.1 (b3, subst (λ e. (at : ℕ) → e ≤ at → ¬ WasForced bytes at) (sym (at3 ∙ at2 ∙ at1 ∙ at0)) whole.behind),
    )
