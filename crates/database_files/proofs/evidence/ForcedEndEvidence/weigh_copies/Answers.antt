use Rattle.std.proofs.Common.{◌≡◌, ◌∙◌, ◌+◌, ◌<◌, ℕ, List, get_or, length, refl, subst, sym, take}
use Rattle.std.specs.List.{All}
use Rattle.std.proofs.lemmas.List.{take_all}
use Rattle.database_files.specs.Evidence.{Weighs, IsFileWithin, IsFoundWithin, IsWeighed, IsOfCopy, IsOfLongerCopy}
use Rattle.database_files.specs.declared.evidence.ForcedEndEvidence.{ForcedEndEvidence}
use Rattle.database_files.specs.declared.found_copies.CopyFile.{CopyFile}
use Rattle.database_files.specs.declared.found_copies.FoundCopy.{FoundCopy}
use Rattle.database_files.proofs.Weighed.{Weighing, weighing_more, weighing_none, weighs_none, no_copy_within}
use Rattle.database_files.proofs.evidence.ForcedEndEvidence.weigh_copies.Goals as goal
use Rattle.database_files.proofs.evidence.ForcedEndEvidence.weigh_copies.Goals.{in-Whole+in_ok-weigh_copy, in_default}

-- what is known of the claims once so many copies are weighed
abbrev Far : List CopyFile → ForcedEndEvidence → ℕ → ForcedEndEvidence → Type 0
Far copies begun count now =
    (now.end ≡ begun.end) × Weighing now.end copies count begun.claims.items now.claims.items

next : (copies : List CopyFile) (i : ℕ) (file : CopyFile) (begun old new : ForcedEndEvidence) → i < length copies
    → file ≡ get_or copies i file → new.end ≡ old.end → Far copies begun i old
    → Weighs (IsOfCopy file.id) old.claims.items new.claims.items (IsFoundWithin old.end file.found)
    → Far copies begun (i + 1) new
next copies i file begun old new lt is same far it = (
  same ∙ far.0,
  subst (λ (e : ℕ). Weighing e copies (i + 1) begun.claims.items new.claims.items) (sym same)
      (weighing_more old.end copies i file begun.claims.items old.claims.items new.claims.items lt is far.1 it),
)

pub loop-file-init : goal.loop-file-init
loop-file-init c = (refl, weighing_none c.args.self.now.end c.args.copies.now c.args.self.now.claims.items)

pub loop-file-preserved : goal.loop-file-preserved
loop-file-preserved c =
    let copies = c.args.copies.now in
    let begun = c.args.self.now in
    let old = c.loop-file.self in
    let i = c.loop-file.file-index in
    let file = c.file-item.result in
    elim c.match-file.branch [
      | in-Whole+in_ok-weigh_copy w ↦
          subst (Far copies begun (i + 1)) (sym w.self-is)
          (next copies i file begun old w.weigh_copy.new.self c.loop-file-test.true c.file-item.is
          w.weigh_copy.ensures.end c.loop-file.invariant
          (subst (λ (f : FoundCopy). Weighs (IsOfCopy file.id) old.claims.items w.weigh_copy.new.self.claims.items
          (IsFoundWithin old.end f)) (sym w.in-Whole.is) w.in_ok-weigh_copy.ensures.weighed))
      | in_default w ↦
          subst (Far copies begun (i + 1)) (sym w.self-is)
          (next copies i file begun old old c.loop-file-test.true c.file-item.is refl c.loop-file.invariant
          (weighs_none (IsOfCopy file.id) old.claims.items old.claims.items (IsFoundWithin old.end file.found) refl
          (no_copy_within old.end file.found w.in_default.not-Whole)))
    ]

pub returns-clause-weighed : goal.returns-clause-weighed
returns-clause-weighed c =
    let now = c.loop-file.self in
    let copies = c.args.copies.now in
    subst (λ (files : List CopyFile). Weighs (IsOfLongerCopy c.args.self.now.end copies) c.args.self.now.claims.items
    now.claims.items (All (IsFileWithin c.args.self.now.end) files))
    (take_all c.loop-file.file-index copies c.loop-file-test.false)
    (subst (λ (e : ℕ). Weighs (IsOfLongerCopy e copies) c.args.self.now.claims.items now.claims.items
    (All (IsFileWithin e) (take c.loop-file.file-index copies))) c.loop-file.invariant.0
    c.loop-file.invariant.1.weighed)

pub returns-clause-each : goal.returns-clause-each
returns-clause-each c =
    let now = c.loop-file.self in
    let copies = c.args.copies.now in
    subst (λ (files : List CopyFile). All (IsWeighed c.args.self.now.end now.claims.items) files)
    (take_all c.loop-file.file-index copies c.loop-file-test.false)
    (subst (λ (e : ℕ). All (IsWeighed e now.claims.items) (take c.loop-file.file-index copies))
    c.loop-file.invariant.0 c.loop-file.invariant.1.each)
