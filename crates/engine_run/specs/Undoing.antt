-- Commits, and steps back of a rollback and to a savepoint: what they answer, and their receipts.
use Rattle.std.specs.Prelude.{ℕ, List, [], ◌∷◌, length, Result, Ok, Err}
use Rattle.settlement.specs.Receipt.{step_receipt}
use Rattle.settlement.specs.declared.receipt.Receipt.{Receipt}
use Rattle.settlement.specs.declared.receipt.Receipt.TheVariants.{Stepped}
use Rattle.settlement.specs.declared.receipt.StepReceipt.{StepReceipt}
use Rattle.settlement.specs.declared.receipt.TxnStep.{TxnStep}
use Rattle.settlement.specs.declared.receipt.TxnStep.TheVariants as step
use Rattle.engine_calls.specs.declared.event.Answer.{Answer}
use Rattle.engine_calls.specs.declared.event.Answer.TheVariants as answer
use Rattle.engine_calls.specs.declared.event.SteppedBack.{SteppedBack}
use Rattle.engine_calls.specs.declared.event.SteppedBack.TheVariants as back
use Rattle.engine_calls.specs.declared.refusal.Refusal.{Refusal}
use Rattle.engine_calls.specs.declared.refusal.Refusal.TheVariants.{CommitUnsure}

-- a step of a rollback takes a change back, or ends its transaction
abbrev pub IsUndoStep : TxnStep → Type 0
IsUndoStep step.Comp = Unit {0}
IsUndoStep step.End = Unit {0}
IsUndoStep other = ⊥

abbrev pub answer_of_step : TxnStep → ℕ → Answer
answer_of_step step.End lsn = answer.Ended lsn
answer_of_step other lsn = answer.Undid lsn

-- what the engine answers of a step of a rollback that has this receipt
abbrev pub undone_answer : StepReceipt → Answer
undone_answer it = answer_of_step it.step it.lsn

-- a commit that is unsure leaves the receipt of its Commit, and no other refusal leaves one
abbrev pub unsure_receipts : ℕ → Refusal → List Receipt
unsure_receipts txn (CommitUnsure lsn) = Stepped (step_receipt lsn txn step.Unsure) ∷ []
unsure_receipts txn other = []

-- how many records a commit appends
abbrev pub commit_count : Result ℕ Refusal → ℕ
commit_count (Ok lsn) = 1
commit_count (Err why) = length (unsure_receipts 0 why)

-- a step that reached its savepoint leaves none
abbrev pub step_back_receipts : ℕ → SteppedBack → List Receipt
step_back_receipts txn (back.Undid lsn) = Stepped (step_receipt lsn txn step.Comp) ∷ []
step_back_receipts txn back.Reached = []

-- how many records it appends
abbrev pub step_back_count : Result SteppedBack Refusal → ℕ
step_back_count (Ok done) = length (step_back_receipts 0 done)
step_back_count (Err why) = 0
