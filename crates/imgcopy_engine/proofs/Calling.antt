-- Calls of a user, one behind the other: their receipts, and what is told of them.
use Rattle.std.proofs.Common.{ℕ, ◌≡◌, ◌+◌, ◌++◌, ◌∷◌, List, [], Ok, Err, IfErr, MutBor, ap, append-nil, append_assoc, arith}
use Rattle.std.proofs.Common.{refl, subst, sym, ◌∙◌}
use Rattle.std.specs.Prelude.{IsErrAnd, Result}
use Rattle.std.specs.Fn.{Once}
use Rattle.std.proofs.lemmas.List.{length_push}
use Rattle.std.proofs.lemmas.List.Elements.{All-push}
use Rattle.settlement.specs.Receipt.{step_receipt}
use Rattle.settlement.specs.declared.receipt.Receipt.{Receipt}
use Rattle.settlement.specs.declared.receipt.Receipt.TheVariants.{Stepped}
use Rattle.settlement.specs.declared.receipt.StepReceipt.{StepReceipt}
use Rattle.settlement.specs.declared.receipt.TxnStep.{TxnStep}
use Rattle.settlement.specs.declared.receipt.TxnStep.TheVariants as step
use Rattle.engine_calls.specs.declared.event.Answer.TheVariants as answer
use Rattle.engine_calls.specs.declared.event.Event.TheVariants as event
use Rattle.engine_calls.specs.declared.event.SteppedBack.{SteppedBack}
use Rattle.engine_calls.specs.declared.event.SteppedBack.TheVariants as back
use Rattle.engine_calls.specs.declared.refusal.Refusal.{Refusal}
use Rattle.engine_calls.specs.declared.refusal.Refusal.TheVariants.{CommitUnsure}
use Rattle.engine_run.specs.Undoing.{IsUndoStep, answer_of_step, step_back_receipts, undone_answer, unsure_receipts}
use Rattle.imgcopy_engine.specs.Ending.{Goes, IsCompOf, Steps, TakesBack, UserCall}
use Rattle.imgcopy_engine.specs.Trying.{ReturnsWithState}

-- a fault that is handed on is the one that was met
pub handed_on : {T E : Type 0} (r : Result T E) (e : E) (Q : E → Type 0) → IsErrAnd r (λ f. f ≡ e) → Q e → IfErr r Q
handed_on (Ok x) e Q is h = tt
handed_on (Err f) e Q is h = subst Q (sym is) h

pub goes_on : (old mid new : List Receipt) (r : Receipt) → Goes old mid → new ≡ mid ++ r ∷ [] → Goes old new
goes_on old mid new r so_far is =
    (so_far.0 ++ r ∷ [], is ∙ ap (λ rs. rs ++ r ∷ []) so_far.1 ∙ append_assoc old so_far.0 (r ∷ []))

-- a commit that is refused, and not unsure, leaves no receipt
pub none_left : (txn : ℕ) (why : Refusal) (old new : List Receipt) → ((lsn : ℕ) → ¬ (why ≡ CommitUnsure lsn))
    → new ≡ old ++ unsure_receipts txn why → new ≡ old
none_left txn (CommitUnsure lsn) old new known is = absurd (known lsn refl)
none_left txn other old new known is = is ∙ append-nil old

-- one change more is taken back
pub took_one_more : (txn count lsn : ℕ) (old mid new : List Receipt) → TakesBack txn count old mid
    → new ≡ mid ++ Stepped (step_receipt lsn txn step.Comp) ∷ [] → TakesBack txn (count + 1) old new
took_one_more txn count lsn old mid new so_far is =
    let comp = Stepped (step_receipt lsn txn step.Comp) in
    record {
      comps = so_far.comps ++ comp ∷ [];
      each = All-push (IsCompOf txn) so_far.comps comp so_far.each (lsn, refl);
      many = omega (arith, so_far.many, length_push so_far.comps comp);
      behind = is ∙ ap (λ rs. rs ++ comp ∷ []) so_far.behind ∙ append_assoc old so_far.comps (comp ∷ []);
    }

-- the step of a rollback that a receipt is of, by its transaction
stepped : (txn : ℕ) (it : StepReceipt) (step : TxnStep) → it.txn ≡ txn → it.step ≡ step → it ≡ step_receipt it.lsn txn step
stepped txn it step of is = ap (λ t. step_receipt it.lsn t it.step) of ∙ ap (step_receipt it.lsn txn) is

-- one that is not its end took a change back
comp_of : (txn : ℕ) (it : StepReceipt) (kind : TxnStep) → it.step ≡ kind → IsUndoStep kind → ¬ (it.step ≡ step.End)
    → it.txn ≡ txn → it ≡ step_receipt it.lsn txn step.Comp
comp_of txn it step.Comp is undo more of = stepped txn it step.Comp of is
comp_of txn it step.End is undo more of = absurd (more is)
comp_of txn it step.Begin is undo more of = elim undo [ ]
comp_of txn it step.Commit is undo more of = elim undo [ ]
comp_of txn it step.Abort is undo more of = elim undo [ ]
comp_of txn it step.Unsure is undo more of = elim undo [ ]

pub undid : (txn : ℕ) (it : StepReceipt) (old new : List Receipt) → ¬ (it.step ≡ step.End)
    → (it.txn ≡ txn) × IsUndoStep it.step → new ≡ old ++ Stepped it ∷ []
    → (lsn : ℕ) × (new ≡ old ++ Stepped (step_receipt lsn txn step.Comp) ∷ [])
undid txn it old new more names is = (
  it.lsn,
  is ∙ ap (λ r. old ++ Stepped r ∷ []) (comp_of txn it it.step refl names.1 more names.0),
)

-- one that is its end has ended the transaction
module _ {C : Type 0} (receipts : C → List Receipt) (called : UserCall C) where
  pub ended : (txn : ℕ) (it : StepReceipt) (old new : C) → it.step ≡ step.End → it.txn ≡ txn
      → called old (event.UndoStep txn) (Ok (undone_answer it)) new → receipts new ≡ receipts old ++ Stepped it ∷ []
      → Steps receipts called old (event.UndoStep txn) (Ok (answer.Ended it.lsn))
      (Stepped (step_receipt it.lsn txn step.End)) new
  ended txn it old new is of call last = record {
    call = subst (λ s. called old (event.UndoStep txn) (Ok (answer_of_step s it.lsn)) new) is call;
    last = last ∙ ap (λ r. receipts old ++ Stepped r ∷ []) (stepped txn it step.End of is);
  }

-- so did a step back that has not reached its savepoint
pub stepped_back : (txn : ℕ) (done : SteppedBack) (old new : List Receipt) → ¬ (done ≡ back.Reached)
    → new ≡ old ++ step_back_receipts txn done → (lsn : ℕ) × (new ≡ old ++ Stepped (step_receipt lsn txn step.Comp) ∷ [])
stepped_back txn (back.Undid lsn) old new more is = (lsn, is)
stepped_back txn back.Reached old new more is = absurd (more refl)

-- a closure that was called returns so
pub returned_on : {F S A R : Type 0} (g : Once F (MutBor S × (A × Unit {0})) (R × (MutBor S × Unit {0}))) {f : F}
    {y z : MutBor S} {x : A} {r : R} → g.post f (y, (x, tt)) (r, (z, tt)) → ReturnsWithState g f y.now x r z.now
returned_on g {y = y} {z = z} met = record { shown = y; shows = refl; left = z; met = met; leaves = refl }
