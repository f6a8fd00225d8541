-- Seats in a list: what each of them has, and that each task has worked.
use Rattle.std.proofs.Common.{ℕ, ◌≡◌, ◌<◌, ◌++◌, ◌∷◌, List, [], ap, arith, length, map, slice_index_or, subst}
use Rattle.std.proofs.Common.{inl, inr, sym, ◌∙◌}
use Rattle.std.proofs.Common.{Global, Vec}
use Rattle.std.specs.Prelude.{Result, Ok, Err, Option, None, Some, IfErr, IfSome}
use Rattle.std.specs.List.{All}
use Rattle.std.proofs.lemmas.List.{get_or-map, length-map, map-append}
use Rattle.std.proofs.lemmas.List.Elements.{All-push}
use Rattle.settlement.specs.declared.receipt.Receipt.{Receipt}
use Rattle.copy_coverage.specs.Retired.{RetiredView}
use Rattle.engine_rules.specs.EngineState.{EngineState, log_of}
use Rattle.engine_run.specs.Settled.{Evidence, IsFaultOf, IsRefusalOf, IsSettled, evidence_in, evidence_of}
use Rattle.engine_run.specs.declared.beginning.Beginning.{Beginning}
use Rattle.engine_run.specs.declared.fault.SettleFault.{SettleFault}
use Rattle.engine_run.specs.declared.work.Work.{Work}
use Rattle.imgcopy_engine.specs.Run.{HaveWorked, TaskWork, WasRefused}
use Rattle.imgcopy_engine.specs.declared.run.RunFault.{RunFault}
use Rattle.imgcopy_engine.specs.declared.run_end.RunEnd.{RunEnd}
use Rattle.imgcopy_engine.specs.declared.run_end.RunRefused.{RunRefused}

-- one more at the end
pub map_pushed : {X Y : Type 0} (f : X → Y) (xs ys : List X) (x : X) (zs : List Y) → ys ≡ xs ++ x ∷ []
    → map f xs ≡ zs → map f ys ≡ zs ++ f x ∷ []
map_pushed f xs ys x zs is so_far =
    ap (map f) is ∙ map-append f xs (x ∷ []) ∙ ap (λ vs. vs ++ f x ∷ []) so_far

pub all_pushed : {X : Type 0} (xs ys : List X) (x : X) (P : X → Type 0) → ys ≡ xs ++ x ∷ [] → All P xs → P x → All P ys
all_pushed xs ys x P is so_far here = subst (All P) (sym is) (All-push P xs x so_far here)

-- a place of a list has an element
element : {X : Type 0} (xs : List X) (i : ℕ) → i < length xs → X
element [] i within = absurd (omega arith)
element (x ∷ xs) i within = x

module _ {X T : Type 0} (worked : TaskWork T) (task : X → T) (session : X → List Receipt) (works : X → List Work)
    (xs ys : List X) (as_many : length ys ≡ length xs)
    (each : (i : ℕ) (d : X) → i < length xs
    → worked (task (slice_index_or xs i d)) (task (slice_index_or ys i d)) (session (slice_index_or ys i d))
    (works (slice_index_or ys i d))) where
  at_seat : (i : ℕ) (d : T) → i < length (map task xs)
      → worked (slice_index_or (map task xs) i d) (slice_index_or (map task ys) i d) (slice_index_or (map session ys) i [])
      (slice_index_or (map works ys) i [])
  at_seat i d among =
      let within : i < length xs = omega (arith, among, length-map xs task) in
      let there : i < length ys = omega (arith, within, as_many) in
      let x = element xs i within in
      rw (
        get_or-map task xs i x d within,
        get_or-map task ys i x d there,
        get_or-map session ys i x [] there,
        get_or-map works ys i x [] there,
      )
      (each i x within)

  pub have_worked : HaveWorked worked (map task xs) (map task ys) (map session ys) (map works ys)
  have_worked = record {
    as_many = length-map ys task ∙ as_many ∙ sym (length-map xs task);
    a_session_each = length-map ys session ∙ as_many ∙ sym (length-map xs task);
    works_each = length-map ys works ∙ as_many ∙ sym (length-map xs task);
    each = at_seat;
  }

-- the tasks that were taken, and those that are given back
pub worked_on : {T : Type 0} (worked : TaskWork T) {old was new now : List T} {sessions : List (List Receipt)}
    {works : List (List Work)} → HaveWorked worked old new sessions works → old ≡ was → now ≡ new
    → HaveWorked worked was now sessions works
worked_on {T} worked {was = was} {new = new} {sessions = sessions} {works = works} did from to =
    subst (λ (tasks : List T). HaveWorked worked was tasks sessions works) (sym to)
    (subst (λ (tasks : List T). HaveWorked worked tasks new sessions works) from did)

pub settled_on : {began from : Beginning} {e : Evidence} {sessions told : List (List Receipt)} {works all : List Work}
    → IsSettled began e sessions works → began ≡ from → sessions ≡ told → works ≡ all → IsSettled from e told all
settled_on {from = from} {e = e} {sessions = sessions} {told = told} {works = works} settled b s w =
    subst (λ (ws : List Work). IsSettled from e told ws) w
    (subst (λ (ss : List (List Receipt)). IsSettled from e ss works) s
    (subst (λ (it : Beginning). IsSettled it e sessions works) b settled))

-- ---- what is handed out

-- what the sessions and works of the seats are, is handed out
pub handed_on : {T : Type 0} (worked : TaskWork T) {old new : List T} {sessions told : List (List Receipt)}
    {works own : List (List Work)} → HaveWorked worked old new sessions works → sessions ≡ told → works ≡ own
    → HaveWorked worked old new told own
handed_on worked {old = old} {new = new} {sessions = sessions} {own = own} did s w =
    subst (λ (ss : List (List Receipt)). HaveWorked worked old new ss own) s
    (subst (λ (ws : List (List Work)). HaveWorked worked old new sessions ws) w did)

-- ---- why a run is not settled

-- the evidence is the log, its forced end and the copies
pub same_evidence : (left : RetiredView) (s : EngineState) → left.log ≡ log_of s → left.forced_end ≡ s.forced_end
    → left.copies ≡ s.copies → evidence_of s ≡ evidence_in left
same_evidence left s log end copies = cc

pub refused_on : (made : ℕ) (began : Beginning) (e : Evidence) (sessions : List (List Receipt)) (works : List Work)
    (why : SettleFault) → {from : Beginning} {left : Evidence} {told : List (List Receipt)} {all : List Work}
    → IsRefusalOf made began e sessions works why → length sessions ≡ made → began ≡ from → e ≡ left
    → sessions ≡ told → works ≡ all → IsFaultOf from left told all why
refused_on made began e sessions works why (inl (few, zero)) as_many b is s w = absurd (few as_many)
refused_on made began e sessions works why {from = from} {left = left} {told = told} (inr (count, fault)) as_many b is s w =
    subst (λ (ws : List Work). IsFaultOf from left told ws why) w
    (subst (λ (ss : List (List Receipt)). IsFaultOf from left ss works why) s
    (subst (λ (ev : Evidence). IsFaultOf from ev sessions works why) is
    (subst (λ (it : Beginning). IsFaultOf it e sessions works why) b fault)))

-- what was there before, said otherwise
began_on : {T : Type 0} (worked : TaskWork T) {P Q : Beginning → Type 0} (fault : RunFault) (old new : List T)
    (receipts : List (Vec Receipt Global)) (works : List (Vec Work Global)) (left : RetiredView)
    → ((began : Beginning) → P began → Q began) → WasRefused worked P fault old new receipts works left
    → WasRefused worked Q fault old new receipts works left
began_on worked fault old new receipts works left says it = record {
  began = it.began;
  is_began = says it.began it.is_began;
  why = it.why;
  is_why = it.is_why;
  have_worked = it.have_worked;
  wrong = it.wrong;
}

in_some : {T S D : Type 0} (worked : TaskWork T) {P Q : Beginning → Type 0} (old new : List T) (fault : RunFault)
    (end : Option (RunEnd S D)) → ((began : Beginning) → P began → Q began)
    → IfSome end (λ e. WasRefused worked P fault old new e.receipts.items e.works.items e.retired)
    → IfSome end (λ e. WasRefused worked Q fault old new e.receipts.items e.works.items e.retired)
in_some worked old new fault None says it = tt
in_some worked old new fault (Some e) says it =
    began_on worked fault old new e.receipts.items e.works.items e.retired says it

pub compared_on : {T S D : Type 0} (worked : TaskWork T) {P Q : Beginning → Type 0} (old new : List T)
    (result : Result (RunEnd S D) (RunRefused S D)) → ((began : Beginning) → P began → Q began)
    → IfErr result (λ back. IfSome back.end (λ end.
    WasRefused worked P back.fault old new end.receipts.items end.works.items end.retired))
    → IfErr result (λ back. IfSome back.end (λ end.
    WasRefused worked Q back.fault old new end.receipts.items end.works.items end.retired))
compared_on worked old new (Ok end) says it = tt
compared_on {T} {S} {D} worked {P} {Q} old new (Err back) says it =
    in_some worked old new back.fault back.end says it
