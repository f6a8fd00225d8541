-- Cuts as first faults, and what that says of fronts.
use Rattle.std.proofs.Common.{◌≡◌, ℕ, ◌<◌, ◌≤◌, List, length, take, refl, sym, ap, subst, ◌∙◌, arith}
use Rattle.std.specs.Prelude.{Option, Some, None}
use Rattle.log_records.specs.Log.{Log, SpellsLog, lsn_of}
use Rattle.log_records.proofs.Public.{length-log, same_log}
use Rattle.log_store.specs.declared.fault.LogReadFault.{LogReadFault}
use Rattle.log_store.specs.declared.fault.LogReadFault.TheVariants as whole
use Rattle.log_store.specs.Fault.{BreaksChain, IsFirstFault}
use Rattle.log_store.proofs.Public.{StartsWith, break_at, first_chain, first_record, first_too_long, first_torn}
use Rattle.log_store.proofs.Public.{one_first_fault}
use Rattle.log_prefix.specs.declared.cut.Cut.{Cut}
use Rattle.log_prefix.specs.declared.cut.CutReason.{CutReason}
use Rattle.log_prefix.specs.declared.cut.CutReason.TheVariants.{Torn, BadRecord, BadChain, TooLong}
use Rattle.log_prefix.specs.declared.fault.FrontFault.{FrontFault}
use Rattle.log_prefix.specs.declared.fault.FrontFault.TheVariants.{OutOfMemory, BadHeader, ReadFault}
use Rattle.log_prefix.specs.Front.{FoundFront, HasNoFront, IsFront, IsFrontOf, IsLeftOut}
use Rattle.log_prefix.specs.Front.{IsOutside, end_of, fault_of}

-- ---- a cut is the first fault

starts : (bytes : List ℕ) (log : Log) → IsFront bytes log → StartsWith log bytes
starts bytes log f = record { spells = f.spells; linked = f.linked }

breaks_at_end : (bytes : List ℕ) (log : Log) → IsFront bytes log → IsLeftOut bytes log BadChain
    → BreaksChain bytes (end_of log)
breaks_at_end bytes log f h =
    let room = h.0 in
    let s = h.1.1 in
    record {
      place = record { aligned = omega arith; past_header = omega arith; in_longest = omega arith };
      before = log;
      spells = f.spells;
      linked = f.linked;
      there = h.1.0;
      stands = s.stands;
      of_format = s.of_format;
      spelled = s.spelled;
      breaks = h.1.2;
    }

at_end : (bytes : List ℕ) (log : Log) (why : CutReason) → IsFront bytes log → IsLeftOut bytes log why
    → IsFirstFault bytes (fault_of (end_of log) why)
at_end bytes log Torn f h = first_torn log bytes (starts bytes log f) h.0 h.1 h.2
at_end bytes log BadRecord f h = first_record log bytes (starts bytes log f) h.0 h.1
    (λ has. h.2 has.0 (record { stands = has.1; of_format = has.2; spelled = has.3 }))
at_end bytes log BadChain f h = first_chain log bytes (starts bytes log f) h.0 (breaks_at_end bytes log f h)
at_end bytes log TooLong f h = first_too_long log bytes (starts bytes log f) h.0 (omega (arith, h.0, h.1))

pub first_at_cut : (bytes : List ℕ) (log : Log) (cut : Cut) → IsFrontOf bytes (record { log = log; cut = Some cut })
    → IsFirstFault bytes (fault_of cut.at cut.why)
first_at_cut bytes log cut it =
    subst (λ at. IsFirstFault bytes (fault_of at cut.why)) (sym it.cut.0)
    (at_end bytes log cut.why it.longest.front it.cut.1)

-- ---- bytes have one front

reason_of : LogReadFault → CutReason
reason_of (whole.Torn at) = Torn
reason_of (whole.BadRecord at) = BadRecord
reason_of (whole.BadChain at) = BadChain
reason_of other = TooLong

reason_is : (at : ℕ) (why : CutReason) → reason_of (fault_of at why) ≡ why
unfolding reason_of
reason_is at Torn = refl
reason_is at BadRecord = refl
reason_is at BadChain = refl
reason_is at TooLong = refl

-- something is left out at a cut
follows : (bytes : List ℕ) (log : Log) (why : CutReason) → IsFront bytes log → IsLeftOut bytes log why
    → end_of log < length bytes
follows bytes log Torn f h = h.1
follows bytes log BadRecord f h = omega (arith, h.1)
follows bytes log BadChain f h = omega (arith, (break_at bytes (end_of log) (breaks_at_end bytes log f h)).0)
follows bytes log TooLong f h = h.1

same_cut : (bytes : List ℕ) (log : Log) (a b : Option Cut) → IsFrontOf bytes (record { log = log; cut = a })
    → IsFrontOf bytes (record { log = log; cut = b }) → a ≡ b
same_cut bytes log None None one two = refl
same_cut bytes log None (Some b) one two =
    absurd (omega (arith, follows bytes log b.why two.longest.front two.cut.1, length-log log bytes one.cut))
same_cut bytes log (Some a) None one two =
    absurd (omega (arith, follows bytes log a.why one.longest.front one.cut.1, length-log log bytes two.cut))
same_cut bytes log (Some a) (Some b) one two =
    let at : a.at ≡ b.at = one.cut.0 ∙ sym two.cut.0 in
    let why : a.why ≡ b.why =
    sym (reason_is a.at a.why)
    ∙ ap reason_of (one_first_fault bytes (fault_of a.at a.why) (fault_of b.at b.why)
    (first_at_cut bytes log a one) (first_at_cut bytes log b two)) ∙ reason_is b.at b.why in
    ap (λ (n : ℕ). Some (record { at = n; why = a.why })) at
    ∙ ap (λ (w : CutReason). Some (record { at = b.at; why = w })) why

pub same_found : (bytes : List ℕ) (a b : FoundFront) → IsFrontOf bytes a → IsFrontOf bytes b → a ≡ b
same_found bytes a b one two =
    let le : length a.log.records ≤ length b.log.records = two.longest.longest a.log one.longest.front in
    let ge : length b.log.records ≤ length a.log.records = one.longest.longest b.log two.longest.front in
    let count : length a.log.records ≡ length b.log.records = omega (arith, le, ge) in
    let log : a.log ≡ b.log =
    same_log a.log b.log (take (end_of a.log) bytes) one.longest.front.spells
    (subst (λ n. SpellsLog b.log (take (lsn_of n) bytes)) (sym count) two.longest.front.spells) in
    let moved : IsFrontOf bytes (record { log = b.log; cut = a.cut }) =
    subst (λ (l : Log). IsFrontOf bytes (record { log = l; cut = a.cut })) log one in
    let cut : a.cut ≡ b.cut = same_cut bytes b.log a.cut b.cut moved two in
    ap (λ (l : Log). record { log = l; cut = a.cut }) log ∙ ap (λ (c : Option Cut). record { log = b.log; cut = c }) cut

-- ---- what has a front is read

pub none_but_outside : (bytes : List ℕ) (it : FoundFront) (fault : FrontFault) → IsFrontOf bytes it
    → (fault ≡ BadHeader → HasNoFront bytes) → IsOutside fault
none_but_outside bytes it OutOfMemory found none = tt
none_but_outside bytes it ReadFault found none = tt
none_but_outside bytes it BadHeader found none = none refl it.log found.longest.front
