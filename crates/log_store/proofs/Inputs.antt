-- What a fault of the bytes so far says of the whole input.
use Rattle.std.proofs.Common.{◌≡◌, ℕ, ◌<◌, ◌≤◌, List, [], ◌++◌, length, take, ap, subst}
use Rattle.std.proofs.Common.{arith}
use Rattle.std.proofs.lemmas.List.{take-append-le, length-take, append-nil}
pub use Rattle.page_core.proofs.Public.{at_some, of_input}
use Rattle.log_store.specs.declared.fault.LogReadFault.{LogReadFault}
use Rattle.log_store.specs.declared.fault.LogReadFault.TheVariants.{OutOfMemory, BadHeader, BadRecord, BadChain, Torn}
use Rattle.log_store.specs.declared.fault.LogReadFault.TheVariants.{ReadFault, TooLong}
use Rattle.log_records.specs.Log.{Log, SpellsLog}
use Rattle.log_rules.specs.Linked.{IsLinked}
use Rattle.log_store.specs.Fault.{IsHeader, IsFirstFault, IsHeld}
use Rattle.log_store.specs.Fault.{HoldsNoFault, Refuses, IsOutside}
use Rattle.log_records.proofs.Public.{length-header}
use Rattle.log_store.proofs.Faults.{break_at, first_header, none_in_log}

-- bytes that are no header stay so
pub goes_on_header : (given rest : List ℕ) → 64 ≤ length given → IsFirstFault given BadHeader
    → IsFirstFault (given ++ rest) BadHeader
goes_on_header given rest long h = record {
  there = λ header. h.there (subst IsHeader (take-append-le 64 given rest long) header);
  first = λ other e. omega arith;
}

-- a fault is out of memory, or the first one of the bytes
abbrev pub IsFaultOf : List ℕ → LogReadFault → Type 0
IsFaultOf bytes OutOfMemory = Unit {0}
IsFaultOf bytes ReadFault = ⊥
IsFaultOf bytes of_the_bytes = IsFirstFault bytes of_the_bytes

pub refuses_all : (given rest : List ℕ) (fault : LogReadFault) → IsFaultOf given fault → rest ≡ []
    → Refuses (given ++ rest) fault
refuses_all given rest fault h none = rw (none, append-nil) (same given fault h)
  where
    same : (given : List ℕ) (fault : LogReadFault) → IsFaultOf given fault → Refuses given fault
    same given OutOfMemory h = tt
    same given ReadFault h = absurd h
    same given BadHeader h = h
    same given (BadRecord at) h = h
    same given (BadChain at) h = h
    same given (Torn at) h = h
    same given TooLong h = h

-- a fault that comes of the end alone: until there nothing is wrong
pub none_held : (given : List ℕ) (fault : LogReadFault) → IsFaultOf given fault → (¬ IsHeld given fault)
    → HoldsNoFault given
none_held given OutOfMemory h not_held other held e = not_held tt
none_held given ReadFault h not_held other held e = h
none_held given BadHeader h not_held BadHeader held e = not_held held
none_held given BadHeader h not_held (BadRecord at) held e =
    let past = e.place.past_header in let fits = e.whole in not_held (omega arith)
none_held given BadHeader h not_held (BadChain at) held e =
    let past = e.place.past_header in let fits = (break_at given at e).0 in not_held (omega arith)
none_held given BadHeader h not_held TooLong held e = not_held (omega arith)
none_held given BadHeader h not_held OutOfMemory held e = e
none_held given BadHeader h not_held ReadFault held e = e
none_held given BadHeader h not_held (Torn at) held e = held
none_held given (BadRecord at) h not_held other held e = not_held tt
none_held given (BadChain at) h not_held other held e = not_held tt
none_held given (Torn at) h not_held BadHeader held e = let late = h.first BadHeader e in
    let past = h.there.0.past_header in omega arith
none_held given (Torn at) h not_held (BadRecord other) held e =
    let late = h.first (BadRecord other) e in let torn = h.there.2 in let fits = e.whole in omega arith
none_held given (Torn at) h not_held (BadChain other) held e =
    let late = h.first (BadChain other) e in let torn = h.there.2 in let fits = (break_at given other e).0 in
    omega arith
none_held given (Torn at) h not_held TooLong held e =
    let torn = h.there.2 in let short = h.there.0.in_longest in let aligned = h.there.0.aligned in omega arith
none_held given (Torn at) h not_held OutOfMemory held e = e
none_held given (Torn at) h not_held ReadFault held e = e
none_held given (Torn at) h not_held (Torn other) held e = held
none_held given TooLong h not_held other held e = not_held tt

pub none_in_read : (log : Log) (given : List ℕ) → SpellsLog log given → IsLinked log.records → HoldsNoFault given
none_in_read log given spells linked fault held e = none_in_log log given spells linked fault e

-- ---- what a reader gave, and what it had

pub only_outside : (log : Log) (input : List ℕ) → SpellsLog log input → IsLinked log.records → (fault : LogReadFault)
    → Refuses input fault → IsOutside fault
only_outside log input spells linked OutOfMemory h = tt
only_outside log input spells linked ReadFault h = tt
only_outside log input spells linked BadHeader h = none_in_log log input spells linked BadHeader h.there
only_outside log input spells linked (BadRecord at) h = none_in_log log input spells linked (BadRecord at) h.there
only_outside log input spells linked (BadChain at) h = none_in_log log input spells linked (BadChain at) h.there
only_outside log input spells linked (Torn at) h = none_in_log log input spells linked (Torn at) h.there
only_outside log input spells linked TooLong h = none_in_log log input spells linked TooLong h.there

-- ---- fewer bytes than a header

no_header : (given : List ℕ) → length given < 64 → ¬ IsHeader (take 64 given)
no_header given short header = omega (arith, length-take 64 given, ap length header.3, length-header header.0 header.1)

pub refuses_short : (given rest : List ℕ) → length given < 64 → rest ≡ [] → Refuses (given ++ rest) BadHeader
refuses_short given rest short none = refuses_all given rest BadHeader (first_header given (no_header given short)) none

pub none_in_short : (given : List ℕ) → length given < 64 → HoldsNoFault given
none_in_short given short = none_held given BadHeader (first_header given (no_header given short)) (λ long. omega arith)
