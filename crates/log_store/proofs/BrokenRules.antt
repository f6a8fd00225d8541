-- Which rule is broken by the record at the first fault of an input.
use Rattle.std.proofs.Common.{◌≡◌, ◌+◌, ◌∙◌, ℕ, List, ap, length, refl, subst, sym, take}
use Rattle.std.specs.Prelude.{Option, Some, None, IfSome, slice_range}
use Rattle.log_records.specs.declared.record.Record.{Record}
use Rattle.log_records.specs.Log.{IsWithin, Log, StandsAt, page_count}
use Rattle.log_records.specs.Record.{record_bytes}
use Rattle.log_records.proofs.Public.{length-redo_all, same_log}
use Rattle.log_rules.specs.History.{IsMadeOf, Made, MayComeNext}
use Rattle.log_rules.proofs.Public.{gives_more, may_follow}
use Rattle.log_store.specs.declared.broken_rule.BrokenRule.{BrokenRule}
use Rattle.log_store.specs.declared.fault.LogReadFault.{LogReadFault}
use Rattle.log_store.specs.declared.fault.LogReadFault.TheVariants.{OutOfMemory, BadHeader}
use Rattle.log_store.specs.declared.fault.LogReadFault.TheVariants.{BadRecord, BadChain, Torn}
use Rattle.log_store.specs.declared.fault.LogReadFault.TheVariants.{ReadFault, TooLong}
use Rattle.log_store.specs.BrokenRule.{IsBroken, IsRuleAt}
use Rattle.log_store.specs.Fault.{BreaksChain, IsBehindLog, IsFirstFault, MayComeBehind, Refuses}
use Rattle.log_store.specs.Scan.{IsReadTo}
use Rattle.log_store.proofs.Faults.{none_in_log}
use Rattle.log_store.proofs.OneFault.{one_first_fault}

pub each_input : (input : Option (List ℕ)) (P : List ℕ → Type 0) → ((bytes : List ℕ) → input ≡ Some bytes → P bytes)
    → IfSome input P
each_input None P f = tt
each_input (Some bytes) P f = f bytes refl

pub count_made : (log : Log) (made : Made) → IsMadeOf log made → length made.pages ≡ page_count log
count_made log made of = ap length of.pages ∙ length-redo_all log.records (page_count log)

is_first : (fault : LogReadFault) (input : List ℕ) → IsBehindLog fault → Refuses input fault → IsFirstFault input fault
is_first OutOfMemory input behind refuses = absurd behind
is_first BadHeader input behind refuses = absurd behind
is_first ReadFault input behind refuses = absurd behind
is_first (BadRecord at) input behind refuses = refuses
is_first (BadChain at) input behind refuses = refuses
is_first (Torn at) input behind refuses = refuses
is_first TooLong input behind refuses = refuses

-- the first fault is another one
pub rule_elsewhere : {S : Type 0} (holds : S → Log → Type 0) (sink : S) (made : Made) (fault : Option LogReadFault)
    (input : List ℕ) (at : ℕ) → IsReadTo holds sink made fault (Some input) → ¬ (fault ≡ Some (BadChain at))
    → IsRuleAt input at None
rule_elsewhere holds sink made None input at it other first =
    none_in_log it.log input it.ends it.linked (BadChain at) first.there
rule_elsewhere holds sink made (Some fault) input at it other first =
    other (ap Some (one_first_fault input fault (BadChain at) (is_first fault input it.behind it.ends.1) first))

-- the record that may not follow breaks a rule
none_here : {S : Type 0} (holds : S → Log → Type 0) (sink : S) (made : Made) (input : List ℕ) (at : ℕ) (bytes : List ℕ)
    → IsReadTo holds sink made (Some (BadChain at)) (Some input) → bytes ≡ slice_range input at (at + 64)
    → ((there : Record) → StandsAt (length made.pages) at there → bytes ≡ record_bytes there → MayComeNext made there)
    → ¬ BreaksChain input at
none_here holds sink made input at bytes it read may b =
    let log = it.log in
    let same : b.before ≡ log = same_log b.before log (take at input) b.spells it.ends.0 in
    let count : page_count b.before ≡ length made.pages =
    ap page_count same ∙ sym (count_made log made it.made_of) in
    let within : IsWithin (page_count log) b.there =
    subst (λ (l : Log). IsWithin (page_count l) b.there) same b.stands.within in
    let next = may b.there (subst (λ (n : ℕ). StandsAt n at b.there) count b.stands) (read ∙ b.spelled) in
    b.breaks (subst (λ (l : Log). MayComeBehind l b.there) (sym same) (
      may_follow log made b.there it.made_of it.valid b.stands.valid within next,
      gives_more log made b.there it.made_of next,
    ))

pub rule_here : {S : Type 0} (holds : S → Log → Type 0) (sink : S) (made : Made) (input : List ℕ) (at : ℕ) (bytes : List ℕ)
    (rule : Option BrokenRule) → IsReadTo holds sink made (Some (BadChain at)) (Some input)
    → bytes ≡ slice_range input at (at + 64)
    → IfSome rule (λ rule. (there : Record) × (bytes ≡ record_bytes there) × IsBroken made there rule)
    → (rule ≡ None → (there : Record) → StandsAt (length made.pages) at there → bytes ≡ record_bytes there
    → MayComeNext made there) → IsRuleAt input at rule
rule_here holds sink made input at bytes None it read some none =
    λ first. none_here holds sink made input at bytes it read (none refl) first.there
rule_here holds sink made input at bytes (Some rule) it read some none = (
  it.ends.1,
  record {
    before = it.log;
    spells = it.ends.0;
    linked = it.linked;
    made = made;
    made_of = it.made_of;
    there = some.0;
    spelled = sym read ∙ some.1;
    breaks = some.2;
  },
)

-- the rule of a record of these bytes, whichever the fault is
pub rule_is : {S : Type 0} (holds : S → Log → Type 0) (sink : S) (made : Made) (fault : Option LogReadFault)
    (input : List ℕ) (at : ℕ) (bytes : List ℕ) (rule : Option BrokenRule)
    → IsReadTo holds sink made fault (Some input) → bytes ≡ slice_range input at (at + 64)
    → IfSome rule (λ rule. (fault ≡ Some (BadChain at)) × ((there : Record) × (bytes ≡ record_bytes there)
    × IsBroken made there rule))
    → (rule ≡ None → fault ≡ Some (BadChain at) → (there : Record) → StandsAt (length made.pages) at there
    → bytes ≡ record_bytes there → MayComeNext made there) → IsRuleAt input at rule
rule_is holds sink made fault input at bytes (Some rule) it read some none =
    rule_here holds sink made input at bytes (Some rule)
    (subst (λ (o : Option LogReadFault). IsReadTo holds sink made o (Some input)) some.0 it) read some.1
    (λ no. absurd (some_none rule no))
  where
    some_none : (rule : BrokenRule) → ¬ (Some rule ≡ None)
    some_none rule e = cc
rule_is holds sink made fault input at bytes None it read some none = λ first.
    rule_elsewhere holds sink made fault input at it
    (λ is. rule_here holds sink made input at bytes None
    (subst (λ (o : Option LogReadFault). IsReadTo holds sink made o (Some input)) is it) read tt
    (λ no. none no is) first) first
