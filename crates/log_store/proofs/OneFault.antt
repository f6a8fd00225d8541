-- The bytes of a log have one first fault at most.
use Rattle.std.proofs.Common.{◌≡◌, ℕ, List, take, refl, sym, ap, subst, arith}
use Rattle.log_records.proofs.Public.{same_log}
use Rattle.log_records.specs.Log.{StandsAt, page_count}
use Rattle.log_store.specs.declared.fault.LogReadFault.{LogReadFault}
use Rattle.log_store.specs.declared.fault.LogReadFault.TheVariants.{OutOfMemory, BadHeader, BadRecord, BadChain, Torn}
use Rattle.log_store.specs.declared.fault.LogReadFault.TheVariants.{ReadFault, TooLong}
use Rattle.log_store.specs.Fault.{BreaksChain, HasFault, IsFirstFault, LacksRecord, offset_of}
use Rattle.log_store.proofs.Faults.{break_at}

-- where a record may not follow one stands
not_both : (bytes : List ℕ) (at : ℕ) → LacksRecord bytes at → BreaksChain bytes at → ⊥
not_both bytes at l b =
    let same : page_count b.before ≡ page_count l.before =
    ap page_count (same_log b.before l.before (take at bytes) b.spells l.spells) in
    l.lacks (b.there, subst (λ n. StandsAt n at b.there) same b.stands, b.of_format, b.spelled)

-- at one offset lies one fault
alike : (bytes : List ℕ) (a b : LogReadFault) → HasFault bytes a → HasFault bytes b → offset_of a ≡ offset_of b
    → a ≡ b
alike bytes OutOfMemory b one two e = absurd one
alike bytes ReadFault b one two e = absurd one
alike bytes BadHeader OutOfMemory one two e = absurd two
alike bytes BadHeader ReadFault one two e = absurd two
alike bytes BadHeader BadHeader one two e = refl
alike bytes BadHeader (BadRecord n) one two e = absurd (omega (arith, e, two.place.past_header))
alike bytes BadHeader (BadChain n) one two e = absurd (omega (arith, e, two.place.past_header))
alike bytes BadHeader (Torn n) one two e = absurd (omega (arith, e, two.0.past_header))
alike bytes BadHeader TooLong one two e = absurd (omega (arith, e))
alike bytes (BadRecord m) OutOfMemory one two e = absurd two
alike bytes (BadRecord m) ReadFault one two e = absurd two
alike bytes (BadRecord m) BadHeader one two e = absurd (omega (arith, e, one.place.past_header))
alike bytes (BadRecord m) (BadRecord n) one two e = ap BadRecord e
alike bytes (BadRecord m) (BadChain n) one two e = absurd (not_both bytes n (subst (LacksRecord bytes) e one) two)
alike bytes (BadRecord m) (Torn n) one two e = let fits = one.whole in let short = two.2 in absurd (omega (arith, e, fits, short))
alike bytes (BadRecord m) TooLong one two e = absurd (omega (arith, e, one.place.in_longest))
alike bytes (BadChain m) OutOfMemory one two e = absurd two
alike bytes (BadChain m) ReadFault one two e = absurd two
alike bytes (BadChain m) BadHeader one two e = absurd (omega (arith, e, one.place.past_header))
alike bytes (BadChain m) (BadRecord n) one two e = absurd (not_both bytes m (subst (LacksRecord bytes) (sym e) two) one)
alike bytes (BadChain m) (BadChain n) one two e = ap BadChain e
alike bytes (BadChain m) (Torn n) one two e = let fits = (break_at bytes m one).0 in let short = two.2 in absurd (omega (arith, e, fits, short))
alike bytes (BadChain m) TooLong one two e = absurd (omega (arith, e, one.place.in_longest))
alike bytes (Torn m) OutOfMemory one two e = absurd two
alike bytes (Torn m) ReadFault one two e = absurd two
alike bytes (Torn m) BadHeader one two e = absurd (omega (arith, e, one.0.past_header))
alike bytes (Torn m) (BadRecord n) one two e = let fits = two.whole in let short = one.2 in absurd (omega (arith, e, fits, short))
alike bytes (Torn m) (BadChain n) one two e = let fits = (break_at bytes n two).0 in let short = one.2 in absurd (omega (arith, e, fits, short))
alike bytes (Torn m) (Torn n) one two e = ap Torn e
alike bytes (Torn m) TooLong one two e = absurd (omega (arith, e, one.0.in_longest))
alike bytes TooLong OutOfMemory one two e = absurd two
alike bytes TooLong ReadFault one two e = absurd two
alike bytes TooLong BadHeader one two e = absurd (omega (arith, e))
alike bytes TooLong (BadRecord n) one two e = absurd (omega (arith, e, two.place.in_longest))
alike bytes TooLong (BadChain n) one two e = absurd (omega (arith, e, two.place.in_longest))
alike bytes TooLong (Torn n) one two e = absurd (omega (arith, e, two.0.in_longest))
alike bytes TooLong TooLong one two e = refl

pub one_first_fault : (bytes : List ℕ) (a b : LogReadFault) → IsFirstFault bytes a → IsFirstFault bytes b → a ≡ b
one_first_fault bytes a b one two =
    let before = one.first b two.there in
    let behind = two.first a one.there in
    alike bytes a b one.there two.there (omega (arith, before, behind))
