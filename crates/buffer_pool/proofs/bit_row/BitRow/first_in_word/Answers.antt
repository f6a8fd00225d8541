use Rattle.std.proofs.Common.{◌+◌, ◌*◌, ◌/◌, ◌%◌, ◌^◌, ◌<◌, ◌≤◌, ℕ, List, Bool, length, ap, sym, subst, arith}
use Rattle.std.specs.Prelude.{Option, MatchOption}
use Rattle.std.specs.Int.{trailing_zeros}
use mir.Syntax.{w64}
use Rattle.buffer_pool.specs.PageSet.{HasNone, IsFirstFrom}
use Rattle.buffer_pool.proofs.Bits.{first_in_word, found_within, none_in_word, none_past, was_read}
use Rattle.buffer_pool.proofs.bit_row.BitRow.first_in_word.Goals as goal

pub returns-in_err-word-clause-first : goal.returns-in_err-word-clause-first
returns-in_err-word-clause-first c =
    let words = c.self.inside.words.items in
    let from = c.args.from in
    let set = c.args.self.now in
    let past : length words ≤ from / 64 =
    omega (arith, ap length c.deref.ensures.value, c.in_err-word.ensures.lookup) in
    subst (λ (r : Option ℕ). MatchOption r (HasNone set from (from / 64 * 64 + 64)) (IsFirstFrom set from))
    (sym c.from_residual.ensures)
    (subst (λ (xs : List Bool). HasNone xs from (from / 64 * 64 + 64)) c.self.view_is
    (none_past words from (from / 64 * 64 + 64) past))

pub returns-then-rest-eq0-clause-first : goal.returns-then-rest-eq0-clause-first
returns-then-rest-eq0-clause-first c =
    let words = c.self.inside.words.items in
    let from = c.args.from in
    let word = c.in_ok-word.field-0.now in
    let slice = c.deref.result.now in
    let read = was_read words slice (from / 64) word c.deref.ensures.value c.in_ok-word.ensures.lookup.3.1 in
    subst (λ (xs : List Bool). HasNone xs from (from / 64 * 64 + 64)) c.self.view_is
    (none_in_word words from word read c.if-rest-eq0.true)

fits : (c : goal.Else-rest-eq0) → c.in_ok-word.field-0.now < 2 ^ 64
fits c = omega arith

pub overflow_add-result : goal.overflow_add-result
overflow_add-result c =
    let within = found_within c.args.from c.in_ok-word.field-0.now (fits c) (omega arith) in
    omega (arith, within)

pub returns-clause-first : goal.returns-clause-first
returns-clause-first c =
    let words = c.self.inside.words.items in
    let from = c.args.from in
    let word = c.in_ok-word.field-0.now in
    let slice = c.deref.result.now in
    let read = was_read words slice (from / 64) word c.deref.ensures.value c.in_ok-word.ensures.lookup.3.1 in
    subst (λ (xs : List Bool). IsFirstFrom xs from (from + trailing_zeros w64 (word / 2 ^ (from % 64))))
    c.self.view_is (first_in_word words from word read (fits c) (omega arith))

pub returns-clause-within : goal.returns-clause-within
returns-clause-within c =
    let within = found_within c.args.from c.in_ok-word.field-0.now (fits c) (omega arith) in
    omega (arith, within)
