use Rattle.std.proofs.Common.{◌≡◌, ℕ, ◌<◌, List, length, get_or, sym, ap, ◌∙◌, arith, Bor}
use Rattle.std.specs.Prelude.{Option, Some, None, IfSome, nat_lt, is_some, option_copied, slice_get}
use Rattle.std.proofs.lemmas.Bool.{lt-ltb}
use Rattle.std.proofs.lemmas.Option.{slice_get-get_or, slice_get_within}
use Rattle.log_records.specs.declared.record.Record.{Record}
use Rattle.log_store.specs.WrittenLog.{WrittenLog}
use Rattle.log_store.proofs.stored_log.StoredLog.get.Goals as goal

-- what a list has at an index is what `get` gives there
copied : (xs : List Record) (i : ℕ) (o : Option (Bor Record)) (r : Record) → is_some o ≡ nat_lt i (length xs)
    → IfSome o (λ x. x.now ≡ get_or xs i x.now) → slice_get xs i ≡ Some r → option_copied o ≡ Some r
copied xs i None r there here is =
    let inside : i < length xs = slice_get_within xs i r is in cc (lt-ltb i (length xs) inside)
copied xs i (Some x) r there here is =
    let inside : i < length xs = slice_get_within xs i r is in
    ap Some here ∙ sym (slice_get-get_or xs i x.now inside) ∙ is

pub returns-clause-only : goal.returns-clause-only
returns-clause-only g c = λ r there.
    let place = there.place in
    let at : c.in_ok-index.index ≡ there.index = omega (arith, place, c.in_ok-index.ensures) in
    let records : c.deref.result.now ≡ c.args.self.now.log.records =
    c.deref.ensures.value ∙ ap (λ (it : WrittenLog g.row.D.Denot). it.log.records) c.self.view_is in
    c.copied.ensures
    ∙ copied c.deref.result.now c.in_ok-index.index c.get.result r c.get.ensures.lookup.0 c.get.ensures.lookup.1
    (ap (λ (rs : List Record). slice_get rs c.in_ok-index.index) records ∙ ap (slice_get c.args.self.now.log.records) at
    ∙ there.there)
