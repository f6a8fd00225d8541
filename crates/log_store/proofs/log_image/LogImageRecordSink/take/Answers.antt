use Rattle.std.proofs.Common.{◌≡◌, ◌∙◌, ◌++◌, [], ◌∷◌, List, get_or, length, ap, sym, subst, arith}
use Rattle.log_records.specs.declared.record.Record.{Record}
use Rattle.log_records.specs.Log.{IsLog, Log, with_next}
use Rattle.log_records.specs.PageCount.{count_behind}
use Rattle.log_records.proofs.Public.{count_behind-append}
use Rattle.log_store.specs.declared.log_image.LogImage.TheInside.{Inside}
use Rattle.log_store.proofs.log_image.LogImageRecordSink.take.Goals as goal
use Rattle.log_store.proofs.log_image.LogImageRecordSink.take.Goals.{then-next-eq1+in_ok-push}
use Rattle.log_store.proofs.log_image.LogImageRecordSink.take.Goals.{else-next-eq1+in_ok-extend_from_slice}

-- a list of one is its first
alone : (xs : List Record) (x : Record) → length xs ≡ 1 → x ≡ get_or xs 0 x → x ∷ [] ≡ xs
alone [] x one first = absurd (omega (arith, one))
alone (y ∷ []) x one first = ap (λ (r : Record). r ∷ []) first
alone (y ∷ z ∷ rest) x one first = absurd (omega (arith, one))

-- the records grow by these, and all else stays
record Grown (old it : Inside) (next : List Record) : Type 0 where
  pages : it.pages ≡ old.pages
  count : it.count ≡ old.count
  items : it.records.items ≡ old.records.items ++ next

pub invariant_of-self-2 : goal.invariant_of-self-2
invariant_of-self-2 c =
    let it = c.if-next-eq1.self-inside in
    let old = c.self.inside in
    let next = c.args.next.now in
    let grown : Grown old it next =
    elim c.if-next-eq1.branch [
      | then-next-eq1+in_ok-push w ↦ record {
        pages = ap (λ (x : Inside). x.pages) w.self-inside-is;
        count = ap (λ (x : Inside). x.count) w.self-inside-is;
        items = ap (λ (x : Inside). x.records.items) w.self-inside-is ∙ w.in_ok-push.ensures.items
            ∙ ap (λ (rs : List Record). old.records.items ++ rs)
            (alone next w.index-next-0.result w.if-next-eq1.true w.index-next-0.is);
      }
      | else-next-eq1+in_ok-extend_from_slice w ↦ record {
        pages = ap (λ (x : Inside). x.pages) w.self-inside-is;
        count = ap (λ (x : Inside). x.count) w.self-inside-is;
        items = ap (λ (x : Inside). x.records.items) w.self-inside-is ∙ w.in_ok-extend_from_slice.ensures.items;
      }
    ] in
    let log : Log = record { pages = old.pages; records = old.records.items } in
    let asked : IsLog (with_next log next) =
    subst (λ (l : Log). IsLog (with_next l next)) (sym (c.self.view_is ∙ c.requires.1.0)) c.requires.1.1 in
    let same : (record { pages = it.pages; records = it.records.items }) ≡ with_next log next =
    λ i. record { pages = grown.pages i; records = grown.items i } in (
      subst IsLog (sym same) asked,
      c.count_behind-self-inside.ensures ∙ ap (λ n. count_behind n next) (grown.count ∙ c.self.invariant.1)
          ∙ sym (count_behind-append old.pages old.records.items next)
          ∙ (λ i. count_behind (sym grown.pages i) (sym grown.items i)),
    )
