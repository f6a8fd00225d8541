-- The losers as their table stores them: a change of the one at a place.
use Rattle.std.proofs.Common.{◌≡◌, ◌∙◌, ◌<◌, ◌++◌, ◌∷◌, [], ℕ, suc, List, ap, ap₂, arith, drop, get_or, length, map, set, sym, subst, take}
use Rattle.std.proofs.lemmas.List.{drop-map, get_or-map, get_or_default, length-map, map-append, map-set, take-map}
use Rattle.std.specs.List.{remove}
use Rattle.txn_table.specs.declared.open_entry.OpenEntry.{OpenEntry}
use Rattle.txn_table.specs.declared.open_list.OpenList.{OpenList}
use Rattle.txn_table.specs.OpenEntry.{entry_view}
use Rattle.txn_table.specs.OpenList.{IsSound, Sits, entries_in, entries_of}
use Rattle.log_rules.specs.Table.{TxnEntry}
use Rattle.txn_table.proofs.RowPlaces.{AllThere, entries-at, entries-remove, entries-set, length-entries}

map-remove : {X Y : Type 0} (f : X → Y) (xs : List X) (i : ℕ) → map f (remove xs i) ≡ remove (map f xs) i
map-remove f xs i =
    map-append f (take i xs) (drop (suc i) xs) ∙ ap₂ (λ ys zs. ys ++ zs) (sym (take-map f i xs)) (sym (drop-map f (suc i) xs))

module _ (list : OpenList) (view : List TxnEntry) (sound : IsSound list) (is : map entry_view (entries_in list) ≡ view)
    (place : ℕ) (within : place < length view) where
  pub in-order : place < length list.order.items
  in-order =
      let many = ap length is in
      let long = length-map (entries_in list) entry_view in
      let all = length-entries list.order.items list.rows.items sound.there in
      omega (arith, within, many, long, all)

  module _ (row : ℕ) (at : row ≡ get_or list.order.items place row) where
    pub at-place : get_or list.order.items place 0 ≡ row
    at-place = get_or_default list.order.items place 0 row in-order ∙ sym at

    pub in-rows : row < length list.rows.items
    in-rows = subst (λ s. s < length list.rows.items) at-place (sound.there place in-order)

    pub sits-there : (x : ℕ) × Sits list.order.items list.rows.items x row
    sits-there = by list.rows.items in-rows
      where
        by : (rows : List OpenEntry) → row < length rows → (x : ℕ) × Sits list.order.items rows x row
        by [] low = absurd (omega (arith, low))
        by (e ∷ es) low = (
          (get_or (e ∷ es) row e).txn,
          record {
            place = place;
            within = in-order;
            row_is = at-place;
            below = low;
            txn_is = λ d. ap (λ (x : OpenEntry). x.txn) (get_or_default (e ∷ es) row d e low);
          },
        )

    -- the entry on the row is another
    pub view-set : (e : OpenEntry)
        → map entry_view (entries_of list.order.items (set list.rows.items row e)) ≡ set view place (entry_view e)
    view-set e =
        ap (map entry_view)
        (entries-set list.order.items list.rows.items list.taken place row e sound in-order at-place)
        ∙ map-set entry_view (entries_in list) place e ∙ ap (λ es. set es place (entry_view e)) is

    -- what stood there
    pub view-at : (x : OpenEntry) (d : TxnEntry) → x ≡ get_or list.rows.items row x
        → entry_view x ≡ get_or view place d
    view-at x d there =
        ap entry_view (there ∙ sym (entries-at list.order.items list.rows.items sound.there place x in-order
        ∙ ap (λ s. get_or list.rows.items s x) at-place))
        ∙ sym (ap (λ es. get_or es place d) (sym is)
        ∙ get_or-map entry_view (entries_in list) place x d
        (omega (arith, in-order, length-entries list.order.items list.rows.items sound.there)))

  -- it goes
  pub view-remove : map entry_view (entries_of (remove list.order.items place) list.rows.items) ≡ remove view place
  view-remove =
      ap (map entry_view) (gone list.rows.items sound.there)
      ∙ map-remove entry_view (entries_in list) place ∙ ap (λ es. remove es place) is
    where
      gone : (rows : List OpenEntry) → AllThere list.order.items rows
          → entries_of (remove list.order.items place) rows ≡ remove (entries_of list.order.items rows) place
      gone [] there = absurd (omega (arith, there place in-order))
      gone (e ∷ es) there = entries-remove list.order.items (e ∷ es) place e there in-order
