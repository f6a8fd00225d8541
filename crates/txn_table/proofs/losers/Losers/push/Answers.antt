use Rattle.std.proofs.Common.{◌≡◌, ◌∙◌, ◌++◌, ◌∷◌, [], ap, arith, length, map, refl, set}
use Rattle.std.proofs.Math.Seq.{set-append_seam}
use Rattle.std.proofs.lemmas.List.{length-map, length_push, map_push}
use Rattle.txn_table.specs.OpenEntry.{entry_view}
use Rattle.txn_table.specs.OpenList.{entries_in}
use Rattle.txn_table.proofs.Losing.{in-order, in-rows, view-set}
use Rattle.txn_table.proofs.losers.Losers.push.Goals as goal

pub index-requires : goal.index-requires
index-requires c =
    let list = c.add.new.self in
    let added = c.in_ok-add.ensures.ok in
    let old = entries_in c.self.inside.list in
    let long = length-map (entries_in list) entry_view in
    let more = ap length added.entries ∙ length_push old added.entry in
    let lt = in-order list (map entry_view (entries_in list)) c.in_ok-add.ensures.sound refl c.len-place.result
    (omega (arith, long, more, c.len-place.ensures)) in
    omega (arith, lt, list.order.ok.0)

pub index_mut-entry-requires : goal.index_mut-entry-requires
index_mut-entry-requires c =
    let list = c.add.new.self in
    let added = c.in_ok-add.ensures.ok in
    let old = entries_in c.self.inside.list in
    let long = length-map (entries_in list) entry_view in
    let more = ap length added.entries ∙ length_push old added.entry in
    let low = in-rows list (map entry_view (entries_in list)) c.in_ok-add.ensures.sound refl c.len-place.result
    (omega (arith, long, more, c.len-place.ensures)) c.index.result.now c.index.ensures in
    omega (arith, low, list.rows.ok.0)

pub returns-clause-ok : goal.returns-clause-ok
returns-clause-ok c =
    let list = c.add.new.self in
    let added = c.in_ok-add.ensures.ok in
    let old = entries_in c.self.inside.list in
    let new = entry_view c.args.loser in
    let long = length-map (entries_in list) entry_view in
    let more = ap length added.entries ∙ length_push old added.entry in
    let before = length-map old entry_view in
    let here : c.len-place.result ≡ length (map entry_view old) = omega (arith, c.len-place.ensures, before) in
    view-set list (map entry_view (entries_in list)) c.in_ok-add.ensures.sound refl c.len-place.result
    (omega (arith, long, more, c.len-place.ensures)) c.index.result.now c.index.ensures c.replace_by.new.self
    ∙ ap (set (map entry_view (entries_in list)) c.len-place.result) c.replace_by.ensures.entry
    ∙ ap (λ n. set (map entry_view (entries_in list)) n new) here
    ∙ ap (λ es. set es (length (map entry_view old)) new)
    (ap (map entry_view) added.entries ∙ map_push entry_view old added.entry)
    ∙ set-append_seam (map entry_view old) (entry_view added.entry) [] new
    ∙ ap (λ es. es ++ new ∷ []) c.self.view_is
