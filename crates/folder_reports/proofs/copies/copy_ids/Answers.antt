use Rattle.std.proofs.Common.{◌≡◌, ◌∙◌, ◌+◌, ◌++◌, ◌∷◌, [], List, ℕ, ap, map, rules, subst, sym, take}
use Rattle.std.specs.Prelude.{string_bytes}
use Rattle.std.proofs.lemmas.List.{map_more, take_all}
use Rattle.database_files.specs.Found.{NamesCopy}
use Rattle.folder_reports.proofs.Ids.{HasIds, listed, moved, with_one, without}
use Rattle.folder_reports.proofs.copies.copy_ids.Goals as goal
use Rattle.folder_reports.proofs.copies.copy_ids.Goals.{in-Some+in_ok-push, in_default}

pub loop-name-preserved : goal.loop-name-preserved
loop-name-preserved g c =
    let xs = c.deref-name-items.result.now in
    let i = c.loop-name.name-index in
    let text = c.as_str.result.now in
    let before = map string_bytes (take i xs) in
    let more : map string_bytes (take (i + 1) xs) ≡ before ++ text ∷ [] =
    map_more string_bytes xs i c.name-item.result c.loop-name-test.true
    ∙ ap (λ (n : List ℕ). before ++ n ∷ []) (ap string_bytes (sym c.name-item.is) ∙ sym c.as_str.ensures.value) in
    subst (HasIds c.match-copy_of.ids.items) (sym more) (elim c.match-copy_of.branch [
      | in-Some+in_ok-push w ↦
          let same : w.id.inside.0 ≡ w.in-Some.id = search rules in
          with_one c.loop-name.ids.items c.match-copy_of.ids.items before text w.id.inside.0
          (subst (λ (id : ℕ). NamesCopy id text) (sym same) w.in-Some.ensures)
          (ap (λ v. v.items) w.ids-is ∙ w.in_ok-push.ensures.items) c.loop-name.invariant
      | in_default w ↦
          subst (λ (ids : List ℕ). HasIds ids (before ++ text ∷ [])) (ap (λ v. v.items) (sym w.ids-is))
          (without c.loop-name.ids.items before text w.in_default.ensures c.loop-name.invariant)
    ])

pub returns : goal.returns
returns g c =
    let xs = c.deref-name-items.result.now in
    let i = c.loop-name.name-index in
    let names = map string_bytes c.in_ok-names.names.items in
    let all : map string_bytes (take i xs) ≡ names =
    ap (map string_bytes) (take_all i xs c.loop-name-test.false ∙ c.deref-name-items.ensures.value) in
    listed (g.F.DatabaseFiles.entries c.args.folder.now) names c.sort_unstable.new.self.items c.in_ok-names.ensures
    (moved c.loop-name.ids.items c.sort_unstable.new.self.items names c.sort_unstable.ensures.permutation
    (subst (HasIds c.loop-name.ids.items) all c.loop-name.invariant))
