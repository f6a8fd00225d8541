use Rattle.std.proofs.Common.{rules, ◌≡◌, ◌∷◌, [], ap, List, ℕ, map, map-id, refl, string_bytes, subst, sym, ◌∙◌}
use Rattle.std.specs.List.{Contains}
use Rattle.std.proofs.lemmas.Iterator.Adapters.{YieldsList-from_vec}
use Rattle.std.proofs.lemmas.Iterator.Consumers.{YieldsList-end}
use Rattle.std.proofs.lemmas.List.{map-append}
use Rattle.std.proofs.lemmas.List.Sorted.{IsNonDecreasingBy-from_sort, answers_always}
use Rattle.database_files.specs.Found.{TellsNames}
use Rattle.database_files.proofs.Founds.{of_listed}
use Rattle.database_files.proofs.Inventories.{moved_ids, none_noted}
use Rattle.database_files.proofs.inventory.Inventory.of.Goals as goal

pub loop-name-init : goal.loop-name-init
loop-name-init g c = none_noted _ c.new.ensures.items refl refl refl refl refl c.new-2.ensures.items

pub loop-name-preserved : goal.loop-name-preserved
loop-name-preserved g c =
    subst (λ (names : List (List ℕ)). TellsNames (Contains names) c.take.new.self)
    (sym (map-append string_bytes c.loop-name.yielded (c.in-Some.name ∷ [])))
    (c.in_ok-take.ensures (map string_bytes c.loop-name.yielded) c.loop-name.invariant)

pub returns-clause-there : goal.returns-clause-there
returns-clause-there g c =
    let names = map string_bytes c.in-Ok.names.items in
    let gives = c.into_iter-name-iterator.ensures.into_iter_gives in
    let drained = YieldsList-end (YieldsList-from_vec {s = c.into_iter-name-iterator.result} c.in-Ok.names.items gives.0
    (gives.1 ∙ c.in-Ok.names.ok.0)) c.loop-name.yielded c.loop-name.name-iterator c.loop-name.yielded_by c.next.result
    c.next.new.self c.in-None.is c.next.ensures.steps in
    let all : map string_bytes c.loop-name.yielded ≡ names =
    ap (map string_bytes) (sym (map-id c.loop-name.yielded) ∙ drained.0) in
    let told = subst (λ (ns : List (List ℕ)). TellsNames (Contains ns) c.loop-name.there) all c.loop-name.invariant in
    of_listed (g.F.Folder.entries c.args.folder.now) names _ c.in-Ok.ensures (record {
      log = told.log;
      volume = told.volume;
      master = told.master;
      closed = told.closed;
      manifest = told.manifest;
      copies = moved_ids c.loop-name.there.copies.items c.sort_unstable_by_key.new.self.items names
          c.sort_unstable_by_key.ensures.permutation told.copies;
      unfinished = told.unfinished;
    })

pub returns-clause-rise : goal.returns-clause-rise
returns-clause-rise g c =
    let key = λ (id : ℕ). id in
    IsNonDecreasingBy-from_sort key _ (c.sort_unstable_by_key.ensures.sorted key
    (answers_always _ _ _ (λ f a r after called. search rules)))
