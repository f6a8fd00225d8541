use Rattle.std.proofs.Common.{◌≡◌, ◌∙◌, List, [], ◌∷◌, ◌++◌, Bor, ℕ, refl, ap, map, sym, take}
use Rattle.std.specs.Prelude.{Option}
use Rattle.std.proofs.lemmas.List.{map-append, take_all, take_more}
use Rattle.saved_files.proofs.restore.told_readers.Goals as goal

joined : {xs ys : List (Option (List ℕ))} {a b : Option (List ℕ)} → xs ≡ ys → a ≡ b → xs ++ a ∷ [] ≡ ys ++ b ∷ []
joined front last = rw (front, last) refl

pub loop-name-preserved : goal.loop-name-preserved
loop-name-preserved g c =
    let names = c.args.names.now in
    let i = c.loop-name.name-index in
    let bytes : Bor (List ℕ) → Option (List ℕ) = λ name. g.N.NamedFiles.bytes c.args.files.now name.now in
    ap (map _) c.in_ok-push.ensures.items
    ∙ map-append _ c.loop-name.readers.items (c.in_ok-reader.reader ∷ [])
    ∙ joined c.loop-name.invariant c.in_ok-reader.ensures
    ∙ sym (ap (map bytes) (take_more names i _ c.loop-name-test.true)
    ∙ map-append bytes (take i names) (_ ∷ []))

pub returns : goal.returns
returns g c = c.loop-name.invariant
    ∙ ap (map (λ name. g.N.NamedFiles.bytes c.args.files.now name.now))
    (take_all c.loop-name.name-index c.args.names.now c.loop-name-test.false)
