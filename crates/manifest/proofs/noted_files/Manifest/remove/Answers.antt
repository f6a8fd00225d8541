use Rattle.std.proofs.Common.{sym, subst, List}
use Rattle.manifest.specs.Entries.{IsManifest, Noted}
use Rattle.manifest.proofs.Names.{manifest_without}
use Rattle.manifest.proofs.noted_files.Manifest.remove.Goals as goal

pub invariant_of-self : goal.invariant_of-self
invariant_of-self c =
    let inside = c.self.inside in
    subst (λ (es : List Noted). IsManifest (record { database = inside.database.0; entries = es }))
    (sym c.drop_name.ensures) (manifest_without (record { database = inside.database.0; entries = inside.entries.items }) c.args.name.now c.self.invariant)
