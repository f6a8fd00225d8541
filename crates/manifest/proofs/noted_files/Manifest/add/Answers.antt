use Rattle.std.proofs.Common.{sym, subst, List}
use Rattle.manifest.specs.Entries.{IsManifest, Noted}
use Rattle.manifest.proofs.Names.{manifest_added}
use Rattle.manifest.proofs.noted_files.Manifest.add.Goals as goal

pub invariant_of-self : goal.invariant_of-self
invariant_of-self c =
    subst (λ (x : List Noted). IsManifest (record { database = c.self.inside.database.0; entries = x }))
    (sym c.in_err-push.ensures.items) c.self.invariant

pub invariant_of-self-2 : goal.invariant_of-self-2
invariant_of-self-2 c =
    manifest_added (record { database = c.self.inside.database.0; entries = c.self.inside.entries.items })
    c.args.self.now c.args.name.now _ c.args.file c.push.new.self.items c.self.view_is c.self.invariant
    c.requires.noted c.requires.new c.requires.few c.in_ok-name.ensures.ok c.in_ok-push.ensures.items
