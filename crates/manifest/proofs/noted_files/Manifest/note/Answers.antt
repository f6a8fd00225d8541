use Rattle.std.proofs.Common.{◌∙◌, ◌<◌, ◌≤◌, ap, length, List, ℕ, refl, rules, slice_set, string_bytes, subst, sym}
use Rattle.std.proofs.Math.ListN.{length-set}
use Rattle.manifest.specs.Entries.{Lacks, Listed, Noted, noted}
use Rattle.manifest.proofs.Names.{at_place, manifest_noted, noted_new}
use Rattle.manifest.proofs.noted_files.Manifest.note.Goals as goal

pub invariant_of-self : goal.invariant_of-self
invariant_of-self c =
    let entries = c.self.inside.entries.items in
    let new : Noted = record { name = string_bytes c.behind-self.inside.name; file = c.args.file } in
    let few : length (slice_set entries c.in-Some.i new) ≤ 4096 =
    subst (λ (n : ℕ). n ≤ 4096) (sym (length-set entries c.in-Some.i new)) c.self.invariant.few in
    manifest_noted (record { database = c.self.inside.database.0; entries = entries })
    (record { name = c.args.name.now; file = c.args.file }) (slice_set entries c.in-Some.i new) c.self.invariant
    (record {
      name = c.if-not-is_name.ensures.0 refl;
      bytes = c.if-file-ge-TOO_MANY_BYTES.false;
      sum = record { many = search rules; bytes = search rules };
    }) (at_place (record { database = c.self.inside.database.0; entries = c.self.inside.entries.items })
    c.deref.result.now c.in-Some.i c.args.name.now c.args.file (string_bytes c.behind-self.inside.name)
    c.index_mut.result.now c.deref.ensures.value c.in-Some.ensures.found c.index_mut.ensures.value
    (sym (ap (λ (x : Noted). x.name) c.behind-self.view_is))) few

pub returns-in-Some-clause-ok : goal.returns-in-Some-clause-ok
returns-in-Some-clause-ok c =
    ap (λ (x : List Noted). record { database = c.self.inside.database.0; entries = x })
    (sym (at_place (record { database = c.self.inside.database.0; entries = c.self.inside.entries.items })
    c.deref.result.now c.in-Some.i c.args.name.now c.args.file (string_bytes c.behind-self.inside.name)
    c.index_mut.result.now c.deref.ensures.value c.in-Some.ensures.found c.index_mut.ensures.value
    (sym (ap (λ (x : Noted). x.name) c.behind-self.view_is))))
    ∙ ap (λ (x : Listed). record {
      database = x.database;
      entries = noted (record { name = c.args.name.now; file = c.args.file }) x.entries;
    }) c.self.view_is

pub returns-in_ok-add-in-None-2-clause-ok : goal.returns-in_ok-add-in-None-2-clause-ok
returns-in_ok-add-in-None-2-clause-ok c =
    let name = c.args.name.now in
    let new : Noted = record { name = name; file = c.args.file } in
    let lacks : Lacks name c.args.self.now.entries =
    subst (λ (x : Listed). Lacks name x.entries) c.self.view_is
    (subst (Lacks name) c.deref.ensures.value c.in-None.ensures.none) in
    c.in_ok-add-in-None-2.ensures.ok
    ∙ ap (λ (x : List Noted). record { database = c.args.self.now.database; entries = x })
    (sym (noted_new c.args.self.now.entries new lacks))

pub add-requires : goal.add-requires
add-requires c =
    let name = c.args.name.now in
    let room : length c.self.inside.entries.items < 4096 = search rules in
    record {
      noted = record {
        name = c.if-not-is_name.ensures.0 refl;
        bytes = c.if-file-ge-TOO_MANY_BYTES.false;
        sum = record { many = search rules; bytes = search rules };
      };
      new = subst (λ (x : Listed). Lacks name x.entries) c.self.view_is
          (subst (Lacks name) c.deref.ensures.value c.in-None.ensures.none);
      few = subst (λ (x : Listed). length x.entries < 4096) c.self.view_is room;
    }
