use Rattle.std.proofs.Common.{not, rules}
use Rattle.std.specs.Str.{bytes_eq}
use Rattle.std.proofs.lemmas.Fn.{filter_same}
use Rattle.manifest.specs.Entries.{Noted}
use Rattle.manifest.proofs.listing.drop_name.Goals as goal

pub returns : goal.returns
returns c =
    filter_same _ (λ (entry : Noted). not (bytes_eq entry.name c.args.name.now)) _ (λ x b f' k. search rules) _ _
    c.retain.ensures.filtered
