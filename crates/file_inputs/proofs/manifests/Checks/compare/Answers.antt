use Rattle.std.proofs.Common.{option_map, refl, sym}
use Rattle.file_inputs.proofs.Placed.{compared, on_ok}
use Rattle.file_inputs.proofs.manifests.Checks.compare.Goals as goal

pub returns : goal.returns
returns c = on_ok c.take.result c.take.ensures (λ takes are.
    compared c.args.names.now c.in-Some.name c.args.place c.args.choice (option_map (λ it. it.now) c.args.stands) _ c.known_file-known.result
    c.args.self.now c.take.new.self (sym c.in-Some.ensures) c.is_in_part.result refl c.is_in_part.ensures c.known_file-known.ensures takes are)
