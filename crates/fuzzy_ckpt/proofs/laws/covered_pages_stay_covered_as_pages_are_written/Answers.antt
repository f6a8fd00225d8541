use Rattle.fuzzy_ckpt.proofs.Covers.{all_written, behind_written}
use Rattle.fuzzy_ckpt.proofs.laws.covered_pages_stay_covered_as_pages_are_written.Goals as goal

pub returns-clause-behind : goal.returns-clause-behind
returns-clause-behind c = λ rs stored it n image d past newer there all.
    behind_written rs stored it n image d past newer there all

pub returns-clause-all : goal.returns-clause-all
returns-clause-all c = λ rs stored bound n image d past newer there all.
    all_written rs stored bound n image d past newer there all
