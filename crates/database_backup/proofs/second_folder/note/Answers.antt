use Rattle.std.proofs.Common.{◌≡◌, ◌∙◌, List, ℕ, refl, subst, Some}
use Rattle.manifest.specs.Entries.{file_of}
use Rattle.manifest.specs.declared.entry.FileSum.{FileSum}
use Rattle.database_backup.proofs.second_folder.note.Goals as goal

pub returns-in-Ok-clause-named : goal.returns-in-Ok-clause-named
returns-in-Ok-clause-named c =
    let file : FileSum = record {
      extent = c.extent_of-extent.result;
      bytes = c.sum_of-bytes.result.bytes;
      sum = c.sum_of-bytes.result.sum;
    } in
    record {
      file = file;
      there = subst (λ (name : List ℕ). file_of name c.note_file.new.manifest.entries ≡ Some file)
          (c.as_str.ensures.value ∙ c.in_ok-text.ensures.ok) c.in-Ok.ensures.there;
      extent = c.extent_of-extent.ensures;
      bytes = c.args.bytes.now;
      right = refl;
      sum = c.sum_of-bytes.ensures.sum;
    }

pub returns-in-Ok-clause-noted : goal.returns-in-Ok-clause-noted
returns-in-Ok-clause-noted c n apart =
    c.in-Ok.ensures.others n (λ same. apart (same ∙ c.as_str.ensures.value ∙ c.in_ok-text.ensures.ok))
