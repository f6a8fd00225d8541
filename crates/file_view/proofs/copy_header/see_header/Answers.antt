use Rattle.file_view.proofs.CopyHeaders.{found_by, of_copy, refused_by}
use Rattle.file_view.proofs.copy_header.see_header.Goals as goal

pub returns-in-Err-clause-found : goal.returns-in-Err-clause-found
returns-in-Err-clause-found c =
    found_by c.args.front.now c.in-Err.fault c.of_header.result c.requires c.in-Err.ensures.first c.of_header.ensures.right

pub returns-in-Err-clause-refused : goal.returns-in-Err-clause-refused
returns-in-Err-clause-refused c =
    refused_by c.args.front.now c.in-Err.fault c.of_header.result c.requires c.in-Err.ensures.first
    c.of_header.ensures.wrong

pub returns-clause-found : goal.returns-clause-found
returns-clause-found c =
    of_copy c.in_default.field-0 c.args.front.now c.requires c.in_default.ensures.found
