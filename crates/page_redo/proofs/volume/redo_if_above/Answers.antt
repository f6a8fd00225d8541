use Rattle.std.proofs.Common.{◌≡◌, ◌∙◌, ◌<◌, ℕ, length, set, get_or, ap, sym, subst}
use Rattle.std.specs.Prelude.{Option, Some, IfSome}
use Rattle.log_records.specs.declared.page_change.PageChange.{PageChange}
use Rattle.log_records.specs.Record.{change_of}
use Rattle.page_redo.specs.Redo.{redone_by}
use Rattle.log_records.proofs.Public.{change_within}
use Rattle.page_redo.proofs.Volumes.{none_redone, one_redone}
use Rattle.page_redo.proofs.volume.redo_if_above.Goals as goal

pub returns-in-Some : goal.returns-in-Some
returns-in-Some c =
    let pages = c.args.pages.now in
    let r = c.args.next.now in
    let change = c.in-Some.change in
    let here : change_of r ≡ Some change = sym c.in-Some.ensures in
    let number : c.change-in-Some.inside.0.0.0 ≡ change.page =
    ap (λ (x : PageChange). x.page) c.change-in-Some.view_is in
    let within : change.page < length pages =
    subst (λ (o : Option PageChange). IfSome o (λ x. x.page < length pages)) here
    (change_within (length pages) r c.requires.within) in
    ap (set pages c.change-in-Some.inside.0.0.0) c.redo_record.ensures
    ∙ ap (λ (n : ℕ). set pages n (redone_by (get_or pages n c.index-pages-change.result) r)) number
    ∙ one_redone pages r change c.index-pages-change.result here within c.requires.numbered

pub returns-in_default : goal.returns-in_default
returns-in_default c = none_redone c.args.pages.now c.args.next.now (sym c.in_default.ensures)
