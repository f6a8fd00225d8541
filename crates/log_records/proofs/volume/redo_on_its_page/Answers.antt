use Rattle.std.proofs.Common.{◌≡◌, ◌∙◌, ◌<◌, ℕ, length, set, get_or, ap, sym, subst}
use Rattle.std.specs.Prelude.{Option, Some, IfSome}
use Rattle.log_records.specs.declared.page_change.PageChange.{PageChange}
use Rattle.log_records.specs.Record.{change_of}
use Rattle.log_records.specs.Image.{with_record}
use Rattle.log_records.proofs.Changes.{change_within}
use Rattle.log_records.proofs.Images.{none_changed, one_changed}
use Rattle.log_records.proofs.volume.redo_on_its_page.Goals as goal

pub returns-in-Some : goal.returns-in-Some
returns-in-Some c =
    let pages = c.args.pages.now in
    let r = c.args.next.now in
    let change = c.in-Some.change in
    let here : change_of r ≡ Some change = sym c.in-Some.ensures in
    let number : c.change-in-Some.inside.0.0.0 ≡ change.page =
    ap (λ (x : PageChange). x.page) c.change-in-Some.view_is in
    let within : change.page < length pages =
    subst (λ (o : Option PageChange). IfSome o (λ x. x.page < length pages)) here
    (change_within (length pages) r c.requires.within) in
    ap (λ (n : ℕ). set pages n c.redo_on.new.page) number
    ∙ ap (set pages change.page) (c.redo_on.ensures
    ∙ ap (λ (n : ℕ). with_record (get_or pages n c.index-pages-change.result) r) number)
    ∙ one_changed pages r change c.index-pages-change.result here within c.requires.numbered

pub returns-in_default : goal.returns-in_default
returns-in_default c = none_changed c.args.pages.now c.args.next.now (sym c.in_default.ensures)
