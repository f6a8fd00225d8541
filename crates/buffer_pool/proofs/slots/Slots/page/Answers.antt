use Rattle.std.proofs.Common.{◌≡◌, ◌∙◌, ℕ, List, get_or, sym}
use Rattle.std.specs.Prelude.{IfSome, None, Option, Some, is_some}
use Rattle.std.specs.Borrow.{Bor}
use Rattle.std.specs.List.{Contains}
use Rattle.std.specs.Option.{option_copied}
use Rattle.std.proofs.lemmas.Option.{none-some}
use Rattle.page_core.specs.declared.page.Page.{Page}
use Rattle.buffer_pool.specs.Frames.{is_resident}
use Rattle.buffer_pool.specs.Slots.{IsPlace, pages_in}
use Rattle.buffer_pool.proofs.Placed.{among_at, resident_there}
use Rattle.buffer_pool.proofs.slots.Slots.page.Goals as goal

pub returns-clause-found : goal.returns-clause-found
returns-clause-found c =
    found c.args.self.now.list c.args.number c.in_ok-place_of.field-0 c.at.result c.in_ok-place_of.ensures.place
    c.at.ensures
  where
    found : (slots : List (Option Page)) (n place : ℕ) (lent : Option (Bor Page)) → IsPlace slots n place
        → option_copied lent ≡ get_or slots place None → is_some lent ≡ is_resident (pages_in slots) n
    found slots n place None is at = absurd (none-some is.here.0 (at ∙ is.here.1.0))
    found slots n place (Some page) is at = sym (resident_there slots n place is)

pub returns-clause-there : goal.returns-clause-there
returns-clause-there c =
    there c.args.self.now.list c.in_ok-place_of.field-0 c.at.result c.at.ensures
  where
    there : (slots : List (Option Page)) (place : ℕ) (lent : Option (Bor Page))
        → option_copied lent ≡ get_or slots place None → IfSome lent (λ page. Contains (pages_in slots) page.now)
    there slots place None at = tt
    there slots place (Some page) at = among_at slots place page.now (sym at)
