-- What a complete copy has decided, in either form.
use Rattle.std.specs.Prelude.{List}
use Rattle.page_decisions.specs.declared.pages.HeldDecisions.{HeldDecisions}
use Rattle.page_decisions.specs.declared.pages.HeldDecisions.TheVariants.{Marked, Rising}
use Rattle.page_decisions.specs.Decisions.{PageDecision}

-- what is decided of each page
abbrev pub decisions_in : HeldDecisions → List PageDecision
decisions_in (Marked slots) = slots
decisions_in (Rising pages) = pages
