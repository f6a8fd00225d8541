use Rattle.std.proofs.Common.{◌≡◌, ◌≤◌, [], arith, subst, sym}
use Rattle.page_core.specs.declared.page.Page.{Page}
use Rattle.log_records.proofs.Public.{number-image}
use Rattle.test_layers.proofs.devices.first_image.Goals as goal

pub returns-clause-past : goal.returns-clause-past
returns-clause-past c = λ rs. record { count = 0; within = omega arith; made = c.formatted.ensures }

pub returns-clause-number : goal.returns-clause-number
returns-clause-number c = subst (λ (page : Page). page.number ≡ 0) (sym c.formatted.ensures) (number-image [] 0)
