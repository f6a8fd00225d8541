-- How many calls of a file failed, after some calls more.
use Rattle.std.proofs.Common.{◌≡◌, ◌+◌, ◌<◌, List, ◌++◌, ap, ◌∙◌, arith, inl, inr}
use Rattle.std.specs.Prelude.{◌⊎◌, cond, not}
use Rattle.std.proofs.lemmas.List.Sums.{sum_by-append}
use Rattle.file_devices.specs.Calls.{failed_count}
use Rattle.file_devices.specs.declared.calls.FileCall.{FileCall}

failed_count-append : (old more : List FileCall)
    → failed_count (old ++ more) ≡ failed_count old + failed_count more
failed_count-append old more = sum_by-append (λ call. cond (not call.is_done) 1 0) old more

-- none of them failed
pub none_failed : (old more new : List FileCall) → failed_count more ≡ 0 → new ≡ old ++ more
    → failed_count new ≡ failed_count old
none_failed old more new none e =
    omega (arith, ap failed_count e ∙ failed_count-append old more)

-- one of them failed
pub one_failed : (old more new : List FileCall) → failed_count more ≡ 1 → new ≡ old ++ more
    → failed_count old < failed_count new
one_failed old more new one e =
    omega (arith, ap failed_count e ∙ failed_count-append old more)

-- one of these or of those, which ever were made
pub either_failed : (old more others new : List FileCall) → failed_count more ≡ 1 → failed_count others ≡ 1
    → (new ≡ old ++ more) ⊎ (new ≡ old ++ others) → failed_count old < failed_count new
either_failed old more others new one one' (inl e) = one_failed old more new one e
either_failed old more others new one one' (inr e) = one_failed old others new one' e
