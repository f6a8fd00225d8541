-- The calls that were made of a file.
use Rattle.std.specs.Prelude.{ℕ, Bool, true, false, not, List, [], ◌∷◌, ◌++◌, count_by}
use Rattle.file_devices.specs.declared.calls.Calls.{Calls, None, After'}
use Rattle.file_devices.specs.declared.calls.FileCall.{FileCall}
use Rattle.file_devices.specs.declared.calls.Request.{Request}

-- all of them, in order
abbrev pub calls_of : Calls → List FileCall
calls_of None = []
calls_of (After' marker before last) = calls_of before ++ last.value ∷ []

-- a file was asked this, and answered that it is done, or that it is not
abbrev pub call : Request → Bool → FileCall
call request is_done = record { request = request; is_done = is_done }

-- a call that the file did
abbrev pub done : Request → FileCall
done request = call request true

-- a call that failed
abbrev pub failed : Request → FileCall
failed request = call request false

-- how many of these calls failed
abbrev pub failed_count : List FileCall → ℕ
failed_count calls = count_by (λ call. not call.is_done) calls
