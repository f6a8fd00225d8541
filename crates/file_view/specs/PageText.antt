-- The line of a page, and the page in JSON.
use Rattle.std.specs.Prelude.{ℕ, ◌++◌, suc, List, [], ◌∷◌, codes, nat_eq, if◌then◌else◌}
use Rattle.std.specs.Fmt.{decimal}
use Rattle.std.specs.List.{flat_map}
use Rattle.page_core.specs.declared.page.Page.{Page}

-- a slot is shown where its number is not 0
abbrev pub slot_text : ℕ → ℕ → List ℕ
slot_text slot number =
    if nat_eq number 0 then [] else codes " " ++ decimal slot ++ codes "=" ++ decimal number

-- slots in order, the first of which has this number
abbrev pub slots_text : ℕ → List ℕ → List ℕ
slots_text slot [] = []
slots_text slot (number ∷ numbers) = slot_text slot number ++ slots_text (suc slot) numbers

-- the number of a page, its LSN, and its slots
abbrev pub page_line : Page → List ℕ
page_line page =
    codes "page " ++ decimal page.number ++ codes " lsn " ++ decimal page.lsn
    ++ slots_text 0 page.slots

-- in JSON a slot is an object
abbrev pub slot_json : ℕ → ℕ → List ℕ
slot_json slot number =
    codes "{\"slot\":" ++ decimal slot ++ codes ",\"number\":" ++ decimal number ++ codes "}"

-- the slots that are shown, in order; the first of all has this number
abbrev pub slots_json : ℕ → List ℕ → List (List ℕ)
slots_json slot [] = []
slots_json slot (number ∷ numbers) =
    if nat_eq number 0 then slots_json (suc slot) numbers
    else slot_json slot number ∷ slots_json (suc slot) numbers

-- texts with a comma between each two
abbrev pub with_commas : List (List ℕ) → List ℕ
with_commas [] = []
with_commas (text ∷ texts) = text ++ flat_map (λ it. codes "," ++ it) texts

-- a page in JSON: an object, whose slots are an array
abbrev pub page_json : Page → List ℕ
page_json page =
    codes "{\"page\":" ++ decimal page.number ++ codes ",\"lsn\":" ++ decimal page.lsn
    ++ codes ",\"slots\":[" ++ with_commas (slots_json 0 page.slots) ++ codes "]}"
