-- Changes of one slot, one after another, each made of the number that the one before it left.
use Rattle.std.proofs.Common.{◌≡◌, ℕ, ◌+◌, ◌-◌, ◌%◌, ◌^◌, ◌<◌, ◌≤◌, true, ◌&&◌, List, [], ◌∷◌, ◌++◌, get_or, All, sym}
use Rattle.std.proofs.Common.{ap, subst, ◌∙◌, arith, le_of_lt, mod-eq_of_lt}
use Rattle.std.proofs.lemmas.List.Elements.{All-head, All-tail}
use Rattle.std.proofs.Math.Nat.{add-mod-mod, add-mod_right, mod-add-mod}
use Rattle.std.proofs.Math.Bool.{and_comm}
use Rattle.page_core.specs.declared.change.Change.{Change}
use Rattle.page_core.specs.declared.change.Change.TheVariants.{Set, Add}
use Rattle.page_core.specs.Change.{Replaces, changed, kind_of, undo_of}
use Rattle.log_records.specs.Record.{IsChange}
use Rattle.log_rules.specs.Transactions.{is_add}

-- ---- from one number to another

abbrev pub Leads : List Change → ℕ → ℕ → Type 0
Leads [] from to = from ≡ to
Leads (c ∷ cs) from to = Replaces c from × Leads cs (changed c from) to

-- the number after these changes
abbrev pub changed_by : List Change → ℕ → ℕ
changed_by [] number = number
changed_by (c ∷ cs) number = changed_by cs (changed c number)

pub leads_to : (cs : List Change) (from to : ℕ) → Leads cs from to → changed_by cs from ≡ to
leads_to [] from to leads = leads
leads_to (c ∷ cs) from to leads = leads_to cs (changed c from) to leads.1

pub leads-append : (xs ys : List Change) (from to : ℕ) → Leads (xs ++ ys) from to → Leads ys (changed_by xs from) to
leads-append [] ys from to leads = leads
leads-append (x ∷ xs) ys from to leads = leads-append xs ys (changed x from) to leads.1

-- one change more
pub leads_push : (cs : List Change) (c : Change) (from to : ℕ) → Leads cs from to → Replaces c to
    → Leads (cs ++ c ∷ []) from (changed c to)
leads_push [] c from to leads replaces = (subst (Replaces c) (sym leads) replaces, ap (changed c) leads)
leads_push (x ∷ xs) c from to leads replaces = (leads.0, leads_push xs c (changed x from) to leads.1 replaces)

-- and one less: it is taken back
changed_fits : (c : Change) (n : ℕ) → IsChange c → n < 2 ^ 64 → changed c n < 2 ^ 64
changed_fits (Set before after) n valid fits = valid.1
changed_fits (Add amount) n valid fits = omega arith

pub changed_by_fits : (cs : List Change) (n : ℕ) → All IsChange cs → n < 2 ^ 64 → changed_by cs n < 2 ^ 64
changed_by_fits [] n valid fits = fits
changed_by_fits (c ∷ cs) n valid fits =
    let first = All-head IsChange c cs valid in
    changed_by_fits cs (changed c n) (All-tail IsChange c cs valid) (changed_fits c n first fits)

add_back : (n a m : ℕ) → a ≤ m → n < m → ((n + a) % m + (m - a) % m) % m ≡ n
add_back n a m le lt =
    let whole : n + a + (m - a) ≡ n + m = omega arith in
    mod-add-mod (n + a) m ((m - a) % m) ∙ add-mod-mod (n + a) (m - a) m ∙ ap (λ x. x % m) whole ∙ add-mod_right n m
    ∙ mod-eq_of_lt lt

undone : (c : Change) (n : ℕ) → IsChange c → n < 2 ^ 64 → Replaces c n → changed (undo_of c) (changed c n) ≡ n
undone (Set before after) n valid fits replaces = replaces
undone (Add amount) n valid fits replaces = add_back n amount (2 ^ 64) (le_of_lt valid) fits

pub leads_pop : (cs : List Change) (c : Change) (from to : ℕ) → All IsChange (cs ++ c ∷ []) → from < 2 ^ 64
    → Leads (cs ++ c ∷ []) from to → Leads cs from (changed (undo_of c) to)
leads_pop [] c from to valid fits leads =
    sym (ap (changed (undo_of c)) (sym leads.1) ∙ undone c from (All-head IsChange c [] valid) fits leads.0)
leads_pop (x ∷ xs) c from to valid fits leads =
    let rest = All-tail IsChange x (xs ++ c ∷ []) valid in
    let first = All-head IsChange x (xs ++ c ∷ []) valid in
    (leads.0, leads_pop xs c (changed x from) to rest (changed_fits x from first fits) leads.1)

-- ---- Adds change places

abbrev pub AreAdds : Change → Change → Type 0
AreAdds c d = (is_add (kind_of c) && is_add (kind_of d)) ≡ true

-- a change and each of these are Adds
abbrev pub AddsWith : List Change → Change → Type 0
AddsWith ds c = All (AreAdds c) ds

-- each of these and each of those are Adds
abbrev pub Apart : List Change → List Change → Type 0
Apart cs ds = All (AddsWith ds) cs

pub apart_back : (cs ds : List Change) → Apart cs ds → Apart ds cs
apart_back cs ds apart k d within = λ i c inside. swapped (get_or cs i c) (get_or ds k d) (apart i c inside k d within)
  where
    swapped : (x y : Change) → AreAdds x y → AreAdds y x
    swapped x y both = and_comm (is_add (kind_of y)) (is_add (kind_of x)) ∙ both

add_swap : (a b c m : ℕ) → ((a + b) % m + c) % m ≡ ((a + c) % m + b) % m
add_swap a b c m =
    let same : a + b + c ≡ a + c + b = omega arith in
    mod-add-mod (a + b) m c ∙ ap (λ x. x % m) same ∙ sym (mod-add-mod (a + c) m b)

swap_two : (c d : Change) (rest : List Change) (from to : ℕ) → AreAdds c d → Leads (c ∷ d ∷ rest) from to
    → Leads (d ∷ c ∷ rest) from to
swap_two (Set before after) d rest from to adds leads = cc
swap_two (Add m) (Set before after) rest from to adds leads = cc
swap_two (Add m) (Add n) rest from to adds leads =
    (tt, (tt, subst (λ x. Leads rest x to) (add_swap from m n (2 ^ 64)) leads.1.1))

swap_one : (c : Change) (ds rest : List Change) (from to : ℕ) → AddsWith ds c
    → Leads (c ∷ (ds ++ rest)) from to → Leads (ds ++ c ∷ rest) from to
swap_one c [] rest from to adds leads = leads
swap_one c (d ∷ ds) rest from to adds leads =
    let first = All-head (AreAdds c) d ds adds in
    let swapped = swap_two c d (ds ++ rest) from to first leads in
    (swapped.0, swap_one c ds rest (changed d from) to (All-tail (AreAdds c) d ds adds) swapped.1)

pub swap_parts : (cs ds rest : List Change) (from to : ℕ) → Apart cs ds
    → Leads (cs ++ (ds ++ rest)) from to → Leads (ds ++ (cs ++ rest)) from to
swap_parts [] ds rest from to apart leads = leads
swap_parts (c ∷ cs) ds rest from to apart leads =
    let inner = swap_parts cs ds rest (changed c from) to (All-tail (AddsWith ds) c cs apart) leads.1 in
    swap_one c ds (cs ++ rest) from to (All-head (AddsWith ds) c cs apart) (leads.0, inner)
