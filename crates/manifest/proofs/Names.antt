-- Entries and their names.
use Rattle.std.proofs.Common.{◌≡◌, ◌≢◌, ◌<◌, ◌≤◌, ◌+◌, ◌++◌, ℕ, zero, suc, List, [], ◌∷◌, length, take, get_or, Bool, true, false, not, cond, Some, None, is_some, Option}
use Rattle.std.proofs.Common.{refl, sym, ◌∙◌, ap, subst, arith, length-append}
use Rattle.std.specs.Prelude.{slice_set}
use Rattle.std.specs.Bool.{Decides}
use Rattle.std.specs.List.{AllByRecursion}
use Rattle.std.specs.Str.{bytes_eq}
use Rattle.std.proofs.lemmas.Bool.Decides.{not_from_Decides}
use Rattle.std.proofs.lemmas.List.{take_more}
use Rattle.std.proofs.lemmas.Slice.Eq.{bytes_eq-Decides}
use Rattle.manifest.specs.declared.entry.FileSum.{FileSum}
use Rattle.manifest.specs.Entries.{AreApart, IsManifest, file_of, IsNoted, Lacks, Listed, Noted, noted, without}
use Rattle.manifest.specs.Places.{HasNameAt}

-- names that differ are not the same
differ : (a b : List ℕ) → bytes_eq a b ≡ false → a ≢ b
differ a b h = not_from_Decides (bytes_eq a b) (bytes_eq-Decides a b) h

same : (a b : List ℕ) → bytes_eq a b ≡ true → a ≡ b
same a b h = (bytes_eq-Decides a b).0 h

test_differ : (b : Bool) (P : Type 0) → Decides b P → ¬ P → b ≡ false
test_differ true P d other = absurd (other (d.0 refl))
test_differ false P d other = refl

tested_differ : (a b : List ℕ) → a ≢ b → bytes_eq a b ≡ false
tested_differ a b other = test_differ (bytes_eq a b) (a ≡ b) (bytes_eq-Decides a b) other

-- one element more has the property
pub all_push : {X : Type 0} (P : X → Type 0) (xs : List X) (x : X) → AllByRecursion P xs → P x
    → AllByRecursion P (xs ++ x ∷ [])
all_push P [] x h p = (p, tt)
all_push P (y ∷ ys) x h p = (h.0, all_push P ys x h.1 p)

pub lacks_more : (es : List Noted) (name : List ℕ) (i : ℕ) (d : Noted) → i < length es
    → Lacks name (take i es) → get_or es i d ≡ d → bytes_eq d.name name ≡ false → Lacks name (take (i + 1) es)
lacks_more es name i d within before here other =
    subst (Lacks name) (sym (take_more es i d within))
    (all_push (λ entry. entry.name ≢ name) (take i es) (get_or es i d) before
    (subst (λ (e : Noted). e.name ≢ name) (sym here) (differ d.name name other)))

pub place_is : (es : List Noted) (name : List ℕ) (i : ℕ) (d : Noted) → i < length es
    → Lacks name (take i es) → d ≡ get_or es i d → bytes_eq d.name name ≡ true → HasNameAt es name i
place_is es name i d within before here named =
    record { entry = d; within = within; here = sym here; named = same d.name name named; before = before }

-- what is noted at the place of its name
pub noted_at : (es : List Noted) (i : ℕ) (new d : Noted) → i < length es → Lacks new.name (take i es)
    → get_or es i d ≡ d → d.name ≡ new.name → noted new es ≡ slice_set es i new
noted_at [] i new d within before here named = absurd (omega arith)
noted_at (e ∷ es) zero new d within before here named =
    let is : e.name ≡ new.name = ap (λ (x : Noted). x.name) here ∙ named in
    ap (λ (b : Bool). cond b (new ∷ es) (e ∷ noted new es)) ((bytes_eq-Decides e.name new.name).1 is)
noted_at (e ∷ es) (suc i) new d within before here named =
    ap (λ (b : Bool). cond b (new ∷ es) (e ∷ noted new es)) (tested_differ e.name new.name before.0)
    ∙ ap (λ (xs : List Noted). e ∷ xs) (noted_at es i new d (omega arith) before.1 here named)

-- what is noted under a new name
pub noted_new : (es : List Noted) (new : Noted) → Lacks new.name es → noted new es ≡ es ++ new ∷ []
noted_new [] new lacks = refl
noted_new (e ∷ es) new lacks =
    ap (λ (b : Bool). cond b (new ∷ es) (e ∷ noted new es)) (tested_differ e.name new.name lacks.0)
    ∙ ap (λ (xs : List Noted). e ∷ xs) (noted_new es new lacks.1)

by_bool : (P : Bool → Type 0) (b : Bool) → (b ≡ true → P true) → (b ≡ false → P false) → P b
by_bool P true one other = one refl
by_bool P false one other = other refl

-- by whether two names are one
by_name : (P : Bool → Type 0) (a b : List ℕ) → (a ≡ b → P true) → (a ≢ b → P false) → P (bytes_eq a b)
by_name P a b one other =
    by_bool P (bytes_eq a b) (λ h. one (same a b h)) (λ h. other (differ a b h))

pub all_noted : (P : Noted → Type 0) (es : List Noted) (new : Noted) → AllByRecursion P es → P new
    → AllByRecursion P (noted new es)
all_noted P [] new h p = (p, tt)
all_noted P (e ∷ es) new h p =
    by_name (λ b. AllByRecursion P (cond b (new ∷ es) (e ∷ noted new es))) e.name new.name
    (λ is. (p, h.1)) (λ other. (h.0, all_noted P es new h.1 p))

pub apart_noted : (es : List Noted) (new : Noted) → AreApart es → AreApart (noted new es)
apart_noted [] new h = (tt, tt)
apart_noted (e ∷ es) new h =
    by_name (λ b. AreApart (cond b (new ∷ es) (e ∷ noted new es))) e.name new.name
    (λ is. (subst (λ (n : List ℕ). Lacks n es) is h.0, h.1))
    (λ other. (all_noted (λ entry. entry.name ≢ e.name) es new h.0 (λ is. other (sym is)), apart_noted es new h.1))

pub all_without : (P : Noted → Type 0) (name : List ℕ) (es : List Noted) → AllByRecursion P es
    → AllByRecursion P (without name es)
all_without P name [] h = tt
all_without P name (e ∷ es) h =
    by_name (λ b. AllByRecursion P (cond (not b) (e ∷ without name es) (without name es))) e.name name
    (λ is. all_without P name es h.1) (λ other. (h.0, all_without P name es h.1))

pub apart_without : (name : List ℕ) (es : List Noted) → AreApart es → AreApart (without name es)
apart_without name [] h = tt
apart_without name (e ∷ es) h =
    by_name (λ b. AreApart (cond (not b) (e ∷ without name es) (without name es))) e.name name
    (λ is. apart_without name es h.1)
    (λ other. (all_without (λ entry. entry.name ≢ e.name) name es h.0, apart_without name es h.1))

pub fewer_without : (name : List ℕ) (es : List Noted) → length (without name es) ≤ length es
fewer_without name [] = omega arith
fewer_without name (e ∷ es) =
    let h = fewer_without name es in
    by_name (λ b. length (cond (not b) (e ∷ without name es) (without name es)) ≤ suc (length es)) e.name name
    (λ is. omega (arith, h)) (λ other. omega (arith, h))

pub manifest_without : (it : Listed) (name : List ℕ) → IsManifest it
    → IsManifest (record { database = it.database; entries = without name it.entries })
manifest_without it name is =
    let fewer = fewer_without name it.entries in
    let few = is.few in
    record {
      database = is.database;
      few = omega arith;
      each = all_without IsNoted name it.entries is.each;
      apart = apart_without name it.entries is.apart;
    }

-- a manifest after a note, if it is not too long
pub manifest_noted : (it : Listed) (new : Noted) (entries : List Noted) → IsManifest it → IsNoted new
    → noted new it.entries ≡ entries → length entries ≤ 4096
    → IsManifest (record { database = it.database; entries = entries })
manifest_noted it new entries is fits e few =
    record {
      database = is.database;
      few = few;
      each = subst (AllByRecursion IsNoted) e (all_noted IsNoted it.entries new is.each fits);
      apart = subst AreApart e (apart_noted it.entries new is.apart);
    }

-- a manifest after an entry of a new name is added
pub manifest_added : (it value : Listed) (name text : List ℕ) (file : FileSum) (items : List Noted) → it ≡ value
    → IsManifest it → IsNoted (record { name = name; file = file }) → Lacks name value.entries
    → length value.entries < 4096 → text ≡ name
    → items ≡ it.entries ++ record { name = text; file = file } ∷ []
    → IsManifest (record { database = it.database; entries = items })
manifest_added it value name text file items view is fits lacks few named pushed =
    let new : Noted = record { name = name; file = file } in
    let absent : Lacks name it.entries = subst (λ (x : Listed). Lacks name x.entries) (sym view) lacks in
    let room : length it.entries < 4096 = subst (λ (x : Listed). length x.entries < 4096) (sym view) few in
    let whole : noted new it.entries ≡ items =
    noted_new it.entries new absent
    ∙ ap (λ (x : List ℕ). it.entries ++ record { name = x; file = file } ∷ []) (sym named) ∙ sym pushed in
    let long = ap length pushed ∙ length-append it.entries (record { name = text; file = file } ∷ []) in
    manifest_noted it new items is fits whole (omega (arith, long))

-- an element is one whatever the default
default_free : {X : Type 0} (xs : List X) (i : ℕ) (d e : X) → i < length xs → get_or xs i d ≡ get_or xs i e
default_free [] i d e h = absurd (omega arith)
default_free (x ∷ xs) zero d e h = refl
default_free (x ∷ xs) (suc i) d e h = default_free xs i d e (omega arith)

-- a manifest after a file is noted at the place of its name
pub at_place : (it : Listed) (es : List Noted) (i : ℕ) (name : List ℕ) (file : FileSum) (old : List ℕ) (was : Noted)
    → es ≡ it.entries → HasNameAt es name i → was ≡ get_or it.entries i was → was.name ≡ old
    → noted (record { name = name; file = file }) it.entries
    ≡ slice_set it.entries i (record { name = old; file = file })
at_place it es i name file old was same place here named =
    let new : Noted = record { name = name; file = file } in
    let there = subst (λ (x : List Noted). HasNameAt x name i) same place in
    let one : there.entry ≡ was = sym there.here ∙ default_free it.entries i there.entry was there.within ∙ sym here in
    let old_is : old ≡ name = sym named ∙ sym (ap (λ (x : Noted). x.name) one) ∙ there.named in
    noted_at it.entries i new there.entry there.within there.before there.here there.named
    ∙ ap (λ (x : List ℕ). slice_set it.entries i (record { name = x; file = file })) (sym old_is)

-- what is known under a name that no entry has
pub none_known : (name : List ℕ) (es : List Noted) → Lacks name es → file_of name es ≡ None
none_known name [] lacks = refl
none_known name (e ∷ es) lacks =
    ap (λ (b : Bool). cond b (Some e.file) (file_of name es)) (tested_differ e.name name lacks.0)
    ∙ none_known name es lacks.1

pub unknown_lacks : (name : List ℕ) (es : List Noted) → is_some (file_of name es) ≡ false → Lacks name es
unknown_lacks name [] none = tt
unknown_lacks name (e ∷ es) none =
    by_name (λ b. is_some (cond b (Some e.file) (file_of name es)) ≡ false → Lacks name (e ∷ es)) e.name name
    (λ is h. let wrong : true ≡ false = h in cc) (λ other h. (other, unknown_lacks name es h)) none

-- under its own name an entry is found first, and under another one it is passed over
first_known : (name : List ℕ) (e : Noted) (es : List Noted) → e.name ≡ name → file_of name (e ∷ es) ≡ Some e.file
first_known name e es is =
    ap (λ (b : Bool). cond b (Some e.file) (file_of name es)) ((bytes_eq-Decides e.name name).1 is)

passed_over : (name : List ℕ) (e : Noted) (es : List Noted) → e.name ≢ name → file_of name (e ∷ es) ≡ file_of name es
passed_over name e es other =
    ap (λ (b : Bool). cond b (Some e.file) (file_of name es)) (tested_differ e.name name other)

pub noted_known : (new : Noted) (es : List Noted) → file_of new.name (noted new es) ≡ Some new.file
noted_known new [] = first_known new.name new [] refl
noted_known new (e ∷ es) =
    by_name (λ b. file_of new.name (cond b (new ∷ es) (e ∷ noted new es)) ≡ Some new.file) e.name new.name
    (λ is. first_known new.name new es refl)
    (λ other. passed_over new.name e (noted new es) other ∙ noted_known new es)

pub others_kept : (new : Noted) (name : List ℕ) (es : List Noted) → name ≢ new.name
    → file_of name (noted new es) ≡ file_of name es
others_kept new name [] differs = passed_over name new [] (λ is. differs (sym is))
others_kept new name (e ∷ es) differs =
    by_name (λ b. file_of name (cond b (new ∷ es) (e ∷ noted new es)) ≡ file_of name (e ∷ es)) e.name new.name
    (λ is. passed_over name new es (λ one. differs (sym one))
    ∙ sym (passed_over name e es (λ one. differs (sym one ∙ is))))
    (λ other. ap (λ (known : Option FileSum). cond (bytes_eq e.name name) (Some e.file) known) (others_kept new name es differs))

pub removed_unknown : (name : List ℕ) (es : List Noted) → file_of name (without name es) ≡ None
removed_unknown name [] = refl
removed_unknown name (e ∷ es) =
    by_name (λ b. file_of name (cond (not b) (e ∷ without name es) (without name es)) ≡ None) e.name name
    (λ is. removed_unknown name es)
    (λ other. passed_over name e (without name es) other ∙ removed_unknown name es)

pub others_left : (gone name : List ℕ) (es : List Noted) → name ≢ gone
    → file_of name (without gone es) ≡ file_of name es
others_left gone name [] differs = refl
others_left gone name (e ∷ es) differs =
    by_name (λ b. file_of name (cond (not b) (e ∷ without gone es) (without gone es)) ≡ file_of name (e ∷ es)) e.name gone
    (λ is. others_left gone name es differs ∙ sym (passed_over name e es (λ one. differs (sym one ∙ is))))
    (λ other. ap (λ (known : Option FileSum). cond (bytes_eq e.name name) (Some e.file) known) (others_left gone name es differs))
