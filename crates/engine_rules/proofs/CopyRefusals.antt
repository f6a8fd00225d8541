-- The refusals of calls on copies, by the master and the entries of the copies alone.
use Rattle.std.proofs.Common.{◌≡◌, ℕ, ◌+◌, Bool, not, List, [], ◌∷◌, length, get_or, refl, sym, ap}
use Rattle.std.proofs.Common.{◌∙◌, inl, inr}
use Rattle.std.specs.Prelude.{Option, Some, None, map, is_none, is_some, nat_le, nat_lt}
use Rattle.std.specs.Prelude.{if◌then◌else◌}
use Rattle.std.specs.List.{position, position_or_len}
use Rattle.std.specs.Option.{option_map, option_or}
use Rattle.std.proofs.Math.ListN.{get_or-map}
use Rattle.std.proofs.lemmas.Bool.{cases_lt, le-leb, lt-leb, lt-ltb, le-ltb}
use Rattle.std.proofs.lemmas.List.{length-map}
use Rattle.copy_vault.specs.declared.copy_id.TheConstants.{MAX_COPIES}
use Rattle.copy_vault.specs.declared.fault.CopyFault.{CopyFault}
use Rattle.copy_vault.specs.declared.fault.CopyFault.TheVariants as fault
use Rattle.page_decisions.specs.Decisions.{PageDecision, is_undecided, kept, least_undecided, taken}
use Rattle.page_decisions.specs.Decisions.{undecided}
use Rattle.copy_vault.specs.Vault.{CopyState, complete, complete_refusal, drop_refusal, dropped}
use Rattle.copy_vault.specs.Vault.{open_refusal, reading, seal_refusal, state_of}
use Rattle.fuzzy_ckpt.specs.declared.point.Point.{Point}
use Rattle.engine_calls.specs.declared.event.Event.{Event}
use Rattle.engine_calls.specs.declared.event.Event.TheVariants as event
use Rattle.engine_calls.specs.declared.refusal.Refusal.{Refusal}
use Rattle.engine_calls.specs.declared.refusal.Refusal.TheVariants.{NoMaster, PageDecided, PageOut}
use Rattle.engine_calls.specs.declared.refusal.Refusal.TheVariants.{PagesLeft, WriteBegun}
use Rattle.engine_calls.specs.declared.refusal.Refusal.TheVariants.{TooManyCopies}
use Rattle.engine_rules.specs.Catalogue.{CatalogueEntry, catalogue_refusal, count_refusal, entry_at}
use Rattle.engine_rules.specs.Catalogue.{entry_of, has_mark, has_no_mark, mark_of, marks_of}
use Rattle.engine_rules.specs.Catalogue.{not_decided, parent_refusal, reading_refusal}
use Rattle.engine_rules.specs.EngineState.{EngineState, image_of, volume_pages}
use Rattle.engine_rules.specs.Refusal.{has_decided, or_else, refusal, refused_if, pages_in}
use Rattle.engine_calls.specs.Refusal.{of_vault}
use Rattle.engine_rules.proofs.Catalogues.{entries, entry_is}

-- ---- how many copies

count_at : (n : ℕ) → option_map of_vault (if nat_lt n MAX_COPIES then None else Some fault.TooManyCopies)
    ≡ refused_if (nat_le MAX_COPIES n) TooManyCopies
count_at n = elim (cases_lt n MAX_COPIES) [
  | inl lt ↦ rw (lt-ltb n MAX_COPIES lt, lt-leb MAX_COPIES n lt) refl
  | inr le ↦ rw (le-ltb n MAX_COPIES le, le-leb MAX_COPIES n le) refl
]

count_is : (copies : List CopyState) → option_map of_vault (open_refusal copies) ≡ count_refusal (entries copies)
count_is copies =
    count_at (length copies)
    ∙ ap (λ (n : ℕ). refused_if (nat_le MAX_COPIES n) TooManyCopies) (sym (length-map copies entry_of))

-- ---- the state of one copy

reading_is : (state : CopyState) → option_map of_vault (drop_refusal state) ≡ reading_refusal (entry_of state)
reading_is (reading copy) = refl
reading_is (complete copy) = refl
reading_is dropped = refl

inc_is : (state : CopyState) (o : Option CopyFault) → option_map of_vault (option_or (complete_refusal state) o)
    ≡ or_else (parent_refusal (entry_of state)) (option_map of_vault o)
inc_is (reading copy) o = refl
inc_is (complete copy) o = refl
inc_is dropped o = refl

no_mark_is : (decision : PageDecision) → has_no_mark (mark_of decision) ≡ is_undecided decision
no_mark_is undecided = refl
no_mark_is (taken page) = refl
no_mark_is kept = refl

mark_at : (pages : List PageDecision) (p : ℕ)
    → not (is_undecided (get_or pages p undecided)) ≡ not (has_no_mark (get_or (map mark_of pages) p not_decided))
mark_at pages p =
    ap not (sym (ap has_no_mark (get_or-map mark_of pages p undecided) ∙ no_mark_is (get_or pages p undecided)))

take_is : (state : CopyState) (p : ℕ)
    → or_else (option_map of_vault (drop_refusal state))
    (or_else (refused_if (nat_le (pages_in state) p) PageOut) (refused_if (has_decided state p) PageDecided))
    ≡ or_else (reading_refusal (entry_of state))
    (or_else (refused_if (nat_le (length (marks_of (entry_of state))) p) PageOut)
    (refused_if (has_mark (entry_of state) p) PageDecided))
take_is (reading copy) p =
    ap (λ (b : Bool). or_else (refused_if (nat_le (length copy.pages) p) PageOut) (refused_if b PageDecided))
    (mark_at copy.pages p)
    ∙ ap (λ (n : ℕ). or_else (refused_if (nat_le n p) PageOut) (refused_if (has_mark (entry_of (reading copy)) p)
    PageDecided)) (sym (length-map copy.pages mark_of))
take_is (complete copy) p = refl
take_is dropped p = refl

-- ---- the least page that is left

first_is : (pages : List PageDecision)
    → position_or_len has_no_mark (map mark_of pages) ≡ position_or_len is_undecided pages
first_is [] = refl
first_is (undecided ∷ pages) = refl
first_is (taken page ∷ pages) = ap (λ n. 1 + n) (first_is pages)
first_is (kept ∷ pages) = ap (λ n. 1 + n) (first_is pages)

least_is : (pages : List PageDecision) → position has_no_mark (map mark_of pages) ≡ least_undecided pages
least_is pages = rw (first_is pages, length-map pages mark_of) refl

left_is : (o : Option ℕ) → option_map of_vault (option_map fault.PagesLeft o) ≡ option_map PagesLeft o
left_is None = refl
left_is (Some p) = refl

seal_is : (state : CopyState) → option_map of_vault (seal_refusal state)
    ≡ or_else (reading_refusal (entry_of state))
    (option_map PagesLeft (position has_no_mark (marks_of (entry_of state))))
seal_is (reading copy) =
    left_is (least_undecided copy.pages) ∙ ap (option_map PagesLeft) (sym (least_is copy.pages))
seal_is (complete copy) = refl
seal_is dropped = refl

-- ---- each call

master_is : (o : Option Point) → is_none o ≡ not (is_some o)
master_is None = refl
master_is (Some point) = refl

abbrev pub by_catalogue : EngineState → Event → Option Refusal
by_catalogue s event = catalogue_refusal (is_some s.master) (volume_pages s) (entries s.copies) event

pub full_by_catalogue : (s : EngineState) → refusal s event.CopyFull ≡ by_catalogue s event.CopyFull
full_by_catalogue s =
    ap (λ (b : Bool). or_else (refused_if b NoMaster) (option_map of_vault (open_refusal s.copies)))
    (master_is s.master)
    ∙ ap (or_else (refused_if (not (is_some s.master)) NoMaster)) (count_is s.copies)

pub inc_by_catalogue : (s : EngineState) (parent : ℕ)
    → refusal s (event.CopyInc parent) ≡ by_catalogue s (event.CopyInc parent)
inc_by_catalogue s parent =
    inc_is (state_of s.copies parent) (open_refusal s.copies)
    ∙ ap (or_else (parent_refusal (entry_of (state_of s.copies parent)))) (count_is s.copies)
    ∙ ap (λ (e : CatalogueEntry). or_else (parent_refusal e) (count_refusal (entries s.copies))) (sym (entry_is s.copies parent))

pub take_by_catalogue : (s : EngineState) (copy page : ℕ)
    → refusal s (event.Take copy page) ≡ by_catalogue s (event.Take copy page)
take_by_catalogue s copy page =
    take_is (state_of s.copies copy) page
    ∙ ap (λ (e : CatalogueEntry). or_else (reading_refusal e)
    (or_else (refused_if (nat_le (length (marks_of e)) page) PageOut) (refused_if (has_mark e page) PageDecided)))
    (sym (entry_is s.copies copy))

pub seal_by_catalogue : (s : EngineState) (copy : ℕ) → refusal s (event.Seal copy) ≡ by_catalogue s (event.Seal copy)
seal_by_catalogue s copy =
    seal_is (state_of s.copies copy)
    ∙ ap (λ (e : CatalogueEntry). or_else (reading_refusal e) (option_map PagesLeft (position has_no_mark (marks_of e))))
    (sym (entry_is s.copies copy))

pub drop_by_catalogue : (s : EngineState) (copy : ℕ)
    → refusal s (event.DropCopy copy) ≡ by_catalogue s (event.DropCopy copy)
drop_by_catalogue s copy = reading_is (state_of s.copies copy) ∙ ap reading_refusal (sym (entry_is s.copies copy))

complete_is : (state : CopyState) → option_map of_vault (complete_refusal state) ≡ parent_refusal (entry_of state)
complete_is (reading copy) = refl
complete_is (complete copy) = refl
complete_is dropped = refl

-- one after another, from either end
or_else_assoc : (a b c : Option Refusal) → or_else a (or_else b c) ≡ or_else (or_else a b) c
or_else_assoc None b c = refl
or_else_assoc (Some why) b c = refl

pub repair_by_catalogue : (s : EngineState) (copy page : ℕ) → refusal s (event.Repair copy page)
    ≡ or_else (by_catalogue s (event.Repair copy page)) (refused_if (is_some (image_of s page)) WriteBegun)
repair_by_catalogue s copy page =
    let out = refused_if (nat_le (volume_pages s) page) PageOut in
    let begun = refused_if (is_some (image_of s page)) WriteBegun in
    ap (λ (o : Option Refusal). or_else o (or_else out begun)) (complete_is (state_of s.copies copy)
    ∙ ap parent_refusal (sym (entry_is s.copies copy)))
    ∙ or_else_assoc (parent_refusal (entry_at (entries s.copies) copy)) out begun
