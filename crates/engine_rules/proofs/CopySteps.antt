-- The image copies of an engine as calls on them begin them, and go on with them.
use Rattle.std.proofs.Common.{◌≡◌, ℕ, zero, suc, ◌+◌, ◌<◌, List, length, get_or, refl, sym, ap}
use Rattle.std.proofs.Common.{subst, arith, inl, inr}
use Rattle.std.specs.Prelude.{Option, Some, None, IfSome, IsSome}
use Rattle.std.specs.Option.{option_map_or}
use Rattle.std.proofs.Math.ListN.{get_or-eq_default}
use Rattle.std.proofs.lemmas.Bool.{cases_lt}
use Rattle.std.proofs.lemmas.List.{get_or_default}
use Rattle.page_core.specs.declared.page.Page.{Page}
use Rattle.page_core.specs.Page.{formatted}
use Rattle.log_records.specs.declared.record.Record.{Record}
use Rattle.log_records.specs.Coverage.{Covers, IsPast}
use Rattle.fuzzy_ckpt.specs.declared.point.Point.{Point}
use Rattle.copy_vault.specs.declared.copy_id.CopyKind.{CopyKind}
use Rattle.copy_vault.specs.declared.copy_id.CopyKind.TheVariants.{Inc}
use Rattle.copy_vault.specs.declared.copy_id.TheConstants.{MAX_COPIES}
use Rattle.copy_vault.specs.Copy.{CopyView}
use Rattle.copy_vault.specs.Vault.{opened as opened_with}
use Rattle.copy_vault.specs.Vault.{CopyState, HasParent, complete, decided, dropped, state_of}
use Rattle.copy_coverage.specs.Copied.{AreCopied, IsPoint, copy_in}
use Rattle.copy_coverage.proofs.Public.{copied_decided, copied_opened, count_below-not_more}
use Rattle.copy_coverage.proofs.Public.{begin_before_end, point_of}
use Rattle.engine_calls.specs.declared.event.Event.TheVariants as event
use Rattle.engine_rules.specs.EngineState.{EngineState, IsFit, IsMasterOf, log_of, stored_page}
use Rattle.engine_rules.specs.EngineState.{opened_copy}
use Rattle.engine_rules.specs.Refusal.{refusal}
use Rattle.engine_rules.proofs.CopyPasses.{inc_passes, take_passes}
use Rattle.log_records.specs.Log.{page_count_below}

-- ---- a copy begins

early_begin : (s : EngineState) → IsFit s → (master : Option Point) → s.master ≡ master → IsSome master
    → option_map_or (λ p. p.begin) master 0 < s.forced_end
early_begin s fit None is some = cc
early_begin s fit (Some point) is some =
    let named = subst (λ (o : Option Point). IfSome o (IsMasterOf (log_of s) s.stored s.forced_end)) is fit.master in
    let low = begin_before_end (log_of s) point.begin point.end named.complete fit.valid in
    let forced = named.forced in
    omega arith

none_below : (rs : List Record) (p : ℕ) (page : Page) → IsPast rs p page → Covers rs p page 0
none_below rs p page past = record { past = past; reached = λ i d lt below. absurd (omega arith) }

covered_by : (s : EngineState) → IsFit s → (master : Option Point) → s.master ≡ master → (p : ℕ) (d : Page)
    → p < length s.stored → Covers s.log p (get_or s.stored p d) (option_map_or (λ q. q.redo) master 0)
covered_by s fit None is p d lt = none_below s.log p (get_or s.stored p d) (fit.stored.pages p d lt).past
covered_by s fit (Some point) is p d lt =
    (subst (λ (o : Option Point). IfSome o (IsMasterOf (log_of s) s.stored s.forced_end)) is fit.master).covered p d lt

noted_by : (s : EngineState) → IsFit s → (master : Option Point) → s.master ≡ master → IsSome master
    → IsPoint (option_map_or (λ p. p.begin) master 0) (option_map_or (λ p. p.redo) master 0)
noted_by s fit None is some = cc
noted_by s fit (Some point) is some =
    let named = subst (λ (o : Option Point). IfSome o (IsMasterOf (log_of s) s.stored s.forced_end)) is fit.master in
    subst (IsPoint point.begin) (sym named.same_redo)
    (point_of (log_of s) point.begin point.end named.complete fit.valid fit.linked)

-- a copy has as many pages as the volume had where the master's checkpoint began
pages_by : (s : EngineState) → IsFit s → (master : Option Point) → s.master ≡ master → IsSome master
    → page_count_below (log_of s) (option_map_or (λ p. p.begin) master 0) ≡ option_map_or (λ p. p.pages) master 0
pages_by s fit None is some = cc
pages_by s fit (Some point) is some =
    sym (subst (λ (o : Option Point). IfSome o (IsMasterOf (log_of s) s.stored s.forced_end)) is fit.master).same_pages

pub opens : (s : EngineState) (kind : CopyKind) → IsFit s → length s.copies < MAX_COPIES → IsSome s.master
    → HasParent s.copies (length s.copies + 1) kind
    → AreCopied (log_of s) s.forced_end s.stored (opened_copy s kind).state.copies
opens s kind fit few some parent =
    let begin = option_map_or (λ p. p.begin) s.master 0 in
    let redo = option_map_or (λ p. p.redo) s.master 0 in
    subst (λ (n : ℕ). AreCopied (log_of s) s.forced_end s.stored (opened_with s.copies kind n begin redo))
    (pages_by s fit s.master refl some)
    (copied_opened (log_of s) s.forced_end s.stored s.copies kind begin redo fit.valid fit.copied few
    (noted_by s fit s.master refl some) (early_begin s fit s.master refl some) parent
    (λ p d lt. covered_by s fit s.master refl p d lt))

within_ids : (copies : List CopyState) (id : ℕ) (copy : CopyView) → state_of copies id ≡ complete copy
    → id < length copies + 1
within_ids copies zero copy is = cc
within_ids copies (suc k) copy is = elim (cases_lt k (length copies)) [
  | inl lt ↦ omega arith
  | inr le ↦ let gone : state_of copies (suc k) ≡ dropped = get_or-eq_default copies dropped le in cc
]

pub has_parent : (s : EngineState) (parent : ℕ) → IsFit s → refusal s (event.CopyInc parent) ≡ None
    → HasParent s.copies (length s.copies + 1) (Inc parent)
has_parent s parent fit none =
    let there = inc_passes s parent none in
    record {
      before = within_ids s.copies parent there.0 there.1;
      copy = there.0;
      is_complete = there.1;
    }

-- ---- a copy goes on

pub takes : (s : EngineState) (copy page : ℕ) → IsFit s → refusal s (event.Take copy page) ≡ None
    → AreCopied (log_of s) s.forced_end s.stored (decided s.copies copy page (stored_page s page))
takes s copy page fit none =
    let passes = take_passes s copy page none in
    let view = passes.view in
    let there : page < length s.stored =
    omega (
      arith,
      passes.within,
      (fit.copied.each copy view (ap copy_in passes.is_read)).whole,
      count_below-not_more (log_of s) view.begin,
      fit.counted.stored,
    ) in
    let taken = stored_page s page in
    let same : taken ≡ get_or s.stored page taken = get_or_default s.stored page (formatted page) taken there in
    copied_decided (log_of s) s.forced_end s.stored s.copies copy page view taken fit.copied passes.is_read
    passes.within there same
    (subst (λ (q : Page). q.lsn < s.forced_end) (sym same) (fit.stable.pages page taken there))
