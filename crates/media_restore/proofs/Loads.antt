-- What is loaded of a copy, and what redo makes of it.
use Rattle.std.proofs.Common.{◌≡◌, ℕ, suc, ◌+◌, ◌-◌, ◌<◌, ◌≤◌, List, ◌∷◌, ◌++◌, length, get_or, map, take, refl, sym}
use Rattle.std.proofs.Common.{ap, subst}
use Rattle.std.proofs.Common.{◌∙◌, arith, min}
use Rattle.std.specs.Prelude.{Option, Some, None, IfSome, nat_lt, true, false, Bool, if◌then◌else◌}
use Rattle.std.proofs.Math.Seq.{get_or-append_right, take-append-add}
use Rattle.std.proofs.lemmas.Bool.{ltb-false}
use Rattle.std.proofs.lemmas.List.{get_or-map, length-append, length-map, same_lists, take_min}
use Rattle.std.proofs.lemmas.List.FromFn.{get_or-map-range_with_len, length-map-range_with_len, take-map-range_with_len}
use Rattle.page_core.specs.declared.page.Page.{Page}
use Rattle.log_records.specs.declared.limits.TheConstants.{MAX_RECORDS}
use Rattle.log_records.specs.declared.record.Record.{Record}
use Rattle.log_records.specs.Coverage.{resume}
use Rattle.log_records.specs.Image.{image, redo_all}
use Rattle.log_records.specs.Log.{IsLog, Log, lsn_of, page_count}
use Rattle.log_records.proofs.Public.{page_count_at-not_more}
use Rattle.copy_vault.proofs.Public.{contents_numbered}
use Rattle.log_records.specs.Record.{own_lsn}
use Rattle.log_records.specs.declared.record.Record.TheVariants.{EndChkpt}
use Rattle.log_rules.specs.Checkpoint.{IsCompleteCheckpoint}
use Rattle.log_rules.specs.Transactions.{owed}
use Rattle.log_rules.proofs.Public.{linked-take}
use Rattle.log_store.specs.declared.master.Master.{Master}
use Rattle.copy_vault.specs.Chain.{IsChain, content, contents, last_redo}
use Rattle.copy_vault.specs.ChainOf.{IsChainOf}
use Rattle.copy_vault.specs.Copy.{CopyView}
use Rattle.copy_vault.specs.Vault.{state_of}
use Rattle.copy_coverage.specs.Kept.{IsKeptOf}
use Rattle.copy_coverage.specs.Retired.{NamesCheckpoint, IsRetired, RetiredView}
use Rattle.copy_coverage.proofs.Public.{restored_of_members}
use Rattle.copy_coverage.proofs.Public.{prefix_is_log}
use Rattle.media_restore.specs.declared.fault.LoadFault.{LoadFault}
use Rattle.media_restore.specs.declared.fault.LoadFault.TheVariants.{CutTooShort}
use Rattle.media_restore.specs.Load.{IsLoaded, copy_refusal, cut_refusal, first_of, forced_count, kept_log}
use Rattle.media_restore.specs.Load.{load_refusal}

-- ---- the kept log

small_cut : (kept forced : ℕ) → (if nat_lt kept forced then Some (CutTooShort forced) else None) ≡ None → forced ≤ kept
small_cut kept forced e = by_test (nat_lt kept forced) refl e
  where
    by_test : (b : Bool) → nat_lt kept forced ≡ b → (if b then Some (CutTooShort forced) else None) ≡ None
        → forced ≤ kept
    by_test true is e = cc
    by_test false is e = ltb-false kept forced is

-- a cut of what was retired is not refused
abbrev pub MayCut : RetiredView → ℕ → Type 0
MayCut it cut = cut_refusal it.forced_end (length it.log.records) cut ≡ None

pub kept_of : (it : RetiredView) (cut : ℕ) → IsRetired it → MayCut it cut
    → IsKeptOf it.log it.forced_end (kept_log it.log cut)
kept_of it cut retired fine =
    let rs = it.log.records in
    let end = retired.forced.2 in
    let enough = small_cut (min cut (length rs)) (forced_count it.forced_end) fine in
    record {
      count = min cut (length rs);
      within = omega arith;
      forced = omega arith;
      made = ap (λ (xs : List Record). record it.log { records = xs }) (sym (take_min cut rs));
    }

-- what is open at its end can be taken back
pub room_of : (it : RetiredView) (kept : Log) → IsRetired it → IsKeptOf it.log it.forced_end kept
    → length kept.records + owed kept.records ≤ MAX_RECORDS
room_of it kept retired is =
    subst (λ (log : Log). length log.records + owed log.records ≤ MAX_RECORDS) (sym is.made)
    (retired.room is.count is.within is.forced)

complete_in : (log : Log) (n begin end : ℕ) → IsLog log → n ≤ length log.records
    → IsCompleteCheckpoint log.records begin end → end < lsn_of n → IsCompleteCheckpoint (take n log.records) begin end
complete_in log n begin end valid le is lt =
    let rs = log.records in
    let r = EndChkpt end begin is.redo in
    let k = length is.before in
    let long : length rs ≡ k + (1 + length is.behind) =
    ap length is.ended ∙ length-append is.before (r ∷ is.behind) ∙ omega arith in
    let here : get_or rs k r ≡ r = ap (λ (xs : List Record). get_or xs k r) is.ended ∙
    (let zero : k - k ≡ 0 = omega arith in
    get_or-append_right is.before (r ∷ is.behind) k r (omega arith)
    ∙ ap (λ (i : ℕ). get_or (r ∷ is.behind) i r) zero) in
    let own : end ≡ lsn_of k = sym (ap own_lsn here) ∙ (valid.records k r (omega arith)).lsn in
    let room : n ≡ k + suc (n - k - 1) = omega arith in
    record {
      before = is.before;
      behind = take (n - k - 1) is.behind;
      redo = is.redo;
      ended = ap (take n) is.ended ∙ ap (λ (i : ℕ). take i (is.before ++ r ∷ is.behind)) room
          ∙ take-append-add is.before (r ∷ is.behind) (suc (n - k - 1));
      begun = is.begun;
    }

pub checkpoint_in : (it : RetiredView) (kept : Log) (master : Master) → IsRetired it → it.master ≡ Some master
    → IsKeptOf it.log it.forced_end kept → IsCompleteCheckpoint kept.records master.begin master.end
checkpoint_in it kept master retired is crash =
    let named = subst (λ (o : Option Master). IfSome o (NamesCheckpoint it.log.records it.forced_end)) is retired.master in
    let below = named.forced in
    let high = crash.forced in
    subst (λ (log : Log). IsCompleteCheckpoint log.records master.begin master.end) (sym crash.made)
    (complete_in it.log crash.count master.begin master.end retired.valid crash.within named.complete (omega arith))

pub checkpoint_of : (it : RetiredView) (cut : ℕ) (master : Master) → IsRetired it → it.master ≡ Some master
    → IsKeptOf it.log it.forced_end (kept_log it.log cut)
    → IsCompleteCheckpoint (kept_log it.log cut).records master.begin master.end
checkpoint_of it cut master retired is kept = checkpoint_in it (kept_log it.log cut) master retired is kept

-- ---- the pages

-- of the pages that were loaded, those that the volume had where the log is cut
pub pages_at_cut : (it : RetiredView) (cut count left : ℕ) (members : List CopyView) (all pages : List Page)
    → all ≡ contents members count → count ≡ page_count it.log → left ≡ page_count (kept_log it.log cut)
    → pages ≡ take left all → pages ≡ contents members (page_count (kept_log it.log cut))
pages_at_cut it cut count left members all pages loaded counted few is =
    is ∙ ap (λ (n : ℕ). take n all) few
    ∙ ap (take (page_count (kept_log it.log cut))) (loaded ∙ ap (contents members) counted)
    ∙ take-map-range_with_len (content members) 0 (page_count it.log) (page_count (kept_log it.log cut))
    (page_count_at-not_more it.log cut)

each_resumed : (it : RetiredView) (cut id : ℕ) (members : List CopyView) (p : ℕ) → IsRetired it → IsChain members
    → IsChainOf it.copies id members → IsKeptOf it.log it.forced_end (kept_log it.log cut)
    → resume (content members p) (kept_log it.log cut).records (last_redo members)
    ≡ image (kept_log it.log cut).records p
each_resumed it cut id members p retired chain of_id kept =
    restored_of_members it.log it.forced_end it.copies (kept_log it.log cut) id members p retired.valid retired.copies
    kept chain of_id

pub all_restored : (it : RetiredView) (cut id : ℕ) (members : List CopyView) → IsRetired it → IsChain members
    → IsChainOf it.copies id members → IsKeptOf it.log it.forced_end (kept_log it.log cut)
    → map (λ page. resume page (kept_log it.log cut).records (last_redo members))
    (contents members (page_count (kept_log it.log cut)))
    ≡ redo_all (kept_log it.log cut).records (page_count (kept_log it.log cut))
all_restored it cut id members retired chain of_id kept =
    let rs = (kept_log it.log cut).records in
    let n = page_count (kept_log it.log cut) in
    let f = λ (page : Page). resume page rs (last_redo members) in
    let long = length-map-range_with_len (content members) 0 n in
    same_lists (map f (contents members n)) (redo_all rs n)
    (length-map (contents members n) f ∙ long ∙ sym (length-map-range_with_len (image rs) 0 n))
    (λ k d lt.
    let below : k < n = omega (arith, length-map (contents members n) f, long) in
    get_or-map f (contents members n) k d d (omega arith)
    ∙ ap f (get_or-map-range_with_len (content members) 0 n k k d below (omega arith))
    ∙ each_resumed it cut id members k retired chain of_id kept
    ∙ sym (get_or-map-range_with_len (image rs) 0 n k k d below (omega arith)))

-- ---- all of it

pub loaded : (it : RetiredView) (cut id : ℕ) (master : Master) (members : List CopyView) → IsRetired it
    → it.master ≡ Some master → IsChain members → IsChainOf it.copies id members → MayCut it cut
    → IsLoaded (record {
      log = kept_log it.log cut;
      master = master;
      pages = contents members (page_count (kept_log it.log cut));
      redo = last_redo members;
    })
loaded it cut id master members retired is chain of_id fine =
    let kept = kept_of it cut retired fine in record {
      is = record {
        valid = subst IsLog (sym kept.made) (prefix_is_log it.log kept.count retired.valid kept.within);
        linked = linked-take it.log.records retired.linked cut;
        count = length-map-range_with_len (content members) 0 (page_count (kept_log it.log cut));
        numbered = contents_numbered members (page_count (kept_log it.log cut)) chain;
      };
      checkpoint = checkpoint_of it cut master retired is kept;
    }

first_none : (a b : Option LoadFault) → first_of a b ≡ None → (a ≡ None) × (b ≡ None)
first_none None b e = (refl, e)
first_none (Some fault) b e = cc

pub cut_is_fine : (it : RetiredView) (id cut : ℕ) → load_refusal it id cut ≡ None → MayCut it cut
cut_is_fine it id cut e =
    (first_none (copy_refusal (state_of it.copies id)) (cut_refusal it.forced_end (length it.log.records) cut) e).1
