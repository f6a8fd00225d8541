-- Undo of a log, record by record.
use Rattle.std.proofs.Common.{◌≡◌, ◌∙◌, ℕ, ◌+◌, ◌<◌, ◌≤◌, List, [], ◌∷◌, ◌++◌, append-nil, append_assoc, get_or, length, map, refl, sym, ap, subst, arith}
use Rattle.std.proofs.Math.Seq.{get_or-append_seam}
use Rattle.std.proofs.lemmas.List.{length-map, length_push}
use Rattle.page_core.specs.declared.page.Page.{Page}
use Rattle.log_records.specs.declared.limits.TheConstants.{MAX_RECORDS}
use Rattle.log_records.specs.declared.record.Record.{Record}
use Rattle.log_records.specs.Image.{AreNumbered, image_from, with_record}
use Rattle.log_records.specs.Log.{IsLog, IsWithin, Log, page_count}
use Rattle.log_records.proofs.Public.{image_from-append, images-none, numbered-images, stands_in}
use Rattle.log_rules.specs.Table.{TxnEntry}
use Rattle.log_rules.specs.Transactions.{owed}
use Rattle.loser_undo.specs.Losers.{AreLosersOf}
use Rattle.loser_undo.specs.Undo.{after_undo}
use Rattle.loser_undo.specs.UndoRecords.{HasYielded, UndoView}
use Rattle.loser_undo.specs.UndoSink.{HasComeTo, HasRedone, MayBeUndone}
use Rattle.loser_undo.proofs.Pages.{undone_count}

pub nothing_yet : (log : Log) (losers : List TxnEntry) (count : ℕ) → MayBeUndone log losers count
    → HasYielded log [] (record { losers = losers; count = count })
nothing_yet log losers count may =
    let whole = sym (append-nil log.records) in
    let all = ap (length {A = Record}) whole in
    let debt = ap owed whole in
    record {
      valid = subst (λ (rs : List Record). IsLog (record log { records = rs })) whole may.valid;
      losers = subst (λ (rs : List Record). AreLosersOf rs losers) whole may.made;
      count = may.count_is ∙ all;
      room = omega (arith, all, debt);
      fits = may.room;
      goes_on = ap after_undo (sym whole);
    }

many : (log : Log) (behind : List Record) (r : Record)
    → length (log.records ++ (behind ++ r ∷ [])) ≡ length (log.records ++ behind) + 1
many log behind r =
    ap (length {A = Record}) (sym (append_assoc log.records behind (r ∷ [])))
    ∙ length_push (log.records ++ behind) r

-- the log would be longer, and still not too long
pub next_counted : (log : Log) (behind : List Record) (undo new : UndoView) (r : Record) → HasYielded log behind undo
    → HasYielded log (behind ++ r ∷ []) new → (undo.count < new.count) × (new.count ≤ MAX_RECORDS)
next_counted log behind undo new r has more =
    let before = has.count in
    let after = more.count in
    let room = more.room in
    let fits = more.fits in
    (omega (arith, before, after, many log behind r), omega (arith, after, room, fits))

-- ---- on the pages

pub nothing_redone : (log : Log) (pages : List Page) → length pages ≡ page_count log → AreNumbered pages
    → HasRedone log pages [] pages
nothing_redone log pages all numbered = record { all = all; numbered = numbered; made = images-none pages }

images_push : (start : List Page) (behind : List Record) (r : Record)
    → map (λ page. with_record page r) (map (λ page. image_from page behind) start)
    ≡ map (λ page. image_from page (behind ++ r ∷ [])) start
images_push [] behind r = refl
images_push (page ∷ pages) behind r =
    ap (λ (q : Page). q ∷ map (λ page. with_record page r) (map (λ page. image_from page behind) pages))
    (sym (image_from-append page behind (r ∷ [])))
    ∙ ap (λ (qs : List Page). image_from page (behind ++ r ∷ []) ∷ qs) (images_push pages behind r)

module _ (log : Log) (start : List Page) (behind : List Record) (pages : List Page)
    (is : HasRedone log start behind pages) where
  pub still_numbered : AreNumbered pages
  still_numbered = subst AreNumbered (sym is.made) (numbered-images start behind is.numbered)

  pub next_within : (r : Record) → HasComeTo log (behind ++ r ∷ []) → IsWithin (length pages) r
  next_within r come =
      let more = come.1 in
      let n = length (log.records ++ behind) in
      let whole : Log = record log { records = log.records ++ (behind ++ r ∷ []) } in
      let stands = stands_in whole more.valid n r (omega (arith, many log behind r)) in
      let last = ap (λ (rs : List Record). get_or rs n r)
      (sym (append_assoc log.records behind (r ∷ [])))
      ∙ get_or-append_seam (log.records ++ behind) r [] r in
      let goes : after_undo (log.records ++ (behind ++ r ∷ [])) ≡ after_undo log.records = more.goes_on in
      let long : page_count whole ≡ length pages =
      undone_count whole ∙ ap (λ (rs : List Record). page_count (record log { records = rs })) goes
      ∙ sym (undone_count log) ∙ sym is.all
      ∙ sym (ap length is.made ∙ length-map start (λ page. image_from page behind)) in
      subst (λ (m : ℕ). IsWithin m r) long (subst (IsWithin (page_count whole)) last stands.within)

  pub next_redone : (r : Record) (after : List Page) → after ≡ map (λ page. with_record page r) pages
      → HasRedone log start (behind ++ r ∷ []) after
  next_redone r after redone = record {
    all = is.all;
    numbered = is.numbered;
    made = redone ∙ ap (map (λ page. with_record page r)) is.made ∙ images_push start behind r;
  }
