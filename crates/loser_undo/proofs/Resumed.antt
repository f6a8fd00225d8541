-- Redo from a redo point on leaves a log with its master record and its pages what it is.
use Rattle.std.proofs.Common.{ℕ, ◌<◌, List, get_or, length, map, ap, ◌∙◌, arith}
use Rattle.std.specs.List.{filter}
use Rattle.std.proofs.lemmas.List.{get_or-map, length-map}
use Rattle.page_core.specs.declared.page.Page.{Page}
use Rattle.page_core.specs.Volume.{AreNumbered}
use Rattle.log_records.specs.declared.record.Record.{Record}
use Rattle.log_records.specs.Coverage.{is_resumed, resume}
use Rattle.log_records.proofs.Public.{number-image_from}
use Rattle.log_rules.specs.Table.{TxnEntry}
use Rattle.loser_undo.specs.Recovery.{IsRedone, Recovery}

-- nor does redo change the pages' numbers
pub numbered_resumed : (pages : List Page) (rs : List Record) (from : ℕ) → AreNumbered pages
    → AreNumbered (map (λ page. resume page rs from) pages)
numbered_resumed pages rs from numbers = λ k d lt.
    let below : k < length pages = omega (arith, length-map pages (λ page. resume page rs from)) in
    let page = get_or pages k d in
    ap (λ (q : Page). q.number) (get_or-map (λ page. resume page rs from) pages k d d below)
    ∙ number-image_from page (filter (is_resumed from page.lsn) rs) ∙ numbers k d below

pub still_redone : (r : Recovery) (losers : List TxnEntry) (from : ℕ) → IsRedone r losers
    → IsRedone (record r { pages = map (λ page. resume page r.log.records from) r.pages }) losers
still_redone r losers from is = record {
  is = record {
    valid = is.is.valid;
    linked = is.is.linked;
    count = length-map r.pages (λ page. resume page r.log.records from) ∙ is.is.count;
    numbered = numbered_resumed r.pages r.log.records from is.is.numbered;
  };
  made = is.made;
}
