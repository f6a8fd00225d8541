use Rattle.std.proofs.Common.{◌≡◌, ◌∙◌, ◌-◌, ◌<◌, ◌++◌, [], ◌∷◌, List, ap, sym, subst, rules, length}
use Rattle.std.specs.Vec.{vec_capacity, vec_len}
use Rattle.log_records.specs.declared.record.Record.{Record}
use Rattle.log_records.specs.Log.{StandsAt, lsn_of, page_count}
use Rattle.log_records.specs.PageCount.{GivesMore, count_after, count_behind}
use Rattle.log_records.proofs.Public.{count_behind-push}
use Rattle.log_store.specs.WrittenLog.{IsWritten, WrittenLog, written_log}
use Rattle.log_store.proofs.WrittenLogs.{written_push}
use Rattle.log_store.proofs.stored_log.StoredLog.append.Goals as goal

pub invariant_of-self : goal.invariant_of-self
invariant_of-self g c =
    let it = c.self.inside in
    let bytes = g.D.LogDevice.bytes in
    let next = c.args.next in
    let room = vec_capacity c.push.new.self - vec_len c.push.new.self in
    let pushed : c.push.new.self.items ≡ it.records.items ++ next ∷ [] = search rules in
    let few : length it.records.items < 1048576 =
    subst (λ (v : WrittenLog g.row.D.Denot). length v.log.records < 1048576) (sym c.self.view_is) c.requires.few in
    let stands : StandsAt (count_behind it.pages it.records.items) (lsn_of (length it.records.items)) next =
    subst (λ (v : WrittenLog g.row.D.Denot). StandsAt (page_count v.log) (lsn_of (length v.log.records)) next)
    (sym c.self.view_is) c.requires.stands in
    let more : GivesMore (count_behind it.pages it.records.items) next =
    subst (λ (v : WrittenLog g.row.D.Denot). GivesMore (page_count v.log) next) (sym c.self.view_is) c.requires.more in (
      subst (λ (rs : List Record). IsWritten bytes (written_log it.pages rs it.stored room it.device)) (sym pushed)
          (written_push bytes it.pages it.records.items it.stored _ room it.device next c.self.invariant.0 few stands more),
      c.count_after-self-inside.ensures ∙ ap (λ n. count_after n next) c.self.invariant.1
          ∙ sym (count_behind-push it.pages it.records.items next)
          ∙ ap (count_behind it.pages) (sym pushed),
    )
