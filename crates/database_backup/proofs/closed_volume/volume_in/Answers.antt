use Rattle.std.proofs.Common.{◌≡◌, ◌∙◌, ap, false, is_some, refl, rules, subst, sym, true≢false}
use Rattle.std.specs.Prelude.{None, Option, Some}
use Rattle.log_prefix.specs.Front.{IsFrontOf, end_of}
use Rattle.log_prefix.specs.declared.cut.Cut.{Cut}
use Rattle.log_records.specs.Log.{IsPageCount}
use Rattle.log_records.proofs.Public.{page_count-is_count}
use Rattle.database_files.specs.Closed.{IsVouched}
use Rattle.database_backup.proofs.closed_volume.volume_in.Goals as goal

none_by_test : {X : Type 0} (o : Option X) → is_some o ≡ false → o ≡ None
none_by_test None is = refl
none_by_test (Some x) is = absurd (true≢false is)

pub returns-in-Ok-committed_pages : goal.returns-in-Ok-committed_pages
returns-in-Ok-committed_pages c =
    let log = c.in-Ok.front.log in
    let found = c.in-Ok.ensures.front in
    let count = c.in-Ok-committed_pages.ensures.counted in record {
      log = log;
      all = subst (λ (cut : Option Cut). IsFrontOf c.args.bytes.now (record { log = log; cut = cut })) (sym c.cut.ensures ∙ none_by_test c.cut.result (sym c.is_some.ensures ∙ c.if-is_some.false)) found;
      lacks = c.in_ok-check_kept.ensures;
      vouched = subst (IsVouched c.args.others.now.note) (c.end.ensures ∙ ap end_of c.log.ensures.log) (c.is_vouched.ensures (search rules));
      count = count;
      counted = subst IsPageCount (sym count) (page_count-is_count log found.longest.front.spells.valid);
      committed = c.in-Ok-committed_pages.ensures.committed;
    }
