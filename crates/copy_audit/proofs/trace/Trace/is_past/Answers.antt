use Rattle.std.proofs.Common.{◌≡◌, ◌∙◌, ◌/◌, ℕ, length, min, ap}
use Rattle.page_core.specs.declared.page.Page.{Page}
use Rattle.log_records.specs.Log.{Log}
use Rattle.copy_audit.proofs.Traces.{page_eq, seen_not, seen_past}
use Rattle.copy_audit.proofs.trace.Trace.is_past.Goals as goal

pub returns : goal.returns
returns c = record {
  seen = λ rs of was.
      let l : Log = record { pages = of.pages; records = rs } in
      let it = c.go_to.new.self in
      let page = c.args.page.now in
      let tells = page_eq it.page page c.eq.result c.eq.ensures in
      let view : c.page.inside.0.1.0.0 ≡ page.lsn = ap (λ (p : Page). p.lsn) c.page.view_is in
      let traced = c.go_to.ensures.traced rs c.args.count of was in
      let there : it.reached ≡ min (page.lsn / 64) (length rs) =
      c.go_to.ensures.reached ∙ c.min.ensures ∙ ap (λ (n : ℕ). min (n / 64) c.args.count) view
      ∙ ap (min (page.lsn / 64)) of.count_is in
      record {
        traced = traced;
        there = there;
        is_past = λ yes_it_is. seen_past l c.args.number page it traced there (tells.0 yes_it_is);
        is_not = λ differs. seen_not l c.args.number page it of.valid traced there
            (λ same. let both = tells.1 same in cc);
      };
}
