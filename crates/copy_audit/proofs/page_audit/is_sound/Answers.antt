use Rattle.std.proofs.Common.{◌≡◌, ◌∙◌, ◌+◌, ◌*◌, ◌/◌, ℕ, List, length, get_or, min, ap, subst, arith}
use Rattle.page_core.specs.declared.page.Page.{Page}
use Rattle.log_records.specs.Log.{Log}
use Rattle.copy_audit.specs.Trace.{IsSeen, IsTraced}
use Rattle.copy_audit.proofs.Traces.{page_eq, reach_of, seen_not, seen_past}
use Rattle.copy_audit.proofs.page_audit.is_sound.Goals as goal

pub returns : goal.returns
returns c =
    let log = c.requires.log in
    let rs = c.args.records.now in
    let l : Log = record { pages = log.0; records = rs } in
    let it = c.redo_listed.new.trace in
    let page = c.args.page.now in
    let number = page.number in
    let numbers = c.requires.numbers in
    let tells = page_eq it.page page c.eq-is_past.result c.eq-is_past.ensures in
    let fresh : IsTraced rs number c.new-trace.result =
    subst (λ (n : ℕ). IsTraced rs n c.new-trace.result) (ap (λ (p : Page). p.number) c.page.view_is)
    (c.new-trace.ensures.traced rs) in
    let traced = c.redo_listed.ensures.traced number numbers fresh in
    let view : c.page.inside.0.1.0.0 ≡ page.lsn = ap (λ (p : Page). p.lsn) c.page.view_is in
    let there : it.reached ≡ min (page.lsn / 64) (length rs) =
    c.redo_listed.ensures.reached ∙ c.min.ensures ∙ ap (λ (n : ℕ). min (n / 64) (length rs)) view in
    let seen : IsSeen rs number page it c.eq-is_past.result = record {
      traced = traced;
      there = there;
      is_past = λ yes_it_is. seen_past l number page it traced there (tells.0 yes_it_is);
      is_not = λ differs. seen_not l number page it log.1 traced there (λ same. let both = tells.1 same in cc);
    } in
    let long = ap length numbers in
    let next = ap (λ (ns : List ℕ). 64 * (get_or ns it.done 0 + 1)) numbers in
    c.covers.ensures rs number page
    (reach_of l number page it c.eq-is_past.result c.next_listed-last.result log.1 seen
    (λ some. omega (arith, next, c.next_listed-last.ensures.next (omega (arith, long, some))))
    (λ none. c.next_listed-last.ensures.none (omega (arith, long, none))))
