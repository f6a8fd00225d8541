use Rattle.std.proofs.Common.{◌≡◌, [], ◌∷◌, ◌++◌, length, sym, ap, subst, ◌∙◌, arith, inl, inr}
use Rattle.page_core.specs.declared.page.Page.{Page}
use Rattle.page_core.specs.Page.{IsPage}
use Rattle.page_decisions.specs.Decisions.{taken, taken_pages}
use Rattle.copy_vault.specs.ArchiveRead.{IsRead}
use Rattle.copy_vault.proofs.Fronts.{all_last}
use Rattle.copy_vault.proofs.Parts.{has_bad_page, out_of_order, read_push}
use Rattle.copy_vault.proofs.read.push_page.Goals as goal
use Rattle.copy_vault.proofs.read.push_page.Goals.{then-number-count-via-then-number-count}
use Rattle.copy_vault.proofs.read.push_page.Goals.{then-number-count-via-else-number-count+then-number-header}

pub returns-in_default-clause-first : goal.returns-in_default-clause-first
returns-in_default-clause-first c = λ rest.
    let h = c.args.header.now in
    let old = c.args.slots.now in
    let read = c.requires.so_far in
    inl (inr (has_bad_page h old c.page_offset-at.result c.args.bytes.now rest read.part.front (omega arith)
    (omega arith) c.requires.whole
    (λ page front e. cc (c.in_default.ensures.only page
    (record { valid = all_last IsPage (taken_pages old) page front.valid; spelled = e })))))

pub returns-then-number-count-clause-first : goal.returns-then-number-count-clause-first
returns-then-number-count-clause-first c = λ rest.
    let h = c.args.header.now in
    let old = c.args.slots.now in
    let read = c.requires.so_far in
    inl (inr (has_bad_page h old c.page_offset-at.result c.args.bytes.now rest read.part.front (omega arith)
    (omega arith) c.requires.whole
    (λ page front e.
    let ordered = out_of_order h old c.in-Ok.page page c.args.bytes.now read c.in-Ok.ensures.found front e in
    let number = ap (λ (p : Page). p.number) c.page.view_is in
    elim c.then-number-count.branch [
      | then-number-count-via-then-number-count w ↦ let less = w.if-number-count.true in
          omega (arith, ordered.0, number, less)
      | then-number-count-via-else-number-count+then-number-header w ↦ let past = w.if-number-header.true in
          omega (arith, ordered.1, number, past)
    ])))

pub returns-clause-so_far : goal.returns-clause-so_far
returns-clause-so_far c =
    let h = c.args.header.now in
    let mid = c.keep_up_to.new.slots in
    let done = c.keep_up_to.ensures in
    let page = c.in-Ok.page in
    let number = ap (λ (p : Page). p.number) c.page.view_is in
    let few = c.if-taken-header.false in
    let below = c.if-number-header.false in
    let boxed = c.in_ok-new.ensures.ok in
    let is : c.push_taken.new.self ≡ mid ++ taken page ∷ [] =
    c.in_ok-push_taken.ensures ∙ ap (λ (p : Page). mid ++ taken p ∷ []) boxed in
    subst (IsRead h) (sym is) (read_push h mid page done.part
    (omega (arith, ap length done.taken, c.taken.ensures, few)) c.in-Ok.ensures.found.valid
    (omega (arith, number, done.count)) (omega (arith, number, below)))
