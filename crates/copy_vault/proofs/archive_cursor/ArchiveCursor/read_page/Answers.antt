use Rattle.std.proofs.Common.{◌≡◌, ◌+◌, ◌<◌, List, [], ℕ, refl, sym, ap, subst, ◌∙◌, arith}
use Rattle.std.specs.Prelude.{Option}
use Rattle.std.specs.Io.KnownBytes.{Consumes, IsAtEnd}
use Rattle.std.proofs.KnownBytes.{Consumes-trans}
use Rattle.std.proofs.lemmas.List.{append-nil}
use Rattle.page_core.specs.declared.page.Page.{Page}
use Rattle.copy_vault.specs.declared.archive_cursor.ArchiveCursor.{ArchiveCursor}
use Rattle.std.proofs.lemmas.Result.{err_from_is_err_and}
use Rattle.copy_vault.specs.declared.header.ArchiveHeader.{ArchiveHeader}
use Rattle.copy_vault.proofs.ArchiveSteps.{cut_page, no_end, one_more, unread, wrong_page}
use Rattle.copy_vault.proofs.archive_cursor.ArchiveCursor.read_page.Goals as goal
use Rattle.copy_vault.proofs.archive_cursor.ArchiveCursor.read_page.Goals.{then-self+in_ok-see_end, else-self}

pub returns-in_default-clause-err : goal.returns-in_default-clause-err
returns-in_default-clause-err g c = λ h input copy read.
    let given = c.in_default.ensures.err in
    unread c.args.end c.args.self.now.from h input _ _ c.args.self.now copy given.0 read given.1.0
    (omega (arith, given.1.1))
    (λ all. absurd (omega (arith, all, c.requires, ap (λ (k : ArchiveHeader). k.taken) read.header)))

pub returns-in_err-page-clause-err : goal.returns-in_err-page-clause-err
returns-in_err-page-clause-err g c =
    let p = err_from_is_err_and c.from_residual.result c.from_residual.ensures.1 in
    rw (p.1, p.2) (λ h input copy read.
    let bytes = c.fill.new.buffer in
    let whole = c.if-filled-lt-PAGE_BYTES.false in
    wrong_page c.args.end c.args.self.now.from h input _ _ c.args.self.now copy bytes c.in_err-page.field-0.0 read refl
    (omega (arith, c.requires, ap (λ (k : ArchiveHeader). k.taken) read.header))
    (c.in-Ok.ensures.whole (omega (arith, whole, c.in-Ok.ensures.within))) (omega arith) c.in_err-page.ensures.err)

pub returns-in_err-see_end-clause-err : goal.returns-in_err-see_end-clause-err
returns-in_err-see_end-clause-err g c =
    let p = err_from_is_err_and c.from_residual-in_err-see_end.result c.from_residual-in_err-see_end.ensures.1 in
    rw (p.1, p.2) (λ h input copy read.
    let bytes = c.fill.new.buffer in
    let whole = c.if-filled-lt-PAGE_BYTES.false in
    let last = c.if-self.true in
    no_end c.args.end c.args.self.now.from h input _ _ _ c.args.self.now copy c.in_ok-page.page bytes
    c.in_err-see_end.field-0.0 read refl (omega (arith, last, ap (λ (k : ArchiveHeader). k.taken) read.header))
    c.in_ok-page.ensures.after c.in_ok-page.ensures.below
    (c.in-Ok.ensures.whole (omega (arith, whole, c.in-Ok.ensures.within))) c.in_err-see_end.ensures.err)

pub returns-then-filled-lt-PAGE_BYTES-clause-err : goal.returns-then-filled-lt-PAGE_BYTES-clause-err
returns-then-filled-lt-PAGE_BYTES-clause-err g c = λ h input copy read.
    let some = c.if-filled-eq0.false in
    let less = c.if-filled-lt-PAGE_BYTES.true in
    cut_page c.args.end c.args.self.now.from h input _ _ c.args.self.now copy c.in-Ok.filled c.offset.result read refl
    (omega (arith, c.requires, ap (λ (k : ArchiveHeader). k.taken) read.header))
    (c.in-Ok.ensures.part (omega (arith, less))) (omega (arith, some)) less c.offset.ensures

pub returns-clause-ok : goal.returns-clause-ok
returns-clause-ok g c = λ h input copy read.
    let left = g.R.Read.remaining in
    let it = c.args.self.now in
    let page = c.in_ok-page.page in
    let bytes = c.fill.new.buffer in
    let whole = c.if-filled-lt-PAGE_BYTES.false in
    let took : Consumes (left c.args.reader.now) (left c.fill.new.reader) bytes =
    c.in-Ok.ensures.whole (omega (arith, whole, c.in-Ok.ensures.within)) in
    let some : it.read < h.taken = omega (arith, c.requires, ap (λ (k : ArchiveHeader). k.taken) read.header) in
    let number : c.page.inside.0.0.0 ≡ page.number = ap (λ (q : Page). q.number) c.page.view_is in
    elim c.if-self.branch [
      | then-self+in_ok-see_end w ↦
          one_more c.args.end it.from h input (left c.args.reader.now) (left c.if-self.reader) it c.if-self.self copy
          page bytes read refl some c.in_ok-page.ensures.after c.in_ok-page.ensures.below
          (subst (λ (o : Option (List ℕ)). Consumes (left c.args.reader.now) o bytes) (sym (ap left w.reader-is))
          (subst (Consumes _ _) (append-nil bytes)
          (Consumes-trans _ _ _ bytes [] took w.in_ok-see_end.ensures.none)))
          (ap (λ (k : ArchiveCursor). k.header) w.self-is) (ap (λ (k : ArchiveCursor). k.read) w.self-is)
          (ap (λ (k : ArchiveCursor). k.from) w.self-is ∙ ap (λ n. n + 1) number)
          (ap (λ (k : ArchiveCursor). k.page) w.self-is)
          (λ all. subst IsAtEnd (sym (ap left w.reader-is)) w.in_ok-see_end.ensures.end)
      | else-self w ↦
          one_more c.args.end it.from h input (left c.args.reader.now) (left c.if-self.reader) it c.if-self.self copy
          page bytes read refl some c.in_ok-page.ensures.after c.in_ok-page.ensures.below
          (subst (λ (o : Option (List ℕ)). Consumes (left c.args.reader.now) o bytes) (sym (ap left w.reader-is)) took)
          (ap (λ (k : ArchiveCursor). k.header) w.self-is) (ap (λ (k : ArchiveCursor). k.read) w.self-is)
          (ap (λ (k : ArchiveCursor). k.from) w.self-is ∙ ap (λ n. n + 1) number)
          (ap (λ (k : ArchiveCursor). k.page) w.self-is)
          (λ all. absurd (w.if-self.false (sym (ap (λ (k : ArchiveCursor). k.read) w.self-is) ∙ all
          ∙ sym (ap (λ (k : ArchiveHeader). k.taken) read.header))))
    ]
