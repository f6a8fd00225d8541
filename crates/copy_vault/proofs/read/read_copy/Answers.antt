use Rattle.std.proofs.Common.{◌≡◌, ◌∙◌, ◌++◌, List, length, sym, ap, subst, arith}
use Rattle.std.specs.Io.KnownBytes.{Consumes}
use Rattle.std.proofs.KnownBytes.{Consumes-trans}
use Rattle.std.proofs.lemmas.List.{append-nil}
use Rattle.std.proofs.lemmas.Result.{err_from_is_err_and}
use Rattle.page_core.specs.declared.page.Page.{Page}
use Rattle.page_core.proofs.Public.{of_all, of_input, of_rest}
use Rattle.copy_vault.specs.declared.archive_fault.ArchiveFault.TheVariants.{BadArchive}
use Rattle.page_decisions.specs.Decisions.{PageDecision}
use Rattle.copy_vault.specs.Copy.{CopyView, IsComplete}
use Rattle.copy_vault.specs.Archive.{SpellsCopy, front_bytes, header_bytes}
use Rattle.copy_vault.specs.ArchiveFault.{Refuses, SpellsHeader}
use Rattle.copy_vault.specs.ArchiveRead.{IsRead, given_for}
use Rattle.copy_vault.proofs.Parts.{part_complete, read_none}
use Rattle.copy_vault.proofs.ArchiveReads.{gave_more, refuses_header, spells_read}
use Rattle.copy_vault.proofs.read.read_copy.Goals as goal

pub returns-in_default-clause-first : goal.returns-in_default-clause-first
returns-in_default-clause-first g c =
    let bytes = c.read_header.new.header in
    let none : ¬ SpellsHeader bytes = λ spells.
    cc (c.in_default.ensures.only spells.header spells.valid spells.spelled) in
    of_input _ _ bytes (λ input. Refuses input (BadArchive 0)) c.in_ok-turns.ensures.ok
    (λ rest end. refuses_header bytes rest (omega arith) none)

pub read_pages-requires-clause-so_far : goal.read_pages-requires-clause-so_far
read_pages-requires-clause-so_far g c =
    subst (IsRead c.in-Some.header) (sym c.new-slots.ensures) (read_none c.in-Some.header c.in-Some.ensures.found.0)

pub read_pages-requires-clause-none : goal.read_pages-requires-clause-none
read_pages-requires-clause-none g c =
    ap (given_for c.in-Some.header) c.new-slots.ensures ∙ append-nil (header_bytes c.in-Some.header)

pub returns-in_err-read_pages-clause-first : goal.returns-in_err-read_pages-clause-first
returns-in_err-read_pages-clause-first g c =
    let p = err_from_is_err_and c.from_residual-in_err-read_pages.result c.from_residual-in_err-read_pages.ensures.1 in
    rw (p.1, p.2) (of_rest _ _ (header_bytes c.in-Some.header) (λ input. Refuses input c.in_err-read_pages.field-0.0)
    (subst (Consumes _ _) c.in-Some.ensures.found.1 c.in_ok-turns.ensures.ok) c.in_err-read_pages.ensures.first)

pub returns-in_err-read_pages-clause-unread : goal.returns-in_err-read_pages-clause-unread
returns-in_err-read_pages-clause-unread g c =
    let p = err_from_is_err_and c.from_residual-in_err-read_pages.result c.from_residual-in_err-read_pages.ensures.1 in
    rw (p.1, p.2) (gave_more _ _ _ (header_bytes c.in-Some.header) c.in_err-read_pages.field-0.0
    (subst (Consumes _ _) c.in-Some.ensures.found.1 c.in_ok-turns.ensures.ok) c.in_err-read_pages.ensures.unread)

pub new-requires : goal.new-requires
new-requires g c =
    let done = c.keep_up_to.ensures in
    subst (IsComplete c.in-Some.header.kind) (sym c.rising-pages.ensures)
    (part_complete c.in-Some.header c.keep_up_to.new.slots done.part (omega (arith, done.count))
    (ap length done.taken ∙ c.in_ok-read_pages.ensures.all))

pub returns-clause-found : goal.returns-clause-found
returns-clause-found g c =
    let h = c.in-Some.header in
    let slots = c.keep_up_to.new.slots in
    let done = c.keep_up_to.ensures in
    let found = c.in_ok-read_pages.ensures.found in
    let given : given_for h slots ≡ header_bytes h ++ found.0 =
    ap (λ (ps : List Page). front_bytes h ps) done.taken ∙ found.1.1 in
    let spells = spells_read h slots done.part (omega (arith, done.count))
    (ap length done.taken ∙ c.in_ok-read_pages.ensures.all) in
    let copy : List PageDecision → CopyView = λ pages. record {
      id = h.id;
      kind = h.kind;
      begin = h.begin;
      redo = h.redo;
      pages = pages;
    } in
    let is = c.new.ensures ∙ ap copy c.rising-pages.ensures in
    of_all _ _ (header_bytes h ++ found.0) (SpellsCopy c.new.result)
    (Consumes-trans _ _ _ (header_bytes h) found.0
    (subst (Consumes _ _) c.in-Some.ensures.found.1 c.in_ok-turns.ensures.ok) found.1.0)
    c.in_ok-read_pages.ensures.end
    (subst (SpellsCopy c.new.result) given
    (subst (λ (copy : CopyView). SpellsCopy copy (given_for h slots)) (sym is) spells))
