use Rattle.std.proofs.Common.{◌≡◌, ℕ, ◌+◌, ◌*◌, ◌/◌, ◌<◌, ◌≤◌, ◌++◌, List, [], length, take, drop, sym, ap, subst, ◌∙◌}
use Rattle.std.proofs.Common.{arith, inl}
use Rattle.std.specs.Io.KnownBytes.{Consumes}
use Rattle.std.proofs.lemmas.List.{append_assoc, append-nil, nil_from_length, length-take, length-drop, length-append}
use Rattle.std.proofs.lemmas.List.{take-append-drop}
use Rattle.std.proofs.lemmas.Result.{err_from_is_err_and}
use Rattle.page_core.proofs.Public.{of_input, if_err, on_ok}
use Rattle.copy_vault.specs.declared.archive_fault.ArchiveFault.TheVariants.{CountDiffers}
use Rattle.page_decisions.specs.Decisions.{taken_count, taken_pages}
use Rattle.copy_vault.specs.Archive.{header_bytes}
use Rattle.copy_vault.specs.ArchiveFault.{Refuses}
use Rattle.copy_vault.specs.ArchiveRead.{EndsWrongly, given_for}
use Rattle.copy_vault.proofs.Parts.{has_more}
use Rattle.copy_vault.proofs.ArchiveReads.{refuses_end, refuses_input, none_in_failed, regroup}
use Rattle.copy_vault.proofs.read.read_pages.Goals as goal
use Rattle.copy_vault.proofs.read.read_pages.Goals.{else-taken-header-via-then-taken-header+else-filled-gt0}
use Rattle.copy_vault.proofs.read.read_pages.Goals.{else-taken-header-via-else-taken-header}

pub returns-in-End-clause-first : goal.returns-in-End-clause-first
returns-in-End-clause-first g c =
    let h = c.args.header.now in
    let header = header_bytes h in
    let inv = c.loop.invariant in
    let read = inv.found.0 in
    let pending = take c.loop.filled c.loop.buffer in
    let room = c.requires.room in
    let short = inv.short in
    let wide : length pending ≡ c.loop.filled = omega (arith, length-take c.loop.filled c.loop.buffer) in
    if_err c.at_end.result _ _ (λ fault wrong.
    of_input _ _ (read ++ pending) (λ rest. Refuses (header ++ rest) fault) (c.in-End.ensures.1 _ read inv.found.1.1)
    (λ rest end.
    refuses_input (given_for h c.loop.slots) header read pending rest fault inv.found.1.0
    (subst (λ (bs : List ℕ). Refuses (given_for h c.loop.slots ++ bs) fault)
    (sym (ap (λ (bs : List ℕ). pending ++ bs) (end c.in-End.ensures.0) ∙ append-nil pending))
    (refuses_end h c.loop.slots pending fault inv.so_far.part.front (omega (arith, wide))
    (λ all. omega (arith, wide, inv.last all))
    (subst (λ (n : ℕ). EndsWrongly (taken_count c.loop.slots) h.taken n fault) (sym wide) wrong)))))
    c.at_end.ensures.err

pub returns-in-End-clause-found : goal.returns-in-End-clause-found
returns-in-End-clause-found g c =
    let inv = c.loop.invariant in
    let read = inv.found.0 in
    let pending = take c.loop.filled c.loop.buffer in
    on_ok c.at_end.result _ _ (λ none.
    let nothing : pending ≡ [] = nil_from_length pending
    (omega (arith, length-take c.loop.filled c.loop.buffer, none)) in
    let all : read ++ pending ≡ read = ap (λ (bs : List ℕ). read ++ bs) nothing ∙ append-nil read in (
      read,
      (
        subst (Consumes _ _) all (c.in-End.ensures.1 _ read inv.found.1.1),
        inv.found.1.0,
      ),
    )) c.at_end.ensures.ok

pub returns-in-Failed-clause-unread : goal.returns-in-Failed-clause-unread
returns-in-Failed-clause-unread g c =
    let h = c.args.header.now in
    let inv = c.loop.invariant in
    let read = inv.found.0 in
    let pending = take c.loop.filled c.loop.buffer in
    let short = inv.short in
    let wide : length pending ≡ c.loop.filled =
    let room = c.requires.room in omega (arith, length-take c.loop.filled c.loop.buffer) in (
      read ++ pending,
      (
        c.in-Failed.ensures _ read inv.found.1.1,
        none_in_failed h c.loop.slots (header_bytes h) read pending inv.found.1.0 inv.so_far.part.front
            (omega (arith, wide)) (λ all. omega (arith, wide, inv.last all)),
      ),
    )

pub returns-in_err-take_pages-clause-first : goal.returns-in_err-take_pages-clause-first
returns-in_err-take_pages-clause-first g c =
    let p = err_from_is_err_and c.from_residual.result c.from_residual.ensures.1 in
    let h = c.args.header.now in
    let inv = c.loop.invariant in
    let read = inv.found.0 in
    let bytes = take (c.loop.filled + c.in-More.more) c.read_more.new.buffer in
    let fault = c.in_err-take_pages.field-0.0 in
    rw (p.1, p.2)
    (of_input _ _ (read ++ bytes) (λ rest. Refuses (header_bytes h ++ rest) fault)
    (c.in-More.ensures.1 _ read inv.found.1.1)
    (λ rest end. refuses_input (given_for h c.loop.slots) (header_bytes h) read bytes rest fault inv.found.1.0
    (c.in_err-take_pages.ensures.first rest)))

pub returns-then-filled-gt0-clause-first : goal.returns-then-filled-gt0-clause-first
returns-then-filled-gt0-clause-first g c =
    let h = c.args.header.now in
    let header = header_bytes h in
    let inv = c.loop.invariant in
    let read = inv.found.0 in
    let filled = c.loop.filled + c.in-More.more in
    let whole = 512 * (filled / 512) in
    let bytes = take filled c.read_more.new.buffer in
    let width : length bytes ≡ filled = omega (arith, length-take filled c.read_more.new.buffer, c.in-More.ensures.0) in
    let further = read ++ take whole bytes in
    let pending = drop whole bytes in
    let new = c.take_pages.new.slots in
    let taken = c.in_ok-take_pages.ensures in
    let given : given_for h new ≡ header ++ further =
    subst (λ (n : ℕ). given_for h new ≡ given_for h c.loop.slots ++ take (512 * (n / 512)) bytes) width taken.given
    ∙ regroup (given_for h c.loop.slots) header read (take whole bytes) inv.found.1.0 in
    let both : read ++ bytes ≡ further ++ pending =
    ap (λ (bs : List ℕ). read ++ bs) (sym (take-append-drop whole bytes))
    ∙ sym (append_assoc read (take whole bytes) pending) in
    let some = c.if-filled-gt0.true in
    let full : h.taken ≤ length (taken_pages new) = let past = c.if-taken-header.true in omega
    (arith, c.taken.ensures) in
    let long : 0 < length pending = omega (
      arith,
      length-drop whole bytes,
      width,
      c.keep_from-filled.ensures.count,
    ) in
    of_input _ _ (further ++ pending) (λ rest. Refuses (header ++ rest) CountDiffers)
    (subst (Consumes _ _) both (c.in-More.ensures.1 _ read inv.found.1.1))
    (λ rest end. refuses_input (given_for h new) header further pending rest CountDiffers given
    (inl (has_more h new (pending ++ rest) taken.so_far.part.front full
    (omega (arith, long, length-append pending rest)))))

pub loop-preserved : goal.loop-preserved
loop-preserved g c =
    let h = c.args.header.now in
    let header = header_bytes h in
    let inv = c.loop.invariant in
    let read = inv.found.0 in
    let filled = c.loop.filled + c.in-More.more in
    let whole = 512 * (filled / 512) in
    let bytes = take filled c.read_more.new.buffer in
    let width : length bytes ≡ filled = omega (arith, length-take filled c.read_more.new.buffer, c.in-More.ensures.0) in
    let new = c.take_pages.new.slots in
    let taken = c.in_ok-take_pages.ensures in
    let given : given_for h new ≡ header ++ (read ++ take whole bytes) =
    subst (λ (n : ℕ). given_for h new ≡ given_for h c.loop.slots ++ take (512 * (n / 512)) bytes) width taken.given
    ∙ regroup (given_for h c.loop.slots) header read (take whole bytes) inv.found.1.0 in
    let both : read ++ bytes ≡ (read ++ take whole bytes)
    ++ take c.keep_from-filled.result c.keep_from-filled.new.buffer =
    ap (λ (bs : List ℕ). read ++ bs) (sym (take-append-drop whole bytes))
    ∙ sym (append_assoc read (take whole bytes) (drop whole bytes))
    ∙ ap (λ (bs : List ℕ). (read ++ take whole bytes) ++ bs) (sym c.keep_from-filled.ensures.rest) in
    record {
      short = omega (arith, c.keep_from-filled.ensures.count);
      last = λ all. elim c.else-taken-header.branch [
        | else-taken-header-via-then-taken-header+else-filled-gt0 w ↦ let none = w.if-filled-gt0.false in omega arith
        | else-taken-header-via-else-taken-header w ↦ let room = w.if-taken-header.false in
            absurd (omega (arith, c.taken.ensures, all))
      ];
      so_far = taken.so_far;
      found = (
        read ++ take whole bytes,
        (
          given,
          subst (Consumes _ _) both (c.in-More.ensures.1 _ read inv.found.1.1),
        ),
      );
    }

pub returns-clause-unread : goal.returns-clause-unread
returns-clause-unread g c =
    let h = c.args.header.now in
    let inv = c.loop.invariant in
    let read = inv.found.0 in
    let pending = take c.loop.filled c.loop.buffer in
    let short = inv.short in
    let wide : length pending ≡ c.loop.filled =
    let room = c.requires.room in omega (arith, length-take c.loop.filled c.loop.buffer) in (
      read ++ pending,
      (
        inv.found.1.1,
        none_in_failed h c.loop.slots (header_bytes h) read pending inv.found.1.0 inv.so_far.part.front
            (omega (arith, wide)) (λ all. omega (arith, wide, inv.last all)),
      ),
    )
