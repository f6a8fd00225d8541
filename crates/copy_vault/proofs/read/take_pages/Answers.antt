use Rattle.std.proofs.Common.{◌≡◌, ℕ, ◌+◌, ◌-◌, ◌*◌, ◌/◌, ◌++◌, List, length, take, drop, sym, ap, subst, ◌∙◌, arith}
use Rattle.std.proofs.lemmas.List.{append_assoc, take-append-drop, drop-take, take-take}
use Rattle.std.proofs.lemmas.Result.{err_from_is_err_and}
use Rattle.copy_vault.specs.ArchiveFault.{Refuses}
use Rattle.copy_vault.specs.ArchiveRead.{given_for}
use Rattle.copy_vault.proofs.read.take_pages.Goals as goal

-- the first pages, the next one, and the rest
parts : (bytes rest : List ℕ) (i : ℕ) → take (512 * i) bytes
    ++ (take (512 * i + 512 - 512 * i) (drop (512 * i) bytes)
    ++ (drop 512 (drop (512 * i) bytes) ++ rest)) ≡ bytes ++ rest
parts bytes rest i =
    let wide : 512 * i + 512 - 512 * i ≡ 512 = omega arith in
    let behind = drop (512 * i) bytes in
    ap (λ n. take (512 * i) bytes ++ (take n behind ++ (drop 512 behind ++ rest))) wide
    ∙ ap (λ (bs : List ℕ). take (512 * i) bytes ++ bs)
    (sym (append_assoc (take 512 behind) (drop 512 behind) rest)
    ∙ ap (λ (bs : List ℕ). bs ++ rest) (take-append-drop 512 behind))
    ∙ sym (append_assoc (take (512 * i) bytes) behind rest)
    ∙ ap (λ (bs : List ℕ). bs ++ rest) (take-append-drop (512 * i) bytes)

-- the first pages and the next one
further : (bytes : List ℕ) (i : ℕ) → take (512 * i) bytes ++ take (512 * i + 512 - 512 * i) (drop (512 * i) bytes)
    ≡ take (512 * (i + 1)) bytes
further bytes i =
    let wide : 512 * i + 512 - 512 * i ≡ 512 = omega arith in
    let next : 512 * i + 512 ≡ 512 * (i + 1) = omega arith in
    ap (λ n. take (512 * i) bytes ++ take n (drop (512 * i) bytes)) wide
    ∙ ap (λ (bs : List ℕ). take (512 * i) bytes ++ bs) (sym (drop-take (512 * i) 512 bytes))
    ∙ ap (λ (bs : List ℕ). bs ++ drop (512 * i) (take (512 * i + 512) bytes))
    (sym (take-take (512 * i) (512 * i + 512) bytes (omega arith)))
    ∙ take-append-drop (512 * i) (take (512 * i + 512) bytes) ∙ ap (λ n. take n bytes) next

pub returns-in_err-push_page-clause-first : goal.returns-in_err-push_page-clause-first
returns-in_err-push_page-clause-first c =
    let p = err_from_is_err_and c.from_residual.result c.from_residual.ensures.1 in
    rw (p.1, p.2) (λ rest.
    let bytes = c.args.bytes.now in
    let i = c.loop-i.i in
    let start = given_for c.args.header.now c.args.slots.now in
    let fault = c.in_err-push_page.field-0.0 in
    subst (λ (input : List ℕ). Refuses input fault)
    (ap (λ (bs : List ℕ). bs ++ (take (512 * i + 512 - 512 * i) (drop (512 * i) bytes)
    ++ (drop 512 (drop (512 * i) bytes) ++ rest))) c.loop-i.invariant.given
    ∙ append_assoc start (take (512 * i) bytes) _ ∙ ap (λ (bs : List ℕ). start ++ bs) (parts bytes rest i))
    (c.in_err-push_page.ensures.first (drop 512 (drop (512 * i) bytes) ++ rest)))

pub loop-i-preserved : goal.loop-i-preserved
loop-i-preserved c =
    let bytes = c.args.bytes.now in
    let i = c.loop-i.i in
    let start = given_for c.args.header.now c.args.slots.now in
    let page = take (512 * i + 512 - 512 * i) (drop (512 * i) bytes) in
    record {
      so_far = c.in_ok-push_page.ensures.so_far;
      given = c.in_ok-push_page.ensures.given ∙ ap (λ (bs : List ℕ). bs ++ page) c.loop-i.invariant.given
          ∙ append_assoc start (take (512 * i) bytes) page
          ∙ ap (λ (bs : List ℕ). start ++ bs) (further bytes i);
    }

pub returns-clause-given : goal.returns-clause-given
returns-clause-given c =
    let bytes = c.args.bytes.now in
    let past = c.loop-i-test.false in
    let all : c.loop-i.i ≡ length bytes / 512 = omega (arith, c.loop-i.auto.i-end) in
    c.loop-i.invariant.given
    ∙ ap (λ n. given_for c.args.header.now c.args.slots.now ++ take (512 * n) bytes) all
