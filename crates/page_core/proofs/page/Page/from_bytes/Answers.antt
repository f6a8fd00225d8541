use Rattle.std.proofs.Common.{◌≡◌, ◌∙◌, ◌<◌, ◌-◌, ◌%◌, List, ℕ, ap, sym, rules, length, take, drop, arith, refl, Ok}
use Rattle.std.proofs.Common.{lit<}
use Rattle.std.specs.Prelude.{slice_range}
use Rattle.std.specs.Int.{w32, w64, to_le_bytes}
use Rattle.std.specs.List.{flat_map}
use Rattle.std.proofs.lemmas.List.{take_all, length-drop}
use Rattle.page_core.proofs.PageBytes.{number_at, format_at, lsn_at, slots_at, length-page_bytes, from_fields}
use Rattle.page_core.proofs.page.Page.from_bytes.Goals as goal
use Rattle.page_core.proofs.page.Page.from_bytes.Goals.{then-number-ge-MAX_PAGES-via-then-number-ge-MAX_PAGES}
use Rattle.page_core.proofs.page.Page.from_bytes.Goals.{then-number-ge-MAX_PAGES-via-else-number-ge-MAX_PAGES+then-format-ne-FORMAT}
use Rattle.page_core.proofs.page.Page.from_bytes.Goals.{then-number-ge-MAX_PAGES-via-else-number-ge-MAX_PAGES+else-format-ne-FORMAT+then-lsn-ne0}

pub returns-then-bytes-ne-PAGE_BYTES-clause-only : goal.returns-then-bytes-ne-PAGE_BYTES-clause-only
returns-then-bytes-ne-PAGE_BYTES-clause-only c = λ page spells.
    let long : length c.args.bytes.now ≡ 512 = ap length spells.spelled ∙ length-page_bytes page spells.valid.count in
    absurd (search rules)

pub returns-then-number-ge-MAX_PAGES-clause-only : goal.returns-then-number-ge-MAX_PAGES-clause-only
returns-then-number-ge-MAX_PAGES-clause-only c = λ page spells.
    let number : c.u32_at-number.result ≡ page.number =
    c.u32_at-number.ensures.only page.number (omega (arith, spells.valid.number))
    (sym (ap (λ (bs : List ℕ). slice_range bs 0 4) spells.spelled ∙ number_at page)) in
    let format : c.u32_at-format.result ≡ 1 =
    c.u32_at-format.ensures.only 1 (lit< tt)
    (sym (ap (λ (bs : List ℕ). slice_range bs 4 8) spells.spelled ∙ format_at page)) in
    let lsn : c.u64_at-lsn.result ≡ page.lsn =
    c.u64_at-lsn.ensures.only page.lsn spells.valid.lsn
    (sym (ap (λ (bs : List ℕ). slice_range bs 8 16) spells.spelled ∙ lsn_at page)) in
    let small : c.u32_at-number.result < 65536 = rw number spells.valid.number in
    let aligned : c.u64_at-lsn.result % 64 ≡ 0 = rw lsn spells.valid.at_record in
    elim c.then-number-ge-MAX_PAGES.branch [
      | then-number-ge-MAX_PAGES-via-then-number-ge-MAX_PAGES w ↦ absurd (search rules)
      | then-number-ge-MAX_PAGES-via-else-number-ge-MAX_PAGES+then-format-ne-FORMAT w ↦ absurd (search rules)
      | then-number-ge-MAX_PAGES-via-else-number-ge-MAX_PAGES+else-format-ne-FORMAT+then-lsn-ne0 w ↦ absurd
          (search rules)
    ]

pub returns-clause-found : goal.returns-clause-found
returns-clause-found c =
    let bytes = c.args.bytes.now in
    let rest : drop 16 bytes ≡ flat_map (to_le_bytes w64) c.slots_in.result =
    sym (take_all (length bytes - 16) (drop 16 bytes) (omega (arith, length-drop 16 bytes)))
    ∙ c.slots_in.ensures.found in
    record {
      valid = record {
        number = omega arith;
        lsn = c.u64_at-lsn.type_inv;
        at_record = c.if-lsn-ne0.false;
        count =
            c.slots_in.ensures.count;
        slots = c.slots_in.ensures.fit;
      };
      spelled = from_fields _ bytes (sym c.u32_at-number.ensures.spelled)
          (sym c.u32_at-format.ensures.spelled ∙ ap (to_le_bytes w32) c.if-format-ne-FORMAT.false)
          (sym c.u64_at-lsn.ensures.spelled) rest;
    }

pub returns-clause-only : goal.returns-clause-only
returns-clause-only c = λ page spells.
    let number : c.u32_at-number.result ≡ page.number =
    c.u32_at-number.ensures.only page.number (omega (arith, spells.valid.number))
    (sym (ap (λ (bs : List ℕ). slice_range bs 0 4) spells.spelled ∙ number_at page)) in
    let lsn : c.u64_at-lsn.result ≡ page.lsn =
    c.u64_at-lsn.ensures.only page.lsn spells.valid.lsn
    (sym (ap (λ (bs : List ℕ). slice_range bs 8 16) spells.spelled ∙ lsn_at page)) in
    let bytes = c.args.bytes.now in
    let rest : take (length bytes - 16) (drop 16 bytes) ≡ flat_map (to_le_bytes w64) page.slots =
    take_all (length bytes - 16) (drop 16 bytes) (omega (arith, length-drop 16 bytes)) ∙ ap (drop 16) spells.spelled
    ∙ slots_at page in
    let slots : c.slots_in.result ≡ page.slots =
    c.slots_in.ensures.only page.slots spells.valid.count spells.valid.slots rest in
    ap Ok (rw (number, lsn, slots) refl)
