use Rattle.std.proofs.Common.{◌≡◌, ◌+◌, ◌-◌, ◌*◌, ◌++◌, ◌∷◌, [], ℕ, List, length, take, sym, ap, ◌∙◌, arith}
use Rattle.std.proofs.lemmas.List.{take_more, append-nil}
use Rattle.std.proofs.lemmas.List.Concat.{flat_map-append}
use Rattle.std.proofs.lemmas.Slice.{take-put_mid}
use Rattle.page_core.specs.declared.page.Page.{Page}
use Rattle.page_core.specs.Page.{page_bytes, volume_bytes}
use Rattle.embed_calls.proofs.redo.put_pages.Goals as goal

pub loop-i-preserved : goal.loop-i-preserved
loop-i-preserved c =
    let i = c.loop-i.i in
    let pages = c.args.pages.now in
    let page = c.index-pages-i.result in
    let written : c.write_to.new.bytes ≡ page_bytes page = c.write_to.ensures in
    let wide : length c.write_to.new.bytes ≡ 512 = omega arith in
    let fits = c.requires in
    let more : volume_bytes (take (i + 1) pages) ≡ volume_bytes (take i pages) ++ page_bytes page =
    ap volume_bytes (take_more pages i page c.loop-i-test.true
    ∙ ap (λ (p : Page). take i pages ++ p ∷ []) (sym c.index-pages-i.is))
    ∙ flat_map-append page_bytes (take i pages) (page ∷ [])
    ∙ ap (λ (bs : List ℕ). volume_bytes (take i pages) ++ bs) (append-nil (page_bytes page)) in
    record {
      bytes = take-put_mid (512 * i) (512 * i + 512 - 512 * i) c.loop-i.room c.write_to.new.bytes (512 * (i + 1))
          (omega arith) (omega arith)
          ∙ ap (λ (bs : List ℕ). bs ++ c.write_to.new.bytes) c.loop-i.invariant.bytes
          ∙ ap (λ (bs : List ℕ). volume_bytes (take i pages) ++ bs) written ∙ sym more;
    }
