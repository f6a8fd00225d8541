use Rattle.std.proofs.Common.{◌≢◌, arith, refl}
use Rattle.embed_calls.proofs.Recovering.{few_pages, few_records, moved, needs, recovered, starts}
use Rattle.embed_calls.proofs.recover.recover_log.Goals as goal

pub split_at-requires : goal.split_at-requires
split_at-requires c =
    let found = c.in-Ok.ensures.ok in
    let it = c.in-Ok.it in
    let is = moved _ found.0 _ c.deref.result.now it.count _ it.pages.items found.1 c.deref.ensures.value refl in
    starts _ found.0 c.deref.result.now it.count it.pages.items is

pub put_undone-requires-clause-pages : goal.put_undone-requires-clause-pages
put_undone-requires-clause-pages c =
    let found = c.in-Ok.ensures.ok in
    let it = c.in-Ok.it in
    let is = moved _ found.0 _ c.deref.result.now it.count _ c.deref-in-Ok.result.now found.1 c.deref.ensures.value
    c.deref-in-Ok.ensures.value in
    few_pages _ found.0 c.deref.result.now it.count c.deref-in-Ok.result.now is

pub put_undone-requires-clause-records : goal.put_undone-requires-clause-records
put_undone-requires-clause-records c =
    let found = c.in-Ok.ensures.ok in
    let it = c.in-Ok.it in
    let is = moved _ found.0 _ c.deref.result.now it.count _ c.deref-in-Ok.result.now found.1 c.deref.ensures.value
    c.deref-in-Ok.ensures.value in
    few_records _ found.0 c.deref.result.now it.count c.deref-in-Ok.result.now is c.split_at.result.1.now
    c.split_at.ensures.back

pub returns-in-Ok-clause-recovered : goal.returns-in-Ok-clause-recovered
returns-in-Ok-clause-recovered c = λ ok.
    let found = c.in-Ok.ensures.ok in
    let it = c.in-Ok.it in
    let put = c.put_undone.ensures in
    let is = moved _ found.0 _ c.deref.result.now it.count _ c.deref-in-Ok.result.now found.1 c.deref.ensures.value
    c.deref-in-Ok.ensures.value in
    recovered _ found.0 c.deref.result.now it.count c.deref-in-Ok.result.now is _ _ _ _ _ c.split_at.result.1.now
    c.split_at.ensures.back (put.put ok) (put.code ok)

pub returns-in-Ok-clause-short : goal.returns-in-Ok-clause-short
returns-in-Ok-clause-short c = λ code.
    let found = c.in-Ok.ensures.ok in
    let it = c.in-Ok.it in
    let put = c.put_undone.ensures in
    let wrong : c.put_undone.result.code ≢ 0 = λ right. absurd (omega arith) in
    let is = moved _ found.0 _ c.deref.result.now it.count _ c.deref-in-Ok.result.now found.1 c.deref.ensures.value
    c.deref-in-Ok.ensures.value in
    needs _ found.0 c.deref.result.now it.count c.deref-in-Ok.result.now is _ _ _ c.split_at.result.1.now
    c.split_at.ensures.back (put.short wrong) (put.no_room wrong)
