-- A page of a chain, as it is audited and as it is spoken of.
use Rattle.std.proofs.Common.{ℕ, ◌≡◌, List, subst}
use Rattle.page_core.specs.declared.page.Page.{Page}
use Rattle.log_records.specs.declared.record.Record.{Record}
use Rattle.log_records.specs.Coverage.{Covers}

pub same_cover : (rs others : List Record) (n p : ℕ) (page other : Page) (low high : ℕ) → rs ≡ others → n ≡ p
    → page ≡ other → low ≡ high → Covers rs n page low → Covers others p other high
same_cover rs others n p page other low high records_are number page_is bound covers =
    let a : Covers rs n other low = subst (λ (q : Page). Covers rs n q low) page_is covers in
    let b : Covers rs p other low = subst (λ (k : ℕ). Covers rs k other low) number a in
    let c : Covers others p other low = subst (λ (xs : List Record). Covers xs p other low) records_are b in
    subst (Covers others p other) bound c
