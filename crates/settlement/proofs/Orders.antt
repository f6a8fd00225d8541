-- The order of a session's receipts.
use Rattle.std.proofs.Common.{ℕ, ◌≡◌, ◌+◌, ◌-◌, ◌<◌, ◌≤◌, List, length, take, slice_index_or}
use Rattle.std.proofs.Common.{arith, subst, ◌∙◌, below_more}
use Rattle.std.proofs.lemmas.List.{get_or_default}
use Rattle.std.proofs.lemmas.List.Elements.{All-more, All-weaker}
use Rattle.settlement.specs.Receipt.{ComesBehind, IsBehind}
use Rattle.settlement.specs.declared.receipt.Receipt.{Receipt}

behind_both : (a b c : Receipt) → ComesBehind b c → ComesBehind a b → ComesBehind a c
behind_both a b c bc ab =
    let u = ab.not_below in
    let v = bc.not_below in
    record {
      not_below = omega arith;
      above = λ r. let w = ab.above r in omega arith;
    }

-- what may come behind a receipt is behind all that this one is behind
behind_next : (xs : List Receipt) (j : ℕ) (y x : Receipt) → j < length xs
    → IsBehind (take j xs) (slice_index_or xs j y) → ComesBehind (slice_index_or xs j y) x
    → IsBehind (take (j + 1) xs) x
behind_next xs j y x inside behind next =
    let last = slice_index_or xs j y in
    All-more (λ b. ComesBehind b x) xs j y inside
    (All-weaker (λ b. ComesBehind b last) (λ b. ComesBehind b x)
    (λ a. behind_both a last x next) (take j xs) behind) next

-- the receipts below an index are in order, and so is the one at it
pub in_order_more : (xs : List Receipt) (i : ℕ) (y x : Receipt) → 1 ≤ i → i < length xs
    → y ≡ slice_index_or xs (i - 1) y → x ≡ slice_index_or xs i x → ComesBehind y x
    → ((k : ℕ) (d : Receipt) → k < i → IsBehind (take k xs) (slice_index_or xs k d))
    → (k : ℕ) → k < i + 1 → (d : Receipt) → IsBehind (take k xs) (slice_index_or xs k d)
in_order_more xs i y x first inside y-is x-is next so_far =
    let same : i - 1 + 1 ≡ i = omega arith in
    let here : IsBehind (take i xs) x =
    subst (λ (n : ℕ). IsBehind (take n xs) x) same
    (behind_next xs (i - 1) y x (omega arith) (so_far (i - 1) y (omega arith))
    (subst (λ (b : Receipt). ComesBehind b x) y-is next)) in
    below_more (λ k. (d : Receipt) → IsBehind (take k xs) (slice_index_or xs k d)) i
    (λ k h d. so_far k d h)
    (λ d. subst (λ (b : Receipt). IsBehind (take i xs) b)
    (x-is ∙ get_or_default xs i x d inside) here)
