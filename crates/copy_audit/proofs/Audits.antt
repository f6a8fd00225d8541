-- Audited chains: what they lack, what is a part of one, and why they are not refused.
use Rattle.std.proofs.Common.{◌≡◌, ℕ, zero, suc, ◌+◌, ◌-◌, ◌<◌, ◌≤◌, List, [], ◌∷◌, length, map, take, refl, sym, ap, subst, arith}
use Rattle.std.proofs.Common.{inl, inr}
use Rattle.std.specs.Prelude.{Option, Some}
use Rattle.std.specs.List.{AllByRecursion}
use Rattle.std.proofs.lemmas.List.{length-take-le, take_all}
use Rattle.page_core.specs.PageCounts.{PageCounts}
use Rattle.log_records.specs.Log.{IsLog, Log, SpellsLog, counts_of, log_bytes}
use Rattle.log_records.proofs.Public.{same_log}
use Rattle.log_rules.specs.Linked.{IsLinked}
use Rattle.log_store.specs.declared.fault.LogReadFault.{LogReadFault}
use Rattle.log_store.specs.declared.fault.LogReadFault.TheVariants as log
use Rattle.log_store.specs.Fault.{Refuses}
use Rattle.log_store.proofs.Public.{none_in_log}
use Rattle.copy_vault.specs.declared.chain_read_fault.ChainReadFault.{ChainReadFault}
use Rattle.copy_vault.specs.declared.chain_read_fault.ChainReadFault.TheVariants as chain
use Rattle.copy_vault.specs.Archive.{IsArchived, archive_bytes}
use Rattle.copy_vault.specs.Chain.{IsChain}
use Rattle.copy_vault.specs.ChainRead.{AreBelow}
use Rattle.copy_vault.specs.ChainReading.{AreNoChain, IsFromOutside, IsRightChain, SpellCopies, archives_of}
use Rattle.page_decisions.specs.Decisions.{taken_pages}
use Rattle.copy_vault.specs.Copy.{CopyView}
use Rattle.page_core.specs.declared.format.Format.TheVariants.{Second}
use Rattle.copy_vault.proofs.Public.{same_copy}
use Rattle.copy_vault.proofs.Public.{not_stopped, not_unmade}
use Rattle.copy_vault.proofs.Public.{some_members}
use Rattle.copy_audit.specs.declared.unsound.Unsound as fault
use Rattle.copy_audit.specs.Audit.{AreCovering, IsAudited, IsFirstUnsound, chain_to, end_of}
use Rattle.copy_audit.specs.AuditFault.{IsOutside, NamesNoPage, of_chain, of_log}
use Rattle.copy_audit.specs.Audited.{AreRefused, of_a_page, of_memory, of_the_archives, of_the_log}

pub covering_of_audited : (log : Log) (copies : List CopyView) → IsChain copies → IsAudited log copies
    → AreCovering log copies
covering_of_audited log copies chain is =
    let some : 0 < length copies = some_members copies chain in
    let last : length copies - 1 < length copies = omega (arith, some) in
    let all : chain_to copies (length copies - 1) ≡ copies =
    take_all (length copies - 1 + 1) copies (omega (arith, some)) in
    subst (AreCovering log) all (is.covering (length copies - 1) last)

take_shorter : {X : Type 0} (xs : List X) (i j : ℕ) → i ≤ j → take i (take j xs) ≡ take i xs
take_shorter xs zero j le = refl
take_shorter xs (suc i) zero le = absurd (omega arith)
take_shorter [] (suc i) (suc j) le = refl
take_shorter (x ∷ xs) (suc i) (suc j) le = ap (λ ys. x ∷ ys) (take_shorter xs i j (omega arith))

all_first : {X : Type 0} (P : X → Type 0) (n : ℕ) (xs : List X) → AllByRecursion P xs → AllByRecursion P (take n xs)
all_first P zero xs all = tt
all_first P (suc n) [] all = tt
all_first P (suc n) (x ∷ xs) all = (all.0, all_first P n xs all.1)

pub part_audited : (log : Log) (copies : List CopyView) (k : ℕ) → k < length copies → IsAudited log copies
    → IsAudited log (chain_to copies k)
part_audited log copies k lt is = record {
  within = record {
    points = all_first (λ (c : CopyView). c.redo < end_of log) (k + 1) copies is.within.points;
    below = all_first (λ (c : CopyView). AreBelow (end_of log) (taken_pages c.pages)) (k + 1) copies is.within.below;
  };
  covering = λ j below.
      let count : length (take (k + 1) copies) ≡ k + 1 = length-take-le (k + 1) copies (omega arith) in
      subst (AreCovering log) (sym (take_shorter copies (j + 1) (k + 1) (omega (arith, count, below))))
      (is.covering j (omega (arith, count, below)));
}

pub unsound_apart : (log : Log) (copies : List CopyView) (id page : ℕ) → IsFirstUnsound log copies id page
    → ¬ IsAudited log copies
unsound_apart log copies id page first is = first.unsound (is.covering first.at first.there page first.within)

-- ---- what the bytes spell

pub same_copies : (a b : List CopyView) → SpellCopies (map (λ (copy : CopyView). Some (archive_bytes copy)) a) b
    → AllByRecursion IsArchived a → b ≡ a
same_copies [] [] spell all = refl
same_copies [] (y ∷ b) spell all = absurd spell
same_copies (x ∷ a) [] spell all = absurd spell
same_copies (x ∷ a) (y ∷ b) spell all =
    let one : y ≡ x = same_copy y x (archive_bytes x) spell.0 (record { valid = all.0; format = Second; spelled = refl }) in
    let rest : b ≡ a = same_copies a b spell.1 all.1 in
    cc

pub same_log_of : (log other : Log) → SpellsLog other (log_bytes log) → IsLog log → other ≡ log
same_log_of log other spells valid =
    same_log other log (log_bytes log) spells (record { valid = valid; format = Second; of_format = λ i d lt. tt; spelled = refl })

-- ---- why they are not refused

outside_log : (whole : Log) → SpellsLog whole (log_bytes whole) → IsLinked whole.records → (why : LogReadFault)
    → Refuses (log_bytes whole) why → IsOutside (of_log why)
outside_log whole spells linked log.OutOfMemory refused = tt
outside_log whole spells linked log.ReadFault refused = tt
outside_log whole spells linked log.BadHeader refused =
    absurd (none_in_log whole (log_bytes whole) spells linked log.BadHeader refused.there)
outside_log whole spells linked (log.BadRecord at) refused =
    absurd (none_in_log whole (log_bytes whole) spells linked (log.BadRecord at) refused.there)
outside_log whole spells linked (log.BadChain at) refused =
    absurd (none_in_log whole (log_bytes whole) spells linked (log.BadChain at) refused.there)
outside_log whole spells linked (log.Torn at) refused =
    absurd (none_in_log whole (log_bytes whole) spells linked (log.Torn at) refused.there)
outside_log whole spells linked log.TooLong refused =
    absurd (none_in_log whole (log_bytes whole) spells linked log.TooLong refused.there)

outside_chain : (why : ChainReadFault) → IsFromOutside why → IsOutside (of_chain why)
outside_chain chain.OutOfMemory is = tt
outside_chain (chain.BadArchive at) is = absurd is
outside_chain (chain.ChainBroken copy) is = absurd is
outside_chain chain.CountDiffers is = absurd is
outside_chain chain.ReadFault is = tt
outside_chain chain.RedoBeyondLog is = absurd is
outside_chain (chain.PageBeyondLog page) is = absurd is

pub from_outside : (counts : PageCounts) (end : ℕ) (lefts : List (Option (List ℕ))) (copies : List CopyView)
    (why : ChainReadFault) → IsRightChain counts end copies
    → AreNoChain counts end (archives_of copies) lefts why → IsFromOutside why
from_outside counts end lefts copies why right (inl made) = not_unmade counts end lefts copies why right made
from_outside counts end lefts copies why right (inr (inl stopped)) =
    not_stopped counts end lefts copies why right stopped
from_outside counts end lefts copies why right (inr (inr memory)) = subst IsFromOutside (sym memory) tt

pub refused_outside : (whole : Log) (copies : List CopyView) (why : fault.Unsound) → IsLog whole
    → IsLinked whole.records → IsRightChain (counts_of whole) (end_of whole) copies → IsAudited whole copies
    → AreRefused (Some (log_bytes whole)) (archives_of copies) why → IsOutside why
refused_outside whole copies why valid linked right audited (of_the_log first same refused) =
    subst IsOutside (sym same)
    (outside_log whole (record { valid = valid; format = Second; of_format = λ i d lt. tt; spelled = refl }) linked first refused)
refused_outside whole copies why valid linked right audited (of_the_archives other is first same lefts refused) =
    let one : other ≡ whole = same_log_of whole other is.spelled valid in
    subst IsOutside (sym same) (outside_chain first (from_outside (counts_of whole) (end_of whole) lefts copies first right
    (subst (λ (k : Log). AreNoChain (counts_of k) (end_of k) (archives_of copies) lefts first) one refused)))
refused_outside whole copies why valid linked right audited (of_a_page other members is of chained found) =
    let one : other ≡ whole = same_log_of whole other is.spelled valid in
    let all : members ≡ copies = same_copies copies members of.spelled right.archived in
    let first : IsFirstUnsound whole copies found.id found.page =
    subst (λ (k : Log). IsFirstUnsound k copies found.id found.page) one
    (subst (λ (cs : List CopyView). IsFirstUnsound other cs found.id found.page) all found.first) in
    absurd (unsound_apart whole copies found.id found.page first audited)
refused_outside whole copies why valid linked right audited (of_memory is) = subst IsOutside (sym is) tt

-- ---- faults that name no page

pub no_page_of_log : (why : LogReadFault) → NamesNoPage (of_log why)
no_page_of_log log.OutOfMemory = tt
no_page_of_log log.BadHeader = tt
no_page_of_log (log.BadRecord at) = tt
no_page_of_log (log.BadChain at) = tt
no_page_of_log (log.Torn at) = tt
no_page_of_log log.ReadFault = tt
no_page_of_log log.TooLong = tt

pub no_page_of_chain : (why : ChainReadFault) → NamesNoPage (of_chain why)
no_page_of_chain chain.OutOfMemory = tt
no_page_of_chain (chain.BadArchive at) = tt
no_page_of_chain (chain.ChainBroken copy) = tt
no_page_of_chain chain.CountDiffers = tt
no_page_of_chain chain.ReadFault = tt
no_page_of_chain chain.RedoBeyondLog = tt
no_page_of_chain (chain.PageBeyondLog page) = tt
