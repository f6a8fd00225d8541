-- What was forced is in the front.
use Rattle.std.proofs.Common.{◌≡◌, ℕ, List, ◌++◌, length, take, drop, sym, subst, arith}
use Rattle.std.proofs.lemmas.List.{length-take, take-append-drop}
use Rattle.log_records.specs.Log.{Log, SpellsLog}
use Rattle.log_rules.specs.Linked.{IsLinked}
use Rattle.log_rules.proofs.Public.{linked-take}
use Rattle.log_store.specs.WrittenLog.{AreForced, WrittenLog}
use Rattle.log_store.specs.WrittenLog.{first_records as cut_log}
use Rattle.log_prefix.specs.Front.{IsLongestFront}
use Rattle.log_prefix.proofs.Fronts.{first_records, more_front, whole_front}

-- it is a front, and so the first records of the longest one
pub forced_in_front : (forced log : Log) (written behind : List ℕ) → SpellsLog forced written
    → IsLinked forced.records → IsLongestFront (written ++ behind) log
    → forced ≡ record log { records = take (length forced.records) log.records }
forced_in_front forced log written behind spells linked longest =
    let f = more_front written behind forced (whole_front written forced spells linked) in
    first_records (written ++ behind) forced log f longest.front (longest.longest forced f)

-- what a device keeps of a forced log is a front, and so the first records of the longest one
pub kept_in_front : {D : Type 0} (bytes : D → List ℕ) (it : WrittenLog D) (count : ℕ) (left : List ℕ) (log : Log)
    → AreForced bytes it count → IsLinked it.log.records
    → take it.forced_end left ≡ take it.forced_end (bytes it.device) → IsLongestFront left log
    → cut_log count it.log ≡ cut_log count log
kept_in_front bytes it count left log forced linked stays longest =
    let end = it.forced_end in
    let first : Log = record it.log { records = take count it.log.records } in
    let there = forced.there in
    let many : length (take count it.log.records) ≡ count = omega (arith, there, length-take count it.log.records) in
    let spells : SpellsLog first (take end left) = subst (SpellsLog first) (sym stays) forced.stable in
    let whole : IsLongestFront (take end left ++ drop end left) log =
    subst (λ (bs : List ℕ). IsLongestFront bs log) (sym (take-append-drop end left)) longest in
    subst (λ (n : ℕ). first ≡ record log { records = take n log.records }) many
    (forced_in_front first log (take end left) (drop end left) spells (linked-take it.log.records linked count) whole)
