-- Files that are refused where they are not the ones that are named.
use Rattle.std.proofs.Common.{◌≡◌, ◌<◌, ◌≤◌, ◌^◌, ◌++◌, ◌∙◌, ◌*◌, ℕ, List, [], ◌∷◌, length, map, refl, ap, arith}
use Rattle.std.proofs.Common.{Bool, true, false, None, Some, IfSome}
use Rattle.std.specs.Prelude.{Option, if◌then◌else◌, replicate}
use Rattle.std.specs.List.{AllByRecursion}
use Rattle.std.specs.Io.KnownBytes.{append_known}
use Rattle.std.proofs.lemmas.List.{length-append, length-replicate}
use Rattle.manifest.specs.declared.entry.FileSum.{FileSum}
use Rattle.manifest.specs.Checking.{is_named, too_many}
use Rattle.manifest.proofs.Public.{is_decided}
use Rattle.log_records.specs.Log.{Log, SpellsLog}
use Rattle.log_records.proofs.Public.{length-log}
use Rattle.log_store.specs.declared.master.Master.{Master}
use Rattle.log_store.specs.Master.{SpellsMaster}
use Rattle.log_store.proofs.Public.{length-master_bytes}
use Rattle.copy_vault.specs.declared.header.ArchiveHeader.{ArchiveHeader}
use Rattle.copy_vault.specs.Archive.{IsKindOf, SpellsCopy, header_bytes, header_in, header_of}
use Rattle.copy_vault.specs.ChainReading.{SpellCopies}
use Rattle.copy_vault.specs.declared.copy_id.CopyKind.{CopyKind}
use Rattle.copy_vault.specs.declared.copy_id.CopyKind.TheVariants.{Full, Inc}
use Rattle.page_decisions.specs.Decisions.{taken_pages}
use Rattle.copy_vault.specs.Copy.{CopyView}
use Rattle.page_core.specs.declared.page.Page.{Page}
use Rattle.page_core.specs.Page.{IsPage, page_bytes, volume_bytes}
use Rattle.page_core.proofs.Public.{length-page_bytes}
use Rattle.media_restore.specs.Files.{HasParts}
use Rattle.saved_files.specs.Restored.{files_by}
use Rattle.saved_files.specs.declared.restore_names.RestoreNames.{RestoreNames}
use Rattle.checked_files.specs.Checked.{AreRight, IsRight, IsRightIn, bytes_by, checked_by}
use Rattle.checked_files.specs.declared.expected.Expected.{Expected}

-- ---- more bytes than a file has

too_long_by : (n : ℕ) (bytes : List ℕ) → 2 ^ 64 ≤ n → length (bytes ++ replicate n 0) < 2 ^ 64 → ⊥
too_long_by n bytes many few =
    omega (arith, many, few, length-append bytes (replicate n 0), length-replicate {A = ℕ} n 0)

too_long : (bytes : List ℕ) → length (bytes ++ too_many) < 2 ^ 64 → ⊥
unfolding too_many
too_long bytes few = too_long_by (2 ^ 64) bytes (omega arith) few

right_by : (is : Bool) (bytes : List ℕ) (P : List ℕ → Type 0)
    → ((all : List ℕ) → P all → length all < 2 ^ 64)
    → IfSome (if is then Some bytes else append_known (Some bytes) too_many) P → is ≡ true
right_by true bytes P few it = refl
right_by false bytes P few it = absurd (too_long bytes (few (bytes ++ too_many) it))

-- a file of which it is known what its bytes spell, and which comes to its end
pub right : (P : List ℕ → Type 0) → ((all : List ℕ) → P all → length all < 2 ^ 64)
    → (expected : Option FileSum) (known : Option (List ℕ)) → IfSome (checked_by expected known) P
    → IsRight expected known
right P few None known it = tt
right P few (Some file) None it = tt
right P few (Some file) (Some bytes) it =
    (is_decided file bytes).0 (right_by (is_named file bytes) bytes P few it)

-- ---- how many bytes files have

pub few_of_log : (log : Log) (bytes : List ℕ) → SpellsLog log bytes → length bytes < 2 ^ 64
few_of_log log bytes it = omega (arith, length-log log bytes it, it.valid.count)

pub few_of_master : (m : Master) (bytes : List ℕ) → SpellsMaster m bytes → length bytes < 2 ^ 64
few_of_master m bytes it = omega (arith, ap length it.spelled, length-master_bytes m)

most_taken : (kind : CopyKind) (h : ArchiveHeader) → IsKindOf kind h → h.taken ≤ h.pages
most_taken Full h it = omega (arith, it)
most_taken (Inc parent) h it = it.2

header_length : (h : ArchiveHeader) → length (header_bytes h) ≡ 64
unfolding header_bytes
header_length h = refl

pages_length : (pages : List Page) → AllByRecursion IsPage pages
    → length (volume_bytes pages) ≡ 512 * length pages
pages_length [] all = omega arith
pages_length (page ∷ pages) all =
    length-append (page_bytes page) (volume_bytes pages)
    ∙ omega (arith, length-page_bytes page all.0.count, pages_length pages all.1)

pub few_of_copy : (copy : CopyView) (bytes : List ℕ) → SpellsCopy copy bytes → length bytes < 2 ^ 64
few_of_copy copy bytes it =
    let header = it.valid.header in
    let front = header_bytes (header_in it.format copy) in
    let pages = taken_pages copy.pages in
    omega (
      arith,
      ap length it.spelled,
      length-append front (volume_bytes pages),
      header_length (header_in it.format copy),
      pages_length pages it.valid.pages,
      most_taken copy.kind (header_of copy) header.kind,
      header.few_pages,
    )

-- ---- the files of a restore

pub all_right : {A : Type 0} (name_in : A → List ℕ) (bytes : List ℕ → Option (List ℕ)) (expected : List Expected)
    (names : List A) (copies : List CopyView)
    → SpellCopies (map (λ name. bytes_by bytes expected (name_in name)) names) copies
    → AllByRecursion (λ name. IsRightIn bytes expected (name_in name)) names
all_right name_in bytes expected [] copies it = tt
all_right name_in bytes expected (name ∷ names) [] it = absurd it
all_right name_in bytes expected (name ∷ names) (copy ∷ copies) it = (
  right (SpellsCopy copy) (few_of_copy copy) _ _ it.0,
  all_right name_in bytes expected names copies it.1,
)

pub are_right : (bytes : List ℕ → Option (List ℕ)) (expected : List Expected) (names : RestoreNames)
    (log : Log) (master : Master) (copies : List CopyView)
    → HasParts (files_by (bytes_by bytes expected) names) log master copies → AreRight bytes expected names
are_right bytes expected names log master copies it = record {
  log = right (SpellsLog log) (few_of_log log) _ _ it.of_log.spelled;
  master = right (SpellsMaster master) (few_of_master master) _ _ it.of_master.spelled;
  archives = all_right (λ name. name.now) bytes expected names.archives.now copies it.of_archives.spelled;
}
