-- The volume of a log, by the pages that reading the log has made.
use Rattle.std.proofs.Common.{◌≡◌, ◌*◌, ◌<◌, ◌≤◌, ℕ, List, length, take, drop, sym, ap, ◌∙◌, arith}
use Rattle.page_core.specs.declared.page.Page.{Page}
use Rattle.page_core.specs.Page.{volume_bytes}
use Rattle.log_records.specs.Image.{redo_all}
use Rattle.log_records.specs.Log.{IsLog, Log, page_count}
use Rattle.log_records.proofs.Public.{length-redo_all, numbered-redo_all, page_count-is_count}
use Rattle.embed_calls.specs.declared.outcome.Outcome.{Outcome}
use Rattle.embed_calls.specs.Calls.{IsLogOf, IsRedone, IsTooShort}
use Rattle.embed_calls.specs.Outcome.{answers}

-- the pages are those of the log
abbrev pub AreMadeBy : Log → List Page → Type 0
AreMadeBy log pages = pages ≡ redo_all log.records (page_count log)

pub length-made : (log : Log) (pages : List Page) → AreMadeBy log pages → length pages ≡ page_count log
length-made log pages made =
    ap (λ (ps : List Page). length ps) made ∙ length-redo_all log.records (page_count log)

pub few_made : (log : Log) (pages : List Page) → IsLog log → AreMadeBy log pages → length pages ≤ 65536
few_made log pages valid made =
    let count = length-made log pages made in
    let most = (page_count-is_count log valid).most in
    omega arith

pub redone : (log : Log) (bytes old new : List ℕ) (pages : List Page) (it : Outcome) → IsLogOf bytes log
    → AreMadeBy log pages → it ≡ answers (512 * length pages) 0 0 → 512 * length pages ≤ length old
    → take (512 * length pages) new ≡ volume_bytes pages
    → drop (512 * length pages) new ≡ drop (512 * length pages) old → IsRedone bytes old new it
redone log bytes old new pages it right made told fits spelled behind =
    let count = length-made log pages made in
    record {
      log = log;
      of_log = right;
      count = told ∙ ap (λ (n : ℕ). answers (512 * n) 0 0) count;
      fits = omega arith;
      volume = record {
        numbered = numbered-redo_all log.records (page_count log);
        spelled = ap (λ (n : ℕ). take (512 * n) new) (sym count) ∙ spelled ∙ ap volume_bytes made;
      };
      behind = ap (λ (n : ℕ). drop (512 * n) new) (sym count) ∙ behind
          ∙ ap (λ (n : ℕ). drop (512 * n) old) count;
    }

pub too_short : (log : Log) (bytes : List ℕ) (room needed : ℕ) (pages : List Page) → IsLogOf bytes log
    → AreMadeBy log pages → needed ≡ 512 * length pages → room < 512 * length pages
    → IsTooShort bytes room needed
too_short log bytes room needed pages right made is short =
    let count = length-made log pages made in
    record {
      log = log;
      of_log = right;
      needs = is ∙ ap (λ (n : ℕ). 512 * n) count;
      short = omega arith;
    }
