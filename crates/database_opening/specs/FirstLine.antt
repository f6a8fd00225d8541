-- What an open database tells first.
use Rattle.std.specs.Prelude.{ℕ, List, [], ◌∷◌, ◌++◌, codes, if◌then◌else◌, length, ◌==◌}
use Rattle.std.specs.Fmt.{decimal}
use Rattle.engine_rules.specs.EngineState.{EngineState}
use Rattle.log_prefix.specs.Front.{end_of}
use Rattle.log_records.specs.Log.{Log}
use Rattle.log_rules.specs.Transactions.{open_in}
use Rattle.database_opening.specs.declared.first_line.FirstLine.{FirstLine}
use Rattle.database_opening.specs.declared.first_line.FirstLine.TheVariants.{New, Restarted}

-- the end of a noun of which there are so many
abbrev pub plural_of : ℕ → List ℕ
plural_of count = if count == 1 then [] else codes "s"

-- how many pages a new database has; or where the front of a log ends, how many transactions were
-- open there, and how many records the log has once they are taken back
abbrev pub line_of_first : FirstLine → List ℕ
line_of_first (New pages) = codes "new: " ++ (decimal pages ++ (codes " page" ++ plural_of pages))
line_of_first (Restarted cut taken_back records) =
    codes "restarted: log cut at " ++ (decimal cut ++ (codes ", " ++ (decimal taken_back
    ++ (codes " transaction" ++ (plural_of taken_back ++ (codes " taken back, "
    ++ (decimal records ++ (codes " record" ++ plural_of records))))))))

-- the first line, with its line feed
abbrev pub first_line : FirstLine → List ℕ
first_line first = line_of_first first ++ 10 ∷ []

-- what is told of an engine that goes on from this log: where that ends, how many transactions are
-- open there, and how many records the engine has
abbrev pub told_of : Log → EngineState → FirstLine
told_of log engine = Restarted (end_of log) (length (open_in log.records)) (length engine.log)
