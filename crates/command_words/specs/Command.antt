-- Which words give which command, and why others give none.
use Rattle.std.specs.Prelude.{◌≡◌, ◌≢◌, ◌⊎◌, ◌≤◌, ℕ, List, [], ◌∷◌, None, Option, IsSomeAnd, Some}
use Rattle.std.specs.Prelude.{IfSome, codes}
use Rattle.std.specs.Prelude.{◌<◌, ◌^◌, Bool, false, if◌then◌else◌, length, map, nat_eq}
use Rattle.std.specs.Prelude.{option_map, pos}
use Rattle.std.specs.Prelude.{slice_get, true, unwrap_or}
use Rattle.std.specs.List.{All, Any}
use Rattle.std.specs.Str.{bytes_eq, chars}
use Rattle.std.specs.Str.Parse.{digits_value, without_leading_plus}
use Rattle.clap.specs.Lexer.{usize_max}
use Rattle.clap.specs.Words.{App, IsAmong, Rule, Text, all_of, fault_of, first_of, kind_of}
use Rattle.clap.specs.Words.{matches_of, new_app, new_rule, one_of, with_rule}
use Rattle.clap.specs.declared.builder.action.ArgAction.TheVariants.{Append, Set, SetTrue}
use Rattle.clap.specs.declared.builder.value_parser.ValueParser.{ValueParser}
use Rattle.clap.specs.declared.builder.value_parser.ValueParser.TheVariants.{Signed}
use Rattle.strsim.specs.Edits.{levenshtein_row}
use Rattle.command_words.specs.declared.command.Command.{Command}
use Rattle.command_words.specs.declared.command.Command.TheVariants.{Audit, Backup, ListFolder}
use Rattle.command_words.specs.declared.command.Command.TheVariants.{Open, Redo, RedoInto, Renew}
use Rattle.command_words.specs.declared.command.Command.TheVariants.{Restore, RestoreFolder, Run}
use Rattle.command_words.specs.declared.command.Command.TheVariants.{Show, Verify, Version}
use Rattle.command_words.specs.declared.command.UsageFault.{UsageFault}
use Rattle.command_words.specs.declared.command.UsageFault.TheVariants.{BadArguments, HelpAsked}
use Rattle.command_words.specs.declared.command.UsageFault.TheVariants.{MisspelledCommand}
use Rattle.command_words.specs.declared.command.UsageFault.TheVariants.{NoCommand}
use Rattle.command_words.specs.declared.command.UsageFault.TheVariants.{OutOfMemory}
use Rattle.command_words.specs.declared.command.UsageFault.TheVariants.{UnknownCommand}

-- `redo`, which has no arguments
abbrev pub redo_app : App
redo_app = new_app (codes "redo")

-- a file that takes the place of standard output
abbrev pub output_rule : Rule
output_rule = record (new_rule (codes "into")) {
  long = Some (codes "output");
  short = Some 111;
  action = Some Set;
  value_names = 1;
}

-- outputs may replace files that are kept else
abbrev pub force_rule : Rule
force_rule = record (new_rule (codes "with_force")) {
  long = Some (codes "force");
  action = Some SetTrue;
}

-- a number within bounds, which may be left out
abbrev pub number_rule : Text → Text → ℕ → ℕ → Rule
number_rule id name low high = record (new_rule id) {
  long = Some name;
  action = Some Set;
  value_names = 1;
  parser = Some (Signed (pos low) (pos high));
}

-- the LSN up to whose record a log counts
abbrev pub until_rule : Rule
until_rule = number_rule (codes "until_lsn") (codes "until") 0 67108928

-- `redo [-o FILE] [--force] [--until LSN]`
abbrev pub redo_into_app : App
redo_into_app = with_rule
    (with_rule (with_rule (new_app (codes "redo")) output_rule) force_rule) until_rule

-- a number from 1 to 65,536
abbrev pub count_parser : ValueParser
count_parser = Signed (pos 1) (pos 65536)

-- the number of an LSN
abbrev pub lsn_parser : ValueParser
lsn_parser = Signed (pos 0) (pos 67108928)

abbrev pub pages_rule : Rule
pages_rule = record (new_rule (codes "pages")) {
  long = Some (codes "pages");
  action = Some Set;
  value_names = 1;
  parser = Some count_parser;
  required = true;
}

abbrev pub frames_rule : Rule
frames_rule = record (new_rule (codes "frames")) {
  long = Some (codes "frames");
  action = Some Set;
  value_names = 1;
  parser = Some count_parser;
}

abbrev pub save_rule : Rule
save_rule = record (new_rule (codes "save")) {
  long = Some (codes "save");
  action = Some Set;
  value_names = 1;
}

-- the files that are saved get a manifest
abbrev pub saved_manifest_rule : Rule
saved_manifest_rule = record (new_rule (codes "manifest")) {
  long = Some (codes "manifest");
  action = Some SetTrue;
}

abbrev pub strict_rule : Rule
strict_rule = record (new_rule (codes "is_strict")) {
  long = Some (codes "strict");
  action = Some SetTrue;
}

-- `run --pages N [--frames B] [--save FOLDER] [--manifest] [--strict] [--force]`
abbrev pub run_app : App
run_app = with_rule (with_rule (with_rule
    (with_rule (with_rule (with_rule (new_app (codes "run")) pages_rule) frames_rule) save_rule)
    saved_manifest_rule) strict_rule) force_rule

abbrev pub log_rule : Rule
log_rule = record (new_rule (codes "log")) {
  action = Some Set;
  value_names = 1;
  required = true;
}

abbrev pub master_rule : Rule
master_rule = record (new_rule (codes "master")) {
  action = Some Set;
  value_names = 1;
  required = true;
}

abbrev pub archive_rule : Rule
archive_rule = record (new_rule (codes "archive")) {
  action = Some Append;
  range = Some (record { start_inclusive = 0; end_inclusive = usize_max });
  value_names = 1;
}

-- a file that the log after undo goes into
abbrev pub log_output_rule : Rule
log_output_rule = record (new_rule (codes "log_into")) {
  long = Some (codes "log-out");
  action = Some Set;
  value_names = 1;
}

-- the manifest of the files that are read
abbrev pub manifest_rule : Rule
manifest_rule = record (new_rule (codes "manifest_file")) {
  long = Some (codes "manifest");
  action = Some Set;
  value_names = 1;
}

-- no manifest is looked at
abbrev pub no_manifest_rule : Rule
no_manifest_rule = record (new_rule (codes "without_sums")) {
  long = Some (codes "no-manifest");
  action = Some SetTrue;
}

-- `.. [--manifest FILE] [--no-manifest]`
abbrev pub with_manifest_rules : App → App
with_manifest_rules app = with_rule (with_rule app manifest_rule) no_manifest_rule

-- `restore [-o FILE] [--log-out FILE] [--force] [--until LSN] [--manifest FILE] [--no-manifest]
-- LOG MASTER [ARCHIVE]...`
abbrev pub restore_app : App
restore_app = with_manifest_rules (with_rule (with_rule (with_rule
    (with_rule (with_rule (with_rule (with_rule (new_app (codes "restore")) log_rule) master_rule)
    archive_rule)
    output_rule)
    log_output_rule) force_rule) until_rule)

-- the copy whose chain is restored
abbrev pub copy_rule : Rule
copy_rule = number_rule (codes "which") (codes "copy") 1 4294967295

abbrev pub folder_rule : Rule
folder_rule = record (new_rule (codes "dir")) {
  action = Some Set;
  value_names = 1;
  required = true;
}

-- `restore [--copy N] [-o FILE] [--log-out FILE] [--force] [--until LSN] [--manifest FILE]
-- [--no-manifest] FOLDER`
abbrev pub restore_folder_app : App
restore_folder_app = with_manifest_rules (with_rule (with_rule (with_rule
    (with_rule (with_rule (with_rule (new_app (codes "restore")) folder_rule) copy_rule)
    output_rule)
    log_output_rule) force_rule) until_rule)

abbrev pub audited_master_rule : Rule
audited_master_rule = record (new_rule (codes "master")) {
  long = Some (codes "master");
  action = Some Set;
  value_names = 1;
}

abbrev pub all_rule : Rule
all_rule = record (new_rule (codes "every")) {
  long = Some (codes "all");
  action = Some SetTrue;
}

-- `audit [--all] [--master FILE] [--until LSN] [--manifest FILE] [--no-manifest] LOG [ARCHIVE]...`
abbrev pub audit_app : App
audit_app = with_manifest_rules (with_rule (with_rule
    (with_rule (with_rule (with_rule (new_app (codes "audit")) log_rule) archive_rule)
    audited_master_rule) all_rule) until_rule)

-- a number of pages that may be left out
abbrev pub told_pages_rule : Rule
told_pages_rule = record (new_rule (codes "pages")) {
  long = Some (codes "pages");
  action = Some Set;
  value_names = 1;
  parser = Some count_parser;
}

-- a damaged log may be cut where it is right to
abbrev pub salvage_rule : Rule
salvage_rule = record (new_rule (codes "is_salvage")) {
  long = Some (codes "salvage");
  action = Some SetTrue;
}

-- `open FOLDER [--pages N] [--frames B] [--salvage] [--strict]`
abbrev pub open_app : App
open_app = with_rule (with_rule
    (with_rule (with_rule (with_rule (new_app (codes "open")) folder_rule) told_pages_rule)
    frames_rule)
    salvage_rule) strict_rule

-- the file that is shown
abbrev pub file_rule : Rule
file_rule = record (new_rule (codes "of")) {
  action = Some Set;
  value_names = 1;
  required = true;
}

-- the least LSN and the greatest one that are shown: none is past the end of the longest log
abbrev pub from_rule : Rule
from_rule = number_rule (codes "low") (codes "from") 0 67108928

abbrev pub to_rule : Rule
to_rule = number_rule (codes "high") (codes "to") 0 67108928

-- the transaction whose records are shown
abbrev pub txn_rule : Rule
txn_rule = number_rule (codes "owner") (codes "txn") 1 4294967295

-- the page that is shown
abbrev pub page_rule : Rule
page_rule = number_rule (codes "number") (codes "page") 0 65535

abbrev pub json_rule : Rule
json_rule = record (new_rule (codes "as_json")) {
  long = Some (codes "json");
  action = Some SetTrue;
}

-- the commits of a log alone are shown
abbrev pub commits_rule : Rule
commits_rule = record (new_rule (codes "finished")) {
  long = Some (codes "commits");
  action = Some SetTrue;
}

-- `show FILE [--from LSN] [--to LSN] [--txn N] [--page P] [--json] [--commits]`
abbrev pub show_app : App
show_app = with_rule (with_rule (with_rule (with_rule
    (with_rule (with_rule (with_rule (new_app (codes "show")) file_rule) from_rule) to_rule)
    txn_rule) page_rule) json_rule) commits_rule

-- `list FOLDER [--json] [--manifest FILE] [--no-manifest]`
abbrev pub list_app : App
list_app =
    with_manifest_rules (with_rule (with_rule (new_app (codes "list")) folder_rule) json_rule)

-- the copy that a new one stands on
abbrev pub on_rule : Rule
on_rule = number_rule (codes "on") (codes "on") 1 4294967295

-- the new copy stands on none
abbrev pub full_rule : Rule
full_rule = record (new_rule (codes "is_full")) {
  long = Some (codes "full");
  action = Some SetTrue;
}

-- a folder that the files go into, too
abbrev pub into_rule : Rule
into_rule = record (new_rule (codes "into")) {
  long = Some (codes "into");
  action = Some Set;
  value_names = 1;
}

-- `backup FOLDER [--on N] [--full] [--into DIR]`
abbrev pub backup_app : App
backup_app = with_rule
    (with_rule (with_rule (with_rule (new_app (codes "backup")) folder_rule) on_rule) full_rule)
    into_rule

-- `verify FOLDER [--manifest FILE] [--no-manifest]`
abbrev pub verify_app : App
verify_app = with_manifest_rules (with_rule (new_app (codes "verify")) folder_rule)

-- the folder of a closed database
abbrev pub old_rule : Rule
old_rule = record (new_rule (codes "old")) {
  action = Some Set;
  value_names = 1;
  required = true;
}

-- the folder of the one that begins with its numbers
abbrev pub renewed_rule : Rule
renewed_rule = record (new_rule (codes "renewed")) {
  action = Some Set;
  value_names = 1;
  required = true;
}

-- `renew OLD NEW`
abbrev pub renew_app : App
renew_app = with_rule (with_rule (new_app (codes "renew")) old_rule) renewed_rule

-- each command, as clap reads it; `redo` and `restore` are read in two ways
abbrev pub apps : List App
apps = redo_app ∷ run_app ∷ restore_app ∷ audit_app ∷ redo_into_app ∷ open_app ∷ show_app
    ∷ list_app ∷ backup_app ∷ verify_app ∷ renew_app ∷ restore_folder_app ∷ []

-- the first word is the name of the command
abbrev pub Names : List Text → App → Type 0
Names words app = slice_get words 0 ≡ Some app.top.name

-- the words name the command, and clap finds no fault in those after the name
abbrev pub IsTakenBy : List Text → App → Type 0
IsTakenBy words app = Names words app × (fault_of app words ≡ [])

-- one of the commands takes the words
abbrev pub IsTaken : List Text → Type 0
IsTaken words = Any (IsTakenBy words) apps

-- the text is a decimal number
abbrev pub IsNumberRead : Option Text → ℕ → Type 0
IsNumberRead text number =
    IsSomeAnd text (λ digits. digits_value 10 (without_leading_plus digits) ≡ number)

-- the number that the text says, or 65,536 frames where there is no text
abbrev pub IsFramesRead : Option Text → ℕ → Type 0
IsFramesRead None frames = frames ≡ 65536
IsFramesRead (Some text) frames = IsNumberRead (Some text) frames

-- the number that the text says, or none where there is no text
abbrev pub IsTold : Option Text → Option ℕ → Type 0
IsTold None None = Unit {0}
IsTold None (Some pages) = ⊥
IsTold (Some text) None = ⊥
IsTold (Some text) (Some pages) = IsNumberRead (Some text) pages

-- what the text of a flag says of it; without it there is none
abbrev pub IsFlag : Option Text → Bool → Type 0
IsFlag text given = (text ≡ None → given ≡ false) × (text ≡ Some (codes "true") → given ≡ true)
    × (text ≡ Some (codes "false") → given ≡ false)

-- the first word asks for the program's version
abbrev pub AsksForVersion : Text → Type 0
AsksForVersion name = (name ≡ codes "--version") ⊎ (name ≡ codes "-V")

-- the words give this command, with the values that clap matches after its name
abbrev pub Gives : List Text → Command → Type 0
Gives words Redo = IsTakenBy words redo_app
Gives words (RedoInto output force until) = let rows = matches_of redo_into_app words in
    IsTakenBy words redo_into_app
    × (option_map (λ name. name.now) output ≡ first_of (codes "into") rows)
    × IsFlag (one_of (codes "with_force") rows) force
    × IsTold (one_of (codes "until_lsn") rows) until
Gives words (Run pages frames save manifest strict force) = let rows = matches_of run_app words in
    IsTakenBy words run_app × IsNumberRead (one_of (codes "pages") rows) pages
    × IsFramesRead (one_of (codes "frames") rows) frames
    × (option_map (λ name. name.now) save ≡ first_of (codes "save") rows)
    × IsFlag (one_of (codes "manifest") rows) manifest
    × IsFlag (one_of (codes "is_strict") rows) strict
    × IsFlag (one_of (codes "with_force") rows) force
Gives words (Open folder pages frames salvage strict) = let rows = matches_of open_app words in
    IsTakenBy words open_app × (first_of (codes "dir") rows ≡ Some folder.now)
    × IsTold (one_of (codes "pages") rows) pages
    × IsFramesRead (one_of (codes "frames") rows) frames
    × IsFlag (one_of (codes "is_salvage") rows) salvage
    × IsFlag (one_of (codes "is_strict") rows) strict
Gives words (Restore log master archives output log_output force until manifest no_manifest) =
    let rows = matches_of restore_app words in
    IsTakenBy words restore_app × (first_of (codes "log") rows ≡ Some log.now)
    × (first_of (codes "master") rows ≡ Some master.now)
    × (map (λ name. name.now) archives.items ≡ unwrap_or (all_of (codes "archive") rows) [])
    × (option_map (λ name. name.now) output ≡ first_of (codes "into") rows)
    × (option_map (λ name. name.now) log_output ≡ first_of (codes "log_into") rows)
    × IsFlag (one_of (codes "with_force") rows) force
    × IsTold (one_of (codes "until_lsn") rows) until
    × (option_map (λ name. name.now) manifest ≡ first_of (codes "manifest_file") rows)
    × IsFlag (one_of (codes "without_sums") rows) no_manifest
Gives words (RestoreFolder folder copy output log_output force until manifest no_manifest) =
    let rows = matches_of restore_folder_app words in
    IsTakenBy words restore_folder_app × (first_of (codes "dir") rows ≡ Some folder.now)
    × IsTold (one_of (codes "which") rows) copy
    × (option_map (λ name. name.now) output ≡ first_of (codes "into") rows)
    × (option_map (λ name. name.now) log_output ≡ first_of (codes "log_into") rows)
    × IsFlag (one_of (codes "with_force") rows) force
    × IsTold (one_of (codes "until_lsn") rows) until
    × (option_map (λ name. name.now) manifest ≡ first_of (codes "manifest_file") rows)
    × IsFlag (one_of (codes "without_sums") rows) no_manifest
Gives words (Audit log archives master all until manifest no_manifest) =
    let rows = matches_of audit_app words in
    IsTakenBy words audit_app × (first_of (codes "log") rows ≡ Some log.now)
    × (map (λ name. name.now) archives.items ≡ unwrap_or (all_of (codes "archive") rows) [])
    × (option_map (λ name. name.now) master ≡ first_of (codes "master") rows)
    × IsFlag (one_of (codes "every") rows) all
    × IsTold (one_of (codes "until_lsn") rows) until
    × (option_map (λ name. name.now) manifest ≡ first_of (codes "manifest_file") rows)
    × IsFlag (one_of (codes "without_sums") rows) no_manifest
Gives words (Show file from to txn page json commits) = let rows = matches_of show_app words in
    IsTakenBy words show_app × (first_of (codes "of") rows ≡ Some file.now)
    × IsTold (one_of (codes "low") rows) from × IsTold (one_of (codes "high") rows) to
    × IsTold (one_of (codes "owner") rows) txn × IsTold (one_of (codes "number") rows) page
    × IsFlag (one_of (codes "as_json") rows) json
    × IsFlag (one_of (codes "finished") rows) commits
Gives words (ListFolder folder json manifest no_manifest) = let rows = matches_of list_app words in
    IsTakenBy words list_app × (first_of (codes "dir") rows ≡ Some folder.now)
    × IsFlag (one_of (codes "as_json") rows) json
    × (option_map (λ name. name.now) manifest ≡ first_of (codes "manifest_file") rows)
    × IsFlag (one_of (codes "without_sums") rows) no_manifest
Gives words (Backup folder on full into) = let rows = matches_of backup_app words in
    IsTakenBy words backup_app × (first_of (codes "dir") rows ≡ Some folder.now)
    × IsTold (one_of (codes "on") rows) on × IsFlag (one_of (codes "is_full") rows) full
    × (option_map (λ name. name.now) into ≡ first_of (codes "into") rows)
Gives words (Verify folder manifest no_manifest) = let rows = matches_of verify_app words in
    IsTakenBy words verify_app × (first_of (codes "dir") rows ≡ Some folder.now)
    × (option_map (λ name. name.now) manifest ≡ first_of (codes "manifest_file") rows)
    × IsFlag (one_of (codes "without_sums") rows) no_manifest
Gives words (Renew old renewed) = let rows = matches_of renew_app words in
    IsTakenBy words renew_app × (first_of (codes "old") rows ≡ Some old.now)
    × (first_of (codes "renewed") rows ≡ Some renewed.now)
Gives words Version = IsSomeAnd (slice_get words 0) AsksForVersion

-- a volume has 1 to 65,536 pages, and 1 to 65,536 frames are there for them; a copy has a number
-- from 1 on
abbrev pub HasCounts : Command → Type 0
HasCounts Redo = Unit {0}
HasCounts (RedoInto output force until) = Unit {0}
HasCounts (Run pages frames save manifest strict force) =
    (1 ≤ pages) × (pages ≤ 65536) × (1 ≤ frames) × (frames ≤ 65536)
HasCounts (Open folder pages frames salvage strict) =
    IfSome pages (λ n. (1 ≤ n) × (n ≤ 65536)) × (1 ≤ frames) × (frames ≤ 65536)
HasCounts (Restore log master archives output log_output force until manifest no_manifest) = Unit {0}
HasCounts (RestoreFolder folder copy output log_output force until manifest no_manifest) =
    IfSome copy (λ n. (1 ≤ n) × (n < 2 ^ 32))
HasCounts (Audit log archives master all until manifest no_manifest) = Unit {0}
HasCounts (Show file from to txn page json commits) = Unit {0}
HasCounts (ListFolder folder json manifest no_manifest) = Unit {0}
HasCounts (Backup folder on full into) = IfSome on (λ n. (1 ≤ n) × (n < 2 ^ 32))
HasCounts (Verify folder manifest no_manifest) = Unit {0}
HasCounts (Renew old renewed) = Unit {0}
HasCounts Version = Unit {0}

-- the words of `redo`, written out; `--` only ends the options
abbrev pub IsRedo : List Text → Type 0
IsRedo words = (words ≡ codes "redo" ∷ []) ⊎ (words ≡ codes "redo" ∷ codes "--" ∷ [])

-- the first word asks for help
abbrev pub AsksForHelp : Text → Type 0
AsksForHelp name = (name ≡ codes "help") ⊎ ((name ≡ codes "--help") ⊎ (name ≡ codes "-h"))

-- no command has the name, and it asks for no help
abbrev pub IsUnknown : Text → Type 0
IsUnknown name = All (λ app. app.top.name ≢ name) apps × (AsksForHelp name → ⊥)

-- the names that a user may have meant
abbrev pub names : List Text
names = codes "redo" ∷ codes "run" ∷ codes "open" ∷ codes "backup" ∷ codes "restore"
    ∷ codes "audit" ∷ codes "verify" ∷ codes "show" ∷ codes "list" ∷ codes "renew"
    ∷ codes "help" ∷ []

-- how many characters are put in, taken out or replaced to make the name out of the word
abbrev pub edits : Text → Text → ℕ
edits word name = levenshtein_row nat_eq (chars word) (chars name) (length (chars name))

-- the word is more than two edits away from each name
abbrev pub IsFar : Text → Type 0
IsFar word = All (λ name. 2 < edits word name) names

-- the name is at most two edits away from the word, and no other is nearer
abbrev pub IsNear : Text → Text → Type 0
IsNear word name = (edits word name ≤ 2) × Any (λ one. one ≡ name) names
    × All (λ other. edits word name ≤ edits word other) names

-- why an unknown word gives no command; a name that is near is suggested
abbrev pub ExplainsUnknown : Text → UsageFault → Type 0
ExplainsUnknown word (UnknownCommand name) = (name.now ≡ word) × IsUnknown word × IsFar word
ExplainsUnknown word (MisspelledCommand name near) =
    (name.now ≡ word) × IsUnknown word × IsNear word near.now
ExplainsUnknown word OutOfMemory = Unit {0}
ExplainsUnknown word _ = ⊥

-- why words that are read as they stand give no command
abbrev pub ExplainsRead : List Text → UsageFault → Type 0
ExplainsRead words HelpAsked = IsSomeAnd (slice_get words 0) AsksForHelp
ExplainsRead words NoCommand = words ≡ []
ExplainsRead words (UnknownCommand name) =
    IsSomeAnd (slice_get words 0) (λ word. ExplainsUnknown word (UnknownCommand name))
ExplainsRead words (MisspelledCommand name near) =
    IsSomeAnd (slice_get words 0) (λ word. ExplainsUnknown word (MisspelledCommand name near))
ExplainsRead words (BadArguments error) =
    Any (λ app. Names words app × IsAmong (kind_of error) (fault_of app words)) apps
ExplainsRead words OutOfMemory = Unit {0}

-- `help NAME` is read as `NAME --help`, whatever follows
abbrev pub read_as : List Text → List Text
read_as [] = []
read_as (first ∷ []) = first ∷ []
read_as (first ∷ name ∷ rest) =
    if bytes_eq first (codes "help") then name ∷ codes "--help" ∷ [] else first ∷ name ∷ rest

-- why the words give no command; want of memory is no fault of theirs
abbrev pub Explains : List Text → UsageFault → Type 0
Explains words = ExplainsRead (read_as words)
