-- What the calls of clap build for each command, and what its numbers are once clap let them through.
use Rattle.std.specs.Prelude.{◌≡◌, ◌⊎◌, ◌<◌, ◌^◌, ℕ, List, [], ◌∷◌, None, Some, codes, false, pos}
use Rattle.std.specs.Prelude.{true}
use Rattle.std.specs.List.{All}
use Rattle.clap.specs.Built.{AddsArg, AddsInTurn, FitsChain, TakesValue}
use Rattle.clap.specs.Words.{Accepts, Text, args_of, groups_of, one_text, rule_of, without_minus}
use Rattle.clap.specs.declared.builder.arg.Arg.{Arg}
use Rattle.clap.specs.declared.builder.command.Command.{Command as Parser}
use Rattle.clap.specs.declared.builder.command.Command.TheViews.{out-Command as fields_of}
use Rattle.clap.specs.declared.builder.value_parser.ValueParser.TheVariants.{Signed}
use Rattle.clap.specs.declared.parser.matches.Found.{Found}
use Rattle.command_words.specs.Command.{all_rule, archive_rule, audited_master_rule, count_parser}
use Rattle.command_words.specs.Command.{file_rule, folder_rule, force_rule, frames_rule, from_rule}
use Rattle.command_words.specs.Command.{full_rule, into_rule, json_rule, log_output_rule, log_rule}
use Rattle.command_words.specs.Command.{manifest_rule, master_rule, no_manifest_rule, old_rule, on_rule, output_rule, page_rule}
use Rattle.command_words.specs.Command.{pages_rule, renewed_rule, salvage_rule, save_rule}
use Rattle.command_words.specs.Command.{saved_manifest_rule}
use Rattle.command_words.specs.Command.{commits_rule, copy_rule, lsn_parser, strict_rule, to_rule}
use Rattle.command_words.specs.Command.{told_pages_rule, txn_rule, until_rule}

-- clap builds the command of these arguments, one after another
pub record IsMadeOf (command : Parser) (arguments : List Arg) : Type 0 where
  pub start : Parser
  pub no_arguments : args_of start ≡ []
  pub no_groups : groups_of start ≡ []
  pub no_globals : (fields_of start).has_globals ≡ false
  pub keeps : (fields_of start).subcommand_negates_reqs ≡ false
  pub chain : AddsInTurn AddsArg start arguments command
  pub fit : All FitsChain arguments

-- the number of pages is required, and then that of frames, a folder and three flags may be told
pub record AsksForPages (command : Parser) : Type 0 where
  pub pages : Arg
  pub frames : Arg
  pub save : Arg
  pub manifest : Arg
  pub strict : Arg
  pub force : Arg
  pub made : IsMadeOf command (pages ∷ frames ∷ save ∷ manifest ∷ strict ∷ force ∷ [])
  pub pages_is : rule_of pages ≡ pages_rule
  pub frames_is : rule_of frames ≡ frames_rule
  pub save_is : rule_of save ≡ save_rule
  pub manifest_is : rule_of manifest ≡ saved_manifest_rule
  pub strict_is : rule_of strict ≡ strict_rule
  pub force_is : rule_of force ≡ force_rule
  pub required : TakesValue pages
  pub pages_parsed : pages.value_parser ≡ Some count_parser
  pub frames_parsed : frames.value_parser ≡ Some count_parser

-- a folder is required, and then the numbers of pages and of frames, and two flags, may be told
pub record AsksForFolder (command : Parser) : Type 0 where
  pub folder : Arg
  pub pages : Arg
  pub frames : Arg
  pub salvage : Arg
  pub strict : Arg
  pub made : IsMadeOf command (folder ∷ pages ∷ frames ∷ salvage ∷ strict ∷ [])
  pub folder_is : rule_of folder ≡ folder_rule
  pub pages_is : rule_of pages ≡ told_pages_rule
  pub frames_is : rule_of frames ≡ frames_rule
  pub salvage_is : rule_of salvage ≡ salvage_rule
  pub strict_is : rule_of strict ≡ strict_rule
  pub required : TakesValue folder
  pub pages_parsed : pages.value_parser ≡ Some count_parser
  pub frames_parsed : frames.value_parser ≡ Some count_parser

-- two files are required, and then more may be named, one for each output, a flag, an LSN, and which
-- manifest counts
pub record AsksForFiles (command : Parser) : Type 0 where
  pub log : Arg
  pub master : Arg
  pub archive : Arg
  pub output : Arg
  pub log_output : Arg
  pub force : Arg
  pub until : Arg
  pub manifest : Arg
  pub no_manifest : Arg
  pub made : IsMadeOf command (log ∷ master ∷ archive ∷ output ∷ log_output ∷ force ∷ until
      ∷ manifest ∷ no_manifest ∷ [])
  pub log_is : rule_of log ≡ log_rule
  pub master_is : rule_of master ≡ master_rule
  pub archive_is : rule_of archive ≡ archive_rule
  pub output_is : rule_of output ≡ output_rule
  pub log_output_is : rule_of log_output ≡ log_output_rule
  pub force_is : rule_of force ≡ force_rule
  pub until_is : rule_of until ≡ until_rule
  pub manifest_is : rule_of manifest ≡ manifest_rule
  pub no_manifest_is : rule_of no_manifest ≡ no_manifest_rule
  pub log_required : TakesValue log
  pub master_required : TakesValue master
  pub until_parsed : until.value_parser ≡ Some lsn_parser

-- a folder is required, and then a copy may be told, a file for each output, a flag, an LSN, and which
-- manifest counts
pub record AsksForCopies (command : Parser) : Type 0 where
  pub folder : Arg
  pub copy : Arg
  pub output : Arg
  pub log_output : Arg
  pub force : Arg
  pub until : Arg
  pub manifest : Arg
  pub no_manifest : Arg
  pub made : IsMadeOf command (folder ∷ copy ∷ output ∷ log_output ∷ force ∷ until
      ∷ manifest ∷ no_manifest ∷ [])
  pub folder_is : rule_of folder ≡ folder_rule
  pub copy_is : rule_of copy ≡ copy_rule
  pub output_is : rule_of output ≡ output_rule
  pub log_output_is : rule_of log_output ≡ log_output_rule
  pub force_is : rule_of force ≡ force_rule
  pub until_is : rule_of until ≡ until_rule
  pub manifest_is : rule_of manifest ≡ manifest_rule
  pub no_manifest_is : rule_of no_manifest ≡ no_manifest_rule
  pub required : TakesValue folder
  pub copy_parsed : copy.value_parser ≡ Some (Signed (pos 1) (pos 4294967295))
  pub until_parsed : until.value_parser ≡ Some lsn_parser

-- a log is required, and then archives and a master record may be named, a flag, an LSN, and which
-- manifest counts
pub record AsksForLog (command : Parser) : Type 0 where
  pub log : Arg
  pub archive : Arg
  pub master : Arg
  pub all : Arg
  pub until : Arg
  pub manifest : Arg
  pub no_manifest : Arg
  pub made : IsMadeOf command
      (log ∷ archive ∷ master ∷ all ∷ until ∷ manifest ∷ no_manifest ∷ [])
  pub log_is : rule_of log ≡ log_rule
  pub archive_is : rule_of archive ≡ archive_rule
  pub master_is : rule_of master ≡ audited_master_rule
  pub all_is : rule_of all ≡ all_rule
  pub until_is : rule_of until ≡ until_rule
  pub manifest_is : rule_of manifest ≡ manifest_rule
  pub no_manifest_is : rule_of no_manifest ≡ no_manifest_rule
  pub log_required : TakesValue log
  pub until_parsed : until.value_parser ≡ Some lsn_parser

-- a file is required, and then numbers and two flags may be told
pub record AsksForView (command : Parser) : Type 0 where
  pub file : Arg
  pub from : Arg
  pub to : Arg
  pub txn : Arg
  pub page : Arg
  pub json : Arg
  pub commits : Arg
  pub made : IsMadeOf command (file ∷ from ∷ to ∷ txn ∷ page ∷ json ∷ commits ∷ [])
  pub file_is : rule_of file ≡ file_rule
  pub from_is : rule_of from ≡ from_rule
  pub to_is : rule_of to ≡ to_rule
  pub txn_is : rule_of txn ≡ txn_rule
  pub page_is : rule_of page ≡ page_rule
  pub json_is : rule_of json ≡ json_rule
  pub commits_is : rule_of commits ≡ commits_rule
  pub required : TakesValue file
  pub from_parsed : from.value_parser ≡ Some lsn_parser
  pub to_parsed : to.value_parser ≡ Some lsn_parser
  pub txn_parsed : txn.value_parser ≡ Some (Signed (pos 1) (pos 4294967295))
  pub page_parsed : page.value_parser ≡ Some (Signed (pos 0) (pos 65535))

-- a folder is required, and then a flag may be told, and which manifest counts
pub record AsksForList (command : Parser) : Type 0 where
  pub folder : Arg
  pub json : Arg
  pub manifest : Arg
  pub no_manifest : Arg
  pub made : IsMadeOf command (folder ∷ json ∷ manifest ∷ no_manifest ∷ [])
  pub folder_is : rule_of folder ≡ folder_rule
  pub json_is : rule_of json ≡ json_rule
  pub manifest_is : rule_of manifest ≡ manifest_rule
  pub no_manifest_is : rule_of no_manifest ≡ no_manifest_rule
  pub required : TakesValue folder

-- a folder is required, and then a copy, a flag and a second folder may be told
pub record AsksForBackup (command : Parser) : Type 0 where
  pub folder : Arg
  pub on : Arg
  pub full : Arg
  pub into : Arg
  pub made : IsMadeOf command (folder ∷ on ∷ full ∷ into ∷ [])
  pub folder_is : rule_of folder ≡ folder_rule
  pub on_is : rule_of on ≡ on_rule
  pub full_is : rule_of full ≡ full_rule
  pub into_is : rule_of into ≡ into_rule
  pub required : TakesValue folder
  pub on_parsed : on.value_parser ≡ Some (Signed (pos 1) (pos 4294967295))

-- a folder is required, and then it may be told which manifest counts
pub record AsksForVerify (command : Parser) : Type 0 where
  pub folder : Arg
  pub manifest : Arg
  pub no_manifest : Arg
  pub made : IsMadeOf command (folder ∷ manifest ∷ no_manifest ∷ [])
  pub folder_is : rule_of folder ≡ folder_rule
  pub manifest_is : rule_of manifest ≡ manifest_rule
  pub no_manifest_is : rule_of no_manifest ≡ no_manifest_rule
  pub required : TakesValue folder

-- two folders are required
pub record AsksForTwoFolders (command : Parser) : Type 0 where
  pub old : Arg
  pub renewed : Arg
  pub made : IsMadeOf command (old ∷ renewed ∷ [])
  pub old_is : rule_of old ≡ old_rule
  pub renewed_is : rule_of renewed ≡ renewed_rule
  pub old_required : TakesValue old
  pub renewed_required : TakesValue renewed

-- an output may be named, and a flag and an LSN may be told
pub record AsksForOutput (command : Parser) : Type 0 where
  pub output : Arg
  pub force : Arg
  pub until : Arg
  pub made : IsMadeOf command (output ∷ force ∷ until ∷ [])
  pub output_is : rule_of output ≡ output_rule
  pub force_is : rule_of force ≡ force_rule
  pub until_is : rule_of until ≡ until_rule
  pub until_parsed : until.value_parser ≡ Some lsn_parser

-- what was found has a number of this name in these bounds, and clap let it through
abbrev pub PassesIn : ℕ → ℕ → Found → Text → Type 0
PassesIn low high found name = (text : Text) × (one_text found name ≡ Some (without_minus text))
    × Accepts false (Signed (pos low) (pos high)) text

-- a number of pages or of frames
abbrev pub PassesCount : Found → Text → Type 0
PassesCount found name = PassesIn 1 65536 found name

-- a number that fits in 32 bits is there, or none of this name was given
abbrev pub PassesNumber : Found → Text → Type 0
PassesNumber found name = (one_text found name ≡ None)
    ⊎ ((low : ℕ) × (high : ℕ) × (high < 2 ^ 32) × PassesIn low high found name)

-- the number of pages is there
abbrev pub PassesPages : Found → Type 0
PassesPages found = PassesCount found (codes "pages")

-- the number of pages is there, or it was not given
abbrev pub PassesToldPages : Found → Type 0
PassesToldPages found =
    (one_text found (codes "pages") ≡ None) ⊎ PassesCount found (codes "pages")

-- the number of frames is there, or it was not given
abbrev pub PassesFrames : Found → Type 0
PassesFrames found =
    (one_text found (codes "frames") ≡ None) ⊎ PassesCount found (codes "frames")

-- the number of a copy is there, or it was not given
abbrev pub PassesCopy : Found → Text → Type 0
PassesCopy found name = (one_text found name ≡ None) ⊎ PassesIn 1 4294967295 found name
