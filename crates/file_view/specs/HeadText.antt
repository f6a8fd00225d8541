-- The line that says what a file is, and the header of an archive, in words and in JSON.
use Rattle.std.specs.Prelude.{ℕ, ◌++◌, List, codes, nat_eq, if◌then◌else◌}
use Rattle.std.specs.Fmt.{decimal}
use Rattle.page_core.specs.declared.format.Format.{Format}
use Rattle.page_core.specs.declared.format.Format.TheVariants.{First, Second}
use Rattle.file_view.specs.declared.copy_header.CopyHeader.{CopyHeader}
use Rattle.file_view.specs.declared.head.Head.{Head}
use Rattle.file_view.specs.declared.head.Head.TheVariants.{Archive, Log, Master, Volume}
use Rattle.file_view.specs.declared.lines.Form.{Form}
use Rattle.file_view.specs.declared.lines.Form.TheVariants.{Json, Words}

-- the number of a format, as its files name it
abbrev pub number_of : Format → ℕ
number_of First = 1
number_of Second = 2

-- the kind of a copy, by its parent
abbrev pub kind_words : ℕ → List ℕ
kind_words parent = if nat_eq parent 0 then codes "full" else codes "inc " ++ decimal parent

abbrev pub kind_json : ℕ → List ℕ
kind_json parent =
    if nat_eq parent 0 then codes "\"kind\":\"full\",\"parent\":null"
    else codes "\"kind\":\"inc\",\"parent\":" ++ decimal parent

-- which copy an archive has
unfoldable pub name_words : CopyHeader → List ℕ
name_words it = codes "copy " ++ decimal it.id ++ codes " " ++ kind_words it.parent

unfoldable pub name_json : CopyHeader → List ℕ
name_json it = codes "\"id\":" ++ decimal it.id ++ codes "," ++ kind_json it.parent

-- the LSNs of its checkpoint, and how many pages follow
unfoldable pub rest_words : CopyHeader → List ℕ
rest_words it =
    codes "begin " ++ decimal it.begin ++ codes " redo " ++ decimal it.redo
    ++ codes " taken " ++ decimal it.taken

unfoldable pub rest_json : CopyHeader → List ℕ
rest_json it =
    codes "\"begin\":" ++ decimal it.begin ++ codes ",\"redo\":" ++ decimal it.redo
    ++ codes ",\"taken\":" ++ decimal it.taken

-- the header of an archive; in JSON its fields, without braces
abbrev pub header_words : CopyHeader → List ℕ
header_words it =
    name_words it ++ codes " pages " ++ decimal it.pages ++ codes " " ++ rest_words it

abbrev pub header_json : CopyHeader → List ℕ
header_json it =
    name_json it ++ codes ",\"pages\":" ++ decimal it.pages ++ codes "," ++ rest_json it

-- what a file is
abbrev pub head_words : Head → List ℕ
head_words (Log format pages records) =
    codes "log format " ++ decimal (number_of format) ++ codes " pages " ++ decimal pages
    ++ codes " records " ++ decimal records
head_words (Master master) =
    codes "master begin " ++ decimal master.begin ++ codes " end " ++ decimal master.end
head_words (Archive header) =
    codes "archive format " ++ decimal (number_of header.format) ++ codes " " ++ header_words header
head_words (Volume pages) = codes "volume pages " ++ decimal pages

abbrev pub head_json : Head → List ℕ
head_json (Log format pages records) =
    codes "{\"file\":\"log\",\"format\":" ++ decimal (number_of format)
    ++ codes ",\"pages\":" ++ decimal pages ++ codes ",\"records\":" ++ decimal records ++ codes "}"
head_json (Master master) =
    codes "{\"file\":\"master\",\"begin\":" ++ decimal master.begin
    ++ codes ",\"end\":" ++ decimal master.end ++ codes "}"
head_json (Archive header) =
    codes "{\"file\":\"archive\",\"format\":" ++ decimal (number_of header.format)
    ++ codes "," ++ header_json header ++ codes "}"
head_json (Volume pages) = codes "{\"file\":\"volume\",\"pages\":" ++ decimal pages ++ codes "}"

abbrev pub head_text : Form → Head → List ℕ
head_text Words head = head_words head
head_text Json head = head_json head
