-- The bytes of a log: its header, and its records one after another.
use Rattle.std.proofs.Common.{◌≡◌, ℕ, ◌+◌, ◌-◌, ◌*◌, ◌<◌, ◌≤◌, ◌++◌, List, length, get_or, take, drop, refl}
use Rattle.std.proofs.Common.{sym, ap, subst, ◌∙◌, arith}
use Rattle.std.specs.Prelude.{slice_range}
use Rattle.std.specs.Int.{w32, to_le_bytes, from_le_bytes}
use Rattle.std.specs.List.{flat_map}
use Rattle.std.proofs.lemmas.List.{take_at, drop_at, take-append-le, drop-append-le, length-drop, take-take, drop-take}
use Rattle.std.proofs.lemmas.List.{append_assoc, drop-drop, get_or-take, get_or_append_left, length-append, length-take, same_lists}
use Rattle.std.proofs.lemmas.List.{take-append-drop}
use Rattle.std.proofs.lemmas.List.Concat.{flat_map-append}
use Rattle.std.proofs.lemmas.Nat.{from_le_bytes-to_le_bytes_4}
use Rattle.page_core.proofs.Public.{length-pieces, take-drop-pieces}
use Rattle.log_records.specs.declared.record.Record.{Record}
use Rattle.log_records.specs.Record.{record_bytes}
use Rattle.log_records.specs.Log.{AreOfFormat, IsOfFormat, Log, SpellsLog, format_in, header_in, lsn_of, pages_in}
use Rattle.page_core.specs.declared.format.Format.{Format}
use Rattle.page_core.specs.declared.format.Format.TheVariants.{First, Second}
use Rattle.std.specs.Prelude.{◌==◌, if◌then◌else◌}
use Rattle.page_core.specs.Format.{digit_of}
use Rattle.page_core.proofs.Public.{same_format}
use Rattle.log_records.proofs.PageCounts.{valid_cut}
use Rattle.log_records.proofs.Records.{record_length, same_record}

-- a part of what was given is a part of the input
pub range_in : (given rest : List ℕ) (a b : ℕ) → a ≤ b → b ≤ length given
    → slice_range (given ++ rest) a b ≡ slice_range given a b
range_in given rest a b le long =
    ap (take (b - a)) (drop-append-le a given rest (omega arith))
    ∙ take-append-le (b - a) (drop a given) rest (omega (arith, length-drop a given))

-- ---- the header

pub length-header : (f : Format) (pages : ℕ) → length (header_in f pages) ≡ 64
unfolding header_in
length-header f pages = refl

pub pages_at : (f : Format) (pages : ℕ) → slice_range (header_in f pages) 8 12 ≡ to_le_bytes w32 pages
unfolding header_in
pages_at f pages = refl

pub digit_at : (f : Format) (pages : ℕ) → get_or (header_in f pages) 7 0 ≡ digit_of f
unfolding header_in
digit_at f pages = refl

-- so a header is of one format
pub same_formats : (f g : Format) (m n : ℕ) → header_in f m ≡ header_in g n → f ≡ g
same_formats f g m n e =
    same_format f g (sym (digit_at f m) ∙ ap (λ (bs : List ℕ). get_or bs 7 0) e ∙ digit_at g n)

named : (f : Format) (n : ℕ) → n ≡ digit_of f → (if n == digit_of First then First else Second) ≡ f
named First n e = rw e refl
named Second n e = rw e refl

-- the header's bytes name its format, whatever follows them
pub format_in-header : (f : Format) (pages : ℕ) (bytes : List ℕ) → take 64 bytes ≡ header_in f pages → format_in bytes ≡ f
format_in-header f pages bytes e =
    named f (get_or bytes 7 0)
    (sym (get_or-take 64 bytes 7 0 (omega arith)) ∙ ap (λ (bs : List ℕ). get_or bs 7 0) e ∙ digit_at f pages)

pub format_in-append : (bytes more : List ℕ) → 64 ≤ length bytes → format_in (bytes ++ more) ≡ format_in bytes
format_in-append bytes more long =
    ap (λ n. if n == digit_of First then First else Second) (get_or_append_left bytes more 0 7 (omega arith))

pub format_in-take : (n : ℕ) (bytes : List ℕ) → 64 ≤ n → format_in (take n bytes) ≡ format_in bytes
format_in-take n bytes long =
    ap (λ k. if k == digit_of First then First else Second) (get_or-take n bytes 7 0 (omega arith))

-- the page count stands within the header
pub in_header : (bytes : List ℕ) → slice_range (take 64 bytes) 8 12 ≡ slice_range bytes 8 12
in_header bytes = ap (take 4) (drop-take 8 56 bytes) ∙ take-take 4 56 (drop 8 bytes) (omega arith)

pub pages_in-header : (f : Format) (pages : ℕ) (bytes : List ℕ) → pages ≤ 65536 → take 64 bytes ≡ header_in f pages
    → pages_in bytes ≡ pages
pages_in-header f pages bytes few e =
    ap (from_le_bytes w32) (sym (in_header bytes) ∙ ap (λ (bs : List ℕ). slice_range bs 8 12) e ∙ pages_at f pages)
    ∙ from_le_bytes-to_le_bytes_4 pages (omega arith)

-- ---- what a log's spelling has

pub length-log : (log : Log) (bytes : List ℕ) → SpellsLog log bytes → length bytes ≡ 64 * (length log.records + 1)
length-log log bytes spells =
    ap length spells.spelled ∙ length-append (header_in spells.format log.pages) (flat_map record_bytes log.records)
    ∙ omega (arith, length-header spells.format log.pages, length-pieces record_bytes 64 record_length log.records)

pub header_of_log : (log : Log) (bytes : List ℕ) → (spells : SpellsLog log bytes) → take 64 bytes ≡ header_in spells.format log.pages
header_of_log log bytes spells =
    ap (take 64) spells.spelled ∙ take_at (header_in spells.format log.pages) (flat_map record_bytes log.records) 64
    (length-header spells.format log.pages)

pub format_of_log : (log : Log) (bytes : List ℕ) → (spells : SpellsLog log bytes) → format_in bytes ≡ spells.format
format_of_log log bytes spells = format_in-header spells.format log.pages bytes (header_of_log log bytes spells)

pub record_of_log : (log : Log) (bytes : List ℕ) → SpellsLog log bytes → (i : ℕ) (d : Record) → i < length log.records
    → slice_range bytes (lsn_of i) (lsn_of i + 64) ≡ record_bytes (get_or log.records i d)
record_of_log log bytes spells i d lt =
    let wide : lsn_of i + 64 - lsn_of i ≡ 64 = omega arith in
    let place : lsn_of i ≡ 64 + 64 * i = omega arith in
    let behind : drop 64 bytes ≡ flat_map record_bytes log.records =
    ap (drop 64) spells.spelled ∙ drop_at (header_in spells.format log.pages) (flat_map record_bytes log.records) 64
    (length-header spells.format log.pages) in
    ap (λ k. take k (drop (lsn_of i) bytes)) wide ∙ ap (λ k. take 64 (drop k bytes)) place
    ∙ ap (take 64) (sym (drop-drop (64 * i) 64 bytes) ∙ ap (drop (64 * i)) behind)
    ∙ take-drop-pieces record_bytes 64 record_length log.records i d lt

formats_cut : (f : Format) (rs : List Record) (n : ℕ) → AreOfFormat f rs → AreOfFormat f (take n rs)
formats_cut f rs n all i d lt =
    let long = length-take n rs in
    subst (IsOfFormat f) (sym (get_or-take n rs i d (omega (arith, long, lt)))) (all i d (omega (arith, long, lt)))

-- its first records are spelled by the first bytes
pub spells_cut : (log : Log) (bytes : List ℕ) (i : ℕ) → i ≤ length log.records → SpellsLog log bytes
    → SpellsLog (record log { records = take i log.records }) (take (lsn_of i) bytes)
spells_cut log bytes i le spells =
    let first = take i log.records in
    let rest = drop i log.records in
    let front = header_in spells.format log.pages ++ flat_map record_bytes first in
    let parts : flat_map record_bytes log.records ≡ flat_map record_bytes first ++ flat_map record_bytes rest =
    ap (flat_map record_bytes) (sym (take-append-drop i log.records)) ∙ flat_map-append record_bytes first rest in
    let whole : bytes ≡ front ++ flat_map record_bytes rest =
    spells.spelled ∙ ap (λ (bs : List ℕ). header_in spells.format log.pages ++ bs) parts
    ∙ sym (append_assoc (header_in spells.format log.pages) (flat_map record_bytes first) (flat_map record_bytes rest)) in
    let long : length front ≡ lsn_of i = omega (
      arith,
      length-append (header_in spells.format log.pages) (flat_map record_bytes first),
      length-header spells.format log.pages,
      length-pieces record_bytes 64 record_length first,
      length-take i log.records,
    ) in
    record {
      valid = valid_cut log i spells.valid;
      format = spells.format;
      of_format = formats_cut spells.format log.records i spells.of_format;
      spelled = ap (take (lsn_of i)) whole ∙ take_at front (flat_map record_bytes rest) (lsn_of i) long;
    }

-- two logs with the same bytes are one
pub same_log : (a b : Log) (bytes : List ℕ) → SpellsLog a bytes → SpellsLog b bytes → a ≡ b
same_log a b bytes a_spells b_spells =
    let pages : a.pages ≡ b.pages =
    sym (pages_in-header a_spells.format a.pages bytes a_spells.valid.pages.most (header_of_log a bytes a_spells))
    ∙ pages_in-header b_spells.format b.pages bytes b_spells.valid.pages.most (header_of_log b bytes b_spells) in
    let counts : length a.records ≡ length b.records =
    omega (arith, length-log a bytes a_spells, length-log b bytes b_spells) in
    let records : a.records ≡ b.records = same_lists a.records b.records counts (λ k d lt.
    let lt' : k < length b.records = omega arith in
    same_record (get_or a.records k d) (get_or b.records k d) (a_spells.valid.records k d lt).valid
    (b_spells.valid.records k d lt').valid
    (sym (record_of_log a bytes a_spells k d lt) ∙ record_of_log b bytes b_spells k d lt')) in
    rw (pages, records) refl
