-- Copies that are sound.
use Rattle.std.proofs.Common.{◌≡◌, ◌∙◌, ◌<◌, ◌+◌, ◌++◌, ◌∷◌, [], ℕ, List, ap, arith, get_or, length, refl, reverse, subst, sym, take}
use Rattle.std.specs.Prelude.{codes, map, Option, String, string_bytes}
use Rattle.std.specs.List.{All}
use Rattle.std.proofs.lemmas.List.{get_or-map, length-map, map-append, map_more, reverse-append}
use Rattle.std.proofs.lemmas.List.Elements.{All-push}
use Rattle.copy_audit.specs.Audited.{AreAudited}
use Rattle.file_view.specs.declared.copy_header.CopyHeader.{CopyHeader}
use Rattle.saved_files.specs.Folder.{Entries}
use Rattle.saved_files.specs.Saved.{name_of}
use Rattle.saved_files.specs.declared.saved_name.SavedName.TheVariants.{Copy}
use Rattle.folder_reports.specs.Reading.{IsHeaderIn, IsWhole, bytes_in}
use Rattle.folder_reports.specs.Sound.{AreHeadersOf, EndsWith, HasMasterFor, HasRightMaster, HasSoundCopies, IsAudited, IsSoundCopy, archives_of}

pub whole_log : (entries : Option Entries) (id : ℕ) → IsAudited entries id → IsWhole (bytes_in entries (codes "log"))
whole_log entries id it = (it.sound.log, it.sound.of_log)

master_for : (entries : Option Entries) (ids : List ℕ) → HasRightMaster entries → HasMasterFor entries ids
master_for entries [] right = tt
master_for entries (id ∷ ids) right = right

-- without a copy the log alone is looked at
pub without_copies : (entries : Option Entries) (ids : List ℕ) → ids ≡ [] → IsWhole (bytes_in entries (codes "log"))
    → HasSoundCopies entries ids
without_copies entries [] none whole = record {
  log = whole;
  master = tt;
  copies = λ k id lt. absurd (omega (arith, lt));
}
without_copies entries (id ∷ ids) none whole = absurd (omega (arith, ap length none))

pub with_copies : (entries : Option Entries) (ids : List ℕ) (headers : List CopyHeader) → AreHeadersOf entries ids headers
    → (headers ≡ [] → ⊥) → HasRightMaster entries → All (λ it. IsAudited entries it.id) headers
    → HasSoundCopies entries ids
with_copies entries ids [] are some right audited = absurd (some refl)
with_copies entries ids (first ∷ rest) are some right audited =
    let headers = first ∷ rest in record {
      log = whole_log entries first.id (audited 0 first (omega arith));
      master = master_for entries ids right;
      copies = λ k id lt.
          let within : k < length headers = omega (arith, lt, ap length are.named, length-map headers (λ it. it.id)) in
          let header = get_or headers k first in
          let same : header.id ≡ get_or ids k id =
          sym (get_or-map (λ it. it.id) headers k first id within) ∙ ap (λ (is : List ℕ). get_or is k id) are.named in
          subst (IsSoundCopy entries) same (record {
            header = header;
            begins = are.begin k first within;
            named = refl;
            audited = audited k first within;
          });
    }

-- what begins with this id, the other way round
pub ends_with : (id : ℕ) (items now : List ℕ) (rest : List ℕ) → items ≡ id ∷ rest → now ≡ reverse items → EndsWith id now
ends_with id items now rest is turned = (reverse rest, turned ∙ ap reverse is ∙ reverse-append (id ∷ []) rest)

map_twice : {X Y Z : Type 0} (f : Y → Z) (g : X → Y) (xs : List X) → map (λ x. f (g x)) xs ≡ map f (map g xs)
map_twice f g [] = refl
map_twice f g (x ∷ xs) = ap (λ rest. f (g x) ∷ rest) (map_twice f g xs)

-- what is made of the same names is the same
pub same_by : {X Y : Type 0} (f : List ℕ → Option (List ℕ)) (g : X → List ℕ) (h : Y → List ℕ) (xs : List X) (ys : List Y)
    → map g xs ≡ map h ys → map (λ x. f (g x)) xs ≡ map (λ y. f (h y)) ys
same_by f g h xs ys same = map_twice f g xs ∙ (ap (map f) same ∙ sym (map_twice f h ys))

-- the last copy of a chain that is sound
pub audited : (entries : Option Entries) (id : ℕ) (chain : List ℕ) → EndsWith id chain
    → AreAudited (bytes_in entries (codes "log")) (archives_of entries chain) → IsAudited entries id
audited entries id chain ends sound = record {
  older = ends.0;
  sound = subst (λ (ids : List ℕ). AreAudited (bytes_in entries (codes "log")) (archives_of entries ids)) ends.1 sound;
}

-- ---- headers, one after another

pub no_headers : (entries : Option Entries) (headers : List CopyHeader) → headers ≡ [] → AreHeadersOf entries [] headers
no_headers entries headers none = record {
  named = ap (map (λ it. it.id)) none;
  begin = λ k d lt. absurd (omega (arith, lt, ap length none));
}

joined : (xs ys : List ℕ) (x y : ℕ) → xs ≡ ys → x ≡ y → xs ++ x ∷ [] ≡ ys ++ y ∷ []
joined xs ys x y front last = rw (front, last) refl

pub one_more : (entries : Option Entries) (ids : List ℕ) (id : ℕ) (headers now : List CopyHeader) (header : CopyHeader)
    → header.id ≡ id → IsHeaderIn entries (name_of (Copy id)) header → now ≡ headers ++ header ∷ []
    → AreHeadersOf entries ids headers → AreHeadersOf entries (ids ++ id ∷ []) now
one_more entries ids id headers now header is begins pushed are = record {
  named = ap (map (λ it. it.id)) pushed ∙ (map-append (λ (it : CopyHeader). it.id) headers (header ∷ [])
      ∙ joined (map (λ it. it.id) headers) ids header.id id are.named is);
  begin = subst (All (λ it. IsHeaderIn entries (name_of (Copy it.id)) it)) (sym pushed)
      (All-push (λ it. IsHeaderIn entries (name_of (Copy it.id)) it) headers header are.begin
      (subst (λ (n : ℕ). IsHeaderIn entries (name_of (Copy n)) header) (sym is) begins));
}

-- the name of one copy more
pub named_more : {A : Type 0} (names now : List (String A)) (name : String A) (chain : List ℕ) (i : ℕ) → i < length chain
    → now ≡ names ++ name ∷ [] → string_bytes name ≡ name_of (Copy (get_or chain i 0))
    → map string_bytes names ≡ map (λ id. name_of (Copy id)) (take i chain)
    → map string_bytes now ≡ map (λ id. name_of (Copy id)) (take (i + 1) chain)
named_more {A} names now name chain i within pushed named so_far =
    ap (map string_bytes) pushed ∙ (map-append string_bytes names (name ∷ [])
    ∙ (both (map string_bytes names) (map (λ id. name_of (Copy id)) (take i chain)) (string_bytes name)
    (name_of (Copy (get_or chain i 0))) so_far named
    ∙ sym (map_more (λ (id : ℕ). name_of (Copy id)) chain i 0 within)))
  where
    both : (xs ys : List (List ℕ)) (x y : List ℕ) → xs ≡ ys → x ≡ y → xs ++ x ∷ [] ≡ ys ++ y ∷ []
    both xs ys x y front last = rw (front, last) refl
