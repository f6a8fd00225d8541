-- A folder in memory, in which one name changes.
use Rattle.std.proofs.Common.{◌≡◌, ◌∙◌, ℕ, inl, inr, List, [], ◌∷◌, ◌++◌, refl, sym, ap, subst, cond}
use Rattle.std.specs.Prelude.{◌⊎◌, Option, Some, None, Result, Ok, Err, OnOk, OnErr, String, string_bytes}
use Rattle.std.specs.BTreeMap.{BTreeMap, UpdatesBy, get_by_text}
use Rattle.std.specs.Cmp.Lexicographic.{slice_cmp}
use Rattle.std.specs.Ordering.{nat_cmp}
use Rattle.std.specs.Str.{bytes_eq}
use Rattle.std.specs.String.{string_cmp}
use Rattle.std.proofs.lemmas.Bool.{false_from_ne_true}
use Rattle.std.proofs.lemmas.Map.Text.{btree_map_updates_text}
use Rattle.std.proofs.lemmas.Slice.Eq.{bytes_eq-Decides}
use Rattle.saved_files.specs.declared.mem_entry.MemEntry.{MemEntry}
use Rattle.saved_files.specs.declared.mem_entry.Earlier.{Earlier}
use Rattle.saved_files.specs.Folder.{Entries, FolderEntry, IsRemoved, IsSame, KeepsOthers, LeavesEither, LeavesToo}
use Rattle.saved_files.specs.Folder.{Remains}
use Rattle.saved_files.specs.MemFolder.{HadBefore, IsPut, entries_of, entry_at, remains_of}
use Rattle.saved_files.proofs.Puts.{by_test}

-- what stands there after an update
changed : {Y : Type 0} (name : List ℕ) (m n : BTreeMap (String Y) MemEntry) (w : Option MemEntry)
    → UpdatesBy string_cmp (λ k. slice_cmp nat_cmp name (string_bytes k)) m n w
    → IsPut name (entry_at w) (entries_of m) (entries_of n)
changed name m n w update = record {
  put = ap entry_at (btree_map_updates_text name m n w update name
      ∙ ap (λ t. cond t w (get_by_text m name)) ((bytes_eq-Decides name name).1 refl));
  others = λ q apart. ap entry_at (btree_map_updates_text name m n w update q
      ∙ ap (λ t. cond t w (get_by_text m q))
      (false_from_ne_true (bytes_eq name q) (λ same. apart (sym ((bytes_eq-Decides name q).0 same)))));
}

-- a file is put there
pub put : {Y : Type 0} (name bytes : List ℕ) (m n : BTreeMap (String Y) MemEntry) (file : MemEntry) → bytes ≡ name
    → UpdatesBy string_cmp (λ k. slice_cmp nat_cmp bytes (string_bytes k)) m n (Some file)
    → IsPut name (entry_at (Some file)) (entries_of m) (entries_of n)
put name bytes m n file same update =
    subst (λ it. IsPut it (entry_at (Some file)) (entries_of m) (entries_of n)) same
    (changed bytes m n (Some file) update)

-- what has the name is removed
pub removed : {Y : Type 0} (name : List ℕ) (m n : BTreeMap (String Y) MemEntry)
    → UpdatesBy string_cmp (λ k. slice_cmp nat_cmp name (string_bytes k)) m n None
    → IsRemoved name (entries_of m) (entries_of n)
removed name m n update =
    let it = changed name m n None update in record { removed = it.put; others = it.others }

-- or by its text
pub gone : {Y : Type 0} (name text : List ℕ) (m n : BTreeMap (String Y) MemEntry) → text ≡ name
    → UpdatesBy string_cmp (λ k. slice_cmp nat_cmp text (string_bytes k)) m n None
    → IsPut name (entry_at None) (entries_of m) (entries_of n)
gone name text m n same update =
    subst (λ it. IsPut it (entry_at None) (entries_of m) (entries_of n)) same (changed text m n None update)

-- ---- what names had before

pub had_front : (past : List Earlier) (it : Earlier) → LeavesToo (HadBefore past) (HadBefore (past ++ (it ∷ [])))
had_front [] it n e had = absurd had
had_front (p ∷ past) it n e (inl here) = inl here
had_front (p ∷ past) it n e (inr there) = inr (had_front past it n e there)

pub had_last : (past : List Earlier) (it : Earlier)
    → HadBefore (past ++ (it ∷ [])) (string_bytes it.name) (entry_at it.file)
had_last [] it = inl (refl, refl)
had_last (p ∷ past) it = inr (had_last past it)

pub had_or : (past : List Earlier) (it : Earlier) (n : List ℕ) (e : FolderEntry) → HadBefore (past ++ (it ∷ [])) n e
    → HadBefore past n e ⊎ ((n ≡ string_bytes it.name) × (e ≡ entry_at it.file))
had_or [] it n e (inl here) = inr here
had_or [] it n e (inr there) = absurd there
had_or (p ∷ past) it n e (inl here) = inl (inl here)
had_or (p ∷ past) it n e (inr there) = elim (had_or past it n e there) [
  | inl had ↦ inl (inr had)
  | inr last ↦ inr last
]

-- what a name has is kept
pub keeps_it : (past more : List Earlier) (it : Earlier) (name : List ℕ) (e : FolderEntry)
    → more ≡ past ++ (it ∷ []) → string_bytes it.name ≡ name → entry_at it.file ≡ e → HadBefore more name e
keeps_it past more it name e is same file = subst (λ p. HadBefore p name e) (sym is)
    (subst (λ n. HadBefore (past ++ (it ∷ [])) n e) same
    (subst (λ x. HadBefore (past ++ (it ∷ [])) (string_bytes it.name) x) file (had_last past it)))

pub keeps_past : (past more : List Earlier) (it : Earlier) → more ≡ past ++ (it ∷ [])
    → LeavesToo (HadBefore past) (HadBefore more)
keeps_past past more it is = subst (λ p. LeavesToo (HadBefore past) (HadBefore p)) (sym is) (had_front past it)

pub keeps_only : (past more : List Earlier) (it : Earlier) (name : List ℕ) (entries : Entries)
    → more ≡ past ++ (it ∷ []) → string_bytes it.name ≡ name → entry_at it.file ≡ entries name
    → (n : List ℕ) (e : FolderEntry) → HadBefore more n e → HadBefore past n e ⊎ (e ≡ entries n)
keeps_only past more it name entries is same file n e had =
    elim (had_or past it n e (subst (λ p. HadBefore p n e) is had)) [
      | inl before ↦ inl before
      | inr last ↦ inr (last.1 ∙ file ∙ ap entries (sym (last.0 ∙ same)))
    ]

-- a name is kept or has what it had, whichever name it is
pub leaves : {Y : Type 0} (m n : BTreeMap (String Y) MemEntry) (old new : List Earlier)
    → ((q : List ℕ) → (entries_of n q ≡ entries_of m q) ⊎ HadBefore new q (entries_of m q))
    → LeavesToo (HadBefore old) (HadBefore new)
    → ((q : List ℕ) (e : FolderEntry) → HadBefore new q e → HadBefore old q e ⊎ (e ≡ entries_of m q))
    → LeavesEither (remains_of m old) (remains_of n new) (entries_of m) (entries_of n)
leaves m n old new each kept only = record {
  earlier = λ q e it. elim it [
    | inl is ↦ elim (each q) [
      | inl same ↦ inl (is ∙ sym same)
      | inr had ↦ inr (subst (λ x. HadBefore new q x) (sym is) had)
    ]
    | inr had ↦ inr (kept q e had)
  ];
  only = λ q e it. elim it [
    | inl is ↦ inr (inr is)
    | inr had ↦ elim (only q e had) [
      | inl before ↦ inl (inr before)
      | inr is ↦ inr (inl is)
    ]
  ];
}

-- one name changes, and what it had is kept
pub leaves_but : {Y : Type 0} (name : List ℕ) (m n : BTreeMap (String Y) MemEntry) (old new : List Earlier)
    → HadBefore new name (entries_of m name) → KeepsOthers name (entries_of m) (entries_of n)
    → LeavesToo (HadBefore old) (HadBefore new)
    → ((q : List ℕ) (e : FolderEntry) → HadBefore new q e → HadBefore old q e ⊎ (e ≡ entries_of m q))
    → LeavesEither (remains_of m old) (remains_of n new) (entries_of m) (entries_of n)
leaves_but name m n old new had others = leaves m n old new (λ q. elim (by_test q name) [
  | inl same ↦ inr (subst (λ x. HadBefore new x (entries_of m x)) (sym same) had)
  | inr other ↦ inl (others q other)
])

pub put_or_same : {X E : Type 0} (name : List ℕ) (entry : FolderEntry) (old new : Entries) (r : Result X E)
    → OnOk r (IsPut name entry old new) → OnErr r (IsSame old new) → KeepsOthers name old new
put_or_same name entry old new (Ok x) put same = put.others
put_or_same name entry old new (Err why) put same = λ n other. same n

-- what a name has is kept, and it is put there
pub put_leaves : {Y X E : Type 0} (name : List ℕ) (entry : FolderEntry) (m mid n : BTreeMap (String Y) MemEntry)
    (old kept : List Earlier) (r : Result X E) → mid ≡ m → HadBefore kept name (entries_of m name)
    → LeavesToo (HadBefore old) (HadBefore kept)
    → ((q : List ℕ) (e : FolderEntry) → HadBefore kept q e → HadBefore old q e ⊎ (e ≡ entries_of m q))
    → OnOk r (IsPut name entry (entries_of mid) (entries_of n)) → OnErr r (IsSame (entries_of mid) (entries_of n))
    → LeavesEither (remains_of m old) (remains_of n kept) (entries_of m) (entries_of n)
put_leaves name entry m mid n old kept r same_files had past only put same =
    leaves_but name m n old kept had
    (subst (λ f. KeepsOthers name (entries_of f) (entries_of n)) same_files
    (put_or_same name entry (entries_of mid) (entries_of n) r put same)) past only

-- two changes, no name by both
pub leaves_twice : (r s t : Remains) (a b c : Entries) → ((n : List ℕ) → (b n ≡ a n) ⊎ (b n ≡ c n))
    → LeavesEither r s a b → LeavesEither s t b c → LeavesEither r t a c
leaves_twice r s t a b c each one two = record {
  earlier = λ n e it. two.earlier n e (one.earlier n e it);
  only = λ n e it. elim (two.only n e it) [
    | inl before ↦ elim (one.only n e before) [
      | inl earlier ↦ inl earlier
      | inr (inl is) ↦ inr (inl is)
      | inr (inr is) ↦ inr (mid n e is)
    ]
    | inr (inl is) ↦ inr (mid n e is)
    | inr (inr is) ↦ inr (inr is)
  ];
}
  where
    mid : (n : List ℕ) (e : FolderEntry) → e ≡ b n → (e ≡ a n) ⊎ (e ≡ c n)
    mid n e is = elim (each n) [
      | inl same ↦ inl (is ∙ same)
      | inr same ↦ inr (is ∙ same)
    ]

-- ---- a crash

-- a name has again what it had
pub brought : {Y : Type 0} (m n : BTreeMap (String Y) MemEntry) (past : List Earlier) (it : Earlier)
    → IsPut (string_bytes it.name) (entry_at it.file) (entries_of m) (entries_of n)
    → LeavesToo (remains_of n past) (remains_of m (past ++ (it ∷ [])))
brought m n past it put q e (inl is) = elim (by_test q (string_bytes it.name)) [
  | inl same ↦ inr (subst (λ x. HadBefore (past ++ (it ∷ [])) x e) (sym same)
      (subst (λ x. HadBefore (past ++ (it ∷ [])) (string_bytes it.name) x)
      (sym (is ∙ ap (entries_of n) same ∙ put.put)) (had_last past it)))
  | inr other ↦ inl (is ∙ put.others q other)
]
brought m n past it put q e (inr had) = inr (had_front past it q e had)

-- it is not undone
pub left_as_is : {Y : Type 0} (m : BTreeMap (String Y) MemEntry) (past : List Earlier) (it : Earlier)
    → LeavesToo (remains_of m past) (remains_of m (past ++ (it ∷ [])))
left_as_is m past it q e (inl is) = inl is
left_as_is m past it q e (inr had) = inr (had_front past it q e had)

-- whether it is undone or not
pub undone_leaves : {Y : Type 0} (m n : BTreeMap (String Y) MemEntry) (rest past : List Earlier) (it : Earlier)
    → past ≡ rest ++ (it ∷ [])
    → (n ≡ m) ⊎ IsPut (string_bytes it.name) (entry_at it.file) (entries_of m) (entries_of n)
    → LeavesToo (remains_of n rest) (remains_of m past)
undone_leaves m n rest past it is (inl same) =
    subst (λ p. LeavesToo (remains_of n rest) (remains_of m p)) (sym is)
    (subst (λ f. LeavesToo (remains_of f rest) (remains_of m (rest ++ (it ∷ [])))) (sym same) (left_as_is m rest it))
undone_leaves m n rest past it is (inr put) =
    subst (λ p. LeavesToo (remains_of n rest) (remains_of m p)) (sym is) (brought m n rest it put)
