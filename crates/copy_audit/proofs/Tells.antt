-- All unsound pages of a chain, listed row by row.
use Rattle.std.proofs.Common.{◌≡◌, ◌∙◌, ℕ, zero, suc, ◌+◌, ◌<◌, ◌≤◌, true, List, [], ◌∷◌, ◌++◌, length, get_or, take, map}
use Rattle.std.proofs.Common.{refl, sym, ap, subst, arith, inl, inr}
use Rattle.std.proofs.lemmas.Bool.{le-ltb, lt-ltb}
use Rattle.std.proofs.lemmas.List.{get_or-map, length-append, length-map, length-take, take-append-le, take_all}
use Rattle.page_core.specs.declared.page.Page.{Page}
use Rattle.log_records.specs.declared.record.Record.{Record}
use Rattle.log_records.specs.Log.{Log, page_count}
use Rattle.copy_vault.specs.Chain.{rows}
use Rattle.copy_vault.specs.Copy.{CopyView}
use Rattle.copy_audit.specs.declared.all_pages.TheConstants.{MOST_PAGES}
use Rattle.copy_audit.specs.declared.all_pages.UnsoundPage.{UnsoundPage}
use Rattle.copy_audit.specs.declared.all_pages.UnsoundPages.{UnsoundPages}
use Rattle.copy_audit.specs.Rows.{IsFirstIn, IsSoundIn}
use Rattle.copy_audit.specs.Told.{AreFirstOf, AreListed, AreTold, HasTold, IsSoundPage, IsSoundRow, IsUnsoundFrom}
use Rattle.copy_audit.specs.Told.{IsUnsoundRow}
use Rattle.copy_audit.proofs.Founds.{count_rows, new_row, old_row, redo_points, to_chain, to_rows}

-- ---- lists of pages that are not right

-- what is right or wrong may be said in other words
pub listed_as : (R S : ℕ → Type 0) (V W : UnsoundPage → Type 0) (n : ℕ) (us : List UnsoundPage)
    → ((p : ℕ) → p < n → R p → S p) → ((it : UnsoundPage) → it.page < n → V it → W it)
    → AreListed R V n us → AreListed S W n us
listed_as R S V W zero us right wrong is = is
listed_as R S V W (suc n) us right wrong (inl (here, below)) =
    inl (
      right n (omega arith) here,
      listed_as R S V W n us (λ p lt. right p (omega (arith, lt))) (λ it lt. wrong it (omega (arith, lt))) below,
    )
listed_as R S V W (suc n) us right wrong (inr (it, before, ends, last, here, below)) =
    inr (
      it,
      before,
      ends,
      last,
      wrong it (omega (arith, last)) here,
      listed_as R S V W n before (λ p lt. right p (omega (arith, lt))) (λ u lt. wrong u (omega (arith, lt))) below,
    )

-- ---- one row more

-- what was listed of the rows so far stays, as they grow
pub listed_on : (rs : List Record) (points ids : List ℕ) (members n : ℕ) (given : List (List (List Page)))
    (next : List (List Page)) (us : List UnsoundPage) → length given ≡ n
    → AreListed (IsSoundRow rs points members given) (IsUnsoundRow rs points ids members given) n us
    → AreListed (IsSoundRow rs points members (given ++ next ∷ []))
    (IsUnsoundRow rs points ids members (given ++ next ∷ [])) n us
listed_on rs points ids members n given next us count listed =
    listed_as (IsSoundRow rs points members given) (IsSoundRow rs points members (given ++ next ∷ []))
    (IsUnsoundRow rs points ids members given) (IsUnsoundRow rs points ids members (given ++ next ∷ [])) n us
    (λ p lt sound k member.
    subst (λ (r : List (List Page)). IsSoundIn rs p r points k) (old_row given next p (omega (arith, count, lt)))
    (sound k member))
    (λ it lt wrong. record {
      member = wrong.member;
      first = subst (λ (r : List (List Page)). IsFirstIn rs it.page r points members wrong.member)
          (old_row given next it.page (omega (arith, count, lt))) wrong.first;
      named = wrong.named;
    })
    listed

-- a row whose page is sound
pub told_sound : (rs : List Record) (points ids : List ℕ) (members n : ℕ) (given : List (List (List Page)))
    (next : List (List Page)) (told : UnsoundPages) → length given ≡ n
    → ((k : ℕ) → k < members → IsSoundIn rs n next points k)
    → HasTold rs points ids members given n told → HasTold rs points ids members (given ++ next ∷ []) (n + 1) told
told_sound rs points ids members n given next told count sound old =
    let one : suc n ≡ n + 1 = omega arith in
    let all = old.all in
    record {
      all = all;
      listed = subst (λ (m : ℕ). AreListed (IsSoundRow rs points members (given ++ next ∷ []))
          (IsUnsoundRow rs points ids members (given ++ next ∷ [])) m all) one
          (inl (
            λ k member. subst (λ (r : List (List Page)). IsSoundIn rs n r points k) (new_row given next n count)
                (sound k member),
            listed_on rs points ids members n given next all count old.listed,
          ));
      first = old.first;
    }

-- a row whose page is not
pub told_unsound : (rs : List Record) (points ids : List ℕ) (members n member : ℕ) (given : List (List (List Page)))
    (next : List (List Page)) (it : UnsoundPage) (told now : UnsoundPages) → length given ≡ n → it.page ≡ n
    → it.copy ≡ get_or ids member 0 → IsFirstIn rs n next points members member
    → ((all : List UnsoundPage) → AreFirstOf all told → AreFirstOf (all ++ it ∷ []) now)
    → HasTold rs points ids members given n told → HasTold rs points ids members (given ++ next ∷ []) (n + 1) now
told_unsound rs points ids members n member given next it told now count page named first noted old =
    let one : suc n ≡ n + 1 = omega arith in
    let all = old.all in
    let here : IsFirstIn rs n (get_or (given ++ next ∷ []) n []) points members member =
    subst (λ (r : List (List Page)). IsFirstIn rs n r points members member) (new_row given next n count) first in
    record {
      all = all ++ it ∷ [];
      listed = subst (λ (m : ℕ). AreListed (IsSoundRow rs points members (given ++ next ∷ []))
          (IsUnsoundRow rs points ids members (given ++ next ∷ [])) m (all ++ it ∷ [])) one
          (inr (
            it,
            all,
            refl,
            page,
            record {
              member = member;
              first = subst (λ (p : ℕ). IsFirstIn rs p (get_or (given ++ next ∷ []) p []) points members member) (sym page) here;
              named = named;
            },
            listed_on rs points ids members n given next all count old.listed,
          ));
      first = noted all old.first;
    }

-- ---- all rows

pub all_told : (log : Log) (copies : List CopyView) (ids points : List ℕ) (given : List (List (List Page)))
    (told : UnsoundPages) → ids ≡ map (λ (c : CopyView). c.id) copies → points ≡ redo_points copies
    → given ≡ rows copies (page_count log) → HasTold log.records points ids (length points) given (length given) told
    → AreTold log copies told
all_told log copies ids points given told of_ids of_points of_given has =
    let many : length points ≡ length copies = ap length of_points ∙ length-map copies (λ (c : CopyView). c.redo) in
    let long : length given ≡ page_count log = ap length of_given ∙ count_rows copies (page_count log) in
    let same : (k p : ℕ) → IsSoundIn log.records p (get_or given p []) points k
    → IsSoundIn log.records p (get_or (rows copies (page_count log)) p []) (redo_points copies) k = λ k p sound.
    subst (λ (g : List (List (List Page))). IsSoundIn log.records p (get_or g p []) (redo_points copies) k) of_given
    (subst (λ (ps : List ℕ). IsSoundIn log.records p (get_or given p []) ps k) of_points sound) in
    let back : (k p : ℕ) → IsSoundIn log.records p (get_or (rows copies (page_count log)) p []) (redo_points copies) k
    → IsSoundIn log.records p (get_or given p []) points k = λ k p sound.
    subst (λ (ps : List ℕ). IsSoundIn log.records p (get_or given p []) ps k) (sym of_points)
    (subst (λ (g : List (List (List Page))). IsSoundIn log.records p (get_or g p []) (redo_points copies) k) (sym of_given)
    sound) in
    let n = length given in
    let listed : AreListed (IsSoundPage log copies) (IsUnsoundFrom log copies) n has.all =
    listed_as (IsSoundRow log.records points (length points) given) (IsSoundPage log copies)
    (IsUnsoundRow log.records points ids (length points) given) (IsUnsoundFrom log copies) n has.all
    (λ p lt sound k member. to_chain log copies (page_count log) k p member (omega (arith, lt, long))
    (same k p (sound k (omega (arith, many, member)))))
    (λ it lt wrong.
    let first = wrong.first in
    let there : wrong.member < length copies = omega (arith, first.there, many) in
    let page : it.page < page_count log = omega (arith, lt, long) in
    record {
      at = wrong.member;
      there = there;
      named = λ d. wrong.named ∙ ap (λ (ns : List ℕ). get_or ns wrong.member 0) of_ids
          ∙ get_or-map (λ (c : CopyView). c.id) copies wrong.member d 0 there;
      before = λ k lt. to_chain log copies (page_count log) k it.page (omega (arith, lt, there)) page
          (same k it.page (first.before k lt));
      unsound = λ sound. first.here (back wrong.member it.page
          (to_rows log copies (page_count log) wrong.member it.page there page sound));
    })
    has.listed in
    record {
      all = has.all;
      listed = subst (λ (m : ℕ). AreListed (IsSoundPage log copies) (IsUnsoundFrom log copies) m has.all) long listed;
      first = has.first;
    }

-- ---- what is told of a list

-- there is room for one page more
pub told_more : (all : List UnsoundPage) (it : UnsoundPage) (told now : UnsoundPages)
    → length told.pages.items < MOST_PAGES → now.pages.items ≡ told.pages.items ++ it ∷ []
    → now.has_more ≡ told.has_more → AreFirstOf all told → AreFirstOf (all ++ it ∷ []) now
told_more all it told now room items more first =
    let fewer : length all < MOST_PAGES = omega (arith, room, ap length first.first, length-take MOST_PAGES all) in
    let whole : take MOST_PAGES all ≡ all = take_all MOST_PAGES all (omega arith) in
    let count = length-append all (it ∷ []) in
    record {
      first = items ∙ ap (λ (us : List UnsoundPage). us ++ it ∷ []) (first.first ∙ whole)
          ∙ sym (take_all MOST_PAGES (all ++ it ∷ []) (omega (arith, fewer, count)));
      more = more ∙ first.more ∙ le-ltb MOST_PAGES (length all) (omega arith)
          ∙ sym (le-ltb MOST_PAGES (length (all ++ it ∷ [])) (omega (arith, fewer, count)));
    }

-- there is none
pub told_no_more : (all : List UnsoundPage) (it : UnsoundPage) (told now : UnsoundPages)
    → MOST_PAGES ≤ length told.pages.items → now.pages.items ≡ told.pages.items
    → now.has_more ≡ true → AreFirstOf all told → AreFirstOf (all ++ it ∷ []) now
told_no_more all it told now full items more first =
    let many : MOST_PAGES ≤ length all = omega (arith, full, ap length first.first, length-take MOST_PAGES all) in
    record {
      first = items ∙ first.first ∙ sym (take-append-le MOST_PAGES all (it ∷ []) many);
      more = more ∙ sym (lt-ltb MOST_PAGES (length (all ++ it ∷ [])) (omega (arith, many, length-append all (it ∷ []))));
    }
