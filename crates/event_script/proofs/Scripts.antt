-- What lines say together, from the first one on.
use Rattle.std.specs.Prelude.{ℕ, ◌≡◌, ◌+◌, ◌-◌, ◌<◌, ◌≤◌, List, [], ◌∷◌, ◌++◌, length, take}
use Rattle.std.specs.Prelude.{refl, Option, Some, None}
use Rattle.std.specs.Prelude.{◌≢◌, Bool, true, false, IfSome, MatchOption, if◌then◌else◌}
use Rattle.std.specs.Option.{is_some}
use Rattle.std.proofs.lemmas.List.{append_assoc, append-nil, length-append, take_at}
use Rattle.std.proofs.Math.Seq.{get_or-append_seam}
use Rattle.std.specs.Prelude.{get_or}
use Rattle.std.proofs.Common.{arith, sym, ap, ◌∙◌}
use Rattle.engine_calls.specs.declared.event.Event.{Event}
use Rattle.event_script.specs.declared.script.LastRestore.{LastRestore}
use denote.Ref.{Bor}
use Rattle.event_script.specs.declared.line.Line.{Line}
use Rattle.event_script.specs.declared.line.Line.TheVariants.{Skipped, Call, Restore}
use Rattle.event_script.specs.Words.{lines_of}
use Rattle.event_script.specs.Script.{IsFirstBad, Said, joined, parsed_line, said_in}

-- the lines that are left, and how many bytes they may have
abbrev pub lines_left : Option (Bor (List ℕ)) → List (List ℕ)
lines_left None = []
lines_left (Some text) = lines_of text.now

abbrev pub room_of : Option (Bor (List ℕ)) → ℕ
room_of None = 0
room_of (Some text) = length text.now + 1

-- a line behind others
abbrev pub followed : Option Said → Option Line → Option Said
followed None line = None
followed (Some said) None = None
followed (Some said) (Some Skipped) = Some said
followed (Some (events, None)) (Some (Call event)) = Some (events ++ (event ∷ []), None)
followed (Some (events, Some restore)) (Some (Call event)) = None
followed (Some (events, None)) (Some (Restore restore)) = Some (events, Some restore)
followed (Some (events, Some first)) (Some (Restore restore)) = None

behind : (first : Option Line) (rest : Option Said) (last : Option Line)
    → joined first (followed rest last) ≡ followed (joined first rest) last
behind None rest last = refl
behind (Some line) None last = refl
behind (Some Skipped) (Some said) None = refl
behind (Some Skipped) (Some said) (Some Skipped) = refl
behind (Some Skipped) (Some (events, None)) (Some (Call event)) = refl
behind (Some Skipped) (Some (events, Some r)) (Some (Call event)) = refl
behind (Some Skipped) (Some (events, None)) (Some (Restore event)) = refl
behind (Some Skipped) (Some (events, Some r)) (Some (Restore event)) = refl
behind (Some (Call e)) (Some said) None = refl
behind (Some (Call e)) (Some said) (Some Skipped) = refl
behind (Some (Call e)) (Some (events, None)) (Some (Call event)) = refl
behind (Some (Call e)) (Some (events, Some r)) (Some (Call event)) = refl
behind (Some (Call e)) (Some (events, None)) (Some (Restore event)) = refl
behind (Some (Call e)) (Some (events, Some r)) (Some (Restore event)) = refl
behind (Some (Restore e)) (Some ([], None)) None = refl
behind (Some (Restore e)) (Some ([], None)) (Some Skipped) = refl
behind (Some (Restore e)) (Some ([], None)) (Some (Call event)) = refl
behind (Some (Restore e)) (Some ([], None)) (Some (Restore r)) = refl
behind (Some (Restore e)) (Some ([], Some r)) None = refl
behind (Some (Restore e)) (Some ([], Some r)) (Some Skipped) = refl
behind (Some (Restore e)) (Some ([], Some r)) (Some (Call event)) = refl
behind (Some (Restore e)) (Some ([], Some r)) (Some (Restore s)) = refl
behind (Some (Restore e)) (Some (x ∷ xs, None)) None = refl
behind (Some (Restore e)) (Some (x ∷ xs, None)) (Some Skipped) = refl
behind (Some (Restore e)) (Some (x ∷ xs, None)) (Some (Call event)) = refl
behind (Some (Restore e)) (Some (x ∷ xs, None)) (Some (Restore r)) = refl
behind (Some (Restore e)) (Some (x ∷ xs, Some r)) None = refl
behind (Some (Restore e)) (Some (x ∷ xs, Some r)) (Some Skipped) = refl
behind (Some (Restore e)) (Some (x ∷ xs, Some r)) (Some (Call event)) = refl
behind (Some (Restore e)) (Some (x ∷ xs, Some r)) (Some (Restore s)) = refl

alone : (line : Option Line) → joined line (Some ([], None)) ≡ followed (Some ([], None)) line
alone None = refl
alone (Some Skipped) = refl
alone (Some (Call event)) = refl
alone (Some (Restore restore)) = refl

pub one_more : (lines : List (List ℕ)) (line : List ℕ)
    → said_in (lines ++ (line ∷ [])) ≡ followed (said_in lines) (parsed_line line)
one_more [] line = alone (parsed_line line)
one_more (first ∷ lines) line =
    ap (joined (parsed_line first)) (one_more lines line) ∙ behind (parsed_line first) (said_in lines) (parsed_line line)

took : (lines : List (List ℕ)) (line : List ℕ) (before : Said) (said : Option Line) → parsed_line line ≡ said
    → said_in lines ≡ Some before → said_in (lines ++ (line ∷ [])) ≡ followed (Some before) said
took lines line before said e h =
    one_more lines line ∙ ap (λ s. followed s (parsed_line line)) h ∙ ap (followed (Some before)) e

pub bad_line : (lines : List (List ℕ)) (line : List ℕ) (before : Said) → parsed_line line ≡ None
    → said_in lines ≡ Some before → said_in (lines ++ (line ∷ [])) ≡ None
bad_line lines line before e h = took lines line before None e h

pub skipped_line : (lines : List (List ℕ)) (line : List ℕ) (before : Said) → parsed_line line ≡ Some Skipped
    → said_in lines ≡ Some before → said_in (lines ++ (line ∷ [])) ≡ Some before
skipped_line lines line before e h = took lines line before (Some Skipped) e h

pub a_call : (lines : List (List ℕ)) (line : List ℕ) (events longer : List Event) (restore : Option LastRestore)
    (event : Event) → longer ≡ events ++ (event ∷ []) → parsed_line line ≡ Some (Call event) → is_some restore ≡ false
    → said_in lines ≡ Some (events, restore) → said_in (lines ++ (line ∷ [])) ≡ Some (longer, restore)
a_call lines line events longer None event more e none h =
    took lines line (events, None) (Some (Call event)) e h
    ∙ ap (λ (es : List Event). Some (es, None)) (sym more)
a_call lines line events longer (Some restore) event more e none h = cc

pub a_restore : (lines : List (List ℕ)) (line : List ℕ) (events : List Event) (before : Option LastRestore)
    (restore : LastRestore) → parsed_line line ≡ Some (Restore restore) → is_some before ≡ false
    → said_in lines ≡ Some (events, before) → said_in (lines ++ (line ∷ [])) ≡ Some (events, Some restore)
a_restore lines line events None restore e none h = took lines line (events, None) (Some (Restore restore)) e h
a_restore lines line events (Some before) restore e none h = cc

blocked : (events : List Event) (restore : LastRestore) (said : Line) → said ≢ Skipped
    → followed (Some (events, Some restore)) (Some said) ≡ None
blocked events restore Skipped other = absurd (other refl)
blocked events restore (Call event) other = refl
blocked events restore (Restore next) other = refl

pub late : (lines : List (List ℕ)) (line : List ℕ) (events : List Event) (restore : Option LastRestore) (said : Line)
    → parsed_line line ≡ Some said → said ≢ Skipped → is_some restore ≡ true
    → said_in lines ≡ Some (events, restore) → said_in (lines ++ (line ∷ [])) ≡ None
late lines line events None said e other some h = cc
late lines line events (Some restore) said e other some h =
    took lines line (events, Some restore) (Some said) e h ∙ blocked events restore said other

-- one line less is left
pub carried : (all lines : List (List ℕ)) (line text : List ℕ) (behind : Option (Bor (List ℕ)))
    → all ≡ lines ++ lines_of text
    → MatchOption behind (lines_of text ≡ line ∷ []) (λ rest. lines_of text ≡ line ∷ lines_of rest.now)
    → all ≡ (lines ++ (line ∷ [])) ++ lines_left behind
carried all lines line text None e parts =
    e ∙ ap (λ (ls : List (List ℕ)). lines ++ ls) parts ∙ sym (append-nil (lines ++ (line ∷ [])))
carried all lines line text (Some rest) e parts =
    e ∙ ap (λ (ls : List (List ℕ)). lines ++ ls) parts ∙ sym (append_assoc lines (line ∷ []) (lines_of rest.now))

pub shrinks : (behind : Option (Bor (List ℕ))) (number room most : ℕ) → number + (room + 1) ≤ most
    → IfSome behind (λ rest. length rest.now < room) → (number + 1) + room_of behind ≤ most
shrinks None number room most few shorter = omega arith
shrinks (Some rest) number room most few shorter = omega arith

pub first_bad : (all lines : List (List ℕ)) (line : List ℕ) (rest : List (List ℕ)) (number : ℕ) (before : Said)
    → all ≡ (lines ++ (line ∷ [])) ++ rest → length lines + 1 ≡ number → said_in lines ≡ Some before
    → said_in (lines ++ (line ∷ [])) ≡ None → IsFirstBad all number
first_bad all lines line rest number before e count good bad =
    let short : length lines ≡ number - 1 = omega arith in
    let long : length (lines ++ (line ∷ [])) ≡ number = length-append lines (line ∷ []) ∙ count in
    let those : take (number - 1) all ≡ lines =
    ap (take (number - 1)) (e ∙ append_assoc lines (line ∷ []) rest) ∙ take_at lines (line ∷ rest) (number - 1) short in
    let these : take number all ≡ lines ++ (line ∷ []) =
    ap (take number) e ∙ take_at (lines ++ (line ∷ [])) rest number long in
    record {
      counted = omega arith;
      before = ap is_some (ap said_in those ∙ good);
      bad = ap said_in these ∙ bad;
    }

-- the line that comes next may not stand there
pub stops : (all lines : List (List ℕ)) (left : Option (Bor (List ℕ))) (text : Bor (List ℕ)) (line : List ℕ)
    (next_left : Option (Bor (List ℕ))) (number : ℕ) (said after : Said) (fits : Bool)
    → all ≡ lines ++ lines_left left → length lines ≡ number → said_in lines ≡ Some said → left ≡ Some text
    → MatchOption next_left (lines_of text.now ≡ line ∷ []) (λ rest. lines_of text.now ≡ line ∷ lines_of rest.now)
    → said_in (lines ++ (line ∷ [])) ≡ (if fits then Some after else None) → fits ≡ false
    → IsFirstBad all (number + 1)
stops all lines left text line next_left number said after fits e count good is parts taken refused =
    first_bad all lines line (lines_left next_left) (number + 1) said
    (carried all lines line text.now next_left (e ∙ ap (λ (l : Option (Bor (List ℕ))). lines ++ lines_left l) is) parts)
    (omega arith) good (taken ∙ ap (λ (b : Bool). if b then Some after else None) refused)

-- the line at that number is the one that may not stand there
pub stopped : (all lines : List (List ℕ)) (left : Option (Bor (List ℕ))) (text : Bor (List ℕ)) (line : List ℕ)
    (next_left : Option (Bor (List ℕ))) (number : ℕ)
    → all ≡ lines ++ lines_left left → length lines ≡ number → left ≡ Some text
    → MatchOption next_left (lines_of text.now ≡ line ∷ []) (λ rest. lines_of text.now ≡ line ∷ lines_of rest.now)
    → line ≡ get_or all ((number + 1) - 1) []
stopped all lines left text line next_left number e count is parts =
    let here : all ≡ lines ++ line ∷ lines_left next_left =
    carried all lines line text.now next_left
    (e ∙ ap (λ (l : Option (Bor (List ℕ))). lines ++ lines_left l) is) parts
    ∙ append_assoc lines (line ∷ []) (lines_left next_left) in
    let place : (number + 1) - 1 ≡ length lines = omega (arith, count) in
    sym (ap (λ (k : ℕ). get_or all k []) place
    ∙ ap (λ (ls : List (List ℕ)). get_or ls (length lines) []) here
    ∙ get_or-append_seam lines line (lines_left next_left) [])
