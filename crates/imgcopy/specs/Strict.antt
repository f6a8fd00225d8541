-- Which calls of a run were refused, by the bytes of its replies.
use Rattle.std.specs.Prelude.{ℕ, ◌≡◌, ◌+◌, ◌-◌, ◌^◌, ◌==◌, ◌++◌, Bool, true, List, None, Option}
use Rattle.std.specs.Prelude.{Some}
use Rattle.std.specs.Prelude.{if◌then◌else◌, min}
use Rattle.imgcopy.specs.declared.strict.Tally.{Tally}

-- these bytes stand in front of those
pub record IsFrontOf (front whole : List ℕ) : Type 0 where
  pub rest : List ℕ
  pub spelled : whole ≡ front ++ rest

-- how many lines came, how many of them were refusals, before how many the first one came, and
-- whether the next byte begins a line
pub record Counts : Type 0 where
  pub calls : ℕ
  pub refused : ℕ
  pub first : ℕ
  pub begins : Bool

abbrev pub counts_of : Tally → Counts
counts_of it = record {
  calls = it.calls;
  refused = it.refused;
  first = it.first;
  begins = it.begins_line;
}

pub record IsNew (it : Tally) : Type 0 where
  pub calls : it.calls ≡ 0
  pub refused : it.refused ≡ 0
  pub begins : it.begins_line ≡ true

-- one more, of what a count has room for
abbrev pub one_more : ℕ → ℕ
one_more count = min (count + 1) (2 ^ 64 - 1)

-- a line begins with this byte: that of a refusal with an E
abbrev pub begun : Counts → ℕ → Counts
begun it byte =
    if byte == 69 then record it {
      refused = one_more it.refused;
      first = if it.refused == 0 then it.calls else it.first;
    }
    else it

-- a byte comes: a line break ends a line, and the next byte begins one
abbrev pub ended : Counts → ℕ → Counts
ended it byte = record it {
  calls = if byte == 10 then one_more it.calls else it.calls;
  begins = byte == 10;
}

abbrev pub counted : Counts → ℕ → Counts
counted it byte = ended (if it.begins then begun it byte else it) byte

-- before how many lines the first refusal came, if there is one
abbrev pub first_of : Tally → Option ℕ
first_of it = if it.refused == 0 then None else Some it.first
