-- What the numbers of a plan say.
use Rattle.std.specs.Prelude.{ℕ, ◌+◌, ◌-◌, ◌*◌, ◌^◌, ◌<◌, ◌≤◌, List, [], ◌∷◌, ◌++◌, slice_index}
use Rattle.message.specs.Members.{most_parties}
use Rattle.committee.specs.declared.sizes.Sizes.{Sizes}
use Rattle.committee.specs.declared.stages.Committee.{Committee}
use Rattle.committee.specs.declared.stages.Part.{Part}
use Rattle.committee.specs.declared.stages.Stage.{Stage}
use Rattle.committee.specs.Tree.{first_half, second_half, committees}
use Rattle.committee.specs.Plan.{duration, rounds_of, plan}

-- the rounds of the base agreement among k seats
abbrev pub base_rounds : Sizes → ℕ → ℕ
base_rounds z k = slice_index z.rounds (k - 1)

-- the rounds of a graded agreement
abbrev pub graded_rounds : Sizes → ℕ → ℕ
graded_rounds z _ = z.graded

-- how many rounds a committee of s parties takes
abbrev pub total_of : Sizes → ℕ → ℕ
total_of z s = duration (base_rounds z) (graded_rounds z) (committees z.most 0 s)

-- the plan of a committee
abbrev pub plan_of : Sizes → Committee → List Stage
plan_of z c = plan (base_rounds z) (graded_rounds z) c.number c.depth (committees z.most c.first c.size)

-- the turn of a half in its committee's plan: a graded agreement, the half's own rounds, and its report
abbrev pub turn_of : Sizes → Committee → Committee → Part → Part → List Stage
turn_of z c half graded report =
    rounds_of z.graded c half graded ++ (plan_of z half ++ (record { committee = c; half = half; part = report; round = 1 } ∷ []))

-- all parties, as a committee
abbrev pub everybody : ℕ → Committee
everybody n = record { number = 1; depth = 0; first = 0; size = n }

-- the halves of a committee; the first has the odd party
abbrev pub first_half_of : Committee → Committee
first_half_of c = record { number = 2 * c.number; depth = c.depth + 1; first = c.first; size = first_half c.size }

abbrev pub second_half_of : Committee → Committee
second_half_of c = record { number = 2 * c.number + 1; depth = c.depth + 1; first = c.first + first_half c.size; size = second_half c.size }

-- a number of parties that there can be
abbrev pub Parties : ℕ → Type 0
Parties s = (1 ≤ s) × (s ≤ most_parties)

-- a committee whose halves have numbers that a word holds
pub record Halvable (c : Committee) : Type 0 where
  pub number : c.number < 2 ^ 31
  pub depth : c.depth < most_parties
  pub parties : c.first + c.size ≤ most_parties

-- a committee whose numbers stay small, however far one goes down
pub record Fits (c : Committee) : Type 0 where
  pub some : 1 ≤ c.size
  pub inside : c.first + c.size ≤ most_parties
  pub deep : c.depth + c.size ≤ most_parties
  pub numbered : (c.number + 1) * 2 ^ c.size ≤ 2 ^ (most_parties + 1)
