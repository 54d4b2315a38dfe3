-- The plan: which committee is at which part of its work in which round.
use Rattle.std.specs.Prelude.{ℕ, suc, ◌+◌, ◌-◌, ◌*◌, Bool, ◌&&◌, List, [], ◌∷◌, ◌++◌, map, nat_le, nat_lt}
use Rattle.std.specs.List.{range_with_len}
use Rattle.committee.specs.declared.stages.Committee.{Committee}
use Rattle.committee.specs.declared.stages.Part.{Part}
use Rattle.committee.specs.declared.stages.Part.TheVariants.{FirstGraded, FirstReport, SecondGraded, SecondReport, Base}
use Rattle.committee.specs.declared.stages.Stage.{Stage}
use Rattle.committee.specs.Tree.{Tree, leaf, node, low, size}

-- how many rounds a committee takes, by the rounds of the base agreement and of the graded agreement among so many seats: a graded agreement,
-- the first half's rounds and its report, and the same for the second half
unfoldable pub duration : (ℕ → ℕ) → (ℕ → ℕ) → Tree → ℕ
duration base graded (leaf lo s) = base s
duration base graded (node lo s l r) = suc (graded s + duration base graded l) + suc (graded s + duration base graded r)

-- the committee of a tree, by its number and its depth
abbrev pub committee_of : ℕ → ℕ → Tree → Committee
committee_of w d tree = record { number = w; depth = d; first = low tree; size = size tree }

-- who sends in a round: the half that reports, or else the committee; the committee hears
abbrev pub senders_in : Part → Committee → Committee → Committee
senders_in FirstGraded c half = c
senders_in FirstReport c half = half
senders_in SecondGraded c half = c
senders_in SecondReport c half = half
senders_in Base c half = c

abbrev pub senders_of : Stage → Committee
senders_of st = senders_in st.part st.committee st.half

-- the party sits in the committee
abbrev pub sits : Committee → ℕ → Bool
sits c p = nat_le c.first p && nat_lt (p - c.first) c.size

-- rounds 1 to n of a part, in the turn of a half
abbrev pub rounds_of : ℕ → Committee → Committee → Part → List Stage
rounds_of n c half part = map (λ round. record { committee = c; half = half; part = part; round = round }) (range_with_len 1 n)

-- The rounds of committee w at a depth, in their order. The halves of committee w are 2w and 2w + 1.
unfoldable pub plan : (ℕ → ℕ) → (ℕ → ℕ) → ℕ → ℕ → Tree → List Stage
plan base graded w d (leaf lo s) = let c = committee_of w d (leaf lo s) in rounds_of (base s) c c Base
plan base graded w d (node lo s l r) =
    let c = committee_of w d (node lo s l r) in
    let left = committee_of (2 * w) (d + 1) l in
    let right = committee_of (2 * w + 1) (d + 1) r in
    rounds_of (graded s) c left FirstGraded
    ++ (plan base graded (2 * w) (d + 1) l
    ++ (record { committee = c; half = left; part = FirstReport; round = 1 }
    ∷ (rounds_of (graded s) c right SecondGraded
    ++ (plan base graded (2 * w + 1) (d + 1) r
    ++ (record { committee = c; half = right; part = SecondReport; round = 1 } ∷ [])))))
