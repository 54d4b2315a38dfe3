-- Sets of seats, or of parties, as numbers: bit i stands for member i.
use Rattle.std.specs.Prelude.{◌≡◌, ℕ, zero, suc, ◌+◌, ◌/◌, ◌%◌, ◌^◌, Bool, true, false, cond, MatchBool, ◌==◌}
use Rattle.message.specs.Count.{count}

-- i is a member of the set
unfoldable pub member : ℕ → ℕ → Bool
member i set = (set / 2 ^ i % 2) == 1

-- how many of the numbers below k are members
abbrev pub size : ℕ → ℕ → ℕ
size k set = count (λ i. member i set) k

-- the set of the numbers below k that pass a test
unfoldable pub gathered : (ℕ → Bool) → ℕ → ℕ
gathered f zero = 0
gathered f (suc k) = gathered f k + cond (f k) (2 ^ k) 0

-- the members of the set are exactly the numbers that pass the test
abbrev pub Holds : ℕ → (ℕ → Bool) → Type 0
Holds set f = (i : ℕ) → member i set ≡ f i

-- the answer is yes if each member of a is a member of b, and no if one is not
abbrev pub TellsSubset : ℕ → ℕ → Bool → Type 0
TellsSubset a b r =
    MatchBool r ((i : ℕ) → member i a ≡ true → member i b ≡ true) ((i : ℕ) × (member i a ≡ true) × (member i b ≡ false))

-- more than half of k seats
abbrev pub quorum : ℕ → ℕ
quorum k = k / 2 + 1

-- how many bits a word has
abbrev pub width : ℕ
width = 32

-- how many parties there can be: as many as a set of signers has room for
abbrev pub most_parties : ℕ
most_parties = width
