-- Entries, each of which may name a day: how many name a given day, and which day enough of them name.
use Rattle.std.specs.Prelude.{◌≡◌, ℕ, ◌<◌, ◌≤◌, Bool, true, false, cond, not, ◌&&◌, List, [], ◌∷◌, length, Some, None, MatchBool, Option, ◌==◌, ◌≢◌, nat_le, nat_lt, slice_index_or}
use Rattle.message.specs.declared.Message.{Message}
use Rattle.message.specs.Count.{count}

-- the numbers that are days
abbrev pub Day : ℕ → Type 0
Day d = d < 65536

-- day u comes before day v; every choice of a lowest day goes by this order
abbrev pub before : ℕ → ℕ → Bool
before u v = nat_lt u v

-- the day of a slot that holds a message
abbrev pub slot_day : Option Message → Option ℕ
slot_day None = None
slot_day (Some m) = Some m.day

-- the entry names the day d
abbrev pub names : ℕ → Option ℕ → Bool
names d None = false
names d (Some u) = u == d

-- the entry names another day than d
abbrev pub differs : ℕ → Option ℕ → Bool
differs d None = false
differs d (Some u) = not (u == d)

-- entry i of a list; there is none past its end
abbrev pub entry : List (Option ℕ) → ℕ → Option ℕ
entry days i = slice_index_or days i None

-- how many entries name the day d
unfoldable pub tally : List (Option ℕ) → ℕ → ℕ
tally days d = count (λ i. names d (entry days i)) (length days)

-- how many entries name another day than d
unfoldable pub others : List (Option ℕ) → ℕ → ℕ
others days d = count (λ i. differs d (entry days i)) (length days)

-- the earlier of two days, where there are two
abbrev pub earlier : Option ℕ → Option ℕ → Option ℕ
earlier None o = o
earlier (Some u) None = Some u
earlier (Some u) (Some v) = Some (cond (before v u) v u)

-- the entry, if the day it names passes the test
abbrev pub passing : (ℕ → Bool) → Option ℕ → Option ℕ
passing ok None = None
passing ok (Some u) = cond (ok u) (Some u) None

-- the lowest day that an entry names and that passes the test
unfoldable pub lowest : (ℕ → Bool) → List (Option ℕ) → Option ℕ
lowest ok [] = None
lowest ok (x ∷ xs) = earlier (passing ok x) (lowest ok xs)

-- at least `mark` entries name the day d; a mark of 0 is reached by no day
abbrev pub reaches : ℕ → List (Option ℕ) → ℕ → Bool
reaches mark days d = nat_lt 0 mark && nat_le mark (tally days d)

-- the lowest day that reaches the mark, if there is one
unfoldable pub reaching : ℕ → List (Option ℕ) → Option ℕ
reaching mark days = lowest (reaches mark days) days

-- what `reaching` says, in terms of how many name each day
abbrev pub LowestReaching : ℕ → List (Option ℕ) → Option ℕ → Type 0
LowestReaching mark days None = (d : ℕ) → 0 < mark → tally days d < mark
LowestReaching mark days (Some d) =
    (0 < mark) × (mark ≤ tally days d) × ((u : ℕ) → before u d ≡ true → tally days u < mark)

-- the answer is yes if some entry names another day than d, and no if every entry that names a day names d
abbrev pub TellsDispute : List (Option ℕ) → ℕ → Bool → Type 0
TellsDispute days d r =
    MatchBool r
    ((i : ℕ) × (u : ℕ) × (entry days i ≡ Some u) × (u ≢ d))
    ((i u : ℕ) → entry days i ≡ Some u → u ≡ d)
