-- Graded agreement: each seat leaves with a day and a grade.
use Rattle.std.specs.Prelude.{◌≡◌, ℕ, ◌<◌, Bool, true}
use Rattle.message.specs.Tally.{Day}
use Rattle.protocol.specs.Protocol.{Protocol}
use Rattle.protocol.specs.Play.{Trace, Play, final, EndsHonest, FewerThanOneIn}

-- a protocol, and the day and grade that a seat leaves with, by what it keeps at the end; grade 1 is true
pub record Grading (R : Type 0) : Type 0 where
  pub protocol : Protocol R
  pub outcome : R → ℕ × Bool

module _ {R : Type 0} (g : Grading R) (k : ℕ) (tr : Trace) where
  abbrev pub day_of : ℕ → ℕ
  day_of i = (g.outcome (final g.protocol k tr i)).0

  abbrev pub grade_of : ℕ → Bool
  grade_of i = (g.outcome (final g.protocol k tr i)).1

-- What makes it a graded agreement, in every play in which fewer than a d-th of the seats are corrupt at the end.
pub record Graded (d : ℕ) {R : Type 0} (g : Grading R) : Type 0 where
  -- one honest seat of grade 1 fixes every honest seat's day
  pub consistent : (k : ℕ) (tr : Trace) → Play g.protocol k tr → FewerThanOneIn g.protocol k tr d
      → (i j : ℕ) → i < k → j < k → EndsHonest g.protocol k tr i → EndsHonest g.protocol k tr j
      → grade_of g k tr i ≡ true → day_of g k tr j ≡ day_of g k tr i
  -- a common input of the honest seats comes out at each of them, at grade 1
  pub valid : (k : ℕ) (tr : Trace) → Play g.protocol k tr → FewerThanOneIn g.protocol k tr d
      → (v : ℕ) → ((i : ℕ) → i < k → EndsHonest g.protocol k tr i → tr.input i ≡ v)
      → (i : ℕ) → i < k → EndsHonest g.protocol k tr i → (day_of g k tr i ≡ v) × (grade_of g k tr i ≡ true)

-- In every play, however many are corrupt, an honest seat leaves with a day.
abbrev pub LeavesWithDays : {R : Type 0} → Grading R → Type 0
LeavesWithDays g =
    (k : ℕ) (tr : Trace) → Play g.protocol k tr → (i : ℕ) → i < k → EndsHonest g.protocol k tr i → Day (day_of g k tr i)
