-- The tree of committees: a committee that is too large for a base agreement works through its two halves.
use Rattle.std.specs.Prelude.{◌≡◌, ℕ, zero, suc, ◌+◌, ◌-◌, ◌*◌, ◌/◌, ◌<◌, ◌≤◌, true, false, nat_le}

-- a committee is the parties lo, lo + 1, .. , as many as its size says
pub data Tree : Type 0 where
  leaf : (lo size : ℕ) → Tree
  node : (lo size : ℕ) → Tree → Tree → Tree

abbrev pub low : Tree → ℕ
low (leaf lo s) = lo
low (node lo s l r) = lo

abbrev pub size : Tree → ℕ
size (leaf lo s) = s
size (node lo s l r) = s

-- of s parties the second half has ⌊s/2⌋, and the first half the rest: it has the odd one
abbrev pub first_half : ℕ → ℕ
first_half s = s - s / 2

abbrev pub second_half : ℕ → ℕ
second_half s = s / 2

-- the halves of a committee of s parties from lo on
pub record Split (lo s : ℕ) (l r : Tree) : Type 0 where
  pub left_low : low l ≡ lo
  pub left_size : size l ≡ first_half s
  pub right_low : low r ≡ lo + first_half s
  pub right_size : size r ≡ second_half s

-- committees of at most `most` parties are leaves, and larger ones are halved
unfoldable pub Halved : ℕ → Tree → Type 0
Halved most (leaf lo s) = (1 ≤ s) × (s ≤ most)
Halved most (node lo s l r) = (most < s) × Split lo s l r × Halved most l × Halved most r

-- the committees below s parties from lo on; fuel bounds the depth
unfoldable pub build : ℕ → ℕ → ℕ → ℕ → Tree
build zero most lo s = leaf lo s
build (suc fuel) most lo s = elim (nat_le s most) [
  | true ↦ leaf lo s
  | false ↦ node lo s (build fuel most lo (first_half s)) (build fuel most (lo + first_half s) (second_half s))
]

-- s parties from lo on, and their halves; a depth of s is always enough
abbrev pub committees : ℕ → ℕ → ℕ → Tree
committees most lo s = build s most lo s

-- the most signatures that a committee sends: a small one as much as its base agreement may, a larger one 11s² more than its halves
unfoldable pub bound : Tree → ℕ
bound (leaf lo s) = 22 * (s * s) - 11
bound (node lo s l r) = 11 * (s * s) + bound l + bound r
