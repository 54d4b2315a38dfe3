-- The tree of committees: it is halved as it should be, and it does not matter where it begins.
use Rattle.std.proofs.Common.{◌≡◌, ℕ, zero, suc, ◌+◌, ◌-◌, ◌*◌, ◌<◌, ◌≤◌, true, false, sym, refl, ap, ◌∙◌, subst, ⊎_elim, arith}
use Rattle.std.proofs.lemmas.Bool.{cases_lt, le-leb, lt-leb}
use Rattle.committee.specs.Tree.{Tree, leaf, node, low, size, first_half, second_half, Halved, build, committees, bound}
use Rattle.committee.specs.Plan.{duration}

module _ (most : ℕ) (some : 1 ≤ most) where
  abbrev parted : ℕ → ℕ → ℕ → Tree
  parted fuel lo s = node lo s (build fuel most lo (first_half s)) (build fuel most (lo + first_half s) (second_half s))

  build_small : (fuel lo s : ℕ) → s ≤ most → build fuel most lo s ≡ leaf lo s
  unfolding build
  build_small zero lo s h = refl
  build_small (suc fuel) lo s h =
      subst (λ b. (elim b as (λ _. Tree) [ true ↦ leaf lo s | false ↦ parted fuel lo s ]) ≡ leaf lo s) (sym (le-leb s most h)) refl

  build_large : (fuel lo s : ℕ) → most < s
      → build (suc fuel) most lo s ≡ parted fuel lo s
  unfolding build
  build_large fuel lo s h =
      subst (λ b. (elim b as (λ _. Tree) [ true ↦ leaf lo s | false ↦ parted fuel lo s ]) ≡ parted fuel lo s) (sym (lt-leb s most h)) refl

  -- any two depths that suffice give the same
  enough : (f f' lo s : ℕ) → s ≤ f → s ≤ f' → build f most lo s ≡ build f' most lo s
  enough zero f' lo s h h' = build_small zero lo s (omega arith) ∙ sym (build_small f' lo s (omega arith))
  enough (suc f) zero lo s h h' = build_small (suc f) lo s (omega arith) ∙ sym (build_small zero lo s (omega arith))
  enough (suc f) (suc f') lo s h h' =
      ⊎_elim
      (λ large.
      build_large f lo s large
      ∙ rw (enough f f' lo (first_half s) (omega arith) (omega arith), enough f f' (lo + first_half s) (second_half s) (omega arith) (omega arith)) (sym (build_large f' lo s large)))
      (λ fits. build_small (suc f) lo s fits ∙ sym (build_small (suc f') lo s fits))
      (cases_lt most s)

  -- a small committee is a leaf, and a larger one has two halves
  pub small : (lo s : ℕ) → s ≤ most → committees most lo s ≡ leaf lo s
  small lo s h = build_small s lo s h

  pub large : (lo s : ℕ) → most < s → committees most lo s ≡ node lo s (committees most lo (first_half s)) (committees most (lo + first_half s) (second_half s))
  large lo zero h = absurd (omega arith)
  large lo (suc n) h =
      build_large n lo (suc n) h
      ∙ rw (enough n (first_half (suc n)) lo (first_half (suc n)) (omega arith) (omega arith), enough n (second_half (suc n)) (lo + first_half (suc n)) (second_half (suc n)) (omega arith) (omega arith))

  -- an argument by halves
  by_halves : (P : ℕ → ℕ → Type 0) → ((lo s : ℕ) → s ≤ most → P lo s)
      → ((lo s : ℕ) → most < s → P lo (first_half s) → P (lo + first_half s) (second_half s) → P lo s) → (f lo s : ℕ) → s ≤ f → P lo s
  by_halves P base step zero lo s h = base lo s (omega arith)
  by_halves P base step (suc f) lo s h =
      ⊎_elim
      (λ more. step lo s more (by_halves P base step f lo (first_half s) (omega arith)) (by_halves P base step f (lo + first_half s) (second_half s) (omega arith)))
      (λ fits. base lo s fits)
      (cases_lt most s)

  pub committee_low : (lo s : ℕ) → low (committees most lo s) ≡ lo
  committee_low lo s = ⊎_elim (λ more. ap low (large lo s more)) (λ fits. ap low (small lo s fits)) (cases_lt most s)

  pub committee_size : (lo s : ℕ) → size (committees most lo s) ≡ s
  committee_size lo s = ⊎_elim (λ more. ap size (large lo s more)) (λ fits. ap size (small lo s fits)) (cases_lt most s)

  -- the tree is as halving asks
  pub halved : (lo s : ℕ) → 1 ≤ s → Halved most (committees most lo s)
  unfolding Halved
  halved lo s one =
      by_halves (λ lo s. 1 ≤ s → Halved most (committees most lo s))
      (λ lo s fits one. rw (small lo s fits) (one, fits))
      (λ lo s more left right one.
      rw (large lo s more) (
        more,
        record {
          left_low = committee_low lo (first_half s);
          left_size = committee_size lo (first_half s);
          right_low = committee_low (lo + first_half s) (second_half s);
          right_size = committee_size (lo + first_half s) (second_half s);
        },
        left (omega arith),
        right (omega arith),
      ))
      s lo s (omega arith) one

  -- how long it takes does not depend on where it begins
  module _ (base graded : ℕ → ℕ) where
    pub lasts_small : (lo s : ℕ) → s ≤ most → duration base graded (committees most lo s) ≡ base s
    unfolding duration
    lasts_small lo s h = ap (duration base graded) (small lo s h)

    pub lasts_large : (lo s : ℕ) → most < s
        → duration base graded (committees most lo s)
        ≡ suc (graded s + duration base graded (committees most lo (first_half s)))
        + suc (graded s + duration base graded (committees most (lo + first_half s) (second_half s)))
    unfolding duration
    lasts_large lo s h = ap (duration base graded) (large lo s h)

    pub lasts_alike : (lo lo' s : ℕ) → duration base graded (committees most lo s) ≡ duration base graded (committees most lo' s)
    lasts_alike lo lo' s =
        by_halves (λ lo s. (lo' : ℕ) → duration base graded (committees most lo s) ≡ duration base graded (committees most lo' s))
        (λ lo s fits lo'. lasts_small lo s fits ∙ sym (lasts_small lo' s fits))
        (λ lo s more left right lo'.
        lasts_large lo s more
        ∙ rw (left lo', right (lo' + first_half s)) (sym (lasts_large lo' s more)))
        s lo s (omega arith) lo'

  -- and so for the bound
  pub bound_small : (lo s : ℕ) → s ≤ most → bound (committees most lo s) ≡ 22 * (s * s) - 11
  unfolding bound
  bound_small lo s h = ap bound (small lo s h)

  pub bound_large : (lo s : ℕ) → most < s
      → bound (committees most lo s) ≡ 11 * (s * s) + bound (committees most lo (first_half s)) + bound (committees most (lo + first_half s) (second_half s))
  unfolding bound
  bound_large lo s h = ap bound (large lo s h)

  pub bound_alike : (lo lo' s : ℕ) → bound (committees most lo s) ≡ bound (committees most lo' s)
  bound_alike lo lo' s =
      by_halves (λ lo s. (lo' : ℕ) → bound (committees most lo s) ≡ bound (committees most lo' s))
      (λ lo s fits lo'. bound_small lo s fits ∙ sym (bound_small lo' s fits))
      (λ lo s more left right lo'. bound_large lo s more ∙ rw (left lo', right (lo' + first_half s)) (sym (bound_large lo' s more)))
      s lo s (omega arith) lo'
