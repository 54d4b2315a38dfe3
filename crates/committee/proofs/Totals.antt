-- How many rounds and signatures a committee of so many parties takes, from what its halves take.
use Rattle.std.proofs.Common.{◌≡◌, ℕ, suc, ◌+◌, ◌-◌, ◌*◌, ◌/◌, ◌<◌, ◌≤◌, ◌⊎◌, ap, ◌∙◌, inl, inr, arith}
use Rattle.committee.specs.declared.sizes.Sizes.{Sizes}
use Rattle.committee.specs.Tree.{first_half, second_half, committees, bound}
use Rattle.committee.specs.Plan.{duration}
use Rattle.committee.specs.Numbers.{base_rounds, graded_rounds, total_of}
use Rattle.committee.proofs.Trees.{lasts_small, lasts_large, lasts_alike, bound_large, bound_alike}

module _ (z : Sizes) where
  pub lasts : (lo s : ℕ) → duration (base_rounds z) (graded_rounds z) (committees z.most lo s) ≡ total_of z s
  lasts lo s = lasts_alike z.most z.some (base_rounds z) (graded_rounds z) lo 0 s

  pub total_small : (s : ℕ) → s ≤ z.most → total_of z s ≡ base_rounds z s
  total_small s h = lasts_small z.most z.some (base_rounds z) (graded_rounds z) 0 s h

  pub total_large : (s : ℕ) → z.most < s → total_of z s ≡ suc (z.graded + total_of z (first_half s)) + suc (z.graded + total_of z (second_half s))
  total_large s h =
      lasts_large z.most z.some (base_rounds z) (graded_rounds z) 0 s h
      ∙ ap (λ n. suc (z.graded + total_of z (first_half s)) + suc (z.graded + n)) (lasts (0 + first_half s) (second_half s))

  pub total_step : (s a b : ℕ) → z.most < s → a ≡ total_of z (s - s / 2) → b ≡ total_of z (s / 2) → 2 * (z.graded + 1) + (a + b) ≡ total_of z s
  total_step s a b h ea eb =
      omega (arith, ea, eb, total_large s h)

  pub bound_step : (s a b : ℕ) → z.most < s → a ≡ bound (committees z.most 0 (s - s / 2)) → b ≡ bound (committees z.most 0 (s / 2))
      → 11 * (s * s) + (a + b) ≡ bound (committees z.most 0 s)
  bound_step s a b h ea eb =
      let right = eb ∙ bound_alike z.most z.some 0 (0 + first_half s) (second_half s) in
      omega (arith, ea, right, bound_large z.most z.some 0 s h)

-- the squares of two halves
squares : (a b : ℕ) → (a ≡ b) ⊎ (a ≡ suc b) → 2 * (a * a + b * b) ≤ (a + b) * (a + b) + 1
squares a b (inl e) = rw e (omega arith)
squares a b (inr e) = rw e (omega arith)

halves_near : (s : ℕ) → (first_half s ≡ second_half s) ⊎ (first_half s ≡ suc (second_half s))
halves_near s = grind arith

-- the bounds of two halves leave room for 11s²
pub bound_few : (s x y : ℕ) → x + 11 ≤ 22 * (first_half s * first_half s) → y + 11 ≤ 22 * (second_half s * second_half s)
    → 11 * (s * s) + (x + y) + 11 ≤ 22 * (s * s)
bound_few s x y hx hy =
    let near = squares (first_half s) (second_half s) (halves_near s) in
    let whole : first_half s + second_half s ≡ s = omega arith in
    let sq : 2 * (first_half s * first_half s + second_half s * second_half s) ≤ s * s + 1 = rw whole at near in
    omega arith
