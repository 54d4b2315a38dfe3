-- What an execution costs: two gradings, two halves and their reports stay within the bound, and the bound within 22s² − 11.
use Rattle.std.proofs.Common.{◌≡◌, ℕ, ◌+◌, ◌*◌, ◌≤◌, Bool, not, subst, mul-le-mul_right, mul-le-mul_left, arith}
use Rattle.message.proofs.Counting.{count_le}
use Rattle.protocol.specs.Play.{Trace, Play}
use Rattle.protocol.specs.Cost.{signatures}
use Rattle.protocol.specs.Grading.{Grading}
use Rattle.protocol.specs.Agreement.{Meaning, WithinBound, StaysWithinBound}
use Rattle.committee.specs.Plan.{duration}
use Rattle.committee.specs.Tree.{Tree, leaf, node, low, size, Halved, bound}
use Rattle.committee.proofs.Totals.{bound_few}
use Rattle.halving.specs.Execution.{turn_time, time, Exec, spent}
use Rattle.halving.specs.Theorems.{HalvingStaysWithinBound}

pub bound_within : (most : ℕ) (tree : Tree) → Halved most tree → WithinBound (size tree) (bound tree)
unfolding Halved bound
bound_within most (leaf lo s) fits =
    let some : 1 ≤ s * s = omega (arith, mul-le-mul_left s fits.0) in
    omega arith
bound_within most (node lo s l r) fits =
    let left = subst (λ n. bound l + 11 ≤ 22 * (n * n)) fits.1.left_size (bound_within most l fits.2) in
    let right = subst (λ n. bound r + 11 ≤ 22 * (n * n)) fits.1.right_size (bound_within most r fits.3) in
    omega (arith, bound_few s (bound l) (bound r) left right)

-- two gradings and the reports cost at most 11s²
turns : (s a c g g' x y p q bx by : ℕ) → s ≡ a + c → g ≤ 5 * (s * s) → g' ≤ 5 * (s * s) → x ≤ bx → y ≤ by → p ≤ a * s → q ≤ c * s
    → (g + x + p) + (g' + y + q) ≤ 11 * (s * s) + bx + by
turns s a c g g' x y p q bx by e hg hg' hx hy hp hq =
    let shares : a * s + c * s ≡ s * s = rw e (omega arith) in
    omega arith

module _ {B G : Type 0} (a : Meaning B) (g : Grading G) (base : StaysWithinBound a)
    (graded : (k : ℕ) (tr : Trace) → Play g.protocol k tr → signatures g.protocol k tr ≤ 5 * (k * k)) (corrupt : ℕ → ℕ → Bool) where
  within : (tree : Tree) → Halved a.most tree → (t : ℕ) (before after : ℕ → ℕ) (e : Exec corrupt a g tree t before after)
      → spent corrupt a g tree t before after e ≤ bound tree
  unfolding Halved Exec spent bound duration
  within (leaf lo s) fits t before after e = omega (arith, base s _ (fits.0, fits.1) e.run.play)
  within (node lo s l r) fits t before after e =
      let split = fits.1 in
      let u = t + turn_time g s (time a g l) in
      turns s (size l) (size r) _ _ _ _ _ _ (bound l) (bound r) (omega (arith, split.left_size, split.right_size))
      (graded s _ e.first.run.play) (graded s _ e.second.run.play)
      (within l fits.2 (t + g.protocol.rounds s) e.first.held e.first.answers e.first.half)
      (within r fits.3 (u + g.protocol.rounds s) e.second.held e.second.answers e.second.half)
      (mul-le-mul_right s (count_le (λ j. not (corrupt (t + g.protocol.rounds s + time a g l) (low l + j))) (size l)))
      (mul-le-mul_right s (count_le (λ j. not (corrupt (u + g.protocol.rounds s + time a g r) (low r + j))) (size r)))

pub stays_within_bound : {B G : Type 0} → HalvingStaysWithinBound B G
stays_within_bound a g base graded corrupt tree fits t before after e =
    (within a g base graded corrupt tree fits t before after e, bound_within a.most tree fits)
