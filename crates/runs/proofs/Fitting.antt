-- In every round of the plan the half sits in the committee, and its messages have room on the wire.
use Rattle.std.proofs.Common.{◌≡◌, ℕ, ◌+◌, ◌*◌, ◌<◌, ◌≤◌, ◌⊎◌, [], Some, sym, subst, inl, inr, arith}
use Rattle.std.specs.List.{All}
use Rattle.std.proofs.lemmas.Bool.{cases_lt}
use Rattle.std.proofs.lemmas.List.Elements.{All-nil, All-cons, All-append, All-map}
use Rattle.std.proofs.lemmas.Option.{get_or_from_slice_get, slice_get_within}
use Rattle.protocol.specs.Grading.{Grading}
use Rattle.protocol.specs.Agreement.{Meaning, Sized, base_topics}
use Rattle.committee.specs.declared.stages.Stage.{Stage}
use Rattle.committee.specs.Tree.{Tree, leaf, node, low, size, Halved, committees}
use Rattle.committee.specs.Plan.{plan}
use Rattle.committee.proofs.Trees.{halved, committee_low, committee_size, small}
use Rattle.runs.specs.State.{room, stage_at}
use Rattle.runs.specs.Wire.{used}

-- a round that n parties have room for
pub record Fits (n : ℕ) (st : Stage) : Type 0 where
  pub slots : used st ≤ room n
  pub parties : st.committee.first + st.committee.size ≤ n
  pub half_from : st.committee.first ≤ st.half.first
  pub half_to : st.half.first + st.half.size ≤ st.committee.first + st.committee.size

module _ (base graded : ℕ → ℕ) (most n : ℕ) (few : most ≤ 4) where
  larger : (s : ℕ) → s ≤ n → 2 * s * s ≤ room n
  larger s h = grind arith

  smaller : (s : ℕ) → s ≤ most → base_topics * s * s ≤ room n
  smaller s h = grind arith

  leaf_fits : (w d lo s : ℕ) → s ≤ most → lo + s ≤ n → All (Fits n) (plan base graded w d (leaf lo s))
  unfolding plan
  leaf_fits w d lo s h inside = All-map (Fits n) _ _ (λ _ _ _. record { slots = smaller s h; parties = inside; half_from = omega arith; half_to = omega arith })

  plan_fits : (w d : ℕ) (tree : Tree) → Halved most tree → low tree + size tree ≤ n → All (Fits n) (plan base graded w d tree)
  unfolding plan Halved
  plan_fits w d (leaf lo s) halves h = leaf_fits w d lo s halves.1 h
  plan_fits w d (node lo s l r) halves h =
      let split = halves.1 in
      let fits = larger s (omega (arith, h)) in
      let from_left : lo ≤ low l = omega (arith, split.left_low) in
      let to_left : low l + size l ≤ lo + s = omega (arith, split.left_low, split.left_size) in
      let from_right : lo ≤ low r = omega (arith, split.right_low) in
      let to_right : low r + size r ≤ lo + s = omega (arith, split.right_low, split.right_size) in
      All-append (Fits n) _ _ (All-map (Fits n) _ _ (λ _ _ _. record { slots = fits; parties = h; half_from = from_left; half_to = to_left }))
      (All-append (Fits n) _ _ (plan_fits (2 * w) (d + 1) l halves.2 (omega (arith, h, to_left)))
      (All-cons (Fits n) _ _ (record { slots = fits; parties = h; half_from = from_left; half_to = to_left })
      (All-append (Fits n) _ _ (All-map (Fits n) _ _ (λ _ _ _. record { slots = fits; parties = h; half_from = from_right; half_to = to_right }))
      (All-append (Fits n) _ _ (plan_fits (2 * w + 1) (d + 1) r halves.3 (omega (arith, h, to_right)))
      (All-cons (Fits n) _ [] (record { slots = fits; parties = h; half_from = from_right; half_to = to_right }) (All-nil (Fits n)))))))

  committees_fit : 1 ≤ most → All (Fits n) (plan base graded 1 0 (committees most 0 n))
  committees_fit some = go (cases_lt most n)
    where
      go : (most < n) ⊎ (n ≤ most) → All (Fits n) (plan base graded 1 0 (committees most 0 n))
      go (inl large) = plan_fits 1 0 (committees most 0 n) (halved most some 0 n (omega arith)) (omega (arith, committee_low most some 0 n, committee_size most some 0 n))
      go (inr fits) = subst (λ tree. All (Fits n) (plan base graded 1 0 tree)) (sym (small most some 0 n fits)) (leaf_fits 1 0 0 n fits (omega arith))

module _ {B G : Type 0} (a : Meaning B) (g : Grading G) where
  pub round_fits : Sized a → (n t : ℕ) (st : Stage) → stage_at a g n t ≡ Some st → Fits n st
  unfolding stage_at
  round_fits sized n t st e =
      let stages = plan a.rounds g.protocol.rounds 1 0 (committees a.most 0 n) in
      subst (Fits n) (get_or_from_slice_get stages t st st e)
      (committees_fit a.rounds g.protocol.rounds a.most n sized.few sized.some t st (slice_get_within stages t st e))
