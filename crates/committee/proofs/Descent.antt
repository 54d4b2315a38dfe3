-- Going down through the committees: the numbers of halves stay small, and a committee's plan is the turns of its halves.
use Rattle.std.proofs.Common.{◌≡◌, ℕ, suc, ◌+◌, ◌-◌, ◌*◌, ◌^◌, ◌<◌, ◌≤◌, List, ◌++◌, length, Some, sym, ap, ◌∙◌, mul-le-mul_left, pow-suc, add-one, arith}
use Rattle.std.specs.List.{slice_get}
use Rattle.std.proofs.Math.Pow.{pow_mono}
use Rattle.committee.specs.declared.sizes.Sizes.{Sizes}
use Rattle.committee.specs.declared.stages.Committee.{Committee}
use Rattle.committee.specs.declared.stages.Part.{Part}
use Rattle.committee.specs.declared.stages.Stage.{Stage}
use Rattle.committee.specs.declared.stages.Part.TheVariants.{FirstGraded, FirstReport, SecondGraded, SecondReport, Base}
use Rattle.committee.specs.Tree.{Tree, first_half, second_half, committees}
use Rattle.committee.specs.Plan.{committee_of, plan}
use Rattle.committee.specs.Numbers.{base_rounds, graded_rounds, total_of, plan_of, turn_of, first_half_of, second_half_of, Halvable, Fits}
use Rattle.committee.proofs.Trees.{small, large, committee_low, committee_size}
use Rattle.committee.proofs.Plans.{at, nth_left, nth_right, turn_length, turn_graded, turn_report, turn_rest, plan_length, in_base, two_turns}
use Rattle.committee.proofs.Totals.{lasts, total_small}

-- one level down the number of a committee doubles, and its size has fallen
power_step : (k s : ℕ) → k < s → 2 * 2 ^ k ≤ 2 ^ s
power_step k s h = omega (arith, pow-suc 2 k, pow_mono {i = suc k} {j = s} (omega arith))

numbered_down : (n k s top : ℕ) → k < s → (n + 1) * 2 ^ s ≤ top → (2 * n + 2) * 2 ^ k ≤ top
numbered_down n k s top h all = omega (arith, mul-le-mul_left (n + 1) (power_step k s h))

pub halvable : (c : Committee) → Fits c → 1 < c.size → Halvable c
halvable c fits several = record {
  number = omega (arith, numbered_down c.number 1 c.size (2 ^ 33) several fits.numbered);
  depth = omega (arith, fits.deep);
  parties = fits.inside;
}

pub first_fits : (c : Committee) → Fits c → 1 < c.size → Fits (first_half_of c)
first_fits c fits several = record {
  some = omega arith;
  inside = omega (arith, fits.inside);
  deep = omega (arith, fits.deep);
  numbered = omega (arith, numbered_down c.number (first_half c.size) c.size (2 ^ 33) (omega arith) fits.numbered);
}

pub second_fits : (c : Committee) → Fits c → 1 < c.size → Fits (second_half_of c)
second_fits c fits several = record {
  some = omega arith;
  inside = omega (arith, fits.inside);
  deep = omega (arith, fits.deep);
  numbered = omega (arith, numbered_down c.number (second_half c.size) c.size (2 ^ 33) (omega arith) fits.numbered);
}

-- a plan has as many rounds as its committee takes
pub plan_total : (z : Sizes) (c : Committee) → length (plan_of z c) ≡ total_of z c.size
plan_total z c = plan_length (base_rounds z) (graded_rounds z) c.number c.depth (committees z.most c.first c.size) ∙ lasts z c.first c.size

module _ (z : Sizes) (c : Committee) where
  abbrev base : ℕ → ℕ
  base = base_rounds z

  abbrev graded : ℕ → ℕ
  graded = graded_rounds z

  -- a small committee runs the base agreement
  pub found_base : (t : ℕ) → c.size ≤ z.most → t < total_of z c.size → slice_get (plan_of z c) t ≡ Some (at c c Base (t + 1))
  found_base t fits h =
      ap (λ tree. slice_get (plan base graded c.number c.depth tree) t) (small z.most z.some c.first c.size fits)
      ∙ in_base base graded c.number c.depth c.first c.size t (omega (arith, total_small z c.size fits))
      ∙ ap (λ x. Some (at c c Base x)) (sym (add-one t))

  -- a larger one's plan is the turns of its halves
  module _ (more : z.most < c.size) where
    abbrev l : Tree
    l = committees z.most c.first (first_half c.size)

    abbrev r : Tree
    r = committees z.most (c.first + first_half c.size) (second_half c.size)

    -- the halves as committees
    left_is : committee_of (2 * c.number) (c.depth + 1) l ≡ first_half_of c
    left_is = λ i. record {
      number = 2 * c.number;
      depth = c.depth + 1;
      first = committee_low z.most z.some c.first (first_half c.size) i;
      size = committee_size z.most z.some c.first (first_half c.size) i;
    }

    right_is : committee_of (2 * c.number + 1) (c.depth + 1) r ≡ second_half_of c
    right_is = λ i. record {
      number = 2 * c.number + 1;
      depth = c.depth + 1;
      first = committee_low z.most z.some (c.first + first_half c.size) (second_half c.size) i;
      size = committee_size z.most z.some (c.first + first_half c.size) (second_half c.size) i;
    }

    pub turns : plan_of z c ≡ turn_of z c (first_half_of c) FirstGraded FirstReport ++ turn_of z c (second_half_of c) SecondGraded SecondReport
    turns =
        ap (plan base graded c.number c.depth) (large z.most z.some c.first c.size more)
        ∙ two_turns base graded c.number c.depth c.first c.size l r
        ∙ rw (left_is, right_is)

    -- the first turn has n rounds
    module _ (left : Committee) (is_left : left ≡ first_half_of c) (n : ℕ) (takes : n ≡ z.graded + total_of z left.size + 1) where
      first_takes : length (turn_of z c left FirstGraded FirstReport) ≡ n
      first_takes = turn_length z.graded c left FirstGraded FirstReport (plan_of z left) ∙ omega (arith, takes, plan_total z left)

      turns_by : plan_of z c ≡ turn_of z c left FirstGraded FirstReport ++ turn_of z c (second_half_of c) SecondGraded SecondReport
      turns_by = turns ∙ ap (λ x. turn_of z c x FirstGraded FirstReport ++ turn_of z c (second_half_of c) SecondGraded SecondReport) (sym is_left)

      pub in_first_turn : (t : ℕ) → t < n → slice_get (plan_of z c) t ≡ slice_get (turn_of z c left FirstGraded FirstReport) t
      in_first_turn t h = ap (λ xs. slice_get xs t) turns_by ∙ nth_left (turn_of z c left FirstGraded FirstReport) _ t (omega (arith, first_takes))

      pub in_second_turn : (right : Committee) → right ≡ second_half_of c → (t : ℕ) → n ≤ t
          → slice_get (plan_of z c) t ≡ slice_get (turn_of z c right SecondGraded SecondReport) (t - n)
      in_second_turn right is_right t h =
          ap (slice_get (plan_of z c)) (omega arith) ∙ ap (λ xs. slice_get xs (n + (t - n))) turns_by
          ∙ nth_right (turn_of z c left FirstGraded FirstReport) _ n (t - n) first_takes
          ∙ ap (λ x. slice_get (turn_of z c x SecondGraded SecondReport) (t - n)) (sym is_right)

  -- the three stretches of a half's turn
  module _ (half : Committee) (first last : Part) (t : ℕ) where
    abbrev rounds : List Stage
    rounds = turn_of z c half first last

    pub in_graded : t < z.graded → slice_get rounds t ≡ Some (at c half first (t + 1))
    in_graded h = turn_graded z.graded c half first last (plan_of z half) t h ∙ ap (λ x. Some (at c half first x)) (sym (add-one t))

    pub in_report : t ≡ z.graded + total_of z half.size → slice_get rounds t ≡ Some (at c half last 1)
    in_report e = turn_report z.graded c half first last (plan_of z half) t (omega (arith, e, plan_total z half))

    pub in_half : z.graded ≤ t → (t ≡ z.graded + total_of z half.size → ⊥) → slice_get rounds t ≡ slice_get (plan_of z half) (t - z.graded)
    in_half past other = turn_rest z.graded c half first last (plan_of z half) t past (λ e. other (omega (arith, e, plan_total z half)))
