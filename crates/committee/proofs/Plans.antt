-- Which stage stands at which place of a plan, and how long a plan is.
use Rattle.std.proofs.Common.{◌≡◌, ℕ, zero, suc, ◌+◌, ◌-◌, ◌*◌, ◌<◌, ◌≤◌, List, [], ◌∷◌, ◌++◌, length, Some, refl, ap, sym, ◌∙◌, ⊎_elim, suc-add, arith, append_assoc, length-append}
use Rattle.std.specs.List.{slice_get}
use Rattle.std.proofs.lemmas.Bool.{cases_lt}
use Rattle.std.proofs.lemmas.List.FromFn.{get_or-map-range_with_len, length-map-range_with_len}
use Rattle.std.proofs.lemmas.Option.{slice_get_past, slice_get_read}
use Rattle.committee.specs.declared.stages.Committee.{Committee}
use Rattle.committee.specs.declared.stages.Part.{Part}
use Rattle.committee.specs.declared.stages.Part.TheVariants.{FirstGraded, FirstReport, SecondGraded, SecondReport, Base}
use Rattle.committee.specs.declared.stages.Stage.{Stage}
use Rattle.committee.specs.Tree.{Tree, leaf, node}
use Rattle.committee.specs.Plan.{duration, committee_of, rounds_of, plan}

-- the place in two lists, one behind the other
pub nth_left : {A : Type 0} (xs ys : List A) (t : ℕ) → t < length xs → slice_get (xs ++ ys) t ≡ slice_get xs t
nth_left [] ys t h = absurd (omega arith)
nth_left (x ∷ xs) ys zero h = refl
nth_left (x ∷ xs) ys (suc t) h = nth_left xs ys t (omega arith)

pub nth_right : {A : Type 0} (xs ys : List A) (n t : ℕ) → length xs ≡ n → slice_get (xs ++ ys) (n + t) ≡ slice_get ys t
nth_right [] ys n t e = ap (slice_get ys) (omega (arith, e))
nth_right (x ∷ xs) ys zero t e = absurd (omega (arith, e))
nth_right (x ∷ xs) ys (suc n) t e = ap (slice_get (x ∷ (xs ++ ys))) (suc-add n t) ∙ nth_right xs ys n t (omega (arith, e))

-- a round of a part
abbrev pub at : Committee → Committee → Part → ℕ → Stage
at c half part round = record { committee = c; half = half; part = part; round = round }

rounds_length : (n : ℕ) (c half : Committee) (part : Part) → length (rounds_of n c half part) ≡ n
rounds_length n c half part = length-map-range_with_len (at c half part) 1 n

nth_round : (n : ℕ) (c half : Committee) (part : Part) (t : ℕ) → t < n → slice_get (rounds_of n c half part) t ≡ Some (at c half part (suc t))
nth_round n c half part t h =
    slice_get_read (rounds_of n c half part) n t (at c half part (suc t)) (sym (rounds_length n c half part)) h
    (sym (get_or-map-range_with_len (at c half part) 1 n t (suc t) (at c half part (suc t)) h (omega arith)))

-- the turn of a half: a graded agreement of n rounds, the half's own rounds, and its report
module _ (n : ℕ) (c half : Committee) (graded report : Part) (own : List Stage) where
  abbrev pub turn : List Stage
  turn = rounds_of n c half graded ++ (own ++ (at c half report 1 ∷ []))

  -- from the half's own rounds on
  behind : (t : ℕ) → slice_get turn (n + t) ≡ slice_get (own ++ (at c half report 1 ∷ [])) t
  behind t = nth_right (rounds_of n c half graded) _ n t (rounds_length n c half graded)

  pub turn_length : length turn ≡ n + length own + 1
  turn_length = simp length-append (omega (arith, rounds_length n c half graded))

  pub turn_graded : (t : ℕ) → t < n → slice_get turn t ≡ Some (at c half graded (suc t))
  turn_graded t h = nth_left (rounds_of n c half graded) _ t (omega (arith, rounds_length n c half graded)) ∙ nth_round n c half graded t h

  pub turn_report : (t : ℕ) → t ≡ n + length own → slice_get turn t ≡ Some (at c half report 1)
  turn_report t e = ap (slice_get turn) (omega (arith, e)) ∙ behind (length own + 0) ∙ nth_right own _ (length own) 0 refl

  pub turn_own : (t : ℕ) → t < length own → slice_get turn (n + t) ≡ slice_get own t
  turn_own t h = behind t ∙ nth_left own _ t h

  -- after the report there is as little as after the half's own rounds
  pub turn_rest : (t : ℕ) → n ≤ t → (t ≡ n + length own → ⊥) → slice_get turn t ≡ slice_get own (t - n)
  turn_rest t past other =
      ⊎_elim
      (λ within. ap (slice_get turn) (omega arith) ∙ turn_own (t - n) within)
      (λ over.
      slice_get_past turn t (omega (arith, turn_length)) ∙ sym (slice_get_past own (t - n) over))
      (cases_lt (t - n) (length own))

module _ (base graded : ℕ → ℕ) where
  -- a plan has as many rounds as its committee takes
  pub plan_length : (w d : ℕ) (tree : Tree) → length (plan base graded w d tree) ≡ duration base graded tree
  unfolding plan duration
  plan_length w d (leaf lo s) = let c = committee_of w d (leaf lo s) in rounds_length (base s) c c Base
  plan_length w d (node lo s l r) =
      let c = committee_of w d (node lo s l r) in
      let left = plan_length (2 * w) (d + 1) l in
      let right = plan_length (2 * w + 1) (d + 1) r in
      simp length-append
      (omega (
        arith,
        left,
        right,
        rounds_length (graded s) c (committee_of (2 * w) (d + 1) l) FirstGraded,
        rounds_length (graded s) c (committee_of (2 * w + 1) (d + 1) r) SecondGraded,
      ))

  pub in_base : (w d lo s t : ℕ) → t < base s
      → slice_get (plan base graded w d (leaf lo s)) t ≡ Some (at (committee_of w d (leaf lo s)) (committee_of w d (leaf lo s)) Base (suc t))
  unfolding plan
  in_base w d lo s t h = let c = committee_of w d (leaf lo s) in nth_round (base s) c c Base t h

  -- a larger committee's plan is the turns of its two halves, and each turn has three stretches
  module _ (w d lo s : ℕ) (l r : Tree) where
    abbrev c : Committee
    c = committee_of w d (node lo s l r)

    abbrev left : Committee
    left = committee_of (2 * w) (d + 1) l

    abbrev right : Committee
    right = committee_of (2 * w + 1) (d + 1) r

    abbrev whole : List Stage
    whole = plan base graded w d (node lo s l r)

    abbrev left_plan : List Stage
    left_plan = plan base graded (2 * w) (d + 1) l

    abbrev right_plan : List Stage
    right_plan = plan base graded (2 * w + 1) (d + 1) r

    abbrev first : List Stage
    first = turn (graded s) c left FirstGraded FirstReport left_plan

    abbrev second : List Stage
    second = turn (graded s) c right SecondGraded SecondReport right_plan

    pub two_turns : whole ≡ first ++ second
    unfolding plan
    two_turns = simp append_assoc

    left_length : length left_plan ≡ duration base graded l
    left_length = plan_length (2 * w) (d + 1) l

    right_length : length right_plan ≡ duration base graded r
    right_length = plan_length (2 * w + 1) (d + 1) r

    first_length : length first ≡ suc (graded s + duration base graded l)
    first_length = turn_length (graded s) c left FirstGraded FirstReport left_plan ∙ omega (arith, left_length)

    in_first : (t : ℕ) → t < suc (graded s + duration base graded l) → slice_get whole t ≡ slice_get first t
    in_first t h = ap (λ xs. slice_get xs t) two_turns ∙ nth_left first second t (omega (arith, first_length))

    in_second : (t : ℕ) → slice_get whole (suc (graded s + duration base graded l) + t) ≡ slice_get second t
    in_second t =
        ap (λ xs. slice_get xs (suc (graded s + duration base graded l) + t)) two_turns
        ∙ nth_right first second (suc (graded s + duration base graded l)) t first_length

    pub in_first_graded : (t : ℕ) → t < graded s → slice_get whole t ≡ Some (at c left FirstGraded (suc t))
    in_first_graded t h = in_first t (omega arith) ∙ turn_graded (graded s) c left FirstGraded FirstReport left_plan t h

    pub in_first_half : (t : ℕ) → t < duration base graded l → slice_get whole (graded s + t) ≡ slice_get left_plan t
    in_first_half t h =
        in_first (graded s + t) (omega arith) ∙ turn_own (graded s) c left FirstGraded FirstReport left_plan t (omega (arith, left_length))

    pub in_first_report : slice_get whole (graded s + duration base graded l) ≡ Some (at c left FirstReport 1)
    in_first_report =
        in_first (graded s + duration base graded l) (omega arith)
        ∙ turn_report (graded s) c left FirstGraded FirstReport left_plan (graded s + duration base graded l) (omega (arith, left_length))

    pub in_second_graded : (t : ℕ) → t < graded s → slice_get whole (suc (graded s + duration base graded l) + t) ≡ Some (at c right SecondGraded (suc t))
    in_second_graded t h = in_second t ∙ turn_graded (graded s) c right SecondGraded SecondReport right_plan t h

    pub in_second_half : (t : ℕ) → t < duration base graded r
        → slice_get whole (suc (graded s + duration base graded l) + (graded s + t)) ≡ slice_get right_plan t
    in_second_half t h =
        in_second (graded s + t) ∙ turn_own (graded s) c right SecondGraded SecondReport right_plan t (omega (arith, right_length))

    pub in_second_report : slice_get whole (suc (graded s + duration base graded l) + (graded s + duration base graded r)) ≡ Some (at c right SecondReport 1)
    in_second_report =
        in_second (graded s + duration base graded r)
        ∙ turn_report (graded s) c right SecondGraded SecondReport right_plan (graded s + duration base graded r) (omega (arith, right_length))
