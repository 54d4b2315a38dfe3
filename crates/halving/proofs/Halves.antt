-- Halves agree: of two halves one has few corrupt parties; it brings all to one day, and the other cannot part them again.
use Rattle.std.proofs.Common.{◌≡◌, ℕ, suc, ◌+◌, ◌*◌, ◌<◌, ◌≤◌, Bool, true, false, not, ◌⊎◌, sym, refl, ap, ◌∙◌, subst, inl, inr, mul-le-mul_right, mul-add, arith}
use Rattle.std.proofs.lemmas.Bool.{cases_Bool, cases_lt, eq-eqb, not-true}
use Rattle.message.specs.Count.{count}
use Rattle.message.specs.Tally.{names}
use Rattle.message.proofs.Counting.{count_same, count_mono, count_not, count_append, count_more, count_all}
use Rattle.protocol.specs.Play.{Trace, Play}
use Rattle.protocol.specs.Grading.{Grading, day_of, grade_of}
use Rattle.protocol.specs.Agreement.{Meaning, protocol_of, answer, Sized, Agrees, KeepsDiscipline}
use Rattle.committee.specs.Plan.{duration}
use Rattle.committee.specs.Tree.{Tree, leaf, node, low, size, Split, Halved}
use Rattle.halving.specs.Frozen.{frozen}
use Rattle.halving.specs.Execution.{HonestAt, trace, Turn, Small, turn_time, time, Exec}
use Rattle.halving.specs.Theorems.{OnlyGrows, FewIn, Agreed, LawfulGrading, HalvesAgree}
use Rattle.halving.proofs.Freezing.{freeze, same_state}
use Rattle.halving.proofs.Timeline.{Within, earlier, part, outside}

-- fewer than a d-th is fewer than half
pub below_half : (d c s : ℕ) → 2 ≤ d → d * c < s → 2 * c < s
below_half d c s two few = omega (arith, mul-le-mul_right c two)

-- of s parties with few in F, one is outside
pub somebody : (d : ℕ) (F : ℕ → Bool) (lo s : ℕ) → 2 ≤ d → FewIn d F lo s → (i : ℕ) × (i < s) × (F (lo + i) ≡ false)
somebody d F lo s two few =
    let more = count_more (λ _. true) (λ i. F (lo + i)) s
    (omega (arith, below_half d (count (λ i. F (lo + i)) s) s two few, count_all (λ _. true) s (λ _ _. refl))) in
    (more.0, more.1, more.3)

-- of two halves, one has few in F
pub one_half : (d : ℕ) (F : ℕ → Bool) (lo s : ℕ) (l r : Tree) → Split lo s l r → FewIn d F lo s
    → FewIn d F (low l) (size l) ⊎ FewIn d F (low r) (size r)
one_half d F lo s l r split few = go (cases_lt (d * count (λ i. F (low l + i)) (size l)) (size l))
  where
    left : count (λ i. F (low l + i)) (size l) ≡ count (λ i. F (lo + i)) (size l)
    left = count_same (λ i. F (low l + i)) (λ i. F (lo + i)) (size l) (λ i _. ap (λ x. F (x + i)) split.left_low)

    right : count (λ i. F (low r + i)) (size r) ≡ count (λ i. F (lo + (size l + i))) (size r)
    right = count_same (λ i. F (low r + i)) (λ i. F (lo + (size l + i))) (size r) (λ i _. ap F (omega (arith, split.right_low, split.left_size)))

    all : count (λ i. F (lo + i)) s ≡ count (λ i. F (low l + i)) (size l) + count (λ i. F (low r + i)) (size r)
    all =
        ap (count (λ i. F (lo + i))) (omega (arith, split.left_size, split.right_size)) ∙ count_append (λ i. F (lo + i)) (size l) (size r)
        ∙ omega (arith, left, right)

    go : (d * count (λ i. F (low l + i)) (size l) < size l) ⊎ (size l ≤ d * count (λ i. F (low l + i)) (size l))
        → FewIn d F (low l) (size l) ⊎ FewIn d F (low r) (size r)
    go (inl good) = inl good
    go (inr bad) =
        inr (omega (
          arith,
          ap (λ n. d * n) all,
          mul-add d (count (λ i. F (low l + i)) (size l)) (count (λ i. F (low r + i)) (size r)),
          split.left_size,
          split.right_size,
        ))

module _ (corrupt : ℕ → ℕ → Bool) (grows : OnlyGrows corrupt) (F : ℕ → Bool) (d : ℕ) (two : 2 ≤ d) where
  abbrev AllIn : ℕ → ℕ → ℕ → Type 0
  AllIn = Within corrupt grows F

  -- the base agreement, at a leaf
  module _ {B : Type 0} (a : Meaning B) (sized : Sized a) (agrees : Agrees a) (disciplined : KeepsDiscipline a)
      (t lo s : ℕ) (some : 1 ≤ s) (fits : s ≤ a.most) (before after : ℕ → ℕ) (e : Small corrupt a t lo s before after)
      (all : AllIn (t + a.rounds s) lo s) (few : FewIn d F lo s) where
    cold : Trace
    cold = frozen (λ i. F (lo + i)) (trace corrupt e.run)

    cold_play : Play (protocol_of a) s cold
    unfolding cold
    cold_play =
        freeze (protocol_of a) s (trace corrupt e.run) (λ i. F (lo + i)) (sized.forms s (some, fits)) (disciplined s (some, fits)) e.run.play all

    answers : (i : ℕ) → i < s → F (lo + i) ≡ false → after (lo + i) ≡ answer a s cold i
    unfolding cold
    answers i hi good =
        e.answers i hi (outside corrupt grows F (t + a.rounds s) lo s i all hi good)
        ∙ ap a.day (sym (same_state (protocol_of a) s (trace corrupt e.run) (λ i. F (lo + i)) (a.rounds s) i))

    small : Agreed F lo s before after
    unfolding cold
    small = record {
      one = λ i j hi hj ei ej.
          answers i hi ei
          ∙ agrees.one s cold (some, fits) cold_play (below_half d (count (λ i. F (lo + i)) s) s two few) i j hi hj ei ej ∙ sym (answers j hj ej);
      common = λ v same i hi ei.
          answers i hi ei ∙ agrees.common s cold (some, fits) cold_play (below_half d (count (λ i. F (lo + i)) s) s two few) v same i hi ei;
    }

  -- the grading of one half's turn
  module _ {G : Type 0} (g : Grading G) (law : LawfulGrading d g) (t lo s : ℕ) (few : FewIn d F lo s) {half_time half_lo half_size : ℕ}
      {Half : ℕ → (ℕ → ℕ) → (ℕ → ℕ) → Type 0} {before after : ℕ → ℕ} (turn : Turn corrupt g t lo s half_time half_lo half_size Half before after)
      (all : AllIn (t + g.protocol.rounds s) lo s) where
    abbrev G_time : ℕ
    G_time = t + g.protocol.rounds s

    abbrev hot : Trace
    hot = trace corrupt turn.run

    abbrev still : Trace
    still = frozen (λ i. F (lo + i)) hot

    still_play : Play g.protocol s still
    still_play =
        freeze g.protocol s hot (λ i. F (lo + i)) (law.forms s) (law.discipline s) turn.run.play all

    same_day : (i : ℕ) → day_of g s still i ≡ day_of g s hot i
    same_day i = ap (λ x. (g.outcome x).0) (same_state g.protocol s hot (λ i. F (lo + i)) (g.protocol.rounds s) i)

    same_grade : (i : ℕ) → grade_of g s still i ≡ grade_of g s hot i
    same_grade i = ap (λ x. (g.outcome x).1) (same_state g.protocol s hot (λ i. F (lo + i)) (g.protocol.rounds s) i)

    -- what a party outside F holds then
    held_cold : (i : ℕ) → i < s → F (lo + i) ≡ false → turn.held (lo + i) ≡ day_of g s still i
    held_cold i hi good = turn.held_is i hi (outside corrupt grows F G_time lo s i all hi good) ∙ sym (same_day i)

    -- one that is sure holds what all outside F hold
    pub as_sure : (i j : ℕ) → i < s → j < s → F (lo + i) ≡ false → F (lo + j) ≡ false → grade_of g s hot i ≡ true
        → turn.held (lo + j) ≡ turn.held (lo + i)
    as_sure i j hi hj ei ej sure =
        held_cold j hj ej ∙ law.graded.consistent s still still_play few i j hi hj ei ej (same_grade i ∙ sure) ∙ sym (held_cold i hi ei)

    -- a common day comes out at grade 1
    pub stays_sure : (v : ℕ) → ((i : ℕ) → i < s → F (lo + i) ≡ false → before (lo + i) ≡ v)
        → (i : ℕ) → i < s → F (lo + i) ≡ false → (turn.held (lo + i) ≡ v) × (grade_of g s hot i ≡ true)
    stays_sure v same i hi good =
        let ends = law.graded.valid s still still_play few v same i hi good in
        (held_cold i hi good ∙ ends.0, sym (same_grade i) ∙ ends.1)

  -- one half's turn
  module _ {G : Type 0} (g : Grading G) (law : LawfulGrading d g) (t lo s : ℕ) (few : FewIn d F lo s) {half_time half_lo half_size : ℕ}
      {Half : ℕ → (ℕ → ℕ) → (ℕ → ℕ) → Type 0} {before after : ℕ → ℕ} (turn : Turn corrupt g t lo s half_time half_lo half_size Half before after)
      (all : AllIn (t + turn_time g s half_time) lo s) where
    all_graded : AllIn (t + g.protocol.rounds s) lo s
    all_graded = earlier corrupt grows F (t + g.protocol.rounds s) (t + turn_time g s half_time) lo s (omega arith) all

    -- whoever is outside F is honest when the report closes
    reported_honest : (i : ℕ) → i < s → F (lo + i) ≡ false → HonestAt corrupt (suc (t + g.protocol.rounds s + half_time)) (lo + i)
    reported_honest i hi good =
        outside corrupt grows F (suc (t + g.protocol.rounds s + half_time)) lo s i (subst (λ n. AllIn n lo s) (omega arith) all) hi good

    -- a common day stays
    pub stays : (v : ℕ) → ((i : ℕ) → i < s → F (lo + i) ≡ false → before (lo + i) ≡ v)
        → (i : ℕ) → i < s → F (lo + i) ≡ false → after (lo + i) ≡ v
    stays v same i hi good =
        let sure = stays_sure g law t lo s few turn all_graded v same i hi good in
        turn.sure i hi (reported_honest i hi good) sure.1 ∙ sure.0

    -- a half with few in F brings all to one day
    module _ (skip : ℕ) (at : half_lo ≡ lo + skip) (inside : skip + half_size ≤ s) (minor : FewIn d F half_lo half_size)
        (agreed : Agreed F half_lo half_size turn.held turn.answers) where
      place : (j : ℕ) → half_lo + j ≡ lo + (skip + j)
      place j = omega (arith, at)

      pub one : (j : ℕ) × (j < half_size) × (F (half_lo + j) ≡ false)
      one = somebody d F half_lo half_size two minor

      abbrev pub the_day : ℕ
      the_day = turn.answers (half_lo + one.0)

      -- if party i is sure, the half starts from its day, and answers it
      from_sure : (i : ℕ) → i < s → F (lo + i) ≡ false → grade_of g s (trace corrupt turn.run) i ≡ true → the_day ≡ turn.held (lo + i)
      from_sure i hi good sure = agreed.common (turn.held (lo + i)) same one.0 one.1 one.2
        where
          same : (j : ℕ) → j < half_size → F (half_lo + j) ≡ false → turn.held (half_lo + j) ≡ turn.held (lo + i)
          same j hj fine =
              let fine' : F (lo + (skip + j)) ≡ false = sym (ap F (place j)) ∙ fine in
              ap turn.held (place j) ∙ as_sure g law t lo s few turn all_graded i (skip + j) hi (omega arith) good fine' sure

      -- everybody hears the half's day from more than half of it
      heard : (i : ℕ) → i < s → half_size < 2 * count (λ j. names the_day (turn.report i j)) half_size
      heard i hi =
          omega (
            arith,
            below_half d (count (λ j. F (half_lo + j)) half_size) half_size two minor,
            count_not (λ j. F (half_lo + j)) half_size,
            count_mono (λ j. not (F (half_lo + j))) (λ j. names the_day (turn.report i j)) half_size says,
          )
        where
          says : (j : ℕ) → j < half_size → not (F (half_lo + j)) ≡ true → names the_day (turn.report i j) ≡ true
          says j hj e =
              let fine = not-true (F (half_lo + j)) e in
              let fine' : F (lo + (skip + j)) ≡ false = sym (ap F (place j)) ∙ fine in
              let honest = ap (corrupt (suc (t + g.protocol.rounds s + half_time))) (place j) ∙ reported_honest (skip + j) (omega arith) fine' in
              ap (names the_day) (turn.from_honest i j hi hj honest)
              ∙ eq-eqb (turn.answers (half_lo + j)) the_day (agreed.one j one.0 hj one.1 fine one.2)

      pub unites : (i : ℕ) → i < s → F (lo + i) ≡ false → after (lo + i) ≡ the_day
      unites i hi good = go (cases_Bool (grade_of g s (trace corrupt turn.run) i))
        where
          go : (grade_of g s (trace corrupt turn.run) i ≡ true) ⊎ (grade_of g s (trace corrupt turn.run) i ≡ false) → after (lo + i) ≡ the_day
          go (inl sure) = turn.sure i hi (reported_honest i hi good) sure ∙ sym (from_sure i hi good sure)
          go (inr unsure) = turn.told i hi (reported_honest i hi good) unsure the_day (heard i hi)

  module _ {B G : Type 0} (a : Meaning B) (g : Grading G) (sized : Sized a) (agrees : Agrees a) (disciplined : KeepsDiscipline a)
      (law : LawfulGrading d g) where
    pub halves : (tree : Tree) → Halved a.most tree → (t : ℕ) (before after : ℕ → ℕ) → Exec corrupt a g tree t before after
        → AllIn (t + time a g tree) (low tree) (size tree) → FewIn d F (low tree) (size tree) → Agreed F (low tree) (size tree) before after
    unfolding Exec Halved duration
    halves (leaf lo s) fits t before after e all few = small a sized agrees disciplined t lo s fits.0 fits.1 before after e all few
    halves (node lo s l r) fits t before after e all few =
        go (one_half d F lo s l r split few)
        (halves l fits.2 (t + g.protocol.rounds s) e.first.held e.first.answers e.first.half left_all)
        (halves r fits.3 (u + g.protocol.rounds s) e.second.held e.second.answers e.second.half right_all)
      where
        split : Split lo s l r
        split = fits.1

        u : ℕ
        u = t + turn_time g s (time a g l)

        at_end : AllIn (u + turn_time g s (time a g r)) lo s
        at_end = subst (λ n. AllIn n lo s) (omega arith) all

        at_turn : AllIn u lo s
        at_turn = earlier corrupt grows F u (u + turn_time g s (time a g r)) lo s (omega arith) at_end

        left_all : AllIn (t + g.protocol.rounds s + time a g l) (low l) (size l)
        left_all =
            part corrupt grows F (t + g.protocol.rounds s + time a g l) lo s 0 (size l) (low l) (omega (arith, split.left_low)) (omega (arith, split.left_size))
            (earlier corrupt grows F (t + g.protocol.rounds s + time a g l) u lo s (omega arith) at_turn)

        right_all : AllIn (u + g.protocol.rounds s + time a g r) (low r) (size r)
        right_all =
            part corrupt grows F (u + g.protocol.rounds s + time a g r) lo s (size l) (size r) (low r)
            (omega (arith, split.right_low, split.left_size)) (omega (arith, split.left_size, split.right_size))
            (earlier corrupt grows F (u + g.protocol.rounds s + time a g r) (u + turn_time g s (time a g r)) lo s (omega arith) at_end)

        -- a common day survives both turns
        common : (v : ℕ) → ((i : ℕ) → i < s → F (lo + i) ≡ false → before (lo + i) ≡ v) → (i : ℕ) → i < s → F (lo + i) ≡ false → after (lo + i) ≡ v
        common v same = stays g law u lo s few e.second at_end v (stays g law t lo s few e.first at_turn v same)

        agreed : (day : ℕ) → ((i : ℕ) → i < s → F (lo + i) ≡ false → after (lo + i) ≡ day) → Agreed F lo s before after
        agreed day on = record { one = λ i j hi hj ei ej. on i hi ei ∙ sym (on j hj ej); common = common }

        go : FewIn d F (low l) (size l) ⊎ FewIn d F (low r) (size r)
            → (FewIn d F (low l) (size l) → Agreed F (low l) (size l) e.first.held e.first.answers)
            → (FewIn d F (low r) (size r) → Agreed F (low r) (size r) e.second.held e.second.answers)
            → Agreed F lo s before after
        go (inl good) left right =
            agreed _
            (stays g law u lo s few e.second at_end _
            (unites g law t lo s few e.first at_turn 0 (omega (arith, split.left_low)) (omega (arith, split.left_size)) good (left good)))
        go (inr good) left right =
            agreed _
            (unites g law u lo s few e.second at_end (size l) (omega (arith, split.right_low, split.left_size))
            (omega (arith, split.left_size, split.right_size)) good (right good))

pub agree : {B G : Type 0} → HalvesAgree B G
agree a g d two sized agrees disciplined law corrupt grows F tree fits t before after e all few =
    halves corrupt grows F d two a g sized agrees disciplined law tree fits t before after e all few
