-- An execution in which nobody is corrupt unites at the first report, so the second grading makes everybody sure.
use Rattle.std.proofs.Common.{◌≡◌, ℕ, ◌+◌, ◌<◌, ◌≤◌, Bool, false, refl, mul-zero, arith}
use Rattle.std.proofs.lemmas.Bool.{both_ways}
use Rattle.message.proofs.Counting.{count_none}
use Rattle.committee.specs.Tree.{low, size, Split, Halved}
use Rattle.halving.specs.Execution.{turn_time, time}
use Rattle.halving.specs.Theorems.{FewIn, HonestExecutionsEndSure}
use Rattle.halving.proofs.Timeline.{Within, earlier, part}
use Rattle.halving.proofs.Halves.{halves, stays_sure, unites}

nobody : ℕ → Bool
nobody _ = false

few : (d lo s : ℕ) → 1 ≤ s → FewIn d nobody lo s
unfolding nobody
few d lo s some = rw (count_none (λ i. nobody (lo + i)) s (λ _ _. refl), mul-zero d) some

pub end_sure : {B G : Type 0} → HonestExecutionsEndSure B G
unfolding Halved nobody
end_sure a g d two sized agrees disciplined law corrupt grows lo s l r fits t before after turns honest =
    (united.0, λ i hi. stays_sure corrupt grows nobody d two g law u lo s (few d lo s (omega arith)) turns.second second_all united.0 united.1 i hi refl)
  where
    split : Split lo s l r
    split = fits.1

    u : ℕ
    u = t + turn_time g s (time a g l)

    none : Within corrupt grows nobody (u + g.protocol.rounds s + time a g r) lo s
    none i hi bad = absurd (both_ways (corrupt (u + g.protocol.rounds s + time a g r) (lo + i)) (honest i hi) bad)

    second_all : Within corrupt grows nobody (u + g.protocol.rounds s) lo s
    second_all = earlier corrupt grows nobody (u + g.protocol.rounds s) (u + g.protocol.rounds s + time a g r) lo s (omega arith) none

    first_all : Within corrupt grows nobody u lo s
    first_all = earlier corrupt grows nobody u (u + g.protocol.rounds s) lo s (omega arith) second_all

    half_all : Within corrupt grows nobody (t + g.protocol.rounds s + time a g l) (low l) (size l)
    half_all =
        part corrupt grows nobody (t + g.protocol.rounds s + time a g l) lo s 0 (size l) (low l) (omega (arith, split.left_low)) (omega (arith, split.left_size))
        (earlier corrupt grows nobody (t + g.protocol.rounds s + time a g l) u lo s (omega arith) first_all)

    some_left : 1 ≤ size l
    some_left = omega (arith, split.left_size)

    united : (v : ℕ) × ((i : ℕ) → i < s → nobody (lo + i) ≡ false → turns.between (lo + i) ≡ v)
    united = (
      _,
      unites corrupt grows nobody d two g law t lo s (few d lo s (omega arith)) turns.first first_all 0 (omega (arith, split.left_low)) (omega (arith, split.left_size))
          (few d (low l) (size l) some_left)
          (halves corrupt grows nobody d two a g sized agrees disciplined law l fits.2 (t + g.protocol.rounds s) turns.first.held turns.first.answers
          turns.first.half half_all (few d (low l) (size l) some_left)),
    )
