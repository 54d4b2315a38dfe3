-- Relays stay within the bound: a copy has one signature in round 1, and two in round 2.
use Rattle.std.specs.Prelude.{◌≡◌, ℕ, zero, suc, ◌*◌, ◌<◌, ◌≤◌, Bool, cond, Some, None, Option, refl}
use Rattle.std.proofs.Common.{sym, ◌∙◌, ap, inl, inr, mul-le-mul_left, mul-le-mul_right}
use native.Mathlib.Omega.{arith}
use Rattle.std.proofs.lemmas.Bool.Decides.{nat_tests}
use Rattle.message.specs.declared.Message.{Message}
use Rattle.message.specs.Count.{sum}
use Rattle.message.specs.Members.{member, size}
use Rattle.message.proofs.Counting.{count_one, count_two, sum_bound}
use Rattle.message.proofs.Masks.{member_only, member_two}
use Rattle.protocol.specs.declared.Form.{Form}
use Rattle.protocol.specs.declared.Form.TheVariants.{Listed, Certificate}
use Rattle.protocol.specs.Play.{Trace, says}
use Rattle.protocol.specs.Cost.{on_one_copy, cost_of, spent_in, signatures}
use Rattle.protocol.specs.Agreement.{base_topics, StaysWithinBound}
use Rattle.base.specs.Relaying.{form, relays}
use Rattle.base.specs.Laws.Placing.{Place, formed_place, no_certificate}
use Rattle.base.specs.Laws.Relaying.{P, said_place}

signers_in : (k r t i mask : ℕ) → Place k r t i mask → size k mask ≤ suc r
signers_in k r t i mask (inl x) =
    omega (arith, count_one (λ s. member s mask) i k (λ s has. member_only s i (sym (ap (member s) x.signers) ∙ has)))
signers_in k r t i mask (inr x) =
    omega (
      arith,
      x.round,
      count_two (λ s. member s mask) t i k (λ s has. member_two t i s x.other (sym (ap (member s) x.signers) ∙ has)),
    )

one_copy : (k r t i mask : ℕ) → on_one_copy k (form k (suc r) t i mask) mask ≤ suc r
one_copy k r t i mask = go (form k (suc r) t i mask) refl
  where
    go : (f : Option Form) → form k (suc r) t i mask ≡ f → on_one_copy k f mask ≤ suc r
    go None e = omega arith
    go (Some Listed) e = signers_in k r t i mask (formed_place k r t i mask Listed e)
    go (Some Certificate) e = absurd (no_certificate k (suc r) t i mask e)

module _ (k : ℕ) (few : k ≤ 4) (tr : Trace) where
  abbrev spent : ℕ → ℕ → ℕ → ℕ
  spent r i t = cost_of P k tr r t i (says P k tr r t i)

  one_message : (r t i : ℕ) → spent r i t ≤ k * suc r
  one_message r t i = go (says P k tr r t i)
    where
      go : (o : Option Message) → cost_of P k tr r t i o ≤ k * suc r
      go None = omega arith
      go (Some m) = mul-le-mul_left k (one_copy k r t i m.signers.mask)

  -- there is no topic of a fifth seat
  silent : (r t i : ℕ) → 4 ≤ t → i < k → spent r i t ≡ 0
  silent r t i far hi = go (says P k tr r t i) refl
    where
      go : (o : Option Message) → says P k tr r t i ≡ o → cost_of P k tr r t i o ≡ 0
      go None e = refl
      go (Some m) e = absurd (off (said_place k tr r t i m e))
        where
          off : Place k r t i m.signers.mask → ⊥
          off (inl x) = omega (arith, x.own)
          off (inr x) = omega (arith, x.seat)

  by_one : (r i : ℕ) → i < k → sum (spent r i) base_topics ≤ 4 * (k * suc r)
  unfolding sum
  by_one r i hi =
      omega (
        arith,
        one_message r 0 i,
        one_message r 1 i,
        one_message r 2 i,
        one_message r 3 i,
        silent r 4 i (omega arith) hi,
        silent r 5 i (omega arith) hi,
        silent r 6 i (omega arith) hi,
        silent r 7 i (omega arith) hi,
      )

  honest_part : (b : Bool) (x c : ℕ) → x ≤ c → cond b 0 x ≤ c
  honest_part b x c h = grind (arith, nat_tests)

  by_all : (r : ℕ) → spent_in P k tr r ≤ k * (4 * (k * suc r))
  by_all r =
      sum_bound (λ i. cond (tr.corrupt r i) 0 (sum (spent r i) base_topics)) (4 * (k * suc r)) k
      (λ i h. honest_part (tr.corrupt r i) (sum (spent r i) base_topics) (4 * (k * suc r)) (by_one r i h))

  in_two_rounds : sum (spent_in P k tr) 2 ≤ 12 * (k * k)
  unfolding sum
  in_two_rounds = omega (arith, by_all 0, by_all 1)

four : (k : ℕ) → 2 ≤ k → 4 ≤ k * k
four k h = omega (arith, mul-le-mul_left 2 h, mul-le-mul_right k h)

pub stays_within_bound : StaysWithinBound relays
unfolding signatures sum
stays_within_bound zero tr seats play = absurd (omega (arith, seats.0))
stays_within_bound (suc zero) tr seats play = omega arith
stays_within_bound (suc (suc n)) tr seats play = omega (arith, four (suc (suc n)) (omega arith), in_two_rounds (suc (suc n)) seats.1 tr)
