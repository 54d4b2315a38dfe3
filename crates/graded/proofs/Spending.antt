-- The four rounds cost at most 5k² signatures: one copy of a message has at most one.
use Rattle.std.proofs.Common.{◌≡◌, ℕ, suc, ◌*◌, ◌^◌, ◌≤◌, Bool, true, false, cond, ◌&&◌, eqb, ltb, leb, Some, None, Option, sym, refl, ap, ◌∙◌, mul-le-mul_left, arith}
use Rattle.std.proofs.lemmas.Bool.{cond_both, eqb-true}
use Rattle.message.specs.declared.Message.{Message}
use Rattle.message.specs.Count.{sum}
use Rattle.message.specs.Members.{member, size, quorum}
use Rattle.message.proofs.Counting.{count_one, sum_bound}
use Rattle.message.proofs.Masks.{member_only}
use Rattle.protocol.specs.declared.Form.TheVariants.{Listed, Certificate}
use Rattle.protocol.specs.Play.{Trace, says}
use Rattle.protocol.specs.Cost.{on_one_copy, cost_of, spent_in, signatures}
use Rattle.graded.specs.declared.table.Role.{Role}
use Rattle.graded.specs.declared.table.Role.TheVariants.{Echo, EchoCertificate, Vote, VoteCertificate, SecondVote}
use Rattle.graded.specs.Roles.{role_at, form_at, word_form, certificate_form}
use Rattle.graded.specs.Facts.{CostsAtMost}
use Rattle.graded.proofs.Hearing.{P}

-- at most one signature is on one copy
word_copy : (k i signers : ℕ) → on_one_copy k (word_form i signers) signers ≤ 1
word_copy k i signers =
    cond_both (eqb signers (2 ^ i)) (Some Listed) None (λ f. on_one_copy k f signers ≤ 1)
    (λ e. count_one (λ s. member s signers) i k (λ s has. member_only s i (sym (ap (member s) (eqb-true signers (2 ^ i) e)) ∙ has)))
    (λ _. omega arith)

certificate_copy : (k signers : ℕ) → on_one_copy k (certificate_form k signers) signers ≤ 1
certificate_copy k signers =
    cond_both (ltb signers (2 ^ k) && leb (quorum k) (size k signers)) (Some Certificate) None (λ f. on_one_copy k f signers ≤ 1)
    (λ _. omega arith)
    (λ _. omega arith)

one_copy : (o : Option Role) (k i signers : ℕ) → on_one_copy k (form_at o k i signers) signers ≤ 1
one_copy None k i signers = omega arith
one_copy (Some Echo) k i signers = word_copy k i signers
one_copy (Some EchoCertificate) k i signers = certificate_copy k signers
one_copy (Some Vote) k i signers = word_copy k i signers
one_copy (Some VoteCertificate) k i signers = certificate_copy k signers
one_copy (Some SecondVote) k i signers = word_copy k i signers

module _ (k : ℕ) (tr : Trace) where
  one_message : (r t i : ℕ) (o : Option Message) → cost_of P k tr r t i o ≤ k
  one_message r t i None = omega arith
  one_message r t i (Some m) = omega (arith, mul-le-mul_left k (one_copy (role_at (suc r) t) k i m.signers.mask))

  -- what seat i spends in round suc r
  abbrev by_one : ℕ → ℕ → ℕ
  by_one r i = sum (λ t. cost_of P k tr r t i (says P k tr r t i)) 2

  -- under topic 1 nothing is said before round 4
  single : (r i : ℕ) → cost_of P k tr r 1 i (says P k tr r 1 i) ≡ 0 → by_one r i ≤ k
  unfolding sum
  single r i none = omega (arith, one_message r 0 i (says P k tr r 0 i))

  twice : (r i : ℕ) → by_one r i ≤ 2 * k
  unfolding sum
  twice r i = omega (arith, one_message r 0 i (says P k tr r 0 i), one_message r 1 i (says P k tr r 1 i))

  honest_part : (b : Bool) (x c : ℕ) → x ≤ c → cond b 0 x ≤ c
  honest_part true x c h = omega arith
  honest_part false x c h = h

  by_all : (r c : ℕ) → ((i : ℕ) → by_one r i ≤ c) → spent_in P k tr r ≤ k * c
  by_all r c h = sum_bound (λ i. cond (tr.corrupt r i) 0 (by_one r i)) c k (λ i _. honest_part (tr.corrupt r i) (by_one r i) c (h i))

  cheap : signatures P k tr ≤ 5 * (k * k)
  unfolding signatures sum
  cheap =
      omega (
        arith,
        by_all 0 k (λ i. single 0 i refl),
        by_all 1 k (λ i. single 1 i refl),
        by_all 2 k (λ i. single 2 i refl),
        by_all 3 (2 * k) (twice 3),
      )

pub costs_at_most : CostsAtMost
costs_at_most k tr _ = cheap k tr
