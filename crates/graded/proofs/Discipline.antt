-- The discipline of honest seats in the four rounds, put together.
use Rattle.std.proofs.Common.{◌≡◌, ℕ, zero, suc, Some, sym, refl, ap, ◌∙◌}
use Rattle.message.specs.declared.Message.{Message}
use Rattle.message.specs.Members.{member}
use Rattle.message.proofs.Masks.{member_own, member_only}
use Rattle.protocol.specs.declared.Form.TheVariants.{Listed}
use Rattle.protocol.specs.Play.{Trace, says, form_of, Sends, Play}
use Rattle.protocol.specs.Discipline.{Disciplined}
use Rattle.graded.specs.Roles.{form, kind}
use Rattle.graded.specs.Facts.{KeepsDiscipline}
use Rattle.graded.proofs.Reading.{certificate_no_word}
use Rattle.graded.proofs.Hearing.{P}
use Rattle.graded.proofs.Speech.{formed, listed_is_word, certificate_is_bundle, reached}
use Rattle.graded.proofs.Ranges.{sends_day, leaves}

-- there is one round, and one topic, for the words of each kind
word_round : ℕ → ℕ
word_round zero = 0
word_round (suc zero) = 2
word_round (suc (suc n)) = 3

word_topic : ℕ → ℕ
word_topic zero = 0
word_topic (suc zero) = 0
word_topic (suc (suc n)) = 1

-- where words stand, by what they are about
place : (k r t i signers : ℕ) → form k (suc r) t i signers ≡ Some Listed → (r ≡ word_round (kind (suc r) t)) × (t ≡ word_topic (kind (suc r) t))
unfolding word_round word_topic
place k zero zero i signers e = (refl, refl)
place k zero (suc t) i signers e = cc
place k (suc zero) zero i signers e = absurd (certificate_no_word k signers e)
place k (suc zero) (suc t) i signers e = cc
place k (suc (suc zero)) zero i signers e = (refl, refl)
place k (suc (suc zero)) (suc t) i signers e = cc
place k (suc (suc (suc zero))) zero i signers e = absurd (certificate_no_word k signers e)
place k (suc (suc (suc zero))) (suc zero) i signers e = (refl, refl)
place k (suc (suc (suc zero))) (suc (suc t)) i signers e = cc
place k (suc (suc (suc (suc r)))) t i signers e = cc

pub disciplined : (k : ℕ) → Disciplined P k
disciplined k = record {
  a_day = λ tr play r t i m s. sends_day k tr play r t i m s;
  formed = λ tr play r t i m s. formed k tr play r t i m s;
  own = λ tr play r t i m s is. ap (member i) (listed_is_word k tr play r t i m s is).alone ∙ member_own i;
  others = λ tr play r t i m s is o has off.
      absurd (off (member_only o i (sym (ap (member o) (listed_is_word k tr play r t i m s is).alone) ∙ has)));
  behind = λ tr play r t i m s is o has. reached k tr play r t i m s (certificate_is_bundle k tr play r t i m s is) o has;
  one_day = one;
}
  where
    one : (tr : Trace) → Play P k tr → (i r t r' t' : ℕ) (m m' : Message)
        → Sends P k tr r t i m → form_of P k tr r t i m ≡ Some Listed
        → Sends P k tr r' t' i m' → form_of P k tr r' t' i m' ≡ Some Listed
        → kind (suc r) t ≡ kind (suc r') t' → m.day ≡ m'.day
    one tr play i r t r' t' m m' s is s' is' same =
        let p = place k r t i m.signers.mask is in
        let p' = place k r' t' i m'.signers.mask is' in
        let er : r ≡ r' = p.0 ∙ ap word_round same ∙ sym p'.0 in
        let et : t ≡ t' = p.1 ∙ ap word_topic same ∙ sym p'.1 in
        let all : Some m ≡ Some m' = sym s.says_it ∙ ap (λ x. says P k tr x t i) er ∙ ap (λ x. says P k tr r' x i) et ∙ s'.says_it in
        cc

pub keeps_discipline : KeepsDiscipline
keeps_discipline = record { says = disciplined; leaves = leaves }
