-- Where messages stand, and who signs them there.
use Rattle.std.specs.Prelude.{◌≡◌, ℕ, zero, suc, ◌+◌, ◌^◌, ◌<◌, ◌≤◌, true, not, ◌&&◌, ◌||◌, ◌≢◌, ◌⊎◌, Some, None, Option, ◌==◌, nat_lt, refl}
use Rattle.std.proofs.Common.{sym, ◌∙◌, ap, inl, inr, arith}
use Rattle.std.proofs.lemmas.Nat.{pow_below}
use Rattle.std.proofs.lemmas.Option.{cond_some}
use Rattle.std.proofs.lemmas.Bool.{cases_eq, eqb-true, eqb-false, ltb-true, and_parts, not-true}
use Rattle.std.proofs.lemmas.Bool.Decides.{nat_tests}
use Rattle.message.specs.declared.Message.{Message}
use Rattle.message.specs.declared.Signers.{Signers}
use Rattle.message.specs.Members.{member, Holds}
use Rattle.message.proofs.Masks.{same_set, member_alone, member_own, member_two, member_left, member_right, two_below}
use Rattle.protocol.specs.declared.Form.{Form}
use Rattle.protocol.specs.declared.Form.TheVariants.{Listed, Certificate}
use Rattle.protocol.specs.Agreement.{Sized}
use Rattle.base.specs.Relaying.{rounds, alone, both, due, listed_if, form, signed, relays}

-- two seats together, one put to the other
pub two_together : (i j : ℕ) (one two : Signers) → i ≢ j → one.mask ≡ 2 ^ i → Holds two.mask (λ s. (s == j) || member s one.mask) → two ≡ both i j
two_together i j one two off is holds =
    ap (λ x. record { mask = x })
    (same_set two.mask (2 ^ i + 2 ^ j) (λ s. holds s ∙ ap (λ set. (s == j) || member s set) is ∙ go s (cases_eq s j) (cases_eq s i)))
  where
    go : (s : ℕ) → (s ≡ j) ⊎ (s ≢ j) → (s ≡ i) ⊎ (s ≢ i) → (s == j || member s (2 ^ i)) ≡ member s (2 ^ i + 2 ^ j)
    go s (inl e) _ = grind (arith, nat_tests, member_right i j off)
    go s (inr off_j) (inl e) = grind (arith, nat_tests, member_own i, member_left i j off)
    go s (inr off_j) (inr off_i) = grind (arith, nat_tests, member_alone s i, member_two i j s off)

-- ---- the two places where a message may stand, in round suc r under topic t, from seat i

pub record First (r t i mask : ℕ) : Type 0 where
  pub round : r ≡ 0
  pub own : t ≡ i
  pub signers : mask ≡ 2 ^ i

pub record Second (k r t i mask : ℕ) : Type 0 where
  pub round : r ≡ 1
  pub seat : t < k
  pub other : t ≢ i
  pub signers : mask ≡ 2 ^ t + 2 ^ i

abbrev pub Place : ℕ → ℕ → ℕ → ℕ → ℕ → Type 0
Place k r t i mask = First r t i mask ⊎ Second k r t i mask

-- signers are due in these places only
pub due_place : (k r t i : ℕ) (who : Signers) → due k (suc r) t i ≡ Some who → Place k r t i who.mask
due_place k zero t i who e =
    let it = cond_some (t == i) (alone i) who e in
    inl (record { round = refl; own = eqb-true t i it.0; signers = ap (λ x. x.mask) (sym it.1) })
due_place k (suc zero) t i who e =
    let it = cond_some (nat_lt t k && not (t == i)) (both t i) who e in
    let tests = and_parts (nat_lt t k) (not (t == i)) it.0 in
    inr (record { round = refl; seat = ltb-true t k tests.0; other = eqb-false t i (not-true (t == i) tests.1); signers = ap (λ x. x.mask) (sym it.1) })
due_place k (suc (suc r)) t i who e = absurd (cc)

-- and they are
pub due_first : (k t : ℕ) → due k 1 t t ≡ Some (alone t)
due_first k t = grind (arith, nat_tests)

pub due_second : (k t i : ℕ) → t < k → t ≢ i → due k 2 t i ≡ Some (both t i)
due_second k t i h off = grind (arith, nat_tests)

-- in either place the sender signs, and the seat that the topic is about
pub sender_signs : (k r t i mask : ℕ) → Place k r t i mask → member i mask ≡ true
sender_signs k r t i mask (inl x) = ap (member i) x.signers ∙ member_own i
sender_signs k r t i mask (inr x) = ap (member i) x.signers ∙ member_right t i x.other

pub topic_signs : (k r t i mask : ℕ) → Place k r t i mask → member t mask ≡ true
topic_signs k r t i mask (inl x) = ap (member t) x.signers ∙ ap (λ j. member t (2 ^ j)) (sym x.own) ∙ member_own t
topic_signs k r t i mask (inr x) = ap (member t) x.signers ∙ member_left t i x.other

-- ---- forms

-- what has the signers that are due is listed
pub due_listed : (k r t i : ℕ) (who : Signers) → due k r t i ≡ Some who → form k r t i who.mask ≡ Some Listed
due_listed k r t i who e = grind (arith, nat_tests, e)

-- nothing else has a form
listed_due : (o : Option Signers) (mask : ℕ) (f : Form) → listed_if o mask ≡ Some f → (who : Signers) × (o ≡ Some who) × (who.mask ≡ mask) × (f ≡ Listed)
listed_due None mask f e = absurd (cc)
listed_due (Some who) mask f e =
    let it = cond_some (who.mask == mask) Listed f e in
    (who, refl, eqb-true who.mask mask it.0, sym it.1)

pub formed_place : (k r t i mask : ℕ) (f : Form) → form k (suc r) t i mask ≡ Some f → Place k r t i mask
formed_place k r t i mask f e =
    let it = listed_due (due k (suc r) t i) mask f e in
    rw (sym it.2) (due_place k r t i it.0 it.1)

pub no_certificate : (k r t i mask : ℕ) → form k r t i mask ≢ Some Certificate
no_certificate k r t i mask e =
    let is = (listed_due (due k r t i) mask Certificate e).3 in
    cc

-- what is signed is a day, with the signers that are due
pub signed_is : (d : Option Signers) (o : Option ℕ) (m : Message) → signed d o ≡ Some m → (d ≡ Some m.signers) × (o ≡ Some m.day)
signed_is None o m e = absurd (cc)
signed_is (Some who) None m e = absurd (cc)
signed_is (Some who) (Some v) m e = (cc, cc)

-- ---- so the agreement is small

by_seats : (k r t i mask : ℕ) → i < k → Place k r t i mask → mask < 2 ^ k
by_seats k r t i mask hi (inl x) = rw x.signers (pow_below i k hi)
by_seats k r t i mask hi (inr x) = rw x.signers (two_below t i k x.other x.seat hi)

formed_by_seats : (k r t i mask : ℕ) (f : Form) → i < k → form k r t i mask ≡ Some f → mask < 2 ^ k
formed_by_seats k zero t i mask f hi e = absurd (cc)
formed_by_seats k (suc r) t i mask f hi e = by_seats k r t i mask hi (formed_place k r t i mask f e)

short : (k : ℕ) → rounds k ≤ 16
short zero = omega arith
short (suc zero) = omega arith
short (suc (suc k)) = omega arith

pub sized : Sized relays
sized = record {
  some = omega arith;
  few = omega arith;
  short = λ k _. short k;
  forms = λ k _. record { by_seats = formed_by_seats k; by_quorum = λ r t i mask _ e. absurd (no_certificate k r t i mask e) };
}
