-- What words and certificates say, and what form they have.
use Rattle.std.proofs.Common.{◌≡◌, ℕ, ◌^◌, ◌<◌, ◌≤◌, ◌&&◌, eqb, ltb, leb, ◌⊎◌, List, length, Some, None, Option, sym, refl, ap, ◌∙◌, subst, inl, inr}
use Rattle.std.proofs.lemmas.List.{get_or_past, length-map}
use Rattle.std.proofs.lemmas.Option.{cond_some}
use Rattle.std.proofs.lemmas.Bool.{cases_lt, eq-eqb, eqb-true, leb-true, le-leb, ltb-true, lt-ltb, and_parts, and_from, cond-true}
use Rattle.message.specs.declared.Message.{Message}
use Rattle.message.specs.Members.{size, quorum, gathered}
use Rattle.message.specs.Tally.{slot_day, names, entry, reaching}
use Rattle.protocol.specs.declared.Form.{Form}
use Rattle.protocol.specs.declared.Form.TheVariants.{Listed, Certificate}
use Rattle.protocol.specs.Protocol.{Inbox}
use Rattle.protocol.specs.Inboxes.{days}
use Rattle.graded.specs.Roles.{word_form, certificate_form}
use Rattle.graded.specs.Steps.{signed_by, who_named, certificate}

-- where a day is named there is an entry
pub entry_within : (named : List (Option ℕ)) (j u : ℕ) → entry named j ≡ Some u → j < length named
entry_within named j u e = go (cases_lt j (length named))
  where
    go : (j < length named) ⊎ (length named ≤ j) → j < length named
    go (inl h) = h
    go (inr h) = let none = get_or_past named j None h in cc

-- who signs for a day says that day
pub signed_day : (who : ℕ → ℕ) (o : Option ℕ) → slot_day (signed_by who o) ≡ o
signed_day who None = refl
signed_day who (Some v) = refl

pub signed_is : (who : ℕ → ℕ) (o : Option ℕ) (m : Message) → signed_by who o ≡ Some m → (o ≡ Some m.day) × (m.signers.mask ≡ who m.day)
signed_is who None m e = cc
signed_is who (Some v) m e =
    let is : m ≡ record { day = v; signers = record { mask = who v } } = cc in
    subst (λ x. (Some v ≡ Some x.day) × (x.signers.mask ≡ who x.day)) (sym is) (refl, refl)

pub is_signed : (who : ℕ → ℕ) (o : Option ℕ) (m : Message) → o ≡ Some m.day → m.signers.mask ≡ who m.day → signed_by who o ≡ Some m
is_signed who o m e s = ap (signed_by who) e ∙ ap (λ x. Some (record { day = m.day; signers = record { mask = x } })) (sym s)

pub certificate_day : (k : ℕ) (named : List (Option ℕ)) → slot_day (certificate k named) ≡ reaching (quorum k) named
unfolding certificate
certificate_day k named = signed_day (who_named named) (reaching (quorum k) named)

-- a certificate, read off the slots that it puts together
pub certificate_of_words : (k : ℕ) (words : Inbox)
    → certificate k (days words) ≡ signed_by (λ v. gathered (λ i. names v (entry (days words) i)) (length words)) (reaching (quorum k) (days words))
unfolding certificate
certificate_of_words k words =
    ap (λ n. signed_by (λ v. gathered (λ i. names v (entry (days words) i)) n) (reaching (quorum k) (days words))) (length-map words slot_day)

-- the form of a word is its sender's signature
pub word_formed : (i : ℕ) → word_form i (2 ^ i) ≡ Some Listed
word_formed i = cond-true (eqb (2 ^ i) (2 ^ i)) (Some Listed) None (eq-eqb (2 ^ i) (2 ^ i) refl)

pub formed_word : (i signers : ℕ) (f : Form) → word_form i signers ≡ Some f → (signers ≡ 2 ^ i) × (f ≡ Listed)
formed_word i signers f e =
    let is = cond_some (eqb signers (2 ^ i)) Listed f e in
    (eqb-true signers (2 ^ i) is.0, sym is.1)

-- the form of a certificate is a quorum of seats
pub formed_certificate : (k signers : ℕ) (f : Form) → certificate_form k signers ≡ Some f
    → (signers < 2 ^ k) × (quorum k ≤ size k signers) × (f ≡ Certificate)
formed_certificate k signers f e =
    let is = cond_some (ltb signers (2 ^ k) && leb (quorum k) (size k signers)) Certificate f e in
    let parts = and_parts (ltb signers (2 ^ k)) (leb (quorum k) (size k signers)) is.0 in
    (ltb-true signers (2 ^ k) parts.0, leb-true (quorum k) (size k signers) parts.1, sym is.1)

pub certificate_no_word : (k signers : ℕ) → certificate_form k signers ≡ Some Listed → ⊥
certificate_no_word k signers e = let is = (formed_certificate k signers Listed e).2 in cc

pub certificate_formed : (k signers : ℕ) → signers < 2 ^ k → quorum k ≤ size k signers → certificate_form k signers ≡ Some Certificate
certificate_formed k signers below enough =
    cond-true (ltb signers (2 ^ k) && leb (quorum k) (size k signers)) (Some Certificate) None
    (and_from (ltb signers (2 ^ k)) (leb (quorum k) (size k signers)) (lt-ltb signers (2 ^ k) below) (le-leb (quorum k) (size k signers) enough))
