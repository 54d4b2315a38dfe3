-- Honest seats keep discipline in the four rounds: what they say is their own word, or a certificate of words that reached them.
use Rattle.std.proofs.Common.{◌≡◌, ℕ, zero, suc, ◌^◌, ◌<◌, ◌≤◌, true, ◌⊎◌, List, length, Some, None, Option, sym, refl, ap, ◌∙◌, subst, inl, inr, arith}
use Rattle.std.proofs.lemmas.Nat.{pow_below}
use Rattle.message.specs.declared.Message.{Message}
use Rattle.message.specs.Members.{member, size, quorum, gathered}
use Rattle.message.specs.Tally.{slot_day, names, entry, reaching}
use Rattle.message.proofs.Masks.{member_own, member_below, gathered_below, member_gathered, size_gathered}
use Rattle.protocol.specs.declared.Form.{Form}
use Rattle.protocol.specs.declared.Form.TheVariants.{Listed, Certificate}
use Rattle.protocol.specs.Protocol.{WellFormed}
use Rattle.protocol.specs.Play.{Trace, state, says, hears, form_of, Sends, Possible, Play}
use Rattle.protocol.specs.Inboxes.{under, days}
use Rattle.protocol.specs.Discipline.{Reached}
use Rattle.protocol.proofs.Reading.{entry_of, few_entries, all_entries, slot_names}
use Rattle.protocol.proofs.Arriving.{arrives}
use Rattle.graded.specs.declared.table.Role.{Role}
use Rattle.graded.specs.declared.table.Role.TheVariants.{Echo, EchoCertificate, Vote, VoteCertificate, SecondVote}
use Rattle.graded.specs.Roles.{role_at, form_at, form, kind, word_form, certificate_form}
use Rattle.graded.specs.Steps.{who_named, certificate, unless_disputed}
use Rattle.message.proofs.Tallying.{names_is, reaching_has, tally_upto}
use Rattle.graded.proofs.Reading.{signed_is, word_formed, formed_word, certificate_formed, formed_certificate}
use Rattle.graded.proofs.Hearing.{P}

-- what has a form is signed by seats, and a certificate by a quorum of them
pub well_formed : (k : ℕ) → WellFormed P k
well_formed k = record {
  by_seats = λ r t i signers f hi e. seats (role_at r t) i signers f hi e;
  by_quorum = λ r t i signers hi e. enough (role_at r t) i signers e;
}
  where
    of_word : (i signers : ℕ) (f : Form) → i < k → word_form i signers ≡ Some f → signers < 2 ^ k
    of_word i signers f hi e = rw (formed_word i signers f e).0 (pow_below i k hi)

    seats : (o : Option Role) (i signers : ℕ) (f : Form) → i < k → form_at o k i signers ≡ Some f → signers < 2 ^ k
    seats None i signers f hi e = cc
    seats (Some Echo) i signers f hi e = of_word i signers f hi e
    seats (Some EchoCertificate) i signers f hi e = (formed_certificate k signers f e).0
    seats (Some Vote) i signers f hi e = of_word i signers f hi e
    seats (Some VoteCertificate) i signers f hi e = (formed_certificate k signers f e).0
    seats (Some SecondVote) i signers f hi e = of_word i signers f hi e

    no_word : (i signers : ℕ) → word_form i signers ≡ Some Certificate → ⊥
    no_word i signers e = let is = (formed_word i signers Certificate e).1 in cc

    enough : (o : Option Role) (i signers : ℕ) → form_at o k i signers ≡ Some Certificate → quorum k ≤ size k signers
    enough None i signers e = cc
    enough (Some Echo) i signers e = absurd (no_word i signers e)
    enough (Some EchoCertificate) i signers e = (formed_certificate k signers Certificate e).1
    enough (Some Vote) i signers e = absurd (no_word i signers e)
    enough (Some VoteCertificate) i signers e = (formed_certificate k signers Certificate e).1
    enough (Some SecondVote) i signers e = absurd (no_word i signers e)

-- What a seat says is one of these two. A word stands where words stand, under its own signature.
pub record Word (r t i : ℕ) (m : Message) : Type 0 where
  pub a_word : (k signers : ℕ) → form k (suc r) t i signers ≡ word_form i signers
  pub alone : m.signers.mask ≡ 2 ^ i

-- A certificate stands where certificates stand, and puts together words of the same kind from an earlier round.
pub record Bundle (k : ℕ) (tr : Trace) (r t i : ℕ) (m : Message) : Type 0 where
  pub a_certificate : (signers : ℕ) → form k (suc r) t i signers ≡ certificate_form k signers
  pub before : ℕ
  pub in_time : before < r
  pub of_words : (s signers : ℕ) → form k (suc before) 0 s signers ≡ word_form s signers
  pub of_kind : kind (suc before) 0 ≡ kind (suc r) t
  pub made : certificate k (days (under k 0 (tr.inbox (suc before) i))) ≡ Some m

module _ (k : ℕ) (tr : Trace) where
  spoken : (r t i : ℕ) (m : Message) → says P k tr r t i ≡ Some m → Word r t i m ⊎ Bundle k tr r t i m
  unfolding state
  spoken zero zero i m e = inl (record { a_word = λ _ _. refl; alone = (signed_is (λ _. 2 ^ i) (Some (tr.input i)) m e).1 })
  spoken zero (suc t) i m e = cc
  spoken (suc zero) zero i m e =
      inr (record { a_certificate = λ _. refl; before = 0; in_time = omega arith; of_words = λ _ _. refl; of_kind = refl; made = e })
  spoken (suc zero) (suc t) i m e = cc
  spoken (suc (suc zero)) zero i m e =
      inl (record {
        a_word = λ _ _. refl;
        alone = (signed_is (λ _. 2 ^ i) (unless_disputed (days (under k 0 (tr.inbox 2 i))) (slot_day (certificate k (days (under k 0 (tr.inbox 1 i)))))) m e).1;
      })
  spoken (suc (suc zero)) (suc t) i m e = cc
  spoken (suc (suc (suc zero))) zero i m e =
      inr (record { a_certificate = λ _. refl; before = 2; in_time = omega arith; of_words = λ _ _. refl; of_kind = refl; made = e })
  spoken (suc (suc (suc zero))) (suc zero) i m e =
      inl (record { a_word = λ _ _. refl; alone = (signed_is (λ _. 2 ^ i) (slot_day (certificate k (days (under k 0 (tr.inbox 3 i))))) m e).1 })
  spoken (suc (suc (suc zero))) (suc (suc t)) i m e = cc
  spoken (suc (suc (suc (suc r)))) t i m e = cc

  word_is_listed : (r t i : ℕ) (m : Message) → Word r t i m → form_of P k tr r t i m ≡ Some Listed
  word_is_listed r t i m w = w.a_word k m.signers.mask ∙ ap (word_form i) w.alone ∙ word_formed i

  -- who signs a certificate: those who named its day
  bundle_signers : (r t i : ℕ) (m : Message) (b : Bundle k tr r t i m)
      → (reaching (quorum k) (days (under k 0 (tr.inbox (suc b.before) i))) ≡ Some m.day)
      × (m.signers.mask ≡ who_named (days (under k 0 (tr.inbox (suc b.before) i))) m.day)
  unfolding certificate
  bundle_signers r t i m b =
      signed_is (who_named (days (under k 0 (tr.inbox (suc b.before) i)))) (reaching (quorum k) (days (under k 0 (tr.inbox (suc b.before) i)))) m b.made

  module _ (play : Play P k tr) where
    -- a certificate that a seat makes has its form, since its inbox has its slots
    bundle_is_certificate : (r t i : ℕ) (m : Message) → r < 4 → i < k → Bundle k tr r t i m → form_of P k tr r t i m ≡ Some Certificate
    bundle_is_certificate r t i m hr hi b =
        b.a_certificate m.signers.mask ∙ ap (certificate_form k) signers.1 ∙ certificate_formed k (who_named named m.day) below enough
      where
        named : List (Option ℕ)
        named = days (under k 0 (tr.inbox (suc b.before) i))

        signers : (reaching (quorum k) named ≡ Some m.day) × (m.signers.mask ≡ who_named named m.day)
        signers = bundle_signers r t i m b

        whole : length named ≡ k
        whole = all_entries 2 k 0 (tr.inbox (suc b.before) i) (play.whole b.before i (omega (arith, b.in_time)) hi) (omega arith)

        below : who_named named m.day < 2 ^ k
        below = subst (λ n. who_named named m.day < 2 ^ n) whole (gathered_below (λ j. names m.day (entry named j)) (length named))

        enough : quorum k ≤ size k (who_named named m.day)
        enough =
            omega (
              arith,
              ap (λ n. size k (gathered (λ j. names m.day (entry named j)) n)) whole,
              size_gathered (λ j. names m.day (entry named j)) k,
              reaching_has (quorum k) named m.day signers.0,
              tally_upto named k m.day (omega (arith, whole)),
            )

    pub formed : (r t i : ℕ) (m : Message) → Sends P k tr r t i m → (f : Form) × (form_of P k tr r t i m ≡ Some f)
    formed r t i m s = go (spoken r t i m s.says_it)
      where
        go : Word r t i m ⊎ Bundle k tr r t i m → (f : Form) × (form_of P k tr r t i m ≡ Some f)
        go (inl w) = (Listed, word_is_listed r t i m w)
        go (inr b) = (Certificate, bundle_is_certificate r t i m s.a_round s.a_seat b)

    pub listed_is_word : (r t i : ℕ) (m : Message) → Sends P k tr r t i m → form_of P k tr r t i m ≡ Some Listed → Word r t i m
    listed_is_word r t i m s is = go (spoken r t i m s.says_it)
      where
        go : Word r t i m ⊎ Bundle k tr r t i m → Word r t i m
        go (inl w) = w
        go (inr b) = let f = bundle_is_certificate r t i m s.a_round s.a_seat b in cc

    pub certificate_is_bundle : (r t i : ℕ) (m : Message) → Sends P k tr r t i m → form_of P k tr r t i m ≡ Some Certificate → Bundle k tr r t i m
    certificate_is_bundle r t i m s is = go (spoken r t i m s.says_it)
      where
        go : Word r t i m ⊎ Bundle k tr r t i m → Bundle k tr r t i m
        go (inl w) = let f = word_is_listed r t i m w in cc
        go (inr b) = b

    -- what arrives where words stand is signed by its sender
    heard_word : (r s i : ℕ) (m : Message) → r < 4 → s < k → i < k → ((j signers : ℕ) → form k (suc r) 0 j signers ≡ word_form j signers)
        → hears P k tr r 0 s i ≡ Some m → m.signers.mask ≡ 2 ^ s
    heard_word r s i m hr hs hi words e = go (arrives P k tr play r 0 s i m hr (omega arith) hs hi e)
      where
        listed : (f : Form) → form_of P k tr r 0 s m ≡ Some f → m.signers.mask ≡ 2 ^ s
        listed f is = (formed_word s m.signers.mask f (sym (words s m.signers.mask) ∙ is)).0

        go : Sends P k tr r 0 s m ⊎ Possible P k tr r 0 s m → m.signers.mask ≡ 2 ^ s
        go (inl sends) = let it = formed r 0 s m sends in listed it.0 it.1
        go (inr can) = listed can.the_form can.formed

    -- each signature behind a certificate had reached the seat that shows it
    pub reached : (r t i : ℕ) (m : Message) → Sends P k tr r t i m → Bundle k tr r t i m
        → (s : ℕ) → member s m.signers.mask ≡ true → Reached P k tr r (kind (suc r) t) m.day s i
    reached r t i m sends b s e = record {
      before = b.before;
      topic = 0;
      sender = s;
      message = read.0;
      in_time = b.in_time;
      a_topic = omega arith;
      a_seat = below;
      heard = read.1;
      of_kind = b.of_kind;
      on_day = read.2;
      signed = ap (member s) (heard_word b.before s i read.0 early below sends.a_seat b.of_words read.1) ∙ member_own s;
    }
      where
        early : b.before < 4
        early = omega (arith, b.in_time, sends.a_round)

        named : List (Option ℕ)
        named = days (under k 0 (tr.inbox (suc b.before) i))

        there : member s (who_named named m.day) ≡ true
        there = ap (member s) (sym (bundle_signers r t i m b).1) ∙ e

        inside : s < length named
        inside = member_below (who_named named m.day) (length named) s (gathered_below (λ j. names m.day (entry named j)) (length named)) there

        below : s < k
        below = omega (arith, inside, few_entries k 0 (tr.inbox (suc b.before) i))

        names_it : entry named s ≡ Some m.day
        names_it =
            names_is m.day (entry named s)
            (sym (member_gathered (λ j. names m.day (entry named j)) (length named) s inside) ∙ there)

        read : (x : Message) × (hears P k tr b.before 0 s i ≡ Some x) × (x.day ≡ m.day)
        read = slot_names (hears P k tr b.before 0 s i) m.day (sym (entry_of k 0 (tr.inbox (suc b.before) i) s below) ∙ names_it)
