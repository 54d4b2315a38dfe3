-- In a play of the four rounds, seats hear from one another what the argument for grades asks for; so they are graded.
use Rattle.std.proofs.Common.{◌≡◌, ℕ, zero, suc, ◌*◌, ◌^◌, ◌<◌, ◌≤◌, Bool, true, false, ◌⊎◌, List, Some, Option, sym, refl, ap, ◌∙◌, inl, inr, arith}
use Rattle.std.proofs.lemmas.Bool.{cases_Bool, both_ways}
use Rattle.message.specs.declared.Message.{Message}
use Rattle.message.specs.Count.{count}
use Rattle.message.specs.Members.{member, quorum}
use Rattle.message.specs.Tally.{slot_day, entry, reaching}
use Rattle.protocol.specs.declared.Form.TheVariants.{Listed}
use Rattle.protocol.specs.Protocol.{Protocol}
use Rattle.protocol.specs.Play.{Trace, state, says, hears, form_of, Said, Play}
use Rattle.protocol.specs.Inboxes.{under, days}
use Rattle.protocol.specs.Grading.{Graded}
use Rattle.protocol.proofs.Reading.{entry_of, all_entries, slot_names}
use Rattle.protocol.proofs.Arriving.{was_honest}
use Rattle.graded.specs.declared.seats.Seat.{Seat}
use Rattle.graded.specs.Roles.{kind, form, certificate_form}
use Rattle.graded.specs.Steps.{word, certificate, unless_disputed, four_rounds}
use Rattle.graded.proofs.Reading.{signed_day, signed_is, certificate_day, formed_certificate, certificate_no_word}
use Rattle.graded.proofs.Grades.{Hearing, voted, outside, one_of_them, consistent, valid}

abbrev pub P : Protocol Seat
P = four_rounds.protocol

module _ (k : ℕ) (tr : Trace) where
  -- the days that arrive at seat i
  abbrev pub echoes : ℕ → List (Option ℕ)
  echoes i = days (under k 0 (tr.inbox 1 i))

  abbrev pub shown : ℕ → List (Option ℕ)
  shown i = days (under k 0 (tr.inbox 2 i))

  abbrev pub votes : ℕ → List (Option ℕ)
  votes i = days (under k 0 (tr.inbox 3 i))

  abbrev pub proofs : ℕ → List (Option ℕ)
  proofs i = days (under k 0 (tr.inbox 4 i))

  abbrev pub again : ℕ → List (Option ℕ)
  again i = days (under k 1 (tr.inbox 4 i))

  -- the seats that are corrupt at the end
  abbrev F : ℕ → Bool
  F = tr.corrupt 4

  abbrev vote : ℕ → Option ℕ
  vote = voted k F tr.input echoes shown votes proofs again

  -- what a seat says in each round
  pub says_1 : (j : ℕ) → says P k tr 0 0 j ≡ word j (Some (tr.input j))
  unfolding state
  says_1 j = refl

  pub says_2 : (j : ℕ) → says P k tr 1 0 j ≡ certificate k (echoes j)
  unfolding state
  says_2 j = refl

  pub says_3 : (j : ℕ) → says P k tr 2 0 j ≡ word j (unless_disputed (shown j) (slot_day (certificate k (echoes j))))
  unfolding state
  says_3 j = refl

  pub says_4 : (j : ℕ) → says P k tr 3 0 j ≡ certificate k (votes j)
  unfolding state
  says_4 j = refl

  pub says_5 : (j : ℕ) → says P k tr 3 1 j ≡ word j (slot_day (certificate k (votes j)))
  unfolding state
  says_5 j = refl

  -- the days in that
  echo_said : (j : ℕ) → slot_day (says P k tr 0 0 j) ≡ Some (tr.input j)
  echo_said j = ap slot_day (says_1 j)

  shown_said : (j : ℕ) → slot_day (says P k tr 1 0 j) ≡ reaching (quorum k) (echoes j)
  shown_said j = ap slot_day (says_2 j) ∙ certificate_day k (echoes j)

  vote_said : (j : ℕ) → slot_day (says P k tr 2 0 j) ≡ vote j
  vote_said j =
      ap slot_day (says_3 j) ∙ signed_day (λ _. 2 ^ j) (unless_disputed (shown j) (slot_day (certificate k (echoes j))))
      ∙ ap (unless_disputed (shown j)) (certificate_day k (echoes j))

  proof_said : (j : ℕ) → slot_day (says P k tr 3 0 j) ≡ reaching (quorum k) (votes j)
  proof_said j = ap slot_day (says_4 j) ∙ certificate_day k (votes j)

  again_said : (j : ℕ) → slot_day (says P k tr 3 1 j) ≡ reaching (quorum k) (votes j)
  again_said j = ap slot_day (says_5 j) ∙ signed_day (λ _. 2 ^ j) (slot_day (certificate k (votes j))) ∙ certificate_day k (votes j)

  -- a seat that has said a sentence has meant it
  said_echo : (v s : ℕ) → Said P k tr 2 0 v s → tr.input s ≡ v
  said_echo v s it = go it.before it.topic it.message it.by_then it.sends.says_it it.listed it.of_kind it.on_day
    where
      go : (before topic : ℕ) (m : Message) → before < 2 → says P k tr before topic s ≡ Some m → form_of P k tr before topic s m ≡ Some Listed
          → kind (suc before) topic ≡ 0 → m.day ≡ v → tr.input s ≡ v
      go zero zero m h was listed about on = let mine = (signed_is (λ _. 2 ^ s) (Some (tr.input s)) m (sym (says_1 s) ∙ was)).0 in cc
      go zero (suc t) m h was listed about on = cc
      go (suc zero) zero m h was listed about on = absurd (certificate_no_word k m.signers.mask listed)
      go (suc zero) (suc t) m h was listed about on = cc
      go (suc (suc b)) t m h was listed about on = absurd (omega arith)

  said_vote : (v s : ℕ) → Said P k tr 4 1 v s → vote s ≡ Some v
  said_vote v s it = go it.before it.topic it.message it.by_then it.sends.says_it it.listed it.of_kind it.on_day
    where
      go : (before topic : ℕ) (m : Message) → before < 4 → says P k tr before topic s ≡ Some m → form_of P k tr before topic s m ≡ Some Listed
          → kind (suc before) topic ≡ 1 → m.day ≡ v → vote s ≡ Some v
      go zero zero m h was listed about on = absurd (omega arith)
      go zero (suc t) m h was listed about on = absurd (omega arith)
      go (suc zero) zero m h was listed about on = absurd (omega arith)
      go (suc zero) (suc t) m h was listed about on = absurd (omega arith)
      go (suc (suc zero)) zero m h was listed about on = sym (vote_said s) ∙ ap slot_day was ∙ ap Some on
      go (suc (suc zero)) (suc t) m h was listed about on = absurd (omega arith)
      go (suc (suc (suc zero))) zero m h was listed about on = absurd (certificate_no_word k m.signers.mask listed)
      go (suc (suc (suc zero))) (suc zero) m h was listed about on = absurd (omega arith)
      go (suc (suc (suc zero))) (suc (suc t)) m h was listed about on = absurd (omega arith)
      go (suc (suc (suc (suc b)))) t m h was listed about on = absurd (omega arith)

  module _ (play : Play P k tr) where
    honest_3 : (i : ℕ) → i < k → F i ≡ false → tr.corrupt 3 i ≡ false
    honest_3 i hi e = was_honest P k tr play 3 i (omega arith) hi e

    honest_2 : (i : ℕ) → i < k → F i ≡ false → tr.corrupt 2 i ≡ false
    honest_2 i hi e = was_honest P k tr play 2 i (omega arith) hi (honest_3 i hi e)

    honest_1 : (i : ℕ) → i < k → F i ≡ false → tr.corrupt 1 i ≡ false
    honest_1 i hi e = was_honest P k tr play 1 i (omega arith) hi (honest_2 i hi e)

    -- what seat i reads from a seat j that is honest when the round closes
    reads : (r t i j : ℕ) → r < 4 → t < 2 → i < k → j < k → tr.corrupt (suc r) j ≡ false
        → entry (days (under k t (tr.inbox (suc r) i))) j ≡ slot_day (says P k tr r t j)
    reads r t i j hr ht hi hj e = entry_of k t (tr.inbox (suc r) i) j hj ∙ ap slot_day (play.from_honest r t j i hr ht hj hi e)

    module _ (few : 2 * count F k < k) where
      echo_of : (i j : ℕ) → i < k → j < k → F j ≡ false → entry (echoes i) j ≡ Some (tr.input j)
      echo_of i j hi hj e = reads 0 0 i j (omega arith) (omega arith) hi hj (honest_1 j hj e) ∙ echo_said j

      vote_of : (i j : ℕ) → i < k → j < k → F j ≡ false → entry (votes i) j ≡ vote j
      vote_of i j hi hj e = reads 2 0 i j (omega arith) (omega arith) hi hj (honest_3 j hj e) ∙ vote_said j

      -- Behind what is read as a certificate, of a corrupt seat too, stands an honest seat that said so.
      forged_by_none : (r i j v about : ℕ) → suc r ≤ 4 → i < k → j < k → tr.corrupt (suc r) j ≡ true
          → ((signers : ℕ) → form k (suc r) 0 j signers ≡ certificate_form k signers) → kind (suc r) 0 ≡ about
          → entry (days (under k 0 (tr.inbox (suc r) i))) j ≡ Some v
          → (s : ℕ) × (s < k) × (F s ≡ false) × ((tr.corrupt (suc r) s ≡ true) ⊎ Said P k tr (suc r) about v s)
      forged_by_none r i j v about hr hi hj bad certificates is_about e =
          let read = slot_names (hears P k tr r 0 j i) v (sym (entry_of k 0 (tr.inbox (suc r) i) j hj) ∙ e) in
          let can = play.from_corrupt r 0 j i hr (omega arith) hj hi bad read.0 read.1 in
          let signed = formed_certificate k read.0.signers.mask can.the_form (sym (certificates read.0.signers.mask) ∙ can.formed) in
          let one = outside k F few (λ s. member s read.0.signers.mask) signed.1 in
          (one.0, one.1, one.3, turned one.0 read.0.day read.2 (can.unforged one.0 one.1 one.2))
        where
          turned : (s day : ℕ) → day ≡ v → (tr.corrupt (suc r) s ≡ true) ⊎ Said P k tr (suc r) (kind (suc r) 0) day s
              → (tr.corrupt (suc r) s ≡ true) ⊎ Said P k tr (suc r) about v s
          turned s day on (inl bad) = inl bad
          turned s day on (inr it) = inr (rw (sym on, sym is_about) it)

      behind_echoes : (i j v : ℕ) → i < k → j < k → entry (shown i) j ≡ Some v → (s : ℕ) × (s < k) × (F s ≡ false) × (tr.input s ≡ v)
      behind_echoes i j v hi hj e = go (cases_Bool (tr.corrupt 2 j))
        where
          go : (tr.corrupt 2 j ≡ true) ⊎ (tr.corrupt 2 j ≡ false) → (s : ℕ) × (s < k) × (F s ≡ false) × (tr.input s ≡ v)
          go (inr good) =
              let its = sym (reads 1 0 i j (omega arith) (omega arith) hi hj good ∙ shown_said j) ∙ e in
              let one = one_of_them k F few (echoes j) (all_entries 2 k 0 (tr.inbox 1 j) (play.whole 0 j (omega arith) hj) (omega arith)) v its in
              let meant = echo_of j one.0 hj one.1 one.3 in
              let same = one.2 in
              (one.0, one.1, one.3, cc)
          go (inl bad) =
              let one = forged_by_none 1 i j v 0 (omega arith) hi hj bad (λ _. refl) refl e in
              (one.0, one.1, one.2, from one.0 one.1 one.2 one.3)
            where
              from : (s : ℕ) → s < k → F s ≡ false → (tr.corrupt 2 s ≡ true) ⊎ Said P k tr 2 0 v s → tr.input s ≡ v
              from s hs good (inl bad) = absurd (both_ways (tr.corrupt 2 s) (honest_2 s hs good) bad)
              from s hs good (inr it) = said_echo v s it

      behind_votes : (i j v : ℕ) → i < k → j < k → entry (proofs i) j ≡ Some v → (s : ℕ) × (s < k) × (F s ≡ false) × (vote s ≡ Some v)
      behind_votes i j v hi hj e = go (cases_Bool (tr.corrupt 4 j))
        where
          go : (tr.corrupt 4 j ≡ true) ⊎ (tr.corrupt 4 j ≡ false) → (s : ℕ) × (s < k) × (F s ≡ false) × (vote s ≡ Some v)
          go (inr good) =
              let its = sym (reads 3 0 i j (omega arith) (omega arith) hi hj good ∙ proof_said j) ∙ e in
              let one = one_of_them k F few (votes j) (all_entries 2 k 0 (tr.inbox 3 j) (play.whole 2 j (omega arith) hj) (omega arith)) v its in
              (one.0, one.1, one.3, sym (vote_of j one.0 hj one.1 one.3) ∙ one.2)
          go (inl bad) =
              let one = forged_by_none 3 i j v 1 (omega arith) hi hj bad (λ _. refl) refl e in
              (one.0, one.1, one.2, from one.0 one.2 one.3)
            where
              from : (s : ℕ) → F s ≡ false → (tr.corrupt 4 s ≡ true) ⊎ Said P k tr 4 1 v s → vote s ≡ Some v
              from s good (inl bad) = absurd (both_ways (tr.corrupt 4 s) good bad)
              from s good (inr it) = said_vote v s it

      hearing : Hearing k F tr.input echoes shown votes proofs again
      hearing = record {
        echoes_whole = λ i hi. all_entries 2 k 0 (tr.inbox 1 i) (play.whole 0 i (omega arith) hi) (omega arith);
        shown_whole = λ i hi. all_entries 2 k 0 (tr.inbox 2 i) (play.whole 1 i (omega arith) hi) (omega arith);
        votes_whole = λ i hi. all_entries 2 k 0 (tr.inbox 3 i) (play.whole 2 i (omega arith) hi) (omega arith);
        proofs_whole = λ i hi. all_entries 2 k 0 (tr.inbox 4 i) (play.whole 3 i (omega arith) hi) (omega arith);
        again_whole = λ i hi. all_entries 2 k 1 (tr.inbox 4 i) (play.whole 3 i (omega arith) hi) (omega arith);
        echo_of = echo_of;
        shown_of = λ i j hi hj e. reads 1 0 i j (omega arith) (omega arith) hi hj (honest_2 j hj e) ∙ shown_said j;
        vote_of = vote_of;
        proof_of = λ i j hi hj e. reads 3 0 i j (omega arith) (omega arith) hi hj e ∙ proof_said j;
        again_of = λ i j hi hj e. reads 3 1 i j (omega arith) (omega arith) hi hj e ∙ again_said j;
        behind_echoes = behind_echoes;
        behind_votes = behind_votes;
      }

pub graded : Graded 2 four_rounds
unfolding state
graded = record {
  consistent = λ k tr play few i j hi hj _ _ sure.
      consistent k (tr.corrupt 4) few tr.input (echoes k tr) (shown k tr) (votes k tr) (proofs k tr) (again k tr) (hearing k tr play few) i j hi hj sure;
  valid = λ k tr play few v common i hi good.
      valid k (tr.corrupt 4) few tr.input (echoes k tr) (shown k tr) (votes k tr) (proofs k tr) (again k tr) (hearing k tr play few) v common i hi good;
}
