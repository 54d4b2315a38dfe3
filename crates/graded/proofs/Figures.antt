-- The steps are those of Figure 2, whatever arrives.
use Rattle.std.proofs.Common.{◌≡◌, ℕ, ◌^◌, ◌<◌, ◌≤◌, true, ◌⊎◌, List, length, is_some, Some, None, Option, unwrap_or, sym, refl, ap, ◌∙◌, inl, inr, arith}
use Rattle.std.proofs.lemmas.List.{get_or_past}
use Rattle.std.proofs.lemmas.Bool.{cases_lt, cases_order, lt-ltb}
use Rattle.message.specs.declared.Message.{Message}
use Rattle.message.specs.Members.{member, Holds, quorum}
use Rattle.message.specs.Tally.{before, slot_day, names, entry, tally, reaching, LowestReaching}
use Rattle.message.proofs.Masks.{same_set, none_above, gathered_below, member_gathered}
use Rattle.protocol.specs.Inboxes.{under, days}
use Rattle.protocol.proofs.Reading.{few_entries}
use Rattle.graded.specs.Steps.{word, who_named, certificate, unless_disputed, says_at}
use Rattle.graded.specs.Figure.{SignedAlone, Certified, FollowsFigure2}
use Rattle.message.proofs.Tallying.{reaching_means, reaching_has, reaching_only}
use Rattle.graded.proofs.Reading.{signed_is, is_signed, certificate_day}
use Rattle.graded.proofs.Grades.{undisputed_is, is_undisputed, some_is}

-- a certificate is shown exactly of what a quorum named, by those who named it
who_holds : (named : List (Option ℕ)) (v : ℕ) → Holds (who_named named v) (λ i. names v (entry named i))
who_holds named v i = side (cases_lt i (length named))
  where
    side : (i < length named) ⊎ (length named ≤ i) → member i (who_named named v) ≡ names v (entry named i)
    side (inl h) = member_gathered (λ j. names v (entry named j)) (length named) i h
    side (inr h) =
        none_above (who_named named v) (length named) i (gathered_below (λ j. names v (entry named j)) (length named)) h
        ∙ sym (ap (names v) (get_or_past named i None h))

module _ (k : ℕ) (named : List (Option ℕ)) (few : length named ≤ k) where
  shown : (m : Message) → certificate k named ≡ Some m → Certified k named m
  unfolding certificate
  shown m e =
      let is = signed_is (who_named named) (reaching (quorum k) named) m e in
      record {
        by_quorum = reaching_has (quorum k) named m.day is.0;
        by_all = λ i. ap (member i) is.1 ∙ who_holds named m.day i;
      }

  shows : (m : Message) → Certified k named m → certificate k named ≡ Some m
  unfolding certificate
  shows m c =
      is_signed (who_named named) (reaching (quorum k) named) m (reaching_only named k few m.day c.by_quorum) (same_set m.signers.mask (who_named named m.day) (λ i. c.by_all i ∙ sym (who_holds named m.day i)))

-- a vote is for what the seat showed a certificate of, where no other was shown
module _ (k own : ℕ) (named others : List (Option ℕ)) (few : length named ≤ k) where
  abbrev Votes : Message → Type 0
  Votes m = (quorum k ≤ tally named m.day) × ((j u : ℕ) → entry others j ≡ Some u → u ≡ m.day) × SignedAlone own m

  voted : (m : Message) → word own (unless_disputed others (slot_day (certificate k named))) ≡ Some m → Votes m
  voted m e =
      let is = signed_is (λ _. 2 ^ own) (unless_disputed others (slot_day (certificate k named))) m e in
      let fine = undisputed_is others (slot_day (certificate k named)) m.day is.0 in
      (reaching_has (quorum k) named m.day (sym (certificate_day k named) ∙ fine.0), fine.1, is.1)

  votes_for : (m : Message) → Votes m → word own (unless_disputed others (slot_day (certificate k named))) ≡ Some m
  votes_for m v =
      is_signed (λ _. 2 ^ own) (unless_disputed others (slot_day (certificate k named))) m
      (is_undisputed others (slot_day (certificate k named)) m.day (certificate_day k named ∙ reaching_only named k few m.day v.0) v.1)
      v.2

-- a second vote is for what a quorum voted for
module _ (k own : ℕ) (named : List (Option ℕ)) (few : length named ≤ k) where
  seconded : (m : Message) → word own (slot_day (certificate k named)) ≡ Some m → (quorum k ≤ tally named m.day) × SignedAlone own m
  seconded m e =
      let is = signed_is (λ _. 2 ^ own) (slot_day (certificate k named)) m e in
      (reaching_has (quorum k) named m.day (sym (certificate_day k named) ∙ is.0), is.1)

  seconds : (m : Message) → (quorum k ≤ tally named m.day) × SignedAlone own m → word own (slot_day (certificate k named)) ≡ Some m
  seconds m v =
      is_signed (λ _. 2 ^ own) (slot_day (certificate k named)) m (certificate_day k named ∙ reaching_only named k few m.day v.0) v.1

  sure : is_some (reaching (quorum k) named) ≡ true → (v : ℕ) × (quorum k ≤ tally named v)
  sure e = let it = some_is (reaching (quorum k) named) e in (it.0, reaching_has (quorum k) named it.0 it.1)

  unsure : (v : ℕ) × (quorum k ≤ tally named v) → is_some (reaching (quorum k) named) ≡ true
  unsure v = ap is_some (reaching_only named k few v.0 v.1)

-- the lowest day that is named at all
lowest_named : (named : List (Option ℕ)) (v : ℕ) → 1 ≤ tally named v → ((u : ℕ) → before u v ≡ true → tally named u ≡ 0) → reaching 1 named ≡ Some v
lowest_named named v some low = go (reaching 1 named) refl (reaching_means 1 named)
  where
    go : (o : Option ℕ) → reaching 1 named ≡ o → LowestReaching 1 named o → reaching 1 named ≡ Some v
    go None is none = absurd (omega (arith, none v (omega arith)))
    go (Some u) is lowest = is ∙ ap Some (order (cases_order u v))
      where
        order : (u ≡ v) ⊎ ((u < v) ⊎ (v < u)) → u ≡ v
        order (inl same) = same
        order (inr (inl less)) = absurd (omega (arith, lowest.1, low u (lt-ltb u v less)))
        order (inr (inr more)) = absurd (omega (arith, lowest.2 v (lt-ltb v u more)))

none_named : (named : List (Option ℕ)) → ((u : ℕ) → tally named u ≡ 0) → reaching 1 named ≡ None
none_named named none = go (reaching 1 named) refl (reaching_means 1 named)
  where
    go : (o : Option ℕ) → reaching 1 named ≡ o → LowestReaching 1 named o → reaching 1 named ≡ None
    go None is _ = is
    go (Some u) is lowest = absurd (omega (arith, lowest.1, none u))

echoed : (own input : ℕ) (m : Message) → word own (Some input) ≡ Some m → (m.day ≡ input) × SignedAlone own m
echoed own input m e = let is = signed_is (λ _. 2 ^ own) (Some input) m e in let same = is.0 in (cc, is.1)

pub follows : FollowsFigure2
follows k own input first second third fourth = record {
  round_1 = λ m. (echoed own input m, λ v. is_signed (λ _. 2 ^ own) (Some input) m (ap Some (sym v.0)) v.1);
  round_2 = λ m. (shown k echoes (few_entries k 0 first) m, shows k echoes (few_entries k 0 first) m);
  round_3 = λ m. (voted k own echoes certificates (few_entries k 0 first) m, votes_for k own echoes certificates (few_entries k 0 first) m);
  round_4 = λ m. (shown k votes (few_entries k 0 third) m, shows k votes (few_entries k 0 third) m);
  again = λ m. (seconded k own votes (few_entries k 0 third) m, seconds k own votes (few_entries k 0 third) m);
  silence = λ s r t none. ap (says_at s) none;
  takes = λ v some low. ap (λ o. unwrap_or o input) (lowest_named (days (under k 0 fourth)) v some low);
  keeps = λ none. ap (λ o. unwrap_or o input) (none_named (days (under k 0 fourth)) none);
  grade = (sure k own (days (under k 1 fourth)) (few_entries k 1 fourth), unsure k own (days (under k 1 fourth)) (few_entries k 1 fourth));
}
  where
    echoes : List (Option ℕ)
    echoes = days (under k 0 first)

    certificates : List (Option ℕ)
    certificates = days (under k 0 second)

    votes : List (Option ℕ)
    votes = days (under k 0 third)
