-- With fewer than half of the seats corrupt, all honest seats end with the same entries; so they answer one day.
use Rattle.std.specs.Prelude.{◌≡◌, ℕ, zero, suc, ◌+◌, ◌-◌, ◌*◌, ◌<◌, ◌≤◌, true, false, cond, not, ◌≢◌, ◌⊎◌, map, Some, None, Option, nat_lt, refl}
use Rattle.std.proofs.Common.{sym, ◌∙◌, ap, subst, inl, inr, zero-add, arith}
use Rattle.std.proofs.Math.Path.{fun_ext}
use Rattle.std.specs.List.{range_with_len}
use Rattle.std.specs.Option.{unwrap_or}
use Rattle.std.proofs.lemmas.List.FromFn.{get_or-map-range_with_len, length-map-range_with_len}
use Rattle.std.proofs.lemmas.List.{get_or_past}
use Rattle.std.proofs.lemmas.Bool.{cases_Bool, cases_lt, both_ways, lt-ltb, not-true, cond-true}
use Rattle.std.proofs.lemmas.Bool.Decides.{nat_tests}
use Rattle.message.specs.Count.{count}
use Rattle.message.specs.Tally.{Day, names, entry, tally}
use Rattle.message.proofs.Counting.{count_append, count_both, count_meet, count_mono, count_none, count_not, count_same}
use Rattle.message.proofs.Tallying.{names_is, is_names, tally_upto, named_somewhere, counted}
use Rattle.protocol.specs.Play.{Trace, state, says, hears, Said, Play, EndsHonest, FewerThanOneIn}
use Rattle.protocol.specs.Agreement.{answer, Agrees}
use Rattle.protocol.proofs.Arriving.{was_honest}
use Rattle.base.specs.declared.relays.Seen.TheVariants.{One}
use Rattle.base.specs.declared.relays.Relay.{Relay}
use Rattle.base.specs.Relaying.{alone, both, only_day, seen_under, entry_under, entries_of, most_named, MostNamed, signed, relays}
use Rattle.base.specs.Laws.Gathering.{sees_same, same_seen}
use Rattle.base.specs.Laws.Leading.{most_named_means}
use Rattle.base.specs.Laws.Placing.{Place, due_first, due_second, formed_place, topic_signs}
use Rattle.base.specs.Laws.Relaying.{P, its_seats, its_day, says_is, says_input_or_heard, said_place, Heard, heard_by, sees, entry_heard, heard_place, Origin, origin, heard_day}

-- ---- one seat's entries

-- an entry stands at its topic's place
entry_at : (s : Relay) (t : ℕ) → t < 4 → entry (entries_of s) t ≡ entry_under s t
entry_at s t h = get_or-map-range_with_len (entry_under s) 0 4 t t None h (zero-add t)

-- past the last seat there is no entry
none_past : (s : Relay) (t : ℕ) → s.seats ≤ t → entry_under s t ≡ None
none_past s t h = grind (arith, nat_tests)

-- a seat has the one day that is seen under it for its entry
entry_seen : (s : Relay) (t v : ℕ) → t < s.seats → seen_under s t ≡ One v → entry_under s t ≡ Some v
entry_seen s t v h e = cond-true (nat_lt t s.seats) (only_day (seen_under s t)) None (lt-ltb t s.seats h) ∙ ap only_day e

-- so only the seats' entries are counted
tally_seats : (s : Relay) (v : ℕ) → s.seats ≤ 4 → tally (entries_of s) v ≡ count (λ t. names v (entry_under s t)) s.seats
tally_seats s v h =
    let at : 4 ≡ s.seats + (4 - s.seats) = omega arith in
    omega (
      arith,
      tally_upto (entries_of s) 4 v (omega (arith, length-map-range_with_len (entry_under s) 0 4)),
      count_same (λ t. names v (entry (entries_of s) t)) (λ t. names v (entry_under s t)) 4 (λ t l. ap (names v) (entry_at s t l)),
      ap (count (λ t. names v (entry_under s t))) at,
      count_append (λ t. names v (entry_under s t)) s.seats (4 - s.seats),
      count_none (λ t. names v (entry_under s (s.seats + t))) (4 - s.seats) (λ t _. ap (names v) (none_past s (s.seats + t) (omega arith))),
    )

-- where a seat's entry names a day, some day is named most
most_some : (s : Relay) (t v : ℕ) → t < 4 → entry_under s t ≡ Some v → (u : ℕ) × (most_named (entries_of s) ≡ Some u)
most_some s t v h e = go (most_named (entries_of s)) (most_named_means (entries_of s))
  where
    go : (o : Option ℕ) → MostNamed (entries_of s) o → (u : ℕ) × (o ≡ Some u)
    go None none = absurd (omega (arith, none v, counted (entries_of s) v t (entry_at s t h ∙ e)))
    go (Some u) _ = (u, refl)

-- the day that more than half of the seats' entries name
most_of_half : (s : Relay) (u v : ℕ) → s.seats ≤ 4 → most_named (entries_of s) ≡ Some u
    → s.seats < 2 * count (λ t. names v (entry_under s t)) s.seats → u ≡ v
most_of_half s u v few e h =
    let means : MostNamed (entries_of s) (Some u) = subst (MostNamed (entries_of s)) e (most_named_means (entries_of s)) in
    let both = count_meet (λ t. names u (entry_under s t)) (λ t. names v (entry_under s t)) s.seats
    (omega (arith, means.1 v, tally_seats s u few, tally_seats s v few)) in
    let a = names_is u (entry_under s both.0) both.2 in
    let b = names_is v (entry_under s both.0) both.3 in
    cc

-- ---- a play of several seats

module _ (n : ℕ) (tr : Trace) (few : suc (suc n) ≤ 4) (play : Play P (suc (suc n)) tr) where
  abbrev k : ℕ
  k = suc (suc n)

  honest_at : (r i : ℕ) → r ≤ 2 → i < k → tr.corrupt 2 i ≡ false → tr.corrupt r i ≡ false
  honest_at zero i hr hi e = was_honest P k tr play 0 i (omega arith) hi (was_honest P k tr play 1 i (omega arith) hi e)
  honest_at (suc zero) i hr hi e = was_honest P k tr play 1 i (omega arith) hi e
  honest_at (suc (suc zero)) i hr hi e = e
  honest_at (suc (suc (suc r))) i hr hi e = absurd (omega arith)

  -- what a seat has itself said under its own topic is its input
  said_own : (r t v : ℕ) → Said P k tr r t v t → v ≡ tr.input t
  said_own r t v it = go (said_place k tr it.before t t it.message says_so) (says_input_or_heard k tr few it.before t t it.message says_so)
    where
      says_so : says P k tr it.before t t ≡ Some it.message
      says_so = ap (λ x. says P k tr it.before x t) (sym it.of_kind) ∙ it.sends.says_it

      go : Place k it.before t t it.message.signers.mask
          → ((it.before ≡ 0) × (it.message.day ≡ tr.input t)) ⊎ Heard k tr it.before t t it.message.day → v ≡ tr.input t
      go (inr x) _ = absurd (x.other refl)
      go (inl x) (inl first) = sym it.on_day ∙ first.1
      go (inl x) (inr heard) = absurd (omega (arith, x.round, heard.in_time))

  -- of a seat that is honest to the end, only its input is heard
  heard_own : (t i v : ℕ) → t < k → i < k → tr.corrupt 2 t ≡ false → Heard k tr 2 t i v → v ≡ tr.input t
  heard_own t i v ht hi good it = go (origin k tr few play 2 t i v (omega arith) ht hi it)
    where
      go : Origin k tr few play t v → v ≡ tr.input t
      go (inl its) = its.1
      go (inr by) =
          unforged
          (by.possible.unforged t ht
          (topic_signs k by.round t by.sender by.message.signers.mask
          (formed_place k by.round t by.sender by.message.signers.mask by.possible.the_form by.possible.formed)))
        where
          unforged : (tr.corrupt (suc by.round) t ≡ true) ⊎ Said P k tr (suc by.round) t by.message.day t → v ≡ tr.input t
          unforged (inl bad) =
              absurd (both_ways (tr.corrupt (suc by.round) t) (honest_at (suc by.round) t by.a_round ht good) bad)
          unforged (inr said) = sym by.on_day ∙ said_own (suc by.round) t by.message.day said

  -- and it is heard
  hears_own : (t i : ℕ) → t < k → i < k → tr.corrupt 2 t ≡ false → Heard k tr 2 t i (tr.input t)
  hears_own t i ht hi good = record {
    round = 0;
    sender = t;
    message = record { day = (state P k tr 0 t).day; signers = alone t };
    in_time = omega arith;
    a_seat = ht;
    arrived = play.from_honest 0 t t i (omega arith) (omega arith) ht hi (honest_at 1 t (omega arith) ht good)
        ∙ says_is k tr 0 t t ∙ ap (λ d. signed d (Some (state P k tr 0 t).day)) (due_first k t);
    on_day = its_day k tr 0 t;
  }

  seen_of_honest : (t i : ℕ) → t < k → i < k → tr.corrupt 2 t ≡ false → seen_under (state P k tr 2 i) t ≡ One (tr.input t)
  seen_of_honest t i ht hi good =
      same_seen (Heard k tr 2 t i) (seen_under (state P k tr 2 i) t) (One (tr.input t)) (sees k tr few 2 t i ht)
      (hears_own t i ht hi good, λ v it. heard_own t i v ht hi good it)

  -- in round 1 a seat hears at most one day of each
  once : (t i u v : ℕ) → t < k → i < k → Heard k tr 1 t i u → Heard k tr 1 t i v → u ≡ v
  once t i u v ht hi a b =
      go (heard_place k tr few play a.round t a.sender i a.message (omega (arith, a.in_time)) ht a.a_seat hi a.arrived)
      (heard_place k tr few play b.round t b.sender i b.message (omega (arith, b.in_time)) ht b.a_seat hi b.arrived)
    where
      go : Place k a.round t a.sender a.message.signers.mask → Place k b.round t b.sender b.message.signers.mask → u ≡ v
      go (inr x) _ = absurd (omega (arith, x.round, a.in_time))
      go (inl x) (inr y) = absurd (omega (arith, y.round, b.in_time))
      go (inl x) (inl y) =
          let same : Some a.message ≡ Some b.message =
          sym a.arrived ∙ ap (λ r. hears P k tr r t a.sender i) (x.round ∙ sym y.round)
          ∙ ap (λ j. hears P k tr b.round t j i) (sym x.own ∙ y.own) ∙ b.arrived in
          let da = a.on_day in
          let db = b.on_day in
          cc

  -- so an honest seat passes on to all what it heard of another in round 1
  passes_on : (t i j v : ℕ) → t < k → i < k → j < k → t ≢ i → tr.corrupt 2 i ≡ false → Heard k tr 1 t i v → Heard k tr 2 t j v
  passes_on t i j v ht hi hj off good it = record {
    round = 1;
    sender = i;
    message = record { day = v; signers = both t i };
    in_time = omega arith;
    a_seat = hi;
    arrived = play.from_honest 1 t i j (omega arith) (omega arith) hi hj good
        ∙ says_is k tr 1 t i ∙ ap (λ d. signed d (entry_under (state P k tr 1 i) t)) (due_second k t i ht off) ∙ ap (signed (Some (both t i))) holds;
    on_day = refl;
  }
    where
      seen : seen_under (state P k tr 1 i) t ≡ One v
      seen =
          same_seen (Heard k tr 1 t i) (seen_under (state P k tr 1 i) t) (One v) (sees k tr few 1 t i ht)
          (it, λ u other. once t i u v ht hi other it)

      holds : entry_under (state P k tr 1 i) t ≡ Some v
      holds = entry_seen (state P k tr 1 i) t v (omega (arith, its_seats k tr 1 i)) seen

  module _ (minority : 2 * count (tr.corrupt 2) k < k) where
    -- at most one seat is corrupt
    other_honest : (s t : ℕ) → s < k → t < k → s ≢ t → tr.corrupt 2 t ≡ true → tr.corrupt 2 s ≡ false
    other_honest s t hs ht off bad = go (cases_Bool (tr.corrupt 2 s))
      where
        go : (tr.corrupt 2 s ≡ true) ⊎ (tr.corrupt 2 s ≡ false) → tr.corrupt 2 s ≡ false
        go (inl worse) = absurd (omega (arith, minority, count_both (tr.corrupt 2) k s t hs ht off worse bad))
        go (inr good) = good

    -- of that one, what an honest seat has heard by the end all have heard
    spreads : (t i j v : ℕ) → t < k → i < k → j < k → tr.corrupt 2 t ≡ true → tr.corrupt 2 i ≡ false → Heard k tr 2 t i v → Heard k tr 2 t j v
    spreads t i j v ht hi hj bad good it =
        go (heard_place k tr few play it.round t it.sender i it.message it.in_time ht it.a_seat hi it.arrived)
      where
        apart : t ≢ i
        apart at = both_ways (tr.corrupt 2 t) (ap (tr.corrupt 2) at ∙ good) bad

        go : Place k it.round t it.sender it.message.signers.mask → Heard k tr 2 t j v
        go (inl x) =
            passes_on t i j v ht hi hj apart good
            (heard_by k tr 2 1 t i v it (omega (arith, x.round)))
        go (inr x) = record {
          round = 1;
          sender = it.sender;
          message = it.message;
          in_time = omega arith;
          a_seat = it.a_seat;
          arrived = play.from_honest 1 t it.sender j (omega arith) (omega arith) it.a_seat hj fine
              ∙ sym (play.from_honest 1 t it.sender i (omega arith) (omega arith) it.a_seat hi fine)
              ∙ ap (λ r. hears P k tr r t it.sender i) (sym x.round) ∙ it.arrived;
          on_day = it.on_day;
        }
          where
            fine : tr.corrupt 2 it.sender ≡ false
            fine = other_honest it.sender t it.a_seat ht (λ at. x.other (sym at)) bad

    -- so all honest seats have seen the same under each topic
    all_see : (t i j : ℕ) → t < k → i < k → j < k → tr.corrupt 2 i ≡ false → tr.corrupt 2 j ≡ false
        → seen_under (state P k tr 2 i) t ≡ seen_under (state P k tr 2 j) t
    all_see t i j ht hi hj gi gj = go (cases_Bool (tr.corrupt 2 t))
      where
        go : (tr.corrupt 2 t ≡ true) ⊎ (tr.corrupt 2 t ≡ false) → seen_under (state P k tr 2 i) t ≡ seen_under (state P k tr 2 j) t
        go (inl bad) =
            same_seen (Heard k tr 2 t j) (seen_under (state P k tr 2 i) t) (seen_under (state P k tr 2 j) t)
            (sees_same (Heard k tr 2 t i) (Heard k tr 2 t j) (seen_under (state P k tr 2 i) t) (λ v. spreads t i j v ht hi hj bad gi)
            (λ v. spreads t j i v ht hj hi bad gj) (sees k tr few 2 t i ht))
            (sees k tr few 2 t j ht)
        go (inr good) = seen_of_honest t i ht hi good ∙ sym (seen_of_honest t j ht hj good)

    same_entries : (i j : ℕ) → i < k → j < k → tr.corrupt 2 i ≡ false → tr.corrupt 2 j ≡ false
        → entries_of (state P k tr 2 i) ≡ entries_of (state P k tr 2 j)
    same_entries i j hi hj gi gj = ap (λ f. map f (range_with_len 0 4)) (fun_ext (λ t. go t (cases_lt t k)))
      where
        go : (t : ℕ) → (t < k) ⊎ (k ≤ t) → entry_under (state P k tr 2 i) t ≡ entry_under (state P k tr 2 j) t
        go t (inl ht) =
            ap (λ m. cond (nat_lt t m) (only_day (seen_under (state P k tr 2 i) t)) None) (its_seats k tr 2 i ∙ sym (its_seats k tr 2 j))
            ∙ ap (λ s. cond (nat_lt t (state P k tr 2 j).seats) (only_day s) None) (all_see t i j ht hi hj gi gj)
        go t (inr out) =
            none_past (state P k tr 2 i) t (omega (arith, its_seats k tr 2 i))
            ∙ sym (none_past (state P k tr 2 j) t (omega (arith, its_seats k tr 2 j)))

  -- the entry of an honest seat is its input
  entry_of_honest : (t i : ℕ) → t < k → i < k → tr.corrupt 2 t ≡ false → entry_under (state P k tr 2 i) t ≡ Some (tr.input t)
  entry_of_honest t i ht hi good =
      entry_seen (state P k tr 2 i) t (tr.input t) (omega (arith, its_seats k tr 2 i)) (seen_of_honest t i ht hi good)

  -- so an honest seat answers a day of its entries, since its own is one
  chosen : (i : ℕ) → i < k → tr.corrupt 2 i ≡ false → (u : ℕ) × (most_named (entries_of (state P k tr 2 i)) ≡ Some u)
  chosen i hi good = most_some (state P k tr 2 i) i (tr.input i) (omega arith) (entry_of_honest i i hi hi good)

  answers : (i u : ℕ) → most_named (entries_of (state P k tr 2 i)) ≡ Some u → answer relays k tr i ≡ u
  answers i u e = ap (λ o. unwrap_or o (state P k tr 2 i).day) e

  several_answer_days : (i : ℕ) → i < k → tr.corrupt 2 i ≡ false → Day (answer relays k tr i)
  several_answer_days i hi good =
      let u = chosen i hi good in
      let means = subst (MostNamed (entries_of (state P k tr 2 i))) u.1 (most_named_means (entries_of (state P k tr 2 i))) in
      let at = named_somewhere (entries_of (state P k tr 2 i)) u.0 means.0 in
      subst Day (sym (answers i u.0 u.1)) (go u.0 at.0 at.1 (cases_lt at.0 4))
    where
      go : (v t : ℕ) → entry (entries_of (state P k tr 2 i)) t ≡ Some v → (t < 4) ⊎ (4 ≤ t) → Day v
      go v t e (inl h) =
          let it = entry_heard k tr few 2 t i v (sym (entry_at (state P k tr 2 i) t h) ∙ e) in
          heard_day k tr few play 2 t i v (omega arith) it.0 hi it.1
      go v t e (inr h) =
          let none = get_or_past (entries_of (state P k tr 2 i)) t None (omega (arith, length-map-range_with_len (entry_under (state P k tr 2 i)) 0 4)) in
          absurd (cc)

  module _ (minority : 2 * count (tr.corrupt 2) k < k) where
    one_answer : (i j : ℕ) → i < k → j < k → tr.corrupt 2 i ≡ false → tr.corrupt 2 j ≡ false → answer relays k tr i ≡ answer relays k tr j
    one_answer i j hi hj gi gj =
        let u = chosen i hi gi in
        answers i u.0 u.1 ∙ sym (answers j u.0 (ap most_named (same_entries minority j i hj hi gj gi) ∙ u.1))

    -- a common input has more than half of the entries
    common_answer : (v : ℕ) → ((i : ℕ) → i < k → tr.corrupt 2 i ≡ false → tr.input i ≡ v)
        → (i : ℕ) → i < k → tr.corrupt 2 i ≡ false → answer relays k tr i ≡ v
    common_answer v same i hi good =
        let u = chosen i hi good in
        let s = state P k tr 2 i in
        let seats = its_seats k tr 2 i in
        let named : count (λ t. not (tr.corrupt 2 t)) k ≤ count (λ t. names v (entry_under s t)) k =
        count_mono (λ t. not (tr.corrupt 2 t)) (λ t. names v (entry_under s t)) k
        (λ t ht e.
        let fine = not-true (tr.corrupt 2 t) e in
        is_names v (entry_under s t) (entry_of_honest t i ht hi fine ∙ ap Some (same t ht fine))) in
        answers i u.0 u.1
        ∙ most_of_half s u.0 v (omega (arith, seats)) u.1
        (omega (arith, minority, named, seats, count_not (tr.corrupt 2) k, ap (count (λ t. names v (entry_under s t))) seats))

-- ---- one seat has its input

alone_answers : (tr : Trace) (i : ℕ) → answer relays 1 tr i ≡ tr.input i
unfolding state
alone_answers tr i = refl

pub agrees : Agrees relays
agrees = record { a_day = a_day; one = one; common = common }
  where
    a_day : (k : ℕ) (tr : Trace) → (1 ≤ k) × (k ≤ 4) → Play P k tr → (i : ℕ) → i < k → EndsHonest P k tr i → Day (answer relays k tr i)
    a_day zero tr seats play i hi good = absurd (omega arith)
    a_day (suc zero) tr seats play i hi good = subst Day (sym (alone_answers tr i)) (play.days i hi good)
    a_day (suc (suc n)) tr seats play i hi good = several_answer_days n tr seats.1 play i hi good

    one : (k : ℕ) (tr : Trace) → (1 ≤ k) × (k ≤ 4) → Play P k tr → FewerThanOneIn P k tr 2
        → (i j : ℕ) → i < k → j < k → EndsHonest P k tr i → EndsHonest P k tr j → answer relays k tr i ≡ answer relays k tr j
    one zero tr seats play minority i j hi hj gi gj = absurd (omega arith)
    one (suc zero) tr seats play minority i j hi hj gi gj = ap (answer relays 1 tr) (omega arith)
    one (suc (suc n)) tr seats play minority i j hi hj gi gj = one_answer n tr seats.1 play minority i j hi hj gi gj

    common : (k : ℕ) (tr : Trace) → (1 ≤ k) × (k ≤ 4) → Play P k tr → FewerThanOneIn P k tr 2
        → (v : ℕ) → ((i : ℕ) → i < k → EndsHonest P k tr i → tr.input i ≡ v)
        → (i : ℕ) → i < k → EndsHonest P k tr i → answer relays k tr i ≡ v
    common zero tr seats play minority v same i hi good = absurd (omega arith)
    common (suc zero) tr seats play minority v same i hi good = alone_answers tr i ∙ same i hi good
    common (suc (suc n)) tr seats play minority v same i hi good = common_answer n tr seats.1 play minority v same i hi good
