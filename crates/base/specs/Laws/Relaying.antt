-- What seats hear and pass on in a play, and so that honest seats keep discipline.
use Rattle.std.specs.Prelude.{◌≡◌, ℕ, zero, suc, ◌<◌, ◌≤◌, true, false, ◌≢◌, ◌⊎◌, List, Some, None, Option, nat_lt}
use Rattle.std.proofs.Math.Path.{refl, ap, subst}
use Rattle.std.proofs.Common.{sym, ◌∙◌, inl, inr, zero-add, arith}
use Rattle.std.proofs.lemmas.List.FromFn.{get_or-map-range_with_len}
use Rattle.std.proofs.lemmas.List.{get_or_past, get_or-replicate}
use Rattle.std.proofs.lemmas.Bool.{cases_Bool, cases_eq, cases_lt, ltb-true}
use Rattle.message.specs.declared.Message.{Message}
use Rattle.message.specs.Members.{member}
use Rattle.message.specs.Tally.{Day, slot_day}
use Rattle.message.proofs.Masks.{member_only, member_two}
use Rattle.protocol.specs.declared.Form.TheVariants.{Listed}
use Rattle.protocol.specs.Protocol.{Inbox, Protocol}
use Rattle.protocol.specs.Inboxes.{under, days}
use Rattle.protocol.specs.Play.{Trace, state, says, hears, Sends, Possible, Play}
use Rattle.protocol.specs.Discipline.{Reached}
use Rattle.protocol.specs.Agreement.{protocol_of, KeepsDiscipline}
use Rattle.protocol.proofs.Reading.{entry_of, few_entries, slot_names}
use Rattle.protocol.proofs.Arriving.{arrives}
use Rattle.base.specs.declared.relays.Seen.TheVariants.{Nothing}
use Rattle.base.specs.declared.relays.Relay.{Relay}
use Rattle.base.specs.Relaying.{due, gather, only_day, seen_under, entry_under, word, signed, hear, relays}
use Rattle.base.specs.Laws.Folding.{Named}
use Rattle.base.specs.Laws.Gathering.{Sees, sees_same, sees_all, only_seen}
use Rattle.base.specs.Laws.Placing.{Place, due_place, sender_signs, topic_signs, due_listed, formed_place, no_certificate, signed_is}

abbrev pub P : Protocol Relay
P = protocol_of relays

-- what a seat has seen under a topic, with one round more
after : (s : Relay) (r : ℕ) (x : Inbox) (t : ℕ) → t < 4 → seen_under (hear s r x) t ≡ gather (seen_under s t) (days (under s.seats t x))
after s r x t h = get_or-map-range_with_len (λ t. gather (seen_under s t) (days (under s.seats t x))) 0 4 t t Nothing h (zero-add t)

module _ (k : ℕ) (tr : Trace) where
  -- a seat knows how many they are, which one it is, and its input
  pub its_seats : (r i : ℕ) → (state P k tr r i).seats ≡ k
  unfolding state
  its_seats zero i = refl
  its_seats (suc r) i = its_seats r i

  its_own : (r i : ℕ) → (state P k tr r i).own ≡ i
  unfolding state
  its_own zero i = refl
  its_own (suc r) i = its_own r i

  pub its_day : (r i : ℕ) → (state P k tr r i).day ≡ tr.input i
  unfolding state
  its_day zero i = refl
  its_day (suc r) i = its_day r i

  -- so it says what it has to say, with the signers that are due
  pub says_is : (r t i : ℕ) → says P k tr r t i ≡ signed (due k (suc r) t i) (word (state P k tr r i) (suc r) t)
  says_is r t i =
      ap (λ n. signed (due n (suc r) t (state P k tr r i).own) (word (state P k tr r i) (suc r) t)) (its_seats r i)
      ∙ ap (λ j. signed (due k (suc r) t j) (word (state P k tr r i) (suc r) t)) (its_own r i)

  pub spoken : (r t i : ℕ) (m : Message) → says P k tr r t i ≡ Some m
      → (due k (suc r) t i ≡ Some m.signers) × (word (state P k tr r i) (suc r) t ≡ Some m.day)
  spoken r t i m e = signed_is (due k (suc r) t i) (word (state P k tr r i) (suc r) t) m (sym (says_is r t i) ∙ e)

  pub said_place : (r t i : ℕ) (m : Message) → says P k tr r t i ≡ Some m → Place k r t i m.signers.mask
  said_place r t i m e = due_place k r t i m.signers (spoken r t i m e).0

  -- In the first r rounds seat i has heard this day under topic t.
  pub record Heard (r t i v : ℕ) : Type 0 where
    pub round : ℕ
    pub sender : ℕ
    pub message : Message
    pub in_time : round < r
    pub a_seat : sender < k
    pub arrived : hears P k tr round t sender i ≡ Some message
    pub on_day : message.day ≡ v

  abbrev days_in : ℕ → ℕ → ℕ → List (Option ℕ)
  days_in r t i = days (under k t (tr.inbox (suc r) i))

  named_heard : (r t i v : ℕ) → Named (days_in r t i) v → Heard (suc r) t i v
  named_heard r t i v at = side (cases_lt at.0 k)
    where
      side : (at.0 < k) ⊎ (k ≤ at.0) → Heard (suc r) t i v
      side (inl h) =
          let read = slot_names (hears P k tr r t at.0 i) v (sym (entry_of k t (tr.inbox (suc r) i) at.0 h) ∙ at.1) in
          record { round = r; sender = at.0; message = read.0; in_time = omega arith; a_seat = h; arrived = read.1; on_day = read.2 }
      side (inr h) =
          let none = get_or_past (days_in r t i) at.0 None (omega (arith, few_entries k t (tr.inbox (suc r) i))) in
          let some = at.1 in
          absurd (cc)

  -- what has been heard has been heard in as many rounds as reach past its own
  pub heard_by : (r r' t i v : ℕ) (it : Heard r t i v) → it.round < r' → Heard r' t i v
  heard_by r r' t i v it h = record {
    round = it.round;
    sender = it.sender;
    message = it.message;
    in_time = h;
    a_seat = it.a_seat;
    arrived = it.arrived;
    on_day = it.on_day;
  }

  pub later : (r r' t i v : ℕ) → r ≤ r' → Heard r t i v → Heard r' t i v
  later r r' t i v h it = heard_by r r' t i v it (omega (arith, it.in_time))

  heard_named : (r t i v : ℕ) → Heard (suc r) t i v → Heard r t i v ⊎ Named (days_in r t i) v
  heard_named r t i v it = go (cases_eq it.round r)
    where
      go : (it.round ≡ r) ⊎ (it.round ≢ r) → Heard r t i v ⊎ Named (days_in r t i) v
      go (inl at) =
          inr (
            it.sender,
            entry_of k t (tr.inbox (suc r) i) it.sender it.a_seat
                ∙ ap slot_day (ap (λ n. hears P k tr n t it.sender i) (sym at) ∙ it.arrived) ∙ ap Some it.on_day,
          )
      go (inr off) = inl (heard_by (suc r) r t i v it (omega (arith, it.in_time)))

  module _ (few : k ≤ 4) where
    -- a seat has seen just what it has heard
    pub sees : (r t i : ℕ) → t < k → Sees (Heard r t i) (seen_under (state P k tr r i) t)
    unfolding state
    sees zero t i h = rw (get_or-replicate 4 t Nothing Nothing (omega arith)) (λ v it. omega (arith, it.in_time))
    sees (suc r) t i h =
        subst (Sees (Heard (suc r) t i))
        (sym (after (state P k tr r i) (suc r) (tr.inbox (suc r) i) t (omega arith) ∙ ap (λ n. gather (seen_under (state P k tr r i) t) (days (under n t (tr.inbox (suc r) i)))) (its_seats r i)))
        (sees_same (λ v. Heard r t i v ⊎ Named (days_in r t i) v) (Heard (suc r) t i) (gather (seen_under (state P k tr r i) t) (days_in r t i)) to
        (heard_named r t i) (sees_all (Heard r t i) (seen_under (state P k tr r i) t) (days_in r t i) (sees r t i h)))
      where
        to : (v : ℕ) → Heard r t i v ⊎ Named (days_in r t i) v → Heard (suc r) t i v
        to v (inl it) = later r (suc r) t i v (omega arith) it
        to v (inr at) = named_heard r t i v at

    -- an entry is of a seat, and has been heard
    pub entry_heard : (r t i v : ℕ) → entry_under (state P k tr r i) t ≡ Some v → (t < k) × Heard r t i v
    entry_heard r t i v e = go (cases_Bool (nat_lt t (state P k tr r i).seats))
      where
        go : (nat_lt t (state P k tr r i).seats ≡ true) ⊎ (nat_lt t (state P k tr r i).seats ≡ false) → (t < k) × Heard r t i v
        go (inl b) =
            let h : t < k = omega (arith, ltb-true t (state P k tr r i).seats b, its_seats r i) in
            (h, only_seen (Heard r t i) (seen_under (state P k tr r i) t) v (sees r t i h) (let one : only_day (seen_under (state P k tr r i) t) ≡ Some v = cc in one))
        go (inr b) = absurd (cc)

    -- in round 1 a seat says its input; later what it has heard
    pub says_input_or_heard : (r t i : ℕ) (m : Message) → says P k tr r t i ≡ Some m
        → ((r ≡ 0) × (m.day ≡ tr.input i)) ⊎ Heard r t i m.day
    says_input_or_heard zero t i m e = let it = (spoken 0 t i m e).1 in let own = its_day 0 i in inl (refl, cc)
    says_input_or_heard (suc r) t i m e = inr (entry_heard (suc r) t i m.day (spoken (suc r) t i m e).1).1

    module _ (play : Play P k tr) where
      -- what arrives stands in its place
      pub heard_place : (r t j i : ℕ) (m : Message) → r < P.rounds k → t < k → j < k → i < k → hears P k tr r t j i ≡ Some m
          → Place k r t j m.signers.mask
      heard_place r t j i m hr ht hj hi e = go (arrives P k tr play r t j i m hr (omega arith) hj hi e)
        where
          go : Sends P k tr r t j m ⊎ Possible P k tr r t j m → Place k r t j m.signers.mask
          go (inl sends) = said_place r t j m sends.says_it
          go (inr can) = formed_place k r t j m.signers.mask can.the_form can.formed

      -- A corrupt seat has brought about this day under topic t.
      pub record Brought (t v : ℕ) : Type 0 where
        pub round : ℕ
        pub sender : ℕ
        pub message : Message
        pub a_round : round < P.rounds k
        pub possible : Possible P k tr round t sender message
        pub on_day : message.day ≡ v

      -- what is heard of a seat is its input, said while it was honest, or was brought about
      abbrev pub Origin : ℕ → ℕ → Type 0
      Origin t v = ((tr.corrupt 0 t ≡ false) × (v ≡ tr.input t)) ⊎ Brought t v

      pub origin : (r t i v : ℕ) → r ≤ P.rounds k → t < k → i < k → Heard r t i v → Origin t v
      origin zero t i v hr ht hi it = absurd (omega (arith, it.in_time))
      origin (suc r) t i v hr ht hi it =
          subst (Origin t) it.on_day
          (go (λ j u hj. origin r t j u (omega arith) ht hj)
          (arrives P k tr play it.round t it.sender i it.message (omega (arith, it.in_time)) (omega arith) it.a_seat hi it.arrived))
        where
          go : ((j u : ℕ) → j < k → Heard r t j u → Origin t u)
              → Sends P k tr it.round t it.sender it.message ⊎ Possible P k tr it.round t it.sender it.message
              → Origin t it.message.day
          go before (inr can) =
              inr (record {
                round = it.round;
                sender = it.sender;
                message = it.message;
                a_round = omega (arith, it.in_time);
                possible = can;
                on_day = refl;
              })
          go before (inl sends) =
              said (said_place it.round t it.sender it.message sends.says_it)
              (says_input_or_heard it.round t it.sender it.message sends.says_it)
            where
              said : Place k it.round t it.sender it.message.signers.mask
                  → ((it.round ≡ 0) × (it.message.day ≡ tr.input it.sender)) ⊎ Heard it.round t it.sender it.message.day
                  → Origin t it.message.day
              said place (inr passed) =
                  before it.sender it.message.day it.a_seat
                  (later it.round r t it.sender it.message.day (omega (arith, it.in_time)) passed)
              said (inr x) (inl first) = absurd (omega (arith, x.round, first.0))
              said (inl x) (inl first) =
                  inl (
                    ap (tr.corrupt 0) x.own ∙ ap (λ r. tr.corrupt r it.sender) (sym first.0) ∙ sends.honest,
                    first.1 ∙ ap tr.input (sym x.own),
                  )

      -- so it is a day
      pub heard_day : (r t i v : ℕ) → r ≤ P.rounds k → t < k → i < k → Heard r t i v → Day v
      heard_day r t i v hr ht hi it = go (origin r t i v hr ht hi it)
        where
          go : Origin t v → Day v
          go (inl its) = subst Day (sym its.1) (play.days t ht its.0)
          go (inr by) = subst Day by.on_day by.possible.a_day

      sent_day : (r t i : ℕ) (m : Message) → Sends P k tr r t i m → Day m.day
      sent_day r t i m s = go (said_place r t i m s.says_it) (says_input_or_heard r t i m s.says_it)
        where
          go : Place k r t i m.signers.mask → ((r ≡ 0) × (m.day ≡ tr.input i)) ⊎ Heard r t i m.day → Day m.day
          go place (inl first) = subst Day (sym first.1) (play.days i s.a_seat (ap (λ r. tr.corrupt r i) (sym first.0) ∙ s.honest))
          go (inl x) (inr it) = absurd (omega (arith, x.round, it.in_time))
          go (inr x) (inr it) = heard_day r t i m.day (omega (arith, s.a_round)) x.seat s.a_seat it

      -- what is passed on has reached the seat, under the signature of the seat that it is about
      reached : (r t i : ℕ) (m : Message) → Sends P k tr r t i m → Place k r t i m.signers.mask
          → (s : ℕ) → member s m.signers.mask ≡ true → s ≢ i → Reached P k tr r t m.day s i
      reached r t i m sends (inl x) s has off = absurd (off (member_only s i (sym (ap (member s) x.signers) ∙ has)))
      reached r t i m sends (inr x) s has off =
          who (says_input_or_heard r t i m sends.says_it) (member_two t i s x.other (sym (ap (member s) x.signers) ∙ has))
        where
          who : ((r ≡ 0) × (m.day ≡ tr.input i)) ⊎ Heard r t i m.day → (s ≡ t) ⊎ (s ≡ i) → Reached P k tr r t m.day s i
          who _ (inr at) = absurd (off at)
          who (inl first) (inl at) = absurd (omega (arith, x.round, first.0))
          who (inr it) (inl at) = record {
            before = it.round;
            topic = t;
            sender = it.sender;
            message = it.message;
            in_time = it.in_time;
            a_topic = omega (arith, x.seat);
            a_seat = it.a_seat;
            heard = it.arrived;
            of_kind = refl;
            on_day = it.on_day;
            signed = ap (λ n. member n it.message.signers.mask) at
                ∙ topic_signs k it.round t it.sender it.message.signers.mask
                (heard_place it.round t it.sender i it.message (omega (arith, it.in_time, sends.a_round)) x.seat it.a_seat sends.a_seat it.arrived);
          }

  -- a seat says each kind of thing in one round
  one_round : (r r' t i mask mask' : ℕ) → Place k r t i mask → Place k r' t i mask' → r ≡ r'
  one_round r r' t i mask mask' (inl x) (inl y) = x.round ∙ sym y.round
  one_round r r' t i mask mask' (inl x) (inr y) = absurd (y.other x.own)
  one_round r r' t i mask mask' (inr x) (inl y) = absurd (x.other y.own)
  one_round r r' t i mask mask' (inr x) (inr y) = x.round ∙ sym y.round

  one_day : (i r t r' t' : ℕ) (m m' : Message) → says P k tr r t i ≡ Some m → says P k tr r' t' i ≡ Some m' → t ≡ t' → m.day ≡ m'.day
  one_day i r t r' t' m m' e e' same =
      let also : says P k tr r' t i ≡ Some m' = ap (λ x. says P k tr r' x i) same ∙ e' in
      let at = one_round r r' t i m.signers.mask m'.signers.mask (said_place r t i m e) (said_place r' t i m' also) in
      let all : Some m ≡ Some m' = sym e ∙ ap (λ x. says P k tr x t i) at ∙ also in
      cc

pub keeps_discipline : KeepsDiscipline relays
keeps_discipline k seats = record {
  a_day = λ tr play r t i m s. sent_day k tr seats.1 play r t i m s;
  formed = λ tr _ r t i m s. (Listed, due_listed k (suc r) t i m.signers (spoken k tr r t i m s.says_it).0);
  own = λ tr _ r t i m s _. sender_signs k r t i m.signers.mask (said_place k tr r t i m s.says_it);
  others = λ tr play r t i m s _. reached k tr seats.1 play r t i m s (said_place k tr r t i m s.says_it);
  behind = λ tr _ r t i m s is. absurd (no_certificate k (suc r) t i m.signers.mask is);
  one_day = λ tr _ i r t r' t' m m' s _ s' _. one_day k tr i r t r' t' m m' s.says_it s'.says_it;
}
