-- The wire of an open round is fair, from its opening on and through corruptions and injections.
use Rattle.std.proofs.Common.{◌≡◌, ◌≢◌, ℕ, ◌^◌, ◌<◌, ◌≤◌, true, false, List, length, get_or, Some, Option, sym, refl, ap, ◌∙◌, subst, inl, inr, ⊎_elim, arith}
use Rattle.std.proofs.lemmas.Option.{same_Some}
use Rattle.std.proofs.Math.Nat.{lt_of_not-le}
use Rattle.std.proofs.lemmas.Bool.{true_from_ne_false, both_ways}
use Rattle.message.specs.declared.Message.{Message}
use Rattle.message.specs.Members.{member}
use Rattle.message.proofs.Masks.{member_below}
use Rattle.protocol.specs.Grading.{Grading}
use Rattle.protocol.specs.Agreement.{Meaning, Sized}
use Rattle.committee.specs.declared.stages.Stage.{Stage}
use Rattle.committee.specs.Plan.{senders_of, sits}
use Rattle.runs.specs.State.{State, room, here, nobody}
use Rattle.runs.specs.Round.{party_of, seat_of, says_in, kind_in}
use Rattle.runs.specs.Wire.{Slots, stands, to_parties}
use Rattle.runs.specs.Calls.{message, Call, injects, Exists, Applies, bad_signers, sender_honest, not_seated, no_form, no_signature}
use Rattle.runs.specs.Rules.{Opens, Answer, GoesOn, Corrupted, Injected, Does, corrupted, injected, closed, decision, signatures, closings, refuses, accepts}
use Rattle.runs.specs.History.{seated, opened, History, begins, goes_on}
use Rattle.runs.specs.Fair.{Injectable, Fair}
use Rattle.runs.proofs.Acting.{opens}
use Rattle.runs.proofs.Checks.{exists_or_not, formed_or_not}
use Rattle.runs.proofs.Outcomes.{sender_from}
use Rattle.runs.proofs.Fitting.{Fits, round_fits}
use Rattle.runs.proofs.Slots.{same_or_apart}

module _ {B G : Type 0} (a : Meaning B) (g : Grading G) where
  -- what could be injected still could be, with more parties corrupt
  module _ (st : Stage) (old new : State B G) (parties : new.parties ≡ old.parties) (held : new.held ≡ old.held)
      (grows : (p : ℕ) → member p old.corrupt ≡ true → member p new.corrupt ≡ true) where
    still_exists : (about day p : ℕ) → Exists a g old about day p → Exists a g new about day p
    still_exists about day p it = grind arith

    still_injectable : (t i : ℕ) (m : Message) → Injectable a g st old t i m → Injectable a g st new t i m
    still_injectable t i m x = grind (arith, still_exists)

  -- a party is corrupted
  fair_corrupting : (st : Stage) (p : ℕ) (old new : State B G) → Corrupted a g st p old new → Fair a g st old → Fair a g st new
  fair_corrupting st p old new d fair = grind (arith, still_injectable)

  -- a message is injected
  module _ (st : Stage) (i j t day signers : ℕ) (old new : State B G) (now : here a g old ≡ Some st) (fits : Fits old.parties st)
      (none : (k : ℕ) → Applies a g old (injects i j t day signers) k → ⊥) (d : Injected a g st i j t (message day signers) old new) (fair : Fair a g st old) where
    sender_sends : sits (senders_of st) i ≡ true
    sender_sends = true_from_ne_false (sits (senders_of st) i) (λ off. none 24 (not_seated now (inl off)))

    sender_corrupt : member i old.corrupt ≡ true
    sender_corrupt = true_from_ne_false (member i old.corrupt) (λ off. none 23 (sender_honest off))

    own_seat : party_of st (seat_of st i) ≡ i
    own_seat = let from = sender_from fits i sender_sends in omega (arith, from)

    signers_below : signers < 2 ^ old.parties
    signers_below = lt_of_not-le (λ past. none 6 (bad_signers (inr past)))

    was_injectable : Injectable a g st old t (seat_of st i) (message day signers)
    was_injectable = record {
      sends = rw own_seat sender_sends;
      formed = rw own_seat (⊎_elim (λ on. on) (λ off. absurd (none 25 (no_form now off))) (formed_or_not a g old st i t day signers));
      signed = λ p on.
          let below = member_below signers old.parties p signers_below on in
          (below, ⊎_elim (λ e. e) (λ off. absurd (none 26 (no_signature now below on off))) (exists_or_not a g old (kind_in a g st t) day p));
    }

    fair_injecting : Fair a g st new
    fair_injecting = record {
      honest = λ t' i' j' at h.
          let was : member (party_of st i') old.corrupt ≡ false = ap (member (party_of st i')) (sym d.corrupt) ∙ h in
          let apart : i' ≢ seat_of st i = λ e. both_ways (member (party_of st i') old.corrupt) was (rw (e, own_seat) sender_corrupt) in
          d.others t' i' j' at (inr (inl apart))
          ∙ fair.honest t' i' j' at was
          ∙ ap (λ x. to_parties st.committee.first (says_in a g st i' (get_or x (party_of st i') (nobody a g)) t')) (sym d.held);
      corrupt = λ t' i' j' m at h e.
          still_injectable st old new d.parties d.held (λ p on. ap (member p) d.corrupt ∙ on) t' i' m
          (⊎_elim (λ place. rw (place.0, place.1) (subst (Injectable a g st old t (seat_of st i)) (there t' i' j' m place e) was_injectable))
          (λ apart. fair.corrupt t' i' j' m at (ap (member (party_of st i')) (sym d.corrupt) ∙ h) (sym (d.others t' i' j' at apart) ∙ e))
          (same_or_apart t (seat_of st i) (seat_of st j) t' i' j'));
      nothing_else = λ x past h. d.elsewhere.same x past ∙ fair.nothing_else x past (rw d.parties at h);
    }
      where
        there : (t' i' j' : ℕ) (m : Message) → (t' ≡ t) × (i' ≡ seat_of st i) × (j' ≡ seat_of st j) → stands st new.wire t' i' j' ≡ Some m
            → message day signers ≡ m
        there t' i' j' m place e = same_Some _ _ (sym d.there ∙ (rw (← place.0, ← place.1, ← place.2) e))

  -- ---- histories

  -- the round that is open is the one that was
  fair_still : (st' : Stage) (s new : State B G) → here a g s ≡ Some st' → here a g new ≡ here a g s → Fair a g st' new
      → (st : Stage) → here a g new ≡ Some st → Fair a g st new
  fair_still st' s new now same fair st e = subst (λ x. Fair a g x new) (same_Some st' st (sym (same ∙ now) ∙ e)) fair

  -- a round opens fair,
  fair_opening : (st : Stage) (old new : State B G) → Opens a g st old new → Fair a g st new
  fair_opening st old new on = grind arith

  -- and so does the next
  fair_going_on : (o : Option Stage) (s new : State B G) → here a g s ≡ o → GoesOn a g o s new → (st : Stage) → here a g new ≡ Some st → Fair a g st new
  fair_going_on o s new over on = grind (arith, fair_opening)

  module _ (sized : Sized a) where
    fair_doing : {s new : State B G} {c : Call} {x : Answer} → ((k : ℕ) → Applies a g s c k → ⊥) → Does a g s c x new
        → ((st : Stage) → here a g s ≡ Some st → Fair a g st s) → (st : Stage) → here a g new ≡ Some st → Fair a g st new
    fair_doing {s = s} {new = new} none (corrupted {p = p} {st = st'} now d) fair =
        fair_still st' s new now (rw (d.parties, d.closings)) (fair_corrupting st' p s new d (fair st' now))
    fair_doing {s = s} {new = new} none (injected {i = i} {j = j} {t = t} {day = day} {signers = signers} {st = st'} now d) fair =
        fair_still st' s new now (rw (d.parties, d.closings))
        (fair_injecting st' i j t day signers s new now (round_fits a g sized s.parties s.closings st' now) none d (fair st' now))
    fair_doing {new = new} none (closed _ d) fair = fair_going_on (here a g d.between) d.between new refl d.goes_on
    fair_doing none decision fair = fair
    fair_doing none signatures fair = fair
    fair_doing none closings fair = fair

    module _ (n b : ℕ) (inputs : List ℕ) (wire : Slots) (long : room n ≤ length wire) where
      pub history_fair : {events : List (Call × Answer)} {s : State B G} → History a g (opened a g n b inputs wire) events s
          → (st : Stage) → here a g s ≡ Some st → Fair a g st s
      history_fair begins =
          let s = seated a g n b inputs wire in fair_going_on (here a g s) s (opened a g n b inputs wire) refl (opens a g sized n b inputs wire long)
      history_fair (goes_on h (refuses _ _)) = history_fair h
      history_fair (goes_on h (accepts none d)) = fair_doing none d (history_fair h)
