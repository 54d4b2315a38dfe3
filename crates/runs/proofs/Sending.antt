-- The counter is what stood on the wire when rounds opened.
use Rattle.std.proofs.Common.{◌≡◌, ℕ, ◌+◌, ◌*◌, ◌≤◌, List, length, Option, sym, ap, ◌∙◌, arith}
use Rattle.std.proofs.Math.Nat.{mul-mod_left}
use Rattle.std.proofs.lemmas.Nat.{shl-shr}
use Rattle.message.specs.declared.Message.{Message}
use Rattle.message.proofs.Counting.{sum_same, sum_constant}
use Rattle.protocol.specs.Grading.{Grading}
use Rattle.protocol.specs.Agreement.{Meaning, Sized}
use Rattle.committee.specs.declared.stages.Stage.{Stage}
use Rattle.runs.specs.State.{State, room, here}
use Rattle.runs.specs.Round.{work, topics_for}
use Rattle.runs.specs.Wire.{Slots, to_parties, to_seats}
use Rattle.runs.specs.Calls.{Call}
use Rattle.runs.specs.Rules.{Answer, said_by, price, sent_in, Opens, GoesOn, Does, refuses, accepts}
use Rattle.runs.specs.History.{seated, opened, History, begins, goes_on, closing_of}
use Rattle.runs.specs.Sent.{on_copy, on_wire, standing_in, standing, sent}
use Rattle.runs.proofs.Acting.{opens}
use Rattle.runs.proofs.Histories.{no_closing}

seats_again : (first : ℕ) (o : Option Message) → to_seats first (to_parties first o) ≡ o
seats_again first o = grind (arith, mul-mod_left, shl-shr)

module _ {B G : Type 0} (a : Meaning B) (g : Grading G) where
  -- all copies of what a seat says
  price_is : (st : Stage) (t i : ℕ) (o : Option Message) → price a g st t i o ≡ st.committee.size * on_copy a g st t i o
  price_is st t i o = grind arith

  -- what is counted when a round opens stands on the wire then
  opening_stands : (st : Stage) (old new : State B G) → Opens a g st old new → on_wire a g st new.wire ≡ sent_in a g st old.corrupt new.held
  unfolding on_wire sent_in
  opening_stands st old new on =
      sum_same _ _ (topics_for (work st))
      (λ t topic.
      sum_same _ _ st.committee.size
      (λ i seat.
      let said = said_by a g st old.corrupt new.held t i in
      sum_same _ (λ _. on_copy a g st t i said) st.committee.size
      (λ j receiver.
      ap (on_copy a g st t i)
      (ap (to_seats st.committee.first) (on.said t i j (record { a_topic = topic; sender = seat; receiver = receiver })) ∙ seats_again st.committee.first said))
      ∙ sum_constant (on_copy a g st t i said) st.committee.size
      ∙ sym (price_is st t i said)))

  going_counts : (o : Option Stage) (s new : State B G) → GoesOn a g o s new → new.count ≡ s.count + standing_in a g o new.wire
  going_counts o s new on = grind (arith, opening_stands)

  -- the open round is the same before and after a round opens
  pub same_stage : (o : Option Stage) (s new : State B G) → GoesOn a g o s new → here a g new ≡ here a g s
  same_stage o s new on = grind arith

  doing_counts : {s new : State B G} {c : Call} {x : Answer} → Does a g s c x new → new.count ≡ s.count + closing_of c x * standing a g new
  doing_counts d = grind (arith, going_counts, same_stage)

  module _ (sized : Sized a) (n b : ℕ) (inputs : List ℕ) (wire : Slots) (long : room n ≤ length wire) where
    opened_counts : (opened a g n b inputs wire).count ≡ standing a g (opened a g n b inputs wire)
    unfolding seated
    opened_counts =
        let s = seated a g n b inputs wire in
        let on = opens a g sized n b inputs wire long in
        let counted = going_counts (here a g s) s (opened a g n b inputs wire) on in
        grind (arith, same_stage)

    pub history_counts : {events : List (Call × Answer)} {s : State B G} (h : History a g (opened a g n b inputs wire) events s) → s.count ≡ sent a g h
    unfolding sent
    history_counts begins = opened_counts
    history_counts (goes_on {c = c} h (refuses {k = k} _ _)) = let before = history_counts h in grind (arith, no_closing)
    history_counts (goes_on h (accepts _ d)) = let before = history_counts h in let more = doing_counts d in omega (arith, before, more)
