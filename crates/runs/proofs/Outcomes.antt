-- The computed outcome of a call is one that the rules allow.
use Rattle.std.proofs.Common.{◌≡◌, ℕ, ◌<◌, ◌≤◌, true, length, Some, None, Option, refl, inl, inr, arith}
use Rattle.std.proofs.Math.Nat.{lt_of_not-le}
use Rattle.std.proofs.lemmas.Bool.{true_from_ne_false}
use Rattle.protocol.specs.Grading.{Grading}
use Rattle.protocol.specs.Agreement.{Meaning, Sized}
use Rattle.committee.specs.declared.stages.Stage.{Stage}
use Rattle.committee.specs.Plan.{senders_of, sits}
use Rattle.runs.specs.State.{State, room, here}
use Rattle.runs.specs.Round.{seat_of}
use Rattle.runs.specs.Wire.{Place}
use Rattle.runs.specs.Calls.{message, Call, corrupts, injects, closes, reads_decision, reads_signatures, reads_closings, Applies, short_injects, short_closes, over_corrupts, over_injects, over_closes, not_seated, no_form}
use Rattle.runs.specs.Rules.{Does, corrupted, injected, closed, decision, signatures, closings, Outcome, refuses, accepts}
use Rattle.runs.specs.Machine.{acted, acted_if_open, unless_refused, after, says_of, answer_by, answer}
use Rattle.runs.specs.Checking.{checks, refusal}
use Rattle.runs.proofs.Fitting.{Fits, round_fits}
use Rattle.runs.proofs.Refusing.{least_applies, none_marked}
use Rattle.runs.proofs.Checks.{rows, marks}
use Rattle.runs.proofs.Acting.{corrupting, injecting, closing}

module _ {n : ℕ} {st : Stage} (fits : Fits n st) where
  -- who sends or listens has a seat in the committee
  listener_seat : (p : ℕ) → sits st.committee p ≡ true → seat_of st p < st.committee.size
  listener_seat p e = grind arith

  sender_seat : (p : ℕ) → sits (senders_of st) p ≡ true → seat_of st p < st.committee.size
  sender_seat p e = grind arith

  pub sender_from : (p : ℕ) → sits (senders_of st) p ≡ true → st.committee.first ≤ p
  sender_from p e = grind arith

module _ {B G : Type 0} (a : Meaning B) (g : Grading G) (sized : Sized a) (s : State B G) where
  abbrev Accepted : Call → Type 0
  Accepted c = (k : ℕ) → Applies a g s c k → ⊥

  module _ (st : Stage) (now : here a g s ≡ Some st) where
    fits : Fits s.parties st
    fits = round_fits a g sized s.parties s.closings st now

    -- an accepted message has its place
    place : (i j t day signers : ℕ) → Accepted (injects i j t day signers) → Place st t (seat_of st i) (seat_of st j)
    place i j t day signers none = record {
      a_topic = lt_of_not-le (λ h. none 25 (no_form now (λ formed. omega (arith, h, formed.0))));
      sender = sender_seat fits i (true_from_ne_false (sits (senders_of st) i) (λ off. none 24 (not_seated now (inl off))));
      receiver = listener_seat fits j (true_from_ne_false (sits st.committee j) (λ off. none 24 (not_seated now (inr off))));
    }

    acts : (c : Call) → Accepted c → Does a g s c (says_of a g s c) (acted a g st s c)
    unfolding acted
    acts (corrupts p) none = corrupted now (corrupting a g st p s)
    acts (injects i j t day signers) none =
        injected now
        (injecting a g st i j t (message day signers) s (place i j t day signers none)
        (let enough : length s.wire < room s.parties → ⊥ = λ h. none 4 (short_injects h) in omega (arith, enough, fits.slots)))
    acts closes none =
        let enough : length s.wire < room s.parties → ⊥ = λ h. none 4 (short_closes h) in closed now (closing a g sized st s (omega (arith, enough)))
    acts (reads_decision p) none = decision
    acts reads_signatures none = signatures
    acts reads_closings none = closings

  does : (o : Option Stage) → here a g s ≡ o → (c : Call) → Accepted c → Does a g s c (says_of a g s c) (acted_if_open a g o s c)
  does (Some st) now c none = acts st now c none
  does None over (corrupts p) none = absurd (none 20 (over_corrupts over))
  does None over (injects i j t day signers) none = absurd (none 20 (over_injects over))
  does None over closes none = absurd (none 20 (over_closes over))
  does None over (reads_decision p) none = decision
  does None over reads_signatures none = signatures
  does None over reads_closings none = closings

  pub computed_outcome : (c : Call) → Outcome a g s c (answer a g s c) (after a g s c)
  unfolding after answer
  computed_outcome c = go (refusal a g s c) refl
    where
      go : (o : Option ℕ) → refusal a g s c ≡ o → Outcome a g s c (answer_by a g o s c) (unless_refused a g o s c)
      go (Some k) e = let least = least_applies (Applies a g s c) (rows a g s c) (marks a g s c) k e in refuses least.0 least.1
      go None e = let none = λ (k : ℕ) (on : Applies a g s c k). none_marked (checks a g s c) e k (marks a g s c k on) in accepts none (does (here a g s) refl c none)
