-- How an execution goes on, call by call, and when it is over.
use Rattle.std.proofs.Common.{◌≡◌, ℕ, ◌+◌, ◌<◌, ◌≤◌, List, [], length, Some, None, Option, sym, ◌∙◌, ⊎_elim, arith}
use Rattle.std.specs.List.{slice_get}
use Rattle.std.proofs.lemmas.Option.{none-some, slice_get_cases, slice_get_past, slice_get_within}
use Rattle.message.specs.declared.Message.{Message}
use Rattle.protocol.specs.Grading.{Grading}
use Rattle.protocol.specs.Agreement.{Meaning}
use Rattle.committee.specs.declared.stages.Stage.{Stage}
use Rattle.committee.specs.Tree.{committees}
use Rattle.committee.proofs.Plans.{plan_length}
use Rattle.runs.specs.State.{State, stage_at}
use Rattle.runs.specs.Calls.{Call}
use Rattle.runs.specs.Rules.{Answer, refused, GoesOn, Does, decision, refuses, accepts}
use Rattle.runs.specs.Machine.{after_opening, after_ending, going_on}
use Rattle.runs.specs.History.{seated, opened, History, begins, goes_on, closing_of, accepted_closings}
use Rattle.runs.specs.Theorems.{rounds_among, OverAfter}

-- a list has no entry only past its end
past_the_end : {A : Type 0} (xs : List A) (t : ℕ) → slice_get xs t ≡ None → length xs ≤ t
past_the_end xs t none = ⊎_elim (λ h. absurd (none-some h.0 (sym none ∙ h.2))) (λ past. past.0) (slice_get_cases xs t).1

module _ {B G : Type 0} (a : Meaning B) (g : Grading G) where
  -- no round is open once all rounds have closed, and one is before that
  stages_end : (n t : ℕ) → rounds_among a g n ≤ t → stage_at a g n t ≡ None
  unfolding stage_at
  stages_end n t h = grind (arith, slice_get_past, plan_length)

  stages_last : (n t : ℕ) → stage_at a g n t ≡ None → rounds_among a g n ≤ t
  unfolding stage_at
  stages_last n t e = grind (arith, past_the_end, plan_length)

  stages_open : (n t : ℕ) (st : Stage) → stage_at a g n t ≡ Some st → t < rounds_among a g n
  unfolding stage_at
  stages_open n t st e = omega (arith, slice_get_within _ t st e, plan_length a.rounds g.protocol.rounds 1 0 (committees a.most 0 n))

  -- ---- what calls keep: the parties, the limit; and closings count on

  pub record Keeps (more : ℕ) (s new : State B G) : Type 0 where
    pub parties : new.parties ≡ s.parties
    pub limit : new.limit ≡ s.limit
    pub closings : new.closings ≡ more + s.closings

  pub going_keeps : (o : Option Stage) (s new : State B G) → GoesOn a g o s new → Keeps 0 s new
  going_keeps o s new x = grind arith

  -- who is corrupt is so before a round opens and after
  pub going_corrupt : (o : Option Stage) (s new : State B G) → GoesOn a g o s new → new.corrupt ≡ s.corrupt
  going_corrupt o s new on = grind arith

  pub doing_keeps : {s new : State B G} {c : Call} {x : Answer} → Does a g s c x new → Keeps (closing_of c x) s new
  doing_keeps d = grind arith

  -- ---- histories

  -- the parties and the closings that a history has led to, and no closing after the last round
  record Led (n : ℕ) (events : List (Call × Answer)) (s : State B G) : Type 0 where
    parties : s.parties ≡ n
    counted : s.closings ≡ accepted_closings events
    within : s.closings ≤ rounds_among a g n

  -- an accepted closing was of an open round
  still_within : {s new : State B G} {c : Call} {x : Answer} → Does a g s c x new → s.closings ≤ rounds_among a g s.parties
      → closing_of c x + s.closings ≤ rounds_among a g s.parties
  still_within d h = grind (arith, stages_open)

  pub no_closing : (c : Call) (k : ℕ) → closing_of c (refused k) ≡ 0
  no_closing c k = grind arith

  opened_led : (n b : ℕ) (inputs : List ℕ) (wire : List (Option Message)) → Led n [] (opened a g n b inputs wire)
  unfolding opened seated going_on after_opening after_ending accepted_closings
  opened_led n b inputs wire = grind arith

  history_led : (n b : ℕ) (inputs : List ℕ) (wire : List (Option Message)) {events : List (Call × Answer)} {s : State B G}
      → History a g (opened a g n b inputs wire) events s → Led n events s
  unfolding accepted_closings
  history_led n b inputs wire begins = opened_led n b inputs wire
  history_led n b inputs wire (goes_on {c = c} h (refuses {k = k} _ _)) = let led = history_led n b inputs wire h in grind (arith, no_closing)
  history_led n b inputs wire (goes_on h (accepts _ d)) =
      let led = history_led n b inputs wire h in let keeps = doing_keeps d in grind (arith, still_within d)

  pub over_after : (n b : ℕ) (inputs : List ℕ) (wire : List (Option Message)) (events : List (Call × Answer)) (s : State B G)
      → History a g (opened a g n b inputs wire) events s → OverAfter a g n events s
  over_after n b inputs wire events s h =
      let led = history_led n b inputs wire h in
      record {
        counted = led.counted;
        within = led.within;
        over = grind (arith, stages_last);
        at_the_end = grind (arith, stages_end);
        decided = λ none p below honest. accepts (λ k on. grind arith) decision;
      }
