-- The reference figures: small executions, call by call, and what they come to.
use Rattle.std.specs.Prelude.{◌≡◌, ℕ, List, [], ◌∷◌, ◌++◌, map, length, replicate, None}
use Rattle.graded.specs.declared.seats.Seat.{Seat}
use Rattle.graded.specs.Steps.{four_rounds}
use Rattle.base.specs.Alone.{lone}
use Rattle.base.specs.Relaying.{relays}
use Rattle.message.specs.Members.{quorum}
use Rattle.protocol.specs.Agreement.{Meaning}
use Rattle.runs.specs.State.{State, room}
use Rattle.runs.specs.Calls.{Call, corrupts, injects, closes, reads_decision, reads_signatures, Over}
use Rattle.runs.specs.Rules.{refused, done, reads}
use Rattle.runs.specs.Machine.{after, answer}
use Rattle.runs.specs.History.{opened}
use Rattle.runs.specs.Theorems.{rounds_among}

module _ {B : Type 0} (a : Meaning B) where
  -- the state after calls, one after another
  unfoldable pub made : State B Seat → List Call → State B Seat
  made s [] = s
  made s (c ∷ cs) = made (after a four_rounds s c) cs

  -- an execution with these inputs, of which b parties may be corrupted, on an empty wire that is just long enough
  abbrev pub execution : ℕ → List ℕ → State B Seat
  execution b inputs = opened a four_rounds (length inputs) b inputs (replicate (room (length inputs)) None)

  -- the calls, and then all rounds closed
  abbrev pub played : ℕ → List ℕ → List Call → State B Seat
  played b inputs cs = made (execution b inputs) (cs ++ replicate (rounds_among a four_rounds (length inputs)) closes)

  -- what the parties answer that are asked for their decision, and what the count comes to
  abbrev pub ComesTo : State B Seat → List ℕ → ℕ → ℕ → Type 0
  ComesTo s asked day spent =
      (map (λ p. answer a four_rounds s (reads_decision p)) asked ≡ map (λ _. reads day) asked)
      × (answer a four_rounds s reads_signatures ≡ reads spent)

-- three parties, alone at the leaves; party 2 is corrupted in round 1 and echoes 7 to party 0 and 9 to party 1
abbrev pub two_echoes : List Call
two_echoes = corrupts 2 ∷ injects 2 0 0 7 4 ∷ injects 2 1 0 9 4 ∷ []

-- its round 2
abbrev pub mid_round : State ℕ Seat
mid_round = made lone (execution lone 1 (7 ∷ 9 ∷ 4 ∷ [])) (two_echoes ++ closes ∷ [])

pub record ReferenceFigures : Type 0 where
  pub quorums : map quorum (1 ∷ 2 ∷ 3 ∷ 4 ∷ 5 ∷ []) ≡ 1 ∷ 2 ∷ 2 ∷ 3 ∷ 3 ∷ []
  pub rounds_alone : map (rounds_among lone four_rounds) (2 ∷ 3 ∷ 32 ∷ []) ≡ 10 ∷ 20 ∷ 310 ∷ []
  pub rounds_relayed : map (rounds_among relays four_rounds) (5 ∷ 9 ∷ 16 ∷ []) ≡ 14 ∷ 26 ∷ 38 ∷ []
  -- nobody is corrupt
  pub two_alike : ComesTo lone (played lone 0 (7 ∷ 7 ∷ []) []) (0 ∷ 1 ∷ []) 7 44
  pub two_apart : ComesTo lone (played lone 0 (7 ∷ 9 ∷ []) []) (0 ∷ 1 ∷ []) 7 28
  pub three_alone : ComesTo lone (played lone 0 (7 ∷ 9 ∷ 9 ∷ []) []) (0 ∷ 1 ∷ 2 ∷ []) 9 143
  pub four_relayed : ComesTo relays (played relays 0 (7 ∷ 7 ∷ 9 ∷ 9 ∷ []) []) (0 ∷ 1 ∷ 2 ∷ 3 ∷ []) 7 112
  pub five_relayed : ComesTo relays (played relays 0 (6 ∷ 6 ∷ 6 ∷ 6 ∷ 6 ∷ []) []) (0 ∷ 1 ∷ 2 ∷ 3 ∷ 4 ∷ []) 6 332
  -- party 0 tells two days in the base agreement
  pub two_days : ComesTo relays (played relays 1 (4 ∷ 8 ∷ 8 ∷ []) (corrupts 0 ∷ injects 0 1 0 7 1 ∷ injects 0 2 0 9 1 ∷ [])) (1 ∷ 2 ∷ []) 8 33
  -- party 2 echoes two days
  pub two_days_echoed : ComesTo lone (played lone 1 (7 ∷ 9 ∷ 4 ∷ []) two_echoes) (0 ∷ 1 ∷ []) 7 79
  -- its certificate on 7 stands with party 0, not with party 1, who echoed 9, and not alone
  pub certificate_stands : answer lone four_rounds mid_round (injects 2 0 0 7 5) ≡ done
  pub echo_missing : answer lone four_rounds mid_round (injects 2 0 0 7 6) ≡ refused 26
  pub no_quorum : answer lone four_rounds mid_round (injects 2 0 0 7 4) ≡ refused 25
  -- alone, one party is done at once
  pub one_alone : Over lone four_rounds (execution lone 0 (7 ∷ []))
