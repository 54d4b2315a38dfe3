-- Whether a call is refused, computed: the checks in the order of their numbers.
use Rattle.std.specs.Prelude.{ℕ, ◌^◌, Bool, false, cond, not, ◌&&◌, ◌||◌, List, [], ◌∷◌, length, is_some, Some, None, Option, ◌==◌, nat_le, nat_lt}
use Rattle.message.specs.declared.Message.{Message}
use Rattle.message.specs.Count.{count}
use Rattle.message.specs.Members.{member, size}
use Rattle.message.specs.Tally.{names}
use Rattle.protocol.specs.Grading.{Grading}
use Rattle.protocol.specs.Agreement.{Meaning}
use Rattle.committee.specs.declared.stages.Stage.{Stage}
use Rattle.committee.specs.Plan.{senders_of, sits}
use Rattle.runs.specs.State.{State, room, here, party, signed_on}
use Rattle.runs.specs.Round.{work, topics_for, seat_of, form_in, kind_in}
use Rattle.runs.specs.Wire.{stands, to_seats}
use Rattle.runs.specs.Calls.{message, Call, corrupts, injects, closes, reads_decision, reads_signatures, reads_closings}

-- the first check that says yes gives its number
unfoldable pub first_of : List (Bool × ℕ) → Option ℕ
first_of [] = None
first_of (c ∷ cs) = cond c.0 (Some c.1) (first_of cs)

module _ {B G : Type 0} (a : Meaning B) (g : Grading G) where
  abbrev pub on_stage : Option Stage → (Stage → Bool) → Bool
  on_stage None test = false
  on_stage (Some st) test = test st

  abbrev pub is_formed : Stage → ℕ → ℕ → Option Message → Bool
  is_formed st t i None = false
  is_formed st t i (Some m) = nat_lt t (topics_for (work st)) && is_some (form_in a g st t i m.signers.mask)

  abbrev pub exists_for : State B G → ℕ → ℕ → ℕ → Bool
  exists_for s about day p = member p s.corrupt || names day (signed_on (party a g s p) about)

  -- how many of the signers' signatures do not exist
  abbrev pub forged : State B G → ℕ → ℕ → ℕ → ℕ
  forged s about day signers = count (λ p. member p signers && not (exists_for s about day p)) s.parties

  abbrev pub short : State B G → Bool
  short s = nat_lt (length s.wire) (room s.parties)

  abbrev pub is_over : State B G → Bool
  is_over s = not (is_some (here a g s))

  -- the checks of a call, in the order of their numbers
  unfoldable pub checks : State B G → Call → List (Bool × ℕ)
  checks s (corrupts p) =
      (short s, 4) ∷ (nat_le s.parties p, 5) ∷ (is_over s, 20) ∷ (member p s.corrupt, 21) ∷ (nat_le s.limit (size s.parties s.corrupt), 22) ∷ []
  checks s (injects i j t day signers) =
      (short s, 4)
      ∷ (nat_le s.parties i || nat_le s.parties j, 5)
      ∷ (signers == 0 || nat_le (2 ^ s.parties) signers, 6)
      ∷ (is_over s, 20)
      ∷ (not (member i s.corrupt), 23)
      ∷ (on_stage (here a g s) (λ st. not (sits (senders_of st) i && sits st.committee j)), 24)
      ∷ (on_stage (here a g s) (λ st. not (is_formed st t (seat_of st i) (to_seats st.committee.first (Some (message day signers))))), 25)
      ∷ (on_stage (here a g s) (λ st. not (forged s (kind_in a g st t) day signers == 0)), 26)
      ∷ (on_stage (here a g s) (λ st. is_some (stands st s.wire t (seat_of st i) (seat_of st j))), 27)
      ∷ []
  checks s closes = (short s, 4) ∷ (is_over s, 20) ∷ []
  checks s (reads_decision p) = (nat_le s.parties p, 5) ∷ (member p s.corrupt, 21) ∷ (not (is_over s), 28) ∷ []
  checks s reads_signatures = []
  checks s reads_closings = []

  -- the number by which a call is refused, if it is
  abbrev pub refusal : State B G → Call → Option ℕ
  refusal s c = first_of (checks s c)
