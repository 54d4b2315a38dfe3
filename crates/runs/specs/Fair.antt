-- What stands on the wire in an open round.
use Rattle.std.specs.Prelude.{◌≡◌, ℕ, ◌<◌, ◌≤◌, true, false, Some, None, slice_index_or}
use Rattle.message.specs.declared.Message.{Message}
use Rattle.message.specs.Members.{member}
use Rattle.protocol.specs.Grading.{Grading}
use Rattle.protocol.specs.Agreement.{Meaning}
use Rattle.committee.specs.declared.stages.Stage.{Stage}
use Rattle.committee.specs.Plan.{senders_of, sits}
use Rattle.runs.specs.State.{State, room, party}
use Rattle.runs.specs.Round.{party_of, says_in, kind_in}
use Rattle.runs.specs.Wire.{Place, stands, used, to_parties}
use Rattle.runs.specs.Calls.{Formed, Exists}

module _ {B G : Type 0} (a : Meaning B) (g : Grading G) (st : Stage) (s : State B G) where
  -- a message that could be injected in the name of seat i: who sends in this round sends it, it has a form, and all its signatures exist
  pub record Injectable (t i : ℕ) (m : Message) : Type 0 where
    pub sends : sits (senders_of st) (party_of st i) ≡ true
    pub formed : Formed a g s st (party_of st i) t m.day m.signers.mask
    pub signed : (p : ℕ) → member p m.signers.mask ≡ true → (p < s.parties) × Exists a g s (kind_in a g st t) m.day p

  pub record Fair : Type 0 where
    -- from an honest party stands what it has to say, the same to all seats;
    pub honest : (t i j : ℕ) → Place st t i j → member (party_of st i) s.corrupt ≡ false
        → stands st s.wire t i j ≡ to_parties st.committee.first (says_in a g st i (party a g s (party_of st i)) t)
    -- from a corrupt one nothing but what could be injected;
    pub corrupt : (t i j : ℕ) (m : Message) → Place st t i j → member (party_of st i) s.corrupt ≡ true
        → stands st s.wire t i j ≡ Some m → Injectable t i m
    -- and the rest of the room is empty.
    pub nothing_else : (x : ℕ) → used st ≤ x → x < room s.parties → slice_index_or s.wire x None ≡ None
