-- What an execution holds, as its rules see it.
use Rattle.std.specs.Prelude.{ℕ, ◌+◌, ◌*◌, Bool, false, List, [], None, Option, slice_index, slice_index_or}
use Rattle.std.specs.List.{slice_get}
use Rattle.message.specs.declared.Message.{Message}
use Rattle.protocol.specs.Grading.{Grading}
use Rattle.protocol.specs.Agreement.{Meaning}
use Rattle.committee.specs.declared.stages.Stage.{Stage}
use Rattle.committee.specs.Tree.{committees}
use Rattle.committee.specs.Plan.{plan}

-- What one party holds. A half's answer stays at the half's depth until a report brings it to the committee above, so there is a day and a
-- grade for each depth.
pub record Party (B G : Type 0) : Type 0 where
  -- the day that it holds in its committee at each depth, and whether it is sure of it (grade 1)
  pub days : List ℕ
  pub sure : List Bool
  -- its records of the graded agreement and of the base agreement that it is in
  pub graded : G
  pub base : B
  -- by kind: the day that it has signed in this part of its committee's work
  pub signed : List (Option ℕ)

abbrev pub day_at : {B G : Type 0} → Party B G → ℕ → ℕ
day_at p d = slice_index p.days d

abbrev pub sure_at : {B G : Type 0} → Party B G → ℕ → Bool
sure_at p d = slice_index_or p.sure d false

abbrev pub signed_on : {B G : Type 0} → Party B G → ℕ → Option ℕ
signed_on p about = slice_index_or p.signed about None

pub record State (B G : Type 0) : Type 0 where
  -- how many parties there are, and how many may be corrupted
  pub parties : ℕ
  pub limit : ℕ
  -- the set of those that are corrupt
  pub corrupt : ℕ
  -- how many rounds have closed
  pub closings : ℕ
  -- the signatures that parties have sent while honest
  pub count : ℕ
  -- what each party holds
  pub held : List (Party B G)
  -- the slots in which the messages of the open round stand
  pub wire : List (Option Message)

-- the slots that belong to an execution of n parties
abbrev pub room : ℕ → ℕ
room n = 2 * (n * n) + 128

module _ {B G : Type 0} (a : Meaning B) (g : Grading G) where
  -- the stage that is open when t rounds of n parties have closed; none after the last
  unfoldable pub stage_at : ℕ → ℕ → Option Stage
  stage_at n t = slice_get (plan a.rounds g.protocol.rounds 1 0 (committees a.most 0 n)) t

  -- the stage that is open
  abbrev pub here : State B G → Option Stage
  here s = stage_at s.parties s.closings

  -- what party p holds; there is nobody from `parties` on
  abbrev pub nobody : Party B G
  nobody = record { days = []; sure = []; graded = g.protocol.start 0 0 0; base = a.start 0 0 0; signed = [] }

  abbrev pub party : State B G → ℕ → Party B G
  party s p = slice_index_or s.held p nobody
