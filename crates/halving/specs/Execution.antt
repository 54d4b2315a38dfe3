-- Figure 1 of Momose and Ren as a relation over whole executions, while an adversary takes over parties.
use Rattle.std.specs.Prelude.{◌≡◌, ℕ, suc, ◌+◌, ◌*◌, ◌<◌, ◌≤◌, Bool, true, false, not, Some, Option}
use Rattle.message.specs.Count.{count}
use Rattle.message.specs.Tally.{names}
use Rattle.protocol.specs.Protocol.{Inbox, Protocol}
use Rattle.protocol.specs.Play.{Trace, Play}
use Rattle.protocol.specs.Cost.{copies, signatures}
use Rattle.protocol.specs.Grading.{Grading, day_of, grade_of}
use Rattle.protocol.specs.Agreement.{Meaning, protocol_of, answer}
use Rattle.committee.specs.Tree.{Tree, leaf, node, low, size}
use Rattle.committee.specs.Plan.{duration}

-- how many rounds a turn takes, by the committee's size and the rounds of the half
abbrev pub turn_time : {G : Type 0} → Grading G → ℕ → ℕ → ℕ
turn_time g s half_time = suc (g.protocol.rounds s + half_time)

-- how many rounds a committee takes
abbrev pub time : {B G : Type 0} → Meaning B → Grading G → Tree → ℕ
time a g tree = duration a.rounds g.protocol.rounds tree

-- corrupt t p: party p is corrupt when t rounds have closed
module _ (corrupt : ℕ → ℕ → Bool) where
  -- party p is honest when t rounds have closed
  abbrev pub HonestAt : ℕ → ℕ → Type 0
  HonestAt t p = corrupt t p ≡ false

  -- what happens when s parties from lo on play from time t on, on the days that they hold
  abbrev pub trace_of : ℕ → ℕ → (ℕ → ℕ) → (ℕ → ℕ → Inbox) → Trace
  trace_of t lo day inbox = record { input = λ i. day (lo + i); corrupt = λ r i. corrupt (t + r) (lo + i); inbox = inbox }

  pub record Run {R : Type 0} (p : Protocol R) (t lo s : ℕ) (day : ℕ → ℕ) : Type 0 where
    pub inbox : ℕ → ℕ → Inbox
    pub play : Play p s (trace_of t lo day inbox)

  abbrev pub trace : {R : Type 0} {p : Protocol R} {t lo s : ℕ} {day : ℕ → ℕ} → Run p t lo s day → Trace
  trace {t = t} {lo = lo} {day = day} run = trace_of t lo day run.inbox

  -- One half's turn, from time t on. The committee plays the graded agreement on the days that its parties hold; the half does its part on
  -- what they hold then, in so many rounds, and reports its answers in one more. A party that is sure (grade 1) keeps its day; any other goes by
  -- what more than half of the half's seats report to it, if there is such a day.
  pub record Turn {G : Type 0} (g : Grading G) (t lo s half_time half_lo half_size : ℕ) (Half : ℕ → (ℕ → ℕ) → (ℕ → ℕ) → Type 0) (before after : ℕ → ℕ) : Type 0 where
    -- the graded agreement, and the day that each party holds after it
    pub run : Run g.protocol t lo s before
    pub held : ℕ → ℕ
    pub held_is : (i : ℕ) → i < s → HonestAt (t + g.protocol.rounds s) (lo + i) → held (lo + i) ≡ day_of g s (trace run) i
    -- the half, and what it answers to its parties
    pub answers : ℕ → ℕ
    pub half : Half (t + g.protocol.rounds s) held answers
    -- the report: what seat i of the committee hears from seat j of the half
    pub report : ℕ → ℕ → Option ℕ
    pub from_honest : (i j : ℕ) → i < s → j < half_size → HonestAt (suc (t + g.protocol.rounds s + half_time)) (half_lo + j)
        → report i j ≡ Some (answers (half_lo + j))
    pub sure : (i : ℕ) → i < s → HonestAt (suc (t + g.protocol.rounds s + half_time)) (lo + i) → grade_of g s (trace run) i ≡ true
        → after (lo + i) ≡ held (lo + i)
    pub told : (i : ℕ) → i < s → HonestAt (suc (t + g.protocol.rounds s + half_time)) (lo + i) → grade_of g s (trace run) i ≡ false
        → (v : ℕ) → half_size < 2 * count (λ j. names v (report i j)) half_size → after (lo + i) ≡ v
    pub untold : (i : ℕ) → i < s → HonestAt (suc (t + g.protocol.rounds s + half_time)) (lo + i) → grade_of g s (trace run) i ≡ false
        → ((v : ℕ) → 2 * count (λ j. names v (report i j)) half_size ≤ half_size) → after (lo + i) ≡ held (lo + i)

  -- a small committee plays the base agreement
  pub record Small {B : Type 0} (a : Meaning B) (t lo s : ℕ) (before after : ℕ → ℕ) : Type 0 where
    pub run : Run (protocol_of a) t lo s before
    pub answers : (i : ℕ) → i < s → HonestAt (t + a.rounds s) (lo + i) → after (lo + i) ≡ answer a s (trace run) i

  module _ {B G : Type 0} (a : Meaning B) (g : Grading G) where
    -- the first half's turn, and then the second's
    pub record Turns (t lo s : ℕ) (l r : Tree) (Left Right : ℕ → (ℕ → ℕ) → (ℕ → ℕ) → Type 0) (before after : ℕ → ℕ) : Type 0 where
      pub between : ℕ → ℕ
      pub first : Turn g t lo s (time a g l) (low l) (size l) Left before between
      pub second : Turn g (t + turn_time g s (time a g l)) lo s (time a g r) (low r) (size r) Right between after

    -- an execution of a committee from time t on: the days that its parties hold before and after
    unfoldable pub Exec : Tree → ℕ → (ℕ → ℕ) → (ℕ → ℕ) → Type 0
    Exec (leaf lo s) t before after = Small a t lo s before after
    Exec (node lo s l r) t before after = Turns t lo s l r (Exec l) (Exec r) before after

    -- what honest parties spend in a turn: in the graded agreement, in the half, and each reporter one signature on each copy
    abbrev pub turn_spends : (t lo s half_time half_lo half_size : ℕ) (Half : ℕ → (ℕ → ℕ) → (ℕ → ℕ) → Type 0) (before after : ℕ → ℕ)
        → ((t : ℕ) (before after : ℕ → ℕ) → Half t before after → ℕ) → Turn g t lo s half_time half_lo half_size Half before after → ℕ
    turn_spends t lo s half_time half_lo half_size Half before after half_spends turn =
        signatures g.protocol s (trace turn.run)
        + half_spends (t + g.protocol.rounds s) turn.held turn.answers turn.half
        + count (λ j. not (corrupt (t + g.protocol.rounds s + half_time) (half_lo + j))) half_size * copies s

    unfoldable pub spent : (tree : Tree) (t : ℕ) (before after : ℕ → ℕ) → Exec tree t before after → ℕ
    unfolding Exec
    spent (leaf lo s) t before after e = signatures (protocol_of a) s (trace e.run)
    spent (node lo s l r) t before after e =
        turn_spends t lo s (time a g l) (low l) (size l) (Exec l) before e.between (spent l) e.first
        + turn_spends (t + turn_time g s (time a g l)) lo s (time a g r) (low r) (size r) (Exec r) e.between after (spent r) e.second
