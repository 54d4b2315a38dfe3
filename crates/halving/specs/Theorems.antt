-- What holds of every execution, for every lawful base agreement and every lawful graded agreement.
use Rattle.std.specs.Prelude.{◌≡◌, ℕ, suc, ◌+◌, ◌*◌, ◌<◌, ◌≤◌, Bool, true, false}
use Rattle.message.specs.Count.{count}
use Rattle.message.specs.Tally.{Day}
use Rattle.protocol.specs.Protocol.{WellFormed}
use Rattle.protocol.specs.Play.{Trace, Play}
use Rattle.protocol.specs.Cost.{signatures}
use Rattle.protocol.specs.Discipline.{Disciplined}
use Rattle.protocol.specs.Grading.{Grading, Graded, LeavesWithDays, grade_of}
use Rattle.protocol.specs.Agreement.{Meaning, WithinBound, Sized, Agrees, StaysWithinBound, KeepsDiscipline}
use Rattle.committee.specs.Tree.{Tree, node, low, size, Halved, bound}
use Rattle.halving.specs.Execution.{HonestAt, trace, Turns, time, turn_time, Exec, spent}

-- whoever is corrupt stays so
abbrev pub OnlyGrows : (ℕ → ℕ → Bool) → Type 0
OnlyGrows corrupt = (t p : ℕ) → corrupt t p ≡ true → corrupt (suc t) p ≡ true

-- fewer than a d-th of s parties from lo on are in F
abbrev pub FewIn : ℕ → (ℕ → Bool) → ℕ → ℕ → Type 0
FewIn d F lo s = d * count (λ i. F (lo + i)) s < s

-- Of s parties from lo on, any two outside F hold one day after, and their common day before, if all outside F had one.
pub record Agreed (F : ℕ → Bool) (lo s : ℕ) (before after : ℕ → ℕ) : Type 0 where
  pub one : (i j : ℕ) → i < s → j < s → F (lo + i) ≡ false → F (lo + j) ≡ false → after (lo + i) ≡ after (lo + j)
  pub common : (v : ℕ) → ((i : ℕ) → i < s → F (lo + i) ≡ false → before (lo + i) ≡ v)
      → (i : ℕ) → i < s → F (lo + i) ≡ false → after (lo + i) ≡ v

-- what the argument asks of a graded agreement, for a d-th
pub record LawfulGrading (d : ℕ) {G : Type 0} (g : Grading G) : Type 0 where
  pub forms : (k : ℕ) → WellFormed g.protocol k
  pub graded : Graded d g
  pub discipline : (k : ℕ) → Disciplined g.protocol k

-- Halves agree. F holds whoever is corrupt when the execution of the committee is at its end, and perhaps others, corrupted later.
abbrev pub HalvesAgree : Type 0 → Type 0 → Type 0
HalvesAgree B G =
    (a : Meaning B) (g : Grading G) (d : ℕ) → 2 ≤ d → Sized a → Agrees a → KeepsDiscipline a → LawfulGrading d g
    → (corrupt : ℕ → ℕ → Bool) → OnlyGrows corrupt → (F : ℕ → Bool) (tree : Tree) → Halved a.most tree
    → (t : ℕ) (before after : ℕ → ℕ) → Exec corrupt a g tree t before after
    → ((i : ℕ) → i < size tree → corrupt (t + time a g tree) (low tree + i) ≡ true → F (low tree + i) ≡ true)
    → FewIn d F (low tree) (size tree) → Agreed F (low tree) (size tree) before after

-- What honest parties send, each counted when its round opens, stays within the bound, and that within 22s² − 11.
abbrev pub HalvingStaysWithinBound : Type 0 → Type 0 → Type 0
HalvingStaysWithinBound B G =
    (a : Meaning B) (g : Grading G) → StaysWithinBound a
    → ((k : ℕ) (tr : Trace) → Play g.protocol k tr → signatures g.protocol k tr ≤ 5 * (k * k))
    → (corrupt : ℕ → ℕ → Bool) (tree : Tree) → Halved a.most tree → (t : ℕ) (before after : ℕ → ℕ) (e : Exec corrupt a g tree t before after)
    → (spent corrupt a g tree t before after e ≤ bound tree) × WithinBound (size tree) (bound tree)

-- the parties of a committee that are honest at a time hold days
abbrev pub HoldDays : (ℕ → ℕ → Bool) → ℕ → ℕ → ℕ → (ℕ → ℕ) → Type 0
HoldDays corrupt t lo s day = (i : ℕ) → i < s → HonestAt corrupt t (lo + i) → Day (day (lo + i))

-- For every tree, all days that its parties may hold, and whoever is corrupted when, there is an execution.
abbrev pub ExecutionsExist : Type 0 → Type 0 → Type 0
ExecutionsExist B G =
    (a : Meaning B) (g : Grading G) → Agrees a → LeavesWithDays g
    → (corrupt : ℕ → ℕ → Bool) → OnlyGrows corrupt → (tree : Tree) → Halved a.most tree → (t : ℕ) (before : ℕ → ℕ)
    → HoldDays corrupt t (low tree) (size tree) before → (after : ℕ → ℕ) × Exec corrupt a g tree t before after

-- Where nobody is corrupt before the last report, all parties hold one day at grade 1 when that report opens.
abbrev pub HonestExecutionsEndSure : Type 0 → Type 0 → Type 0
HonestExecutionsEndSure B G =
    (a : Meaning B) (g : Grading G) (d : ℕ) → 2 ≤ d → Sized a → Agrees a → KeepsDiscipline a → LawfulGrading d g
    → (corrupt : ℕ → ℕ → Bool) → OnlyGrows corrupt → (lo s : ℕ) (l r : Tree) → Halved a.most (node lo s l r)
    → (t : ℕ) (before after : ℕ → ℕ) (turns : Turns corrupt a g t lo s l r (Exec corrupt a g l) (Exec corrupt a g r) before after)
    → ((i : ℕ) → i < s → HonestAt corrupt (t + turn_time g s (time a g l) + g.protocol.rounds s + time a g r) (lo + i))
    → (v : ℕ) × ((i : ℕ) → i < s → (turns.second.held (lo + i) ≡ v) × (grade_of g s (trace corrupt turns.second.run) i ≡ true))
