-- From an adversary that takes over seats as it goes on to one that has had them from the start.
use Rattle.std.specs.Prelude.{◌≡◌, ℕ, ◌<◌, Bool, true}
use Rattle.protocol.specs.Protocol.{Protocol, WellFormed}
use Rattle.protocol.specs.Play.{Trace, Play}
use Rattle.protocol.specs.Discipline.{Disciplined}

-- the same happenings, with the seats of F corrupt from the start and no others
abbrev pub frozen : (ℕ → Bool) → Trace → Trace
frozen F tr = record { input = tr.input; corrupt = λ _ i. F i; inbox = tr.inbox }

-- A play is also a play with all those corrupt from the start that are corrupt in the end, and perhaps others: what they said while honest
-- had a form and signatures that existed, so it passes as a corrupt seat's.
abbrev pub PlaysFreeze : Type 0 → Type 0
PlaysFreeze R =
    (p : Protocol R) (k : ℕ) (tr : Trace) (F : ℕ → Bool) → WellFormed p k → Disciplined p k → Play p k tr
    → ((i : ℕ) → i < k → tr.corrupt (p.rounds k) i ≡ true → F i ≡ true) → Play p k (frozen F tr)
