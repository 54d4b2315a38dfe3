-- Nothing that is said of all plays is said of none: every beginning of a play goes on, and so there are plays.
use Rattle.std.specs.Prelude.{◌≡◌, ℕ, suc, ◌<◌, ◌≤◌, Bool, true, false}
use Rattle.message.specs.Tally.{Day}
use Rattle.protocol.specs.Protocol.{Inbox, Protocol}
use Rattle.protocol.specs.Play.{Trace, Played, Play}

-- the trace with other inboxes
abbrev pub with_inboxes : Trace → (ℕ → ℕ → Inbox) → Trace
with_inboxes tr inbox = record { input = tr.input; corrupt = tr.corrupt; inbox = inbox }

-- whoever is corrupt stays so, all through the rounds
abbrev pub OnlyGrows : ℕ → ℕ → (ℕ → ℕ → Bool) → Type 0
OnlyGrows rounds k corrupt = (r i : ℕ) → r < rounds → i < k → corrupt r i ≡ true → corrupt (suc r) i ≡ true

-- a play that goes on from the first n rounds of a trace
pub record Continued {R : Type 0} (p : Protocol R) (k n : ℕ) (tr : Trace) : Type 0 where
  pub inbox : ℕ → ℕ → Inbox
  pub same : (r i : ℕ) → r < n → inbox (suc r) i ≡ tr.inbox (suc r) i
  pub play : Play p k (with_inboxes tr inbox)

-- Every beginning of a play goes on to the end, whoever is taken over from then on.
abbrev pub BeginningsGoOn : Type 0 → Type 0
BeginningsGoOn R =
    (p : Protocol R) (k n : ℕ) (tr : Trace) → n ≤ p.rounds k → Played p k tr n → OnlyGrows (p.rounds k) k tr.corrupt
    → Continued p k n tr

-- For all inputs, and whoever is taken over when, there is a play.
abbrev pub PlaysExist : Type 0 → Type 0
PlaysExist R =
    (p : Protocol R) (k : ℕ) (input : ℕ → ℕ) (corrupt : ℕ → ℕ → Bool)
    → ((i : ℕ) → i < k → corrupt 0 i ≡ false → Day (input i)) → OnlyGrows (p.rounds k) k corrupt
    → (inbox : ℕ → ℕ → Inbox) × Play p k (record { input = input; corrupt = corrupt; inbox = inbox })
