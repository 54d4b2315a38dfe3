-- A relay as it is kept is known by the relay alone: that its seats are few is no part of what it holds.
use Rattle.std.specs.Prelude.{◌≡◌, ◌<◌, ◌≤◌}
use Rattle.std.proofs.Common.{subst, ap₂}
use Rattle.std.proofs.Math.Bridge.{le_prop}
use Rattle.base.specs.declared.keeping.Kept.{Kept}

pub same_kept : (a b : Kept) → a.relay ≡ b.relay → a ≡ b
same_kept a b same =
    subst (λ r. (few : r.seats ≤ 4) (seated : r.own < r.seats) → a ≡ record { relay = r; few = few; seated = seated }) same
    (λ few seated. ap₂ (λ f s. record { relay = a.relay; few = f; seated = s }) (le_prop a.few few) (le_prop a.seated seated))
    b.few b.seated
