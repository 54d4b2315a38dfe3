-- What histories leave alone: the slots beyond the room, and all but b parties.
use Rattle.std.proofs.Common.{◌≡◌, ℕ, ◌+◌, ◌<◌, ◌≤◌, true, ◌||◌, eqb, List, length, get_or, Some, None, Option, sym, refl, ◌∙◌, subst, ⊎_elim, arith}
use Rattle.std.proofs.Math.Nat.{lt_of_not-le}
use Rattle.std.proofs.lemmas.Bool.{eqb-true, or_cases}
use Rattle.message.specs.Members.{member, size, Holds}
use Rattle.message.proofs.Counting.{count_same, count_or_and, count_one, count_none}
use Rattle.message.proofs.Masks.{member_none}
use Rattle.protocol.specs.Grading.{Grading}
use Rattle.protocol.specs.Agreement.{Meaning, Sized}
use Rattle.committee.specs.declared.stages.Stage.{Stage}
use Rattle.runs.specs.State.{State, room, here}
use Rattle.runs.specs.Wire.{Slots, used, ElsewhereSame}
use Rattle.runs.specs.Calls.{Call, corrupts, Over, Applies, no_party_corrupts, limit_reached}
use Rattle.runs.specs.Rules.{Answer, GoesOn, Closed, Does, corrupted, injected, closed, decision, signatures, closings, refuses, accepts}
use Rattle.runs.specs.History.{seated, opened, History, begins, goes_on}
use Rattle.runs.specs.Theorems.{KeepsToItsRoom}
use Rattle.runs.proofs.Fitting.{round_fits}
use Rattle.runs.proofs.Acting.{opens}
use Rattle.runs.proofs.Histories.{going_keeps, going_corrupt, doing_keeps}

-- one more corrupt party
one_more : (n p old new : ℕ) → Holds new (λ q. eqb q p || member q old) → size n new ≤ 1 + size n old
one_more n p old new holds =
    let same = count_same (λ q. member q new) (λ q. eqb q p || member q old) n (λ q _. holds q) in
    let parts = count_or_and (λ q. eqb q p) (λ q. member q old) n in
    let one = count_one (λ q. eqb q p) p n (λ q e. eqb-true q p e) in
    omega (arith, same, parts, one)

module _ {B G : Type 0} (a : Meaning B) (g : Grading G) (sized : Sized a) where
  fits_here : (s : State B G) (st : Stage) → here a g s ≡ Some st → used st ≤ room s.parties
  fits_here s st now = (round_fits a g sized s.parties s.closings st now).slots

  -- the wire keeps its length, and what stands beyond the room
  record KeepsWire (s new : State B G) : Type 0 where
    long : length new.wire ≡ length s.wire
    untouched : (x : ℕ) → room s.parties ≤ x → get_or new.wire x None ≡ get_or s.wire x None

  going_on_keeps : (o : Option Stage) (s new : State B G) → here a g s ≡ o → GoesOn a g o s new → KeepsWire s new
  going_on_keeps o s new now on = grind (arith, fits_here)

  closing_keeps_wire : (st : Stage) (s new : State B G) → Closed a g st s new → KeepsWire s new
  closing_keeps_wire st s new shut = grind (arith, going_on_keeps)

  elsewhere_keeps : (s new : State B G) (st : Stage) → here a g s ≡ Some st → ElsewhereSame st s.wire new.wire → KeepsWire s new
  elsewhere_keeps s new st now same = grind (arith, fits_here)

  doing_keeps_wire : {s new : State B G} {c : Call} {x : Answer} → Does a g s c x new → KeepsWire s new
  doing_keeps_wire {s = s} {new = new} (corrupted {st = st} now d) = elsewhere_keeps s new st now d.elsewhere
  doing_keeps_wire {s = s} {new = new} (injected {st = st} now d) = elsewhere_keeps s new st now d.elsewhere
  doing_keeps_wire {s = s} {new = new} (closed {st = st} _ d) = closing_keeps_wire st s new d
  doing_keeps_wire decision = grind arith
  doing_keeps_wire signatures = grind arith
  doing_keeps_wire closings = grind arith

  -- ---- empty at the end

  abbrev Empty : State B G → Type 0
  Empty s = (x : ℕ) → x < room s.parties → get_or s.wire x None ≡ None

  going_on_empties : (o : Option Stage) (s new : State B G) → here a g s ≡ o → GoesOn a g o s new → Over a g new → Empty new
  going_on_empties o s new now on over = grind arith

  doing_empties : {s new : State B G} {c : Call} {x : Answer} → Does a g s c x new → (Over a g s → Empty s) → Over a g new → Empty new
  doing_empties d empty over = grind arith

  -- ---- who is corrupt

  record Few (n b corrupt : ℕ) : Type 0 where
    parties : (p : ℕ) → member p corrupt ≡ true → p < n
    limit : size n corrupt ≤ b

  nobody_corrupt : (n b : ℕ) → Few n b 0
  nobody_corrupt n b =
      grind (arith, count_none, member_none)

  few_with : (s : State B G) (p corrupt : ℕ) → ((k : ℕ) → Applies a g s (corrupts p) k → ⊥) → Holds corrupt (λ q. eqb q p || member q s.corrupt)
      → Few s.parties s.limit s.corrupt → Few s.parties s.limit corrupt
  few_with s p corrupt none holds few = record {
    parties = λ q on.
        ⊎_elim (λ e. rw (eqb-true q p e) (lt_of_not-le (λ past. none 5 (no_party_corrupts past)))) (few.parties q)
        (or_cases (eqb q p) (member q s.corrupt) (sym (holds q) ∙ on));
    limit = let some_left = lt_of_not-le (λ full. none 22 (limit_reached full)) in omega (arith, one_more s.parties p s.corrupt corrupt holds, some_left);
  }

  doing_few : {s new : State B G} {c : Call} {x : Answer} → ((k : ℕ) → Applies a g s c k → ⊥) → Does a g s c x new
      → Few s.parties s.limit s.corrupt → Few s.parties s.limit new.corrupt
  doing_few {s = s} {new = new} none (corrupted {p = p} _ d) few = few_with s p new.corrupt none d.corrupt few
  doing_few none (injected _ d) few = grind arith
  doing_few none (closed _ d) few = grind (arith, going_corrupt)
  doing_few none decision few = few
  doing_few none signatures few = few
  doing_few none closings few = few

  -- ---- histories

  module _ (n b : ℕ) (inputs : List ℕ) (wire : Slots) (long : room n ≤ length wire) where
    opened_keeps : KeepsToItsRoom a g n b wire (opened a g n b inputs wire)
    unfolding seated
    opened_keeps =
        let s = seated a g n b inputs wire in
        let o = here a g s in
        let new = opened a g n b inputs wire in
        let on = opens a g sized n b inputs wire long in
        let kept = going_on_keeps o s new refl on in
        let same = going_keeps a g o s new on in
        let few = subst (Few n b) (sym (going_corrupt a g o s new on)) (nobody_corrupt n b) in
        record {
          parties = same.parties;
          limit = same.limit;
          corrupt_parties = few.parties;
          within_limit = few.limit;
          long = kept.long;
          untouched = kept.untouched;
          empty = λ over x h. going_on_empties o s new refl on over x (rw same.parties h);
        }

    pub history_keeps : (events : List (Call × Answer)) (s : State B G) → History a g (opened a g n b inputs wire) events s → KeepsToItsRoom a g n b wire s
    history_keeps events s begins = opened_keeps
    history_keeps events s (goes_on {events = before} h (refuses _ _)) = history_keeps before s h
    history_keeps events new (goes_on {events = before} {s = s} h (accepts none d)) =
        let old = history_keeps before s h in
        let kept = doing_keeps_wire d in
        let same = doing_keeps a g d in
        let few = doing_few none d (rw (old.parties, old.limit) (record { parties = old.corrupt_parties; limit = old.within_limit })) in
        let few_now : Few n b new.corrupt = rw (← old.parties, ← old.limit) few in
        record {
          parties = same.parties ∙ old.parties;
          limit = same.limit ∙ old.limit;
          corrupt_parties = few_now.parties;
          within_limit = few_now.limit;
          long = kept.long ∙ old.long;
          untouched = λ x past. kept.untouched x (rw old.parties past) ∙ old.untouched x past;
          empty = λ over x h. doing_empties d (λ was y below. old.empty was y (rw old.parties at below)) over x (rw (same.parties, old.parties) h);
        }
