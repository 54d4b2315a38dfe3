-- The rules allow at most one outcome of a call.
use Rattle.std.proofs.Common.{◌≡◌, ℕ, ◌<◌, Bool, true, false, List, length, get_or, Some, None, Option, sym, refl, ◌∙◌, subst, ⊎_elim, arith}
use Rattle.std.proofs.lemmas.List.{ext_get_or}
use Rattle.std.proofs.lemmas.Bool.{cases_Bool, cases_eq, cases_lt}
use Rattle.std.proofs.lemmas.Option.{same_Some}
use Rattle.message.specs.declared.Message.{Message}
use Rattle.message.proofs.Masks.{same_set}
use Rattle.protocol.specs.Grading.{Grading}
use Rattle.protocol.specs.Agreement.{Meaning}
use Rattle.committee.specs.declared.stages.Stage.{Stage}
use Rattle.runs.specs.State.{Party, State, here, nobody}
use Rattle.runs.specs.Calls.{message, Call}
use Rattle.runs.specs.Rules.{Answer, speaks, Opens, Ends, GoesOn, Corrupted, Injected, Heard, Closed, Does, corrupted, injected, closed, decision, signatures, closings, Outcome}
use Rattle.runs.proofs.Slots.{same_or_apart, same_wires}

module _ {B G : Type 0} (a : Meaning B) (g : Grading G) where
  -- a state is known by its parts
  same_state : (s s' : State B G) → s.parties ≡ s'.parties → s.limit ≡ s'.limit → s.corrupt ≡ s'.corrupt → s.closings ≡ s'.closings
      → s.count ≡ s'.count → s.held ≡ s'.held → s.wire ≡ s'.wire → s ≡ s'
  same_state s s' n b c t k h w = grind arith

  -- two lists of n parties that hold the same, those that pass a test and the others
  same_held : (n : ℕ) (test : ℕ → Bool) (xs ys : List (Party B G)) → length xs ≡ n → length ys ≡ n
      → ((p : ℕ) → p < n → test p ≡ true → get_or xs p (nobody a g) ≡ get_or ys p (nobody a g))
      → ((p : ℕ) → p < n → test p ≡ false → get_or xs p (nobody a g) ≡ get_or ys p (nobody a g)) → xs ≡ ys
  same_held n test xs ys long long' on off =
      ext_get_or (nobody a g) xs ys (long ∙ sym long') (λ p h. let h' : p < n = omega (arith, h, long) in ⊎_elim (on p h') (off p h') (cases_Bool (test p)))

  module _ (st : Stage) (old : State B G) where
    one_opening : (u v : State B G) → Opens a g st old u → Opens a g st old v → u ≡ v
    one_opening u v x y =
        let held = same_held (length old.held) (speaks a g st old.corrupt) u.held v.held x.everybody y.everybody (λ p h on. grind arith) (λ p h off. grind arith) in
        let wire = same_wires st u.wire v.wire (x.long ∙ sym y.long) (λ t i j place. grind arith) (λ n past. grind (arith, cases_lt)) in
        grind (arith, same_state)

    one_hearing : (u v : State B G) → Heard a g st old u → Heard a g st old v → u ≡ v
    one_hearing u v x y =
        let held = same_held (length old.held) (speaks a g st old.corrupt) u.held v.held x.everybody y.everybody (λ p h on. grind arith) (λ p h off. grind arith) in
        grind (arith, same_state)

    one_corruption : (p : ℕ) (u v : State B G) → Corrupted a g st p old u → Corrupted a g st p old v → u ≡ v
    one_corruption p u v x y =
        let set = same_set u.corrupt v.corrupt (λ q. x.corrupt q ∙ sym (y.corrupt q)) in
        let wire = same_wires st u.wire v.wire (x.elsewhere.long ∙ sym y.elsewhere.long) (λ t i j at. grind (arith, cases_eq)) (λ n past. grind arith) in
        grind (arith, same_state)

    one_injection : (i j t : ℕ) (m : Message) (u v : State B G) → Injected a g st i j t m old u → Injected a g st i j t m old v → u ≡ v
    one_injection i j t m u v x y =
        let wire = same_wires st u.wire v.wire (x.elsewhere.long ∙ sym y.elsewhere.long) (λ t' i' j' at. grind (arith, same_or_apart)) (λ n past. grind arith) in
        grind (arith, same_state)

  one_end : (old u v : State B G) → Ends a g old u → Ends a g old v → u ≡ v
  one_end old u v x y =
      let wire = ext_get_or None u.wire v.wire (x.long ∙ sym y.long) (λ n _. grind (arith, cases_lt)) in grind (arith, same_state)

  one_way_on : (o : Option Stage) (old u v : State B G) → GoesOn a g o old u → GoesOn a g o old v → u ≡ v
  one_way_on None old u v x y = one_end old u v x y
  one_way_on (Some st) old u v x y = one_opening st old u v x y

  one_closing : (st : Stage) (old u v : State B G) → Closed a g st old u → Closed a g st old v → u ≡ v
  one_closing st old u v x y =
      let same = one_hearing st old x.between y.between x.heard y.heard in
      one_way_on (here a g y.between) y.between u v (subst (λ m. GoesOn a g (here a g m) m u) same x.goes_on) y.goes_on

  -- what an accepted call does
  one_doing : (s : State B G) {u v : State B G} {c : Call} {x y : Answer} → Does a g s c x u → Does a g s c y v → (x ≡ y) × (u ≡ v)
  one_doing s (corrupted {p = p} {st = st} {new = u} e d) (corrupted {st = st'} {new = v} e' d') =
      (refl, one_corruption st s p u v d (subst (λ z. Corrupted a g z p s v) (same_Some st' st (sym e' ∙ e)) d'))
  one_doing s (injected {i = i} {j = j} {t = t} {day = day} {signers = signers} {st = st} {new = u} e d) (injected {st = st'} {new = v} e' d') =
      (refl, one_injection st s i j t _ u v d (subst (λ z. Injected a g z i j t (message day signers) s v) (same_Some st' st (sym e' ∙ e)) d'))
  one_doing s (closed {st = st} {new = u} e d) (closed {st = st'} {new = v} e' d') =
      (refl, one_closing st s u v d (subst (λ z. Closed a g z s v) (same_Some st' st (sym e' ∙ e)) d'))
  one_doing s decision decision = (refl, refl)
  one_doing s signatures signatures = (refl, refl)
  one_doing s closings closings = (refl, refl)

  -- the outcome of a call
  pub one_outcome : (s : State B G) (c : Call) {x y : Answer} {u v : State B G} → Outcome a g s c x u → Outcome a g s c y v → (x ≡ y) × (u ≡ v)
  one_outcome s c on on' = grind (arith, one_doing)
