-- Every slot of the open round is a place, and every place has its own slot.
use Rattle.std.proofs.Common.{◌≡◌, ℕ, ◌+◌, ◌*◌, ◌/◌, ◌%◌, ◌<◌, ◌≤◌, ◌≢◌, ◌⊎◌, length, get_or, None, sym, ap, ◌∙◌, inl, inr, ⊎_elim, arith}
use Rattle.std.proofs.lemmas.Nat.{div-add-mod', div_below, mod_below}
use Rattle.std.proofs.lemmas.List.{ext_get_or}
use Rattle.std.proofs.lemmas.Bool.{cases_eq, cases_lt}
use Rattle.std.proofs.Math.Logic.{⊎_map}
use Rattle.committee.specs.declared.stages.Stage.{Stage}
use Rattle.runs.specs.Round.{work, topics_for}
use Rattle.runs.specs.Wire.{Slots, slot, used, Place, stands}

-- the place that a slot is
pub record At (st : Stage) (x : ℕ) : Type 0 where
  pub topic : ℕ
  pub sender : ℕ
  pub receiver : ℕ
  pub place : Place st topic sender receiver
  pub is : slot st.committee.size topic sender receiver ≡ x

some_seats : (T s x : ℕ) → x < T * s * s → 0 < s
some_seats T s x h = grind arith

pub place_of : (st : Stage) (x : ℕ) → x < used st → At st x
place_of st x h =
    let s = st.committee.size in
    let T = topics_for (work st) in
    let some = some_seats (topics_for (work st)) st.committee.size x h in
    let row : x / s < T * s = div_below x st.committee.size (topics_for (work st) * st.committee.size) some h in
    record {
      topic = x / s / s;
      sender = x / s % s;
      receiver = x % s;
      place = record {
        a_topic = div_below (x / st.committee.size) st.committee.size (topics_for (work st)) some row;
        sender = mod_below (x / st.committee.size) st.committee.size some;
        receiver = mod_below x st.committee.size some;
      };
      is = ap (λ n. n * s + x % s) (div-add-mod' (x / st.committee.size) st.committee.size) ∙ div-add-mod' x st.committee.size;
    }

-- a place is another one, or differs in its topic, its sender or its receiver
pub same_or_apart : (t i j t' i' j' : ℕ) → ((t' ≡ t) × (i' ≡ i) × (j' ≡ j)) ⊎ ((t' ≢ t) ⊎ ((i' ≢ i) ⊎ (j' ≢ j)))
same_or_apart t i j t' i' j' =
    ⊎_elim
    (λ et. ⊎_elim (λ ei. ⊎_map (λ ej. (et, ei, ej)) (λ off. inr (inr off)) (cases_eq j' j)) (λ off. inr (inr (inl off))) (cases_eq i' i))
    (λ off. inr (inl off))
    (cases_eq t' t)

-- wires are the same if the same stands in every place of the round and elsewhere
pub same_wires : (st : Stage) (v w : Slots) → length v ≡ length w
    → ((t i j : ℕ) → Place st t i j → stands st v t i j ≡ stands st w t i j)
    → ((x : ℕ) → used st ≤ x → get_or v x None ≡ get_or w x None) → v ≡ w
same_wires st v w long places rest =
    ext_get_or None v w long
    (λ x _.
    ⊎_elim
    (λ inside.
    let at = place_of st x inside in
    ap (λ n. get_or v n None) (sym at.is) ∙ places at.topic at.sender at.receiver at.place ∙ ap (λ n. get_or w n None) at.is)
    (λ outside. rest x outside)
    (cases_lt x (used st)))
