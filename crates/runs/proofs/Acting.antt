-- What the machine leaves is what the rules ask for.
use Rattle.std.proofs.Common.{◌≡◌, ℕ, ◌+◌, ◌*◌, ◌/◌, ◌%◌, ◌<◌, ◌≤◌, cond, ◌&&◌, eqb, ltb, ◌≢◌, ◌⊎◌, List, length, get_or, Some, None, Option, sym, refl, ap, ◌∙◌, ⊎_elim, arith}
use Rattle.std.proofs.lemmas.Nat.{div-mul-add, mod-mul-add, same_from_place}
use Rattle.std.proofs.lemmas.List.FromFn.{length-map-range_with_len, get_or-map-range_with_len}
use Rattle.std.proofs.lemmas.List.{get_or_past, length-set, get_or-set_same, get_or-set_other}
use Rattle.std.proofs.lemmas.Bool.{cases_lt, lt-ltb, le-ltb, cond-true, cond-false}
use Rattle.message.specs.declared.Message.{Message}
use Rattle.message.proofs.Masks.{member_with}
use Rattle.protocol.specs.Grading.{Grading}
use Rattle.protocol.specs.Agreement.{Meaning, Sized}
use Rattle.committee.specs.declared.stages.Stage.{Stage}
use Rattle.runs.specs.State.{Party, State, room, here, nobody}
use Rattle.runs.specs.Round.{party_of, seat_of, ready, spoken}
use Rattle.runs.specs.Wire.{Slots, slot, used, Place, stands, to_parties}
use Rattle.runs.specs.Rules.{speaks, said_by, Opens, Ends, GoesOn, Corrupted, Injected, Heard, Closed}
use Rattle.runs.specs.Machine.{rewired, topic_of, sender_of, silenced, after_corrupting, after_injecting, moved, after_hearing, slot_filled, after_opening, after_ending, going_on, after_closing}
use Rattle.runs.specs.History.{seated, opened}
use Rattle.runs.proofs.Fitting.{round_fits}

-- ---- the slots of places

module _ {st : Stage} {t i j : ℕ} (at : Place st t i j) where
  abbrev s : ℕ
  s = st.committee.size

  abbrev x : ℕ
  x = slot st.committee.size t i j

  slot_row : x / s ≡ t * s + i
  slot_row = div-mul-add (t * st.committee.size + i) st.committee.size j at.receiver

  pub slot_topic : topic_of s x ≡ t
  slot_topic = ap (λ n. n / st.committee.size) slot_row ∙ div-mul-add t st.committee.size i at.sender

  pub slot_sender : sender_of s x ≡ i
  slot_sender = ap (λ n. n % st.committee.size) slot_row ∙ mod-mul-add t st.committee.size i at.sender

  pub slot_used : x < used st
  slot_used = grind arith

-- two places of one slot are one
pub same_slot : {st : Stage} {t i j t' i' j' : ℕ} → Place st t i j → Place st t' i' j'
    → slot st.committee.size t i j ≡ slot st.committee.size t' i' j' → (t ≡ t') × (i ≡ i') × (j ≡ j')
same_slot {st = st} {t = t} {i = i} {j = j} {t' = t'} {i' = i'} {j' = j'} p q e =
    let s = st.committee.size in
    let rows = same_from_place (t * s + i) j (t' * s + i') j' s p.receiver q.receiver e in
    let seats = same_from_place t i t' i' s p.sender q.sender rows.0 in
    (seats.0, seats.1, rows.1)

-- ---- rewired wires

module _ (f : ℕ → Option Message → Option Message) (wire : Slots) where
  rewired_length : length (rewired f wire) ≡ length wire
  rewired_length = length-map-range_with_len (λ x. f x (get_or wire x None)) 0 (length wire)

  rewired_at : (x : ℕ) → x < length wire → get_or (rewired f wire) x None ≡ f x (get_or wire x None)
  rewired_at x h = get_or-map-range_with_len (λ x. f x (get_or wire x None)) 0 (length wire) x x None h (omega arith)

  rewired_past : (x : ℕ) → length wire ≤ x → get_or (rewired f wire) x None ≡ None
  rewired_past x h = get_or_past (rewired f wire) x None (omega (arith, rewired_length))

  -- a slot that gets nothing
  rewired_none : (x : ℕ) → f x (get_or wire x None) ≡ None → get_or (rewired f wire) x None ≡ None
  rewired_none x e = ⊎_elim (λ h. rewired_at x h ∙ e) (λ h. rewired_past x h) (cases_lt x (length wire))

  -- a slot that stays as it was
  rewired_same : (x : ℕ) → f x (get_or wire x None) ≡ get_or wire x None → get_or (rewired f wire) x None ≡ get_or wire x None
  rewired_same x e = ⊎_elim (λ h. rewired_at x h ∙ e) (λ h. rewired_past x h ∙ sym (get_or_past wire x None h)) (cases_lt x (length wire))

module _ {B G : Type 0} (a : Meaning B) (g : Grading G) where
  -- ---- corrupting

  abbrev silent : Stage → ℕ → ℕ → Option Message → Option Message
  silent st p x o = cond (ltb x (used st) && eqb (party_of st (sender_of st.committee.size x)) p) None o

  pub corrupting : (st : Stage) (p : ℕ) (old : State B G) → Corrupted a g st p old (after_corrupting a g st p old)
  unfolding after_corrupting silenced
  corrupting st p old = grind (arith, member_with, rewired_length, rewired_none, rewired_same, slot_used, slot_sender)

  -- ---- injecting

  module _ (st : Stage) (i j t : ℕ) (m : Message) (old : State B G) (at : Place st t (seat_of st i) (seat_of st j)) (fits : used st ≤ length old.wire) where
    abbrev own : ℕ
    own = slot st.committee.size t (seat_of st i) (seat_of st j)

    different : (t' i' j' : ℕ) → Place st t' i' j' → (t' ≢ t) ⊎ ((i' ≢ seat_of st i) ⊎ (j' ≢ seat_of st j)) → slot st.committee.size t' i' j' ≢ own
    different t' i' j' at' apart e = let same = same_slot at' at e in grind arith

    pub injecting : Injected a g st i j t m old (after_injecting a g st i j t m old)
    unfolding after_injecting
    injecting = record {
      parties = refl;
      limit = refl;
      corrupt = refl;
      closings = refl;
      count = refl;
      held = refl;
      there = get_or-set_same old.wire own (Some m) None (omega (arith, slot_used at, fits));
      others = λ t' i' j' at' apart. get_or-set_other old.wire own (slot st.committee.size t' i' j') (Some m) None (different t' i' j' at' apart);
      elsewhere = record {
        long = length-set old.wire own (Some m);
        same = λ y past. get_or-set_other old.wire own y (Some m) None (λ e. omega (arith, e, past, slot_used at));
      };
    }

  -- ---- closing

  module _ (st : Stage) (corrupt : ℕ) (f : ℕ → Party B G → Party B G) (held : List (Party B G)) where
    moved_length : length (moved a g st corrupt f held) ≡ length held
    moved_length = length-map-range_with_len (λ p. let x = get_or held p (nobody a g) in cond (speaks a g st corrupt p) (f (seat_of st p) x) x) 0 (length held)

    moved_at : (p : ℕ) → p < length held
        → get_or (moved a g st corrupt f held) p (nobody a g)
        ≡ cond (speaks a g st corrupt p) (f (seat_of st p) (get_or held p (nobody a g))) (get_or held p (nobody a g))
    moved_at p h =
        get_or-map-range_with_len (λ p. let x = get_or held p (nobody a g) in cond (speaks a g st corrupt p) (f (seat_of st p) x) x) 0 (length held) p p (nobody a g) h (omega arith)

  hearing : (st : Stage) (old : State B G) → Heard a g st old (after_hearing a g st old)
  unfolding after_hearing
  hearing st old = grind (arith, moved_length, moved_at)

  ending : (old : State B G) → Ends a g old (after_ending a g old)
  unfolding after_ending
  ending old = grind (arith, rewired_length, rewired_none, rewired_same)

  -- the next round
  module _ (st : Stage) (old : State B G) (within : used st ≤ room old.parties) (fits : room old.parties ≤ length old.wire) where
    abbrev says : ℕ → Party B G → Party B G
    says i x = spoken a g st i (ready a g st i x)

    abbrev held : List (Party B G)
    held = moved a g st old.corrupt says old.held

    abbrev filled : ℕ → Option Message → Option Message
    filled = slot_filled a g st old.corrupt held old.parties

    beyond : (x : ℕ) → used st ≤ x → filled x (get_or old.wire x None) ≡ cond (ltb x (room old.parties)) None (get_or old.wire x None)
    beyond x past = cond-false _ _ _ (le-ltb x (used st) past)

    said_at : (t i j : ℕ) → Place st t i j
        → stands st (rewired filled old.wire) t i j ≡ to_parties st.committee.first (said_by a g st old.corrupt held t i)
    said_at t i j at =
        rewired_at filled old.wire (slot st.committee.size t i j) (omega (arith, slot_used at, within, fits))
        ∙ cond-true _ _ _ (lt-ltb (slot st.committee.size t i j) (used st) (slot_used at))
        ∙ ap (λ n. to_parties st.committee.first (said_by a g st old.corrupt held n (sender_of st.committee.size (slot st.committee.size t i j)))) (slot_topic at)
        ∙ ap (λ n. to_parties st.committee.first (said_by a g st old.corrupt held t n)) (slot_sender at)

    opening : Opens a g st old (after_opening a g st old)
    unfolding after_opening
    opening = record {
      parties = refl;
      limit = refl;
      corrupt = refl;
      closings = refl;
      counted = refl;
      everybody = moved_length st old.corrupt says old.held;
      speakers = λ p h on. moved_at st old.corrupt says old.held p h ∙ cond-true _ _ _ on;
      silent = λ p h off. moved_at st old.corrupt says old.held p h ∙ cond-false _ _ _ off;
      long = rewired_length filled old.wire;
      said = said_at;
      nothing_else = λ x past h. rewired_none filled old.wire x (beyond x past ∙ cond-true _ _ _ (lt-ltb x (room old.parties) h));
      untouched = λ x past h. rewired_same filled old.wire x (beyond x past ∙ cond-false _ _ _ (le-ltb x (room old.parties) h));
    }

  module _ (sized : Sized a) where
    next : (o : Option Stage) (old : State B G) → here a g old ≡ o → room old.parties ≤ length old.wire → GoesOn a g o old (going_on a g o old)
    unfolding going_on
    next None old e fits = ending old
    next (Some st) old e fits = opening st old (round_fits a g sized old.parties old.closings st e).slots fits

    pub closing : (st : Stage) (old : State B G) → room old.parties ≤ length old.wire → Closed a g st old (after_closing a g st old)
    unfolding after_closing
    closing st old fits =
        let between = after_hearing a g st old in
        let heard = hearing st old in
        record {
          between = between;
          heard = heard;
          goes_on = next (here a g between) between refl (rw (heard.wire, heard.parties) fits);
        }

    pub opens : (n b : ℕ) (inputs : List ℕ) (wire : List (Option Message)) → room n ≤ length wire
        → let s = seated a g n b inputs wire in GoesOn a g (here a g s) s (opened a g n b inputs wire)
    unfolding opened seated
    opens n b inputs wire long = next (here a g (seated a g n b inputs wire)) (seated a g n b inputs wire) refl long
