-- Every beginning of a play goes on: from then on the corrupt seats are silent.
use Rattle.std.proofs.Common.{◌≡◌, ℕ, zero, suc, ◌+◌, ◌*◌, ◌/◌, ◌%◌, ◌<◌, ◌≤◌, true, false, cond, ltb, [], map, length, Some, None, Option, sym, refl, ap, ◌∙◌, inl, inr, ⊎_elim, arith}
use Rattle.std.specs.List.{range_with_len}
use Rattle.std.proofs.lemmas.Nat.{mul-add-lt, div-mul-add, mod-mul-add}
use Rattle.std.proofs.lemmas.List.FromFn.{get_or-map-range_with_len, length-map-range_with_len}
use Rattle.std.proofs.lemmas.Option.{none-some}
use Rattle.std.proofs.lemmas.Bool.{cond-true, cond-false, cases_lt, lt-ltb, le-ltb}
use Rattle.message.specs.declared.Message.{Message}
use Rattle.protocol.specs.Protocol.{Inbox, Protocol, arrived}
use Rattle.protocol.specs.Play.{Trace, state, says, hears, Sends, Said, Possible, Played}
use Rattle.protocol.specs.Existence.{with_inboxes, OnlyGrows, Continued, BeginningsGoOn, PlaysExist}

module _ {R : Type 0} (p : Protocol R) (k n : ℕ) (tr : Trace) where
  -- place x of an inbox in round suc r, if the seats keep this and the corrupt ones are silent
  place : (ℕ → R) → ℕ → ℕ → Option Message
  place kept r x = cond (tr.corrupt (suc r) (x % k)) None (p.send (kept (x % k)) (suc r) (x / k))

  quiet : (ℕ → R) → ℕ → Inbox
  quiet kept r = map (place kept r) (range_with_len 0 (p.topics * k))

  box : (ℕ → R) → ℕ → ℕ → Inbox
  box kept r i = cond (ltb r n) (tr.inbox (suc r) i) (quiet kept r)

  kept : ℕ → ℕ → R
  kept zero i = p.start k i (tr.input i)
  kept (suc r) i = p.hear (kept r i) (suc r) (box (kept r) r i)

  boxes : ℕ → ℕ → Inbox
  boxes zero i = []
  boxes (suc r) i = box (kept r) r i

  abbrev onward : Trace
  onward = with_inboxes tr boxes

  keeps : (r i : ℕ) → state p k onward r i ≡ kept r i
  unfolding state kept boxes
  keeps zero i = refl
  keeps (suc r) i = ap (λ s. p.hear s (suc r) (box (kept r) r i)) (keeps r i)

  -- in the first n rounds nothing is changed
  old_box : (r i : ℕ) → r < n → boxes (suc r) i ≡ tr.inbox (suc r) i
  unfolding boxes box
  old_box r i h = cond-true (ltb r n) (tr.inbox (suc r) i) (quiet (kept r) r) (lt-ltb r n h)

  old_state : (r i : ℕ) → r ≤ n → state p k onward r i ≡ state p k tr r i
  unfolding state
  old_state zero i h = refl
  old_state (suc r) i h =
      ap (λ s. p.hear s (suc r) (boxes (suc r) i)) (old_state r i (omega arith))
      ∙ ap (p.hear (state p k tr r i) (suc r)) (old_box r i h)

  old_says : (r t i : ℕ) → r ≤ n → says p k onward r t i ≡ says p k tr r t i
  old_says r t i h = ap (λ s. p.send s (suc r) t) (old_state r i h)

  old_hears : (r t j i : ℕ) → r < n → hears p k onward r t j i ≡ hears p k tr r t j i
  old_hears r t j i h = ap (λ x. arrived k x t j) (old_box r i h)

  -- after them each slot is as made
  new_box : (r i : ℕ) → n ≤ r → boxes (suc r) i ≡ quiet (kept r) r
  unfolding boxes box
  new_box r i h = cond-false (ltb r n) (tr.inbox (suc r) i) (quiet (kept r) r) (le-ltb r n h)

  new_hears : (r t j i : ℕ) → n ≤ r → t < p.topics → j < k
      → hears p k onward r t j i ≡ cond (tr.corrupt (suc r) j) None (says p k onward r t j)
  unfolding arrived quiet place
  new_hears r t j i h ht hj =
      ap (λ x. arrived k x t j) (new_box r i h)
      ∙ get_or-map-range_with_len (place (kept r) r) 0 (p.topics * k) (t * k + j) (t * k + j) None (omega (arith, mul-add-lt t k j p.topics ht hj)) (omega arith)
      ∙ ap (λ x. cond (tr.corrupt (suc r) x) None (p.send (kept r x) (suc r) ((t * k + j) / k))) (mod-mul-add t k j hj)
      ∙ ap (λ x. cond (tr.corrupt (suc r) j) None (p.send (kept r j) (suc r) x)) (div-mul-add t k j hj)
      ∙ ap (λ s. cond (tr.corrupt (suc r) j) None (p.send s (suc r) t)) (sym (keeps r j))

  -- what was sent and said in the first n rounds still is
  still_sends : (r t i : ℕ) (m : Message) → r ≤ n → Sends p k tr r t i m → Sends p k onward r t i m
  still_sends r t i m h s = record {
    a_round = s.a_round;
    a_topic = s.a_topic;
    a_seat = s.a_seat;
    honest = s.honest;
    says_it = old_says r t i h ∙ s.says_it;
  }

  still_said : (r about day s : ℕ) → r ≤ n → Said p k tr r about day s → Said p k onward r about day s
  still_said r about day s h it = record {
    before = it.before;
    topic = it.topic;
    message = it.message;
    by_then = it.by_then;
    sends = still_sends it.before it.topic s it.message (omega (arith, it.by_then)) it.sends;
    listed = it.listed;
    of_kind = it.of_kind;
    on_day = it.on_day;
    signed = it.signed;
  }

  still_possible : (r t j : ℕ) (m : Message) → r < n → Possible p k tr r t j m → Possible p k onward r t j m
  still_possible r t j m h it = record {
    a_day = it.a_day;
    has_signers = it.has_signers;
    the_form = it.the_form;
    formed = it.formed;
    unforged = λ s hs e. ⊎_elim inl (λ said. inr (still_said (suc r) (p.kind (suc r) t) m.day s h said)) (it.unforged s hs e);
  }

  module _ (begun : Played p k tr n) (grows : OnlyGrows (p.rounds k) k tr.corrupt) where
    whole : (r i : ℕ) → r < p.rounds k → i < k → length (boxes (suc r) i) ≡ p.topics * k
    unfolding quiet
    whole r i hr hi =
        ⊎_elim
        (λ old. ap length (old_box r i old) ∙ begun.whole r i old hi)
        (λ new. ap length (new_box r i new) ∙ length-map-range_with_len (place (kept r) r) 0 (p.topics * k))
        (cases_lt r n)

    from_honest : (r t j i : ℕ) → r < p.rounds k → t < p.topics → j < k → i < k → tr.corrupt (suc r) j ≡ false
        → hears p k onward r t j i ≡ says p k onward r t j
    from_honest r t j i hr ht hj hi good =
        ⊎_elim
        (λ old. old_hears r t j i old ∙ begun.from_honest r t j i old ht hj hi good ∙ sym (old_says r t j (omega arith)))
        (λ new. new_hears r t j i new ht hj ∙ cond-false (tr.corrupt (suc r) j) None (says p k onward r t j) good)
        (cases_lt r n)

    from_corrupt : (r t j i : ℕ) → r < p.rounds k → t < p.topics → j < k → i < k → tr.corrupt (suc r) j ≡ true
        → (m : Message) → hears p k onward r t j i ≡ Some m → Possible p k onward r t j m
    from_corrupt r t j i hr ht hj hi bad m e =
        ⊎_elim
        (λ old. still_possible r t j m old (begun.from_corrupt r t j i old ht hj hi bad m (sym (old_hears r t j i old) ∙ e)))
        (λ new.
        absurd (none-some m (sym (new_hears r t j i new ht hj ∙ cond-true (tr.corrupt (suc r) j) None (says p k onward r t j) bad) ∙ e)))
        (cases_lt r n)

    continued : Continued p k n tr
    continued = record {
      inbox = boxes;
      same = old_box;
      play = record { days = begun.days; stays = grows; whole = whole; from_honest = from_honest; from_corrupt = from_corrupt };
    }

pub go_on : {R : Type 0} → BeginningsGoOn R
go_on p k n tr few begun grows = continued p k n tr begun grows

-- the beginning of no rounds goes on too
pub exist : {R : Type 0} → PlaysExist R
exist p k input corrupt days grows = (on.inbox, on.play)
  where
    at_first : Trace
    at_first = record { input = input; corrupt = corrupt; inbox = λ _ _. [] }

    on : Continued p k 0 at_first
    on = go_on p k 0 at_first (omega arith) (grind (arith, days)) grows
