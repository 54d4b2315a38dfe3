-- Why a lawful base agreement of several seats takes a round, listens, and admits messages: else each seat would answer its own input.
use Rattle.std.proofs.Common.{◌≡◌, ℕ, zero, suc, ◌*◌, ◌/◌, ◌%◌, ◌<◌, ◌≤◌, false, get_or, Some, None, Option, sym, refl, ap, ◌∙◌, ⊎_elim, arith}
use Rattle.std.proofs.lemmas.Nat.{div-add-mod', div_below, mod_below}
use Rattle.std.proofs.lemmas.List.{ext_get_or}
use Rattle.std.proofs.lemmas.Bool.{cases_Bool}
use Rattle.std.proofs.lemmas.Option.{none-some}
use Rattle.message.specs.declared.Message.{Message}
use Rattle.message.specs.Count.{count}
use Rattle.message.specs.Tally.{Day}
use Rattle.message.proofs.Counting.{count_none}
use Rattle.protocol.specs.declared.Form.{Form}
use Rattle.protocol.specs.Protocol.{Inbox, Protocol, arrived}
use Rattle.protocol.specs.Play.{Trace, state, says, hears, Play}
use Rattle.protocol.specs.Agreement.{Meaning, protocol_of, base_topics, answer, Agrees, KeepsDiscipline}
use Rattle.protocol.specs.Lawful.{DoesNotListen, AdmitsNothing, AgreeingTakesARound, AgreeingTakesListening, AgreeingTakesMessages}
use Rattle.protocol.proofs.Continuing.{exist}
use Rattle.protocol.proofs.Arriving.{was_honest}

module _ {R : Type 0} (a : Meaning R) (agrees : Agrees a) (k : ℕ) (two : 2 ≤ k) (few : k ≤ a.most) where
  abbrev P : Protocol R
  P = protocol_of a

  -- nobody is corrupt
  abbrev honest : (ℕ → ℕ) → (ℕ → ℕ → Inbox) → Trace
  honest input inbox = record { input = input; corrupt = λ _ _. false; inbox = inbox }

  an_honest_play : (input : ℕ → ℕ) → ((i : ℕ) → Day (input i)) → (inbox : ℕ → ℕ → Inbox) × Play P k (honest input inbox)
  an_honest_play input days = exist P k input (λ _ _. false) (λ i _ _. days i) (λ r i _ _ e. e)

  nobody : 2 * count (λ _. false) k < k
  nobody = omega (arith, count_none (λ _. false) k (λ _ _. refl))

  -- if seats do not listen, each answers its input, since all could have it
  module _ (deaf : DoesNotListen a k) where
    own : (tr : Trace) → Play P k tr → (i : ℕ) → i < k → Day (tr.input i) → answer a k tr i ≡ tr.input i
    own tr play i h day =
        let same = an_honest_play (λ _. tr.input i) (λ _. day) in
        deaf tr (honest (λ _. tr.input i) same.0) play same.1 i h refl
        ∙ agrees.common k (honest (λ _. tr.input i) same.0) (omega arith, few) same.1 nobody (tr.input i) (λ _ _ _. refl) i h refl

    two_days : ℕ → ℕ
    two_days zero = 0
    two_days (suc i) = 1

    are_days : (i : ℕ) → Day (two_days i)
    unfolding two_days
    are_days zero = omega arith
    are_days (suc i) = omega arith

    never : ⊥
    unfolding two_days
    never =
        let split = an_honest_play two_days are_days in
        let tr = honest two_days split.0 in
        let first = own tr split.1 0 (omega arith) (are_days 0) in
        let second = own tr split.1 1 (omega arith) (are_days 1) in
        let one = agrees.one k tr (omega arith, few) split.1 nobody 0 1 (omega arith) (omega arith) refl refl in
        omega (arith, sym first ∙ one ∙ second)

  -- without a round there is nothing to listen to
  no_round : a.rounds k ≡ 0 → DoesNotListen a k
  unfolding state
  no_round none tr tr' play play' i h same = cc

  -- where no message has a form, every slot stays empty
  module _ (disciplined : KeepsDiscipline a) (nothing : AdmitsNothing a k) where
    -- nothing is there that would have a form
    unformed : {r t j : ℕ} → j < k → (o : Option Message) → ((m : Message) → o ≡ Some m → (f : Form) × (a.form k (suc r) t j m.signers.mask ≡ Some f)) → o ≡ None
    unformed hj None formed = refl
    unformed {r = r} {t = t} {j = j} hj (Some m) formed =
        let some = formed m refl in absurd (none-some some.0 (sym (nothing (suc r) t j m.signers.mask hj) ∙ some.1))

    module _ (tr : Trace) (play : Play P k tr) where
      silent : (r t j : ℕ) → r < a.rounds k → t < base_topics → j < k → tr.corrupt r j ≡ false → says P k tr r t j ≡ None
      silent r t j hr ht hj good = unformed hj (says P k tr r t j) (λ m e. (disciplined k (omega arith, few)).formed tr play r t j m (record { a_round = hr; a_topic = ht; a_seat = hj; honest = good; says_it = e }))

      empty : (r t j i : ℕ) → r < a.rounds k → t < base_topics → j < k → i < k → hears P k tr r t j i ≡ None
      empty r t j i hr ht hj hi =
          ⊎_elim (λ bad. unformed hj (hears P k tr r t j i) (λ m e. let it = play.from_corrupt r t j i hr ht hj hi bad m e in (it.the_form, it.formed)))
          (λ good. play.from_honest r t j i hr ht hj hi good ∙ silent r t j hr ht hj (was_honest P k tr play r j hr hj good))
          (cases_Bool (tr.corrupt (suc r) j))

      slot : (r x i : ℕ) → r < a.rounds k → x < base_topics * k → i < k → get_or (tr.inbox (suc r) i) x None ≡ None
      unfolding arrived
      slot r x i hr hx hi =
          ap (λ n. get_or (tr.inbox (suc r) i) n None) (sym (div-add-mod' x k))
          ∙ empty r (x / k) (x % k) i hr (div_below x k base_topics (omega arith) hx) (mod_below x k (omega arith)) hi

    -- so all plays on one input leave a seat the same record
    same_state : (tr tr' : Trace) → Play P k tr → Play P k tr' → (i : ℕ) → i < k → tr.input i ≡ tr'.input i
        → (r : ℕ) → r ≤ a.rounds k → state P k tr r i ≡ state P k tr' r i
    unfolding state
    same_state tr tr' play play' i hi same zero hr = ap (a.start k i) same
    same_state tr tr' play play' i hi same (suc r) hr =
        ap (λ s. a.hear s (suc r) (tr.inbox (suc r) i)) (same_state tr tr' play play' i hi same r (omega arith))
        ∙ ap (a.hear (state P k tr' r i) (suc r)) same_box
      where
        same_box : tr.inbox (suc r) i ≡ tr'.inbox (suc r) i
        same_box =
            ext_get_or None (tr.inbox (suc r) i) (tr'.inbox (suc r) i) (play.whole r i hr hi ∙ sym (play'.whole r i hr hi))
            (λ x hx.
            let within : x < base_topics * k = omega (arith, play.whole r i hr hi) in
            slot tr play r x i hr within hi ∙ sym (slot tr' play' r x i hr within hi))

    no_messages : DoesNotListen a k
    no_messages tr tr' play play' i hi same = ap a.day (same_state tr tr' play play' i hi same (a.rounds k) (omega arith))

pub takes_listening : {R : Type 0} → AgreeingTakesListening R
takes_listening a agrees k two few deaf = never a agrees k two few deaf

pub takes_a_round : {R : Type 0} → AgreeingTakesARound R
takes_a_round a agrees k two few = go (a.rounds k) refl
  where
    go : (n : ℕ) → a.rounds k ≡ n → 1 ≤ n
    go zero none = absurd (never a agrees k two few (no_round a agrees k two few none))
    go (suc n) some = omega arith

pub takes_messages : {R : Type 0} → AgreeingTakesMessages R
takes_messages a agrees disciplined k two few nothing = never a agrees k two few (no_messages a agrees k two few disciplined nothing)
