-- A play stays one when those who are corrupt in the end are taken as corrupt from the start.
use Rattle.std.proofs.Common.{◌≡◌, ℕ, zero, suc, ◌-◌, ◌<◌, ◌≤◌, Bool, true, false, ◌⊎◌, Some, sym, refl, ap, ◌∙◌, subst, inl, inr, ⊎_elim, arith}
use Rattle.std.proofs.lemmas.Bool.{cases_Bool, cases_eq, both_ways, false_from_ne_true}
use Rattle.message.specs.declared.Message.{Message}
use Rattle.message.specs.Members.{member}
use Rattle.message.proofs.Counting.{count_some}
use Rattle.message.proofs.Masks.{member_none}
use Rattle.protocol.specs.declared.Form.{Form}
use Rattle.protocol.specs.declared.Form.TheVariants.{Listed, Certificate}
use Rattle.protocol.specs.Protocol.{Protocol, WellFormed}
use Rattle.protocol.specs.Play.{Trace, state, says, hears, form_of, Sends, Said, Possible, Play}
use Rattle.protocol.specs.Discipline.{Reached, Disciplined}
use Rattle.protocol.proofs.Arriving.{arrives, corrupt_to_the_end}
use Rattle.halving.specs.Frozen.{frozen, PlaysFreeze}

-- a set with a member is not empty
some_signer : (i set : ℕ) → member i set ≡ true → 0 < set
some_signer i zero e = absurd (both_ways (member i 0) (member_none i) e)
some_signer i (suc n) e = omega arith

module _ {R : Type 0} (p : Protocol R) (k : ℕ) (tr : Trace) (F : ℕ → Bool) where
  -- what a seat keeps does not depend on who is corrupt
  pub same_state : (r i : ℕ) → state p k (frozen F tr) r i ≡ state p k tr r i
  unfolding state
  same_state zero i = refl
  same_state (suc r) i = ap (λ s. p.hear s (suc r) (tr.inbox (suc r) i)) (same_state r i)

  same_says : (r t i : ℕ) → says p k (frozen F tr) r t i ≡ says p k tr r t i
  same_says r t i = ap (λ s. p.send s (suc r) t) (same_state r i)

  module _ (forms : WellFormed p k) (disciplined : Disciplined p k) (play : Play p k tr)
      (all : (i : ℕ) → i < k → tr.corrupt (p.rounds k) i ≡ true → F i ≡ true) where
    -- who is corrupt at some time is in F
    in_F : (r i : ℕ) → r ≤ p.rounds k → i < k → tr.corrupt r i ≡ true → F i ≡ true
    in_F r i h hi bad = all i hi (corrupt_to_the_end p k tr play (p.rounds k - r) r i (omega arith) hi bad)

    honest_now : (r i : ℕ) → r ≤ p.rounds k → i < k → F i ≡ false → tr.corrupt r i ≡ false
    honest_now r i h hi e = false_from_ne_true (tr.corrupt r i) (λ bad. both_ways (F i) e (in_F r i h hi bad))

    -- a signature stands if its seat is in F, or outside F and has said the sentence
    abbrev Stands : ℕ → ℕ → ℕ → ℕ → Type 0
    Stands r about day s = (F s ≡ true) ⊎ Said p k (frozen F tr) r about day s

    still_sends : (r t i : ℕ) (m : Message) → F i ≡ false → Sends p k tr r t i m → Sends p k (frozen F tr) r t i m
    still_sends r t i m good s = record {
      a_round = s.a_round;
      a_topic = s.a_topic;
      a_seat = s.a_seat;
      honest = good;
      says_it = same_says r t i ∙ s.says_it;
    }

    still_said : (r about day s : ℕ) → Said p k tr r about day s → Stands r about day s
    still_said r about day s it =
        ⊎_elim inl
        (λ good.
        inr (record {
          before = it.before;
          topic = it.topic;
          message = it.message;
          by_then = it.by_then;
          sends = still_sends it.before it.topic s it.message good it.sends;
          listed = it.listed;
          of_kind = it.of_kind;
          on_day = it.on_day;
          signed = it.signed;
        }))
        (cases_Bool (F s))

    stands_later : (r r' about day s : ℕ) → r ≤ r' → Stands r about day s → Stands r' about day s
    stands_later r r' about day s h (inl bad) = inl bad
    stands_later r r' about day s h (inr it) = inr (record {
      before = it.before;
      topic = it.topic;
      message = it.message;
      by_then = omega (arith, it.by_then);
      sends = it.sends;
      listed = it.listed;
      of_kind = it.of_kind;
      on_day = it.on_day;
      signed = it.signed;
    })

    -- a signature on what an honest seat sends is its own, or had reached it
    by_honest : (r t j : ℕ) (m : Message) → Sends p k tr r t j m → (s : ℕ) → member s m.signers.mask ≡ true
        → (Reached p k tr r (p.kind (suc r) t) m.day s j → Stands (suc r) (p.kind (suc r) t) m.day s)
        → Stands (suc r) (p.kind (suc r) t) m.day s
    by_honest r t j m sends s has passed = go (disciplined.formed tr play r t j m sends).0 (disciplined.formed tr play r t j m sends).1
      where
        own : form_of p k tr r t j m ≡ Some Listed → s ≡ j → (F j ≡ true) ⊎ (F j ≡ false) → Stands (suc r) (p.kind (suc r) t) m.day s
        own is at (inl bad) = inl (ap F at ∙ bad)
        own is at (inr good) = inr (subst (λ x. Said p k (frozen F tr) (suc r) (p.kind (suc r) t) m.day x) (sym at) (record {
          before = r;
          topic = t;
          message = m;
          by_then = omega arith;
          sends = still_sends r t j m good sends;
          listed = is;
          of_kind = refl;
          on_day = refl;
          signed = disciplined.own tr play r t j m sends is;
        }))

        listed : form_of p k tr r t j m ≡ Some Listed → (s ≡ j) ⊎ (s ≡ j → ⊥) → Stands (suc r) (p.kind (suc r) t) m.day s
        listed is (inl at) = own is at (cases_Bool (F j))
        listed is (inr off) = passed (disciplined.others tr play r t j m sends is s has off)

        go : (f : Form) → form_of p k tr r t j m ≡ Some f → Stands (suc r) (p.kind (suc r) t) m.day s
        go Listed is = listed is (cases_eq s j)
        go Certificate is = passed (disciplined.behind tr play r t j m sends is s has)

    -- every signature that a seat hears stands, in the rounds before n
    every : (n r t j i : ℕ) → r < n → r < p.rounds k → t < p.topics → j < k → i < k → (m : Message) → hears p k tr r t j i ≡ Some m
        → (s : ℕ) → s < k → member s m.signers.mask ≡ true → Stands (suc r) (p.kind (suc r) t) m.day s
    every zero r t j i hn hr ht hj hi m e s hs has = absurd (omega arith)
    every (suc n) r t j i hn hr ht hj hi m e s hs has = who (arrives p k tr play r t j i m hr ht hj hi e)
        (λ it. every n it.before it.topic it.sender j (omega (arith, it.in_time)) (omega (arith, it.in_time)) it.a_topic it.a_seat hj
        it.message it.heard s hs it.signed)
      where
        who : Sends p k tr r t j m ⊎ Possible p k tr r t j m
            → ((it : Reached p k tr r (p.kind (suc r) t) m.day s j) → Stands (suc it.before) (p.kind (suc it.before) it.topic) it.message.day s)
            → Stands (suc r) (p.kind (suc r) t) m.day s
        who (inr can) ih = either (can.unforged s hs has)
          where
            either : (tr.corrupt (suc r) s ≡ true) ⊎ Said p k tr (suc r) (p.kind (suc r) t) m.day s → Stands (suc r) (p.kind (suc r) t) m.day s
            either (inl c) = inl (in_F (suc r) s hr hs c)
            either (inr it) = still_said (suc r) (p.kind (suc r) t) m.day s it
        who (inl sends) ih =
            by_honest r t j m sends s has
            (λ it. stands_later (suc it.before) (suc r) (p.kind (suc r) t) m.day s (omega (arith, it.in_time))
            (subst (λ d. Stands (suc it.before) (p.kind (suc r) t) d s) it.on_day
            (subst (λ about. Stands (suc it.before) about it.message.day s) it.of_kind (ih it))))

    -- what has a form has a signer
    signer_of : (r t j : ℕ) (m : Message) → Sends p k tr r t j m → (f : Form) → form_of p k tr r t j m ≡ Some f → 0 < m.signers.mask
    signer_of r t j m sends Listed is = some_signer j m.signers.mask (disciplined.own tr play r t j m sends is)
    signer_of r t j m sends Certificate is =
        let enough = forms.by_quorum (suc r) t j m.signers.mask sends.a_seat is in
        let some = count_some (λ i. member i m.signers.mask) k (omega (arith, enough)) in
        some_signer some.0 m.signers.mask some.2

    possible : (r t j i : ℕ) → r < p.rounds k → t < p.topics → j < k → i < k → (m : Message) → hears p k tr r t j i ≡ Some m
        → Possible p k (frozen F tr) r t j m
    possible r t j i hr ht hj hi m e = who (arrives p k tr play r t j i m hr ht hj hi e)
      where
        stands : (s : ℕ) → s < k → member s m.signers.mask ≡ true → Stands (suc r) (p.kind (suc r) t) m.day s
        stands = every (suc r) r t j i (omega arith) hr ht hj hi m e

        who : Sends p k tr r t j m ⊎ Possible p k tr r t j m → Possible p k (frozen F tr) r t j m
        who (inr can) =
            record { a_day = can.a_day; has_signers = can.has_signers; the_form = can.the_form; formed = can.formed; unforged = stands }
        who (inl sends) =
            let formed = disciplined.formed tr play r t j m sends in
            record {
              a_day = disciplined.a_day tr play r t j m sends;
              has_signers = signer_of r t j m sends formed.0 formed.1;
              the_form = formed.0;
              formed = formed.1;
              unforged = stands;
            }

pub freeze : {R : Type 0} → PlaysFreeze R
freeze p k tr F forms disciplined play all = record {
  days = λ i hi good. play.days i hi (honest_now p k tr F forms disciplined play all 0 i (omega arith) hi good);
  stays = λ r i _ _ e. e;
  whole = play.whole;
  from_honest = λ r t j i hr ht hj hi good.
      play.from_honest r t j i hr ht hj hi (honest_now p k tr F forms disciplined play all (suc r) j hr hj good) ∙ sym (same_says p k tr F r t j);
  from_corrupt = λ r t j i hr ht hj hi bad m e. possible p k tr F forms disciplined play all r t j i hr ht hj hi m e;
}
