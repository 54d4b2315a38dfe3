-- What arrives in a play, and from whom.
use Rattle.std.proofs.Common.{◌≡◌, ℕ, zero, suc, ◌+◌, ◌<◌, true, false, ◌⊎◌, Some, sym, ◌∙◌, subst, inl, inr, ⊎_elim, arith}
use Rattle.std.proofs.lemmas.Bool.{cases_Bool, both_ways, false_from_ne_true}
use Rattle.message.specs.declared.Message.{Message}
use Rattle.protocol.specs.Protocol.{Protocol}
use Rattle.protocol.specs.Play.{Trace, hears, Sends, Possible, Play}

module _ {R : Type 0} (p : Protocol R) (k : ℕ) (tr : Trace) (play : Play p k tr) where
  -- who is honest when a round closes was honest when it opened
  pub was_honest : (r i : ℕ) → r < p.rounds k → i < k → tr.corrupt (suc r) i ≡ false → tr.corrupt r i ≡ false
  was_honest r i hr hi e = false_from_ne_true (tr.corrupt r i) (λ bad. both_ways (tr.corrupt (suc r) i) e (play.stays r i hr hi bad))

  -- what arrives was sent by an honest seat, or is what a corrupt one can bring about
  pub arrives : (r t j i : ℕ) (m : Message) → r < p.rounds k → t < p.topics → j < k → i < k → hears p k tr r t j i ≡ Some m
      → Sends p k tr r t j m ⊎ Possible p k tr r t j m
  arrives r t j i m hr ht hj hi e =
      ⊎_elim (λ bad. inr (play.from_corrupt r t j i hr ht hj hi bad m e))
      (λ good.
      inl (record {
        a_round = hr;
        a_topic = ht;
        a_seat = hj;
        honest = was_honest r j hr hj good;
        says_it = sym (play.from_honest r t j i hr ht hj hi good) ∙ e;
      }))
      (cases_Bool (tr.corrupt (suc r) j))

  -- who is corrupt at some time is so at the end
  pub corrupt_to_the_end : (n r i : ℕ) → r + n ≡ p.rounds k → i < k → tr.corrupt r i ≡ true → tr.corrupt (p.rounds k) i ≡ true
  corrupt_to_the_end zero r i e hi bad = subst (λ x. tr.corrupt x i ≡ true) (omega (arith, e)) bad
  corrupt_to_the_end (suc n) r i e hi bad = corrupt_to_the_end n (suc r) i (omega (arith, e)) hi (play.stays r i (omega (arith, e)) hi bad)
