-- Why Figure 2 grades, said of what seats hear from one another, whoever has them hear it.
use Rattle.std.proofs.Common.{◌≡◌, ℕ, ◌*◌, ◌<◌, ◌≤◌, Bool, true, false, not, eqb, List, length, is_some, Some, None, Option, unwrap_or, sym, refl, ap, ◌∙◌, arith}
use Rattle.std.proofs.lemmas.Option.{cond_some}
use Rattle.std.proofs.lemmas.Bool.{eq-eqb, eqb-true, not-true, not-false, cond-true}
use Rattle.message.specs.Count.{count}
use Rattle.message.specs.Members.{quorum}
use Rattle.message.specs.Tally.{names, differs, entry, others, reaching}
use Rattle.message.proofs.Counting.{count_more, count_mono, count_not, count_zero, count_none}
use Rattle.message.proofs.Tallying.{names_is, is_names, tally_upto, reaching_has, reaching_only, reaching_one}
use Rattle.graded.specs.Steps.{unless_disputed}
use Rattle.graded.proofs.Reading.{entry_within}

-- a day that nobody disputes
pub undisputed_is : (named : List (Option ℕ)) (o : Option ℕ) (v : ℕ) → unless_disputed named o ≡ Some v
    → (o ≡ Some v) × ((j u : ℕ) → entry named j ≡ Some u → u ≡ v)
unfolding others
undisputed_is named None v e = cc
undisputed_is named (Some w) v e = (ap Some is.1, like)
  where
    is : (eqb (others named w) 0 ≡ true) × (w ≡ v)
    is = cond_some (eqb (others named w) 0) w v e

    like : (j u : ℕ) → entry named j ≡ Some u → u ≡ v
    like j u at =
        let none = count_zero (λ i. differs w (entry named i)) (length named) j (eqb-true (others named w) 0 is.0) (entry_within named j u at) in
        eqb-true u w (not-false (eqb u w) (sym (ap (differs w) at) ∙ none)) ∙ is.1

pub is_undisputed : (named : List (Option ℕ)) (o : Option ℕ) (v : ℕ) → o ≡ Some v → ((j u : ℕ) → entry named j ≡ Some u → u ≡ v)
    → unless_disputed named o ≡ Some v
unfolding others
is_undisputed named o v e only =
    ap (unless_disputed named) e
    ∙ cond-true (eqb (others named v) 0) (Some v) None (eq-eqb (others named v) 0 (count_none (λ j. differs v (entry named j)) (length named) (λ j _. alike (entry named j) (only j))))
  where
    alike : (o : Option ℕ) → ((u : ℕ) → o ≡ Some u → u ≡ v) → differs v o ≡ false
    alike None all = refl
    alike (Some u) all = ap not (eq-eqb u v (all u refl))

pub disputed_is_none : (named : List (Option ℕ)) (o : Option ℕ) (v : ℕ) → o ≡ Some v
    → (j : ℕ) × (u : ℕ) × (entry named j ≡ Some u) × (u ≡ v → ⊥) → unless_disputed named o ≡ None
disputed_is_none named o v e other = go (unless_disputed named o) refl
  where
    go : (x : Option ℕ) → unless_disputed named o ≡ x → unless_disputed named o ≡ None
    go None is = is
    go (Some w) is =
        let fine = undisputed_is named o w is in
        let mine = fine.0 in
        let same : w ≡ v = cc in
        absurd (other.3 (fine.1 other.0 other.1 other.2 ∙ same))

pub some_is : (o : Option ℕ) → is_some o ≡ true → (u : ℕ) × (o ≡ Some u)
some_is None e = cc
some_is (Some u) e = (u, refl)

-- F are the seats that are corrupt in the end; each seat has an input and hears five lists of days, in which place j is seat j's.
module _ (k : ℕ) (F : ℕ → Bool) (input : ℕ → ℕ) (echoes shown votes proofs again : ℕ → List (Option ℕ)) where
  -- the day that a quorum's echoes named to seat i, the day it votes for, and the day that a quorum's votes named to it
  abbrev pub echoed : ℕ → Option ℕ
  echoed i = reaching (quorum k) (echoes i)

  abbrev pub voted : ℕ → Option ℕ
  voted i = unless_disputed (shown i) (echoed i)

  abbrev pub elected : ℕ → Option ℕ
  elected i = reaching (quorum k) (votes i)

  -- the day and the grade that seat i leaves with
  abbrev pub taken : ℕ → ℕ
  taken i = unwrap_or (reaching 1 (proofs i)) (input i)

  abbrev pub sure : ℕ → Bool
  sure i = is_some (reaching (quorum k) (again i))

  -- What is heard: from seats outside F what they have to say, and no certificate behind which no seat outside F stands.
  pub record Hearing : Type 0 where
    pub echoes_whole : (i : ℕ) → i < k → length (echoes i) ≡ k
    pub shown_whole : (i : ℕ) → i < k → length (shown i) ≡ k
    pub votes_whole : (i : ℕ) → i < k → length (votes i) ≡ k
    pub proofs_whole : (i : ℕ) → i < k → length (proofs i) ≡ k
    pub again_whole : (i : ℕ) → i < k → length (again i) ≡ k
    pub echo_of : (i j : ℕ) → i < k → j < k → F j ≡ false → entry (echoes i) j ≡ Some (input j)
    pub shown_of : (i j : ℕ) → i < k → j < k → F j ≡ false → entry (shown i) j ≡ echoed j
    pub vote_of : (i j : ℕ) → i < k → j < k → F j ≡ false → entry (votes i) j ≡ voted j
    pub proof_of : (i j : ℕ) → i < k → j < k → F j ≡ false → entry (proofs i) j ≡ elected j
    pub again_of : (i j : ℕ) → i < k → j < k → F j ≡ false → entry (again i) j ≡ elected j
    pub behind_echoes : (i j v : ℕ) → i < k → j < k → entry (shown i) j ≡ Some v → (s : ℕ) × (s < k) × (F s ≡ false) × (input s ≡ v)
    pub behind_votes : (i j v : ℕ) → i < k → j < k → entry (proofs i) j ≡ Some v → (s : ℕ) × (s < k) × (F s ≡ false) × (voted s ≡ Some v)

-- a quorum has a seat outside a minority
pub outside : (k : ℕ) (F : ℕ → Bool) → 2 * count F k < k → (f : ℕ → Bool) → quorum k ≤ count f k → (s : ℕ) × (s < k) × (f s ≡ true) × (F s ≡ false)
outside k F few f h = count_more f F k (omega arith)

-- and so has a quorum that named a day
pub one_of_them : (k : ℕ) (F : ℕ → Bool) → 2 * count F k < k → (named : List (Option ℕ)) → length named ≡ k
    → (v : ℕ) → reaching (quorum k) named ≡ Some v → (s : ℕ) × (s < k) × (entry named s ≡ Some v) × (F s ≡ false)
one_of_them k F few named whole v e =
    let s = outside k F few (λ i. names v (entry named i)) (omega (arith, reaching_has (quorum k) named v e, tally_upto named k v (omega arith))) in
    (s.0, s.1, names_is v (entry named s.0) s.2, s.3)

-- what all seats outside a minority name, a quorum names
pub all_of_them : (k : ℕ) (F : ℕ → Bool) → 2 * count F k < k → (named : List (Option ℕ)) → length named ≡ k
    → (v : ℕ) → ((s : ℕ) → s < k → F s ≡ false → entry named s ≡ Some v) → reaching (quorum k) named ≡ Some v
all_of_them k F few named whole v all =
    reaching_only named k (omega arith) v
    (omega (
      arith,
      tally_upto named k v (omega arith),
      count_not F k,
      count_mono (λ s. not (F s)) (λ s. names v (entry named s)) k
          (λ s h e. is_names v (entry named s) (all s h (not-true (F s) e))),
    ))

module _ (k : ℕ) (F : ℕ → Bool) (few : 2 * count F k < k) (input : ℕ → ℕ) (echoes shown votes proofs again : ℕ → List (Option ℕ))
    (hearing : Hearing k F input echoes shown votes proofs again) where
  abbrev vote : ℕ → Option ℕ
  vote = voted k F input echoes shown votes proofs again

  abbrev won : ℕ → Option ℕ
  won = elected k F input echoes shown votes proofs again

  -- all votes outside F are for one day: who votes for v has shown its certificate to all
  one_vote : (s t u v : ℕ) → s < k → t < k → F s ≡ false → F t ≡ false → vote s ≡ Some u → vote t ≡ Some v → v ≡ u
  one_vote s t u v hs ht es et us vt =
      let mine = undisputed_is (shown s) _ u us in
      let other = undisputed_is (shown t) _ v vt in
      mine.1 t v (hearing.shown_of s t hs ht et ∙ other.0)

  -- so all certificates of votes are on one day
  one_certificate : (i j i' j' u v : ℕ) → i < k → j < k → i' < k → j' < k → entry (proofs i) j ≡ Some u → entry (proofs i') j' ≡ Some v → v ≡ u
  one_certificate i j i' j' u v hi hj hi' hj' eu ev =
      let s = hearing.behind_votes i j u hi hj eu in
      let t = hearing.behind_votes i' j' v hi' hj' ev in
      one_vote s.0 t.0 u v s.1 t.1 s.2 t.2 s.3 t.3

  -- what a seat outside F saw elected, everybody takes
  everybody_takes : (s v : ℕ) → s < k → F s ≡ false → won s ≡ Some v → (i : ℕ) → i < k → taken k F input echoes shown votes proofs again i ≡ v
  everybody_takes s v hs es e i hi =
      let mine = hearing.proof_of i s hi hs es ∙ e in
      ap (λ o. unwrap_or o (input i))
      (reaching_one (proofs i) s v mine (λ j u at. one_certificate i s i j v u hi hs hi (omega (arith, hearing.proofs_whole i hi, entry_within (proofs i) j u at)) mine at))

  -- grade 1 fixes every seat's day
  pub consistent : (i j : ℕ) → i < k → j < k → sure k F input echoes shown votes proofs again i ≡ true
      → taken k F input echoes shown votes proofs again j ≡ taken k F input echoes shown votes proofs again i
  consistent i j hi hj grade =
      let seconded = some_is (reaching (quorum k) (again i)) grade in
      let s = one_of_them k F few (again i) (hearing.again_whole i hi) seconded.0 seconded.1 in
      let saw = sym (hearing.again_of i s.0 hi s.1 s.3) ∙ s.2 in
      everybody_takes s.0 seconded.0 s.1 s.3 saw j hj ∙ sym (everybody_takes s.0 seconded.0 s.1 s.3 saw i hi)

  module _ (v : ℕ) (common : (i : ℕ) → i < k → F i ≡ false → input i ≡ v) where
    all_echoed : (i : ℕ) → i < k → echoed k F input echoes shown votes proofs again i ≡ Some v
    all_echoed i hi = all_of_them k F few (echoes i) (hearing.echoes_whole i hi) v (λ s hs e. hearing.echo_of i s hi hs e ∙ ap Some (common s hs e))

    all_voted : (i : ℕ) → i < k → vote i ≡ Some v
    all_voted i hi = is_undisputed (shown i) _ v (all_echoed i hi) only
      where
        only : (j u : ℕ) → entry (shown i) j ≡ Some u → u ≡ v
        only j u at =
            let s = hearing.behind_echoes i j u hi (omega (arith, hearing.shown_whole i hi, entry_within (shown i) j u at)) at in
            sym s.3 ∙ common s.0 s.1 s.2

    all_elected : (i : ℕ) → i < k → won i ≡ Some v
    all_elected i hi = all_of_them k F few (votes i) (hearing.votes_whole i hi) v (λ s hs e. hearing.vote_of i s hi hs e ∙ all_voted s hs)

    -- a common input is taken by everybody, at grade 1
    pub valid : (i : ℕ) → i < k → F i ≡ false
        → (taken k F input echoes shown votes proofs again i ≡ v) × (sure k F input echoes shown votes proofs again i ≡ true)
    valid i hi ei = (
      everybody_takes i v hi ei (all_elected i hi) i hi,
      ap is_some (all_of_them k F few (again i) (hearing.again_whole i hi) v (λ s hs e. hearing.again_of i s hi hs e ∙ all_elected s hs)),
    )
