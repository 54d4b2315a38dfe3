-- The day that most entries name.
use Rattle.std.specs.Prelude.{◌≡◌, ℕ, ◌<◌, ◌≤◌, true, false, ◌⊎◌, List, Some, None, Option, refl}
use Rattle.std.proofs.Common.{subst, inl, inr, arith}
use Rattle.std.proofs.lemmas.Bool.{cases_lt, cond_both}
use Rattle.std.proofs.lemmas.Bool.Decides.{nat_tests}
use Rattle.message.specs.Tally.{before, tally}
use Rattle.message.proofs.Tallying.{named_somewhere, counted}
use Rattle.base.specs.Relaying.{ahead, leader, most_named, MostNamed}
use Rattle.base.specs.Laws.Folding.{Named, no_more, about_all}

module _ (entries : List (Option ℕ)) where
  -- day d is named at least as often as u, and more often if u comes before it
  abbrev Leads : ℕ → ℕ → Type 0
  Leads d u = (tally entries u ≤ tally entries d) × (before u d ≡ true → tally entries u < tally entries d)

  itself : (d : ℕ) → Leads d d
  itself d = grind (arith, nat_tests)

  leads_on : (d e u : ℕ) → Leads d e → Leads e u → Leads d u
  leads_on d e u a b = grind (arith, nat_tests)

  ahead_leads : (u v : ℕ) → ahead entries u v ≡ true → Leads u v
  ahead_leads u v e = grind (arith, nat_tests)

  behind_leads : (u v : ℕ) → ahead entries u v ≡ false → Leads v u
  behind_leads u v e = grind (arith, nat_tests)

  -- of the days N this one leads all; or there is none
  abbrev Best : (ℕ → Type 0) → Option ℕ → Type 0
  Best N None = (u : ℕ) → N u → ⊥
  Best N (Some d) = N d × ((u : ℕ) → N u → Leads d u)

  best_same : (N N' : ℕ → Type 0) (o : Option ℕ) → ((u : ℕ) → N u → N' u) → ((u : ℕ) → N' u → N u) → Best N o → Best N' o
  best_same N N' None to from none = λ u n. none u (from u n)
  best_same N N' (Some d) to from best = (to d best.0, λ u n. best.1 u (from u n))

  -- one entry more
  best_with : (N : ℕ → Type 0) (o x : Option ℕ) → Best N o → Best (λ u. N u ⊎ (x ≡ Some u)) (leader entries o x)
  best_with N o None best = best_same N (λ u. N u ⊎ (None ≡ Some u)) o (λ u n. inl n) (no_more N) best
  best_with N None (Some w) none = (inr refl, leads)
    where
      leads : (u : ℕ) → N u ⊎ (Some w ≡ Some u) → Leads w u
      leads u (inl n) = absurd (none u n)
      leads u (inr e) = let same : w ≡ u = cc in subst (Leads w) same (itself w)
  best_with N (Some d) (Some w) best =
      cond_both (ahead entries w d) (Some w) (Some d) (Best (λ u. N u ⊎ (Some w ≡ Some u)))
      (λ e. (inr refl, new (ahead_leads w d e)))
      (λ e. (inl best.0, old (behind_leads w d e)))
    where
      new : Leads w d → (u : ℕ) → N u ⊎ (Some w ≡ Some u) → Leads w u
      new over u (inl n) = leads_on w d u over (best.1 u n)
      new over u (inr e) = let same : w ≡ u = cc in subst (Leads w) same (itself w)

      old : Leads d w → (u : ℕ) → N u ⊎ (Some w ≡ Some u) → Leads d u
      old over u (inl n) = best.1 u n
      old over u (inr e) = let same : w ≡ u = cc in subst (Leads d) same over

  best_of_all : Best (λ u. ⊥ ⊎ Named entries u) (most_named entries)
  best_of_all = about_all (leader entries) Best best_same best_with (λ _. ⊥) None entries (λ _ n. n)

  pub most_named_means : MostNamed entries (most_named entries)
  most_named_means = go (most_named entries) best_of_all
    where
      never : (u : ℕ) → tally entries u ≡ 0 ⊎ Named entries u
      never u = side (cases_lt 0 (tally entries u))
        where
          side : (0 < tally entries u) ⊎ (tally entries u ≤ 0) → (tally entries u ≡ 0) ⊎ Named entries u
          side (inl h) = inr (named_somewhere entries u h)
          side (inr h) = inl (omega arith)

      go : (o : Option ℕ) → Best (λ u. ⊥ ⊎ Named entries u) o → MostNamed entries o
      go None none = λ u. not_named u (never u)
        where
          not_named : (u : ℕ) → (tally entries u ≡ 0) ⊎ Named entries u → tally entries u ≡ 0
          not_named u (inl h) = h
          not_named u (inr n) = absurd (none u (inr n))
      go (Some d) best = (some best.0, λ u. most u (never u), λ u h. less u h (never u))
        where
          some : ⊥ ⊎ Named entries d → 0 < tally entries d
          some (inl n) = absurd n
          some (inr n) = counted entries d n.0 n.1

          most : (u : ℕ) → (tally entries u ≡ 0) ⊎ Named entries u → tally entries u ≤ tally entries d
          most u (inl h) = omega arith
          most u (inr n) = (best.1 u (inr n)).0

          less : (u : ℕ) → before u d ≡ true → (tally entries u ≡ 0) ⊎ Named entries u → tally entries u < tally entries d
          less u h (inl z) = omega (arith, some best.0)
          less u h (inr n) = (best.1 u (inr n)).1 h
