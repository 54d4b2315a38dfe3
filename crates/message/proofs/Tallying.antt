-- What is read off a tally: who has enough entries, who alone can have them, and which day is the lowest.
use Rattle.std.proofs.Common.{◌≡◌, ℕ, zero, suc, ◌+◌, ◌-◌, ◌<◌, ◌≤◌, Bool, true, false, cond, eqb, ◌⊎◌, List, [], ◌∷◌, min, map, length, Some, None, Option, fold, sym, refl, ap, ◌∙◌, subst, inl, inr, arith}
use Rattle.std.proofs.lemmas.List.{get_or_past}
use Rattle.std.proofs.lemmas.Bool.{cases_Bool, cases_lt, both_ways, eqb-true, eqb-false, not-true, not-false}
use Rattle.std.specs.List.{count_by, list_any, filter, filter_map, cons_option, reduce}
use Rattle.std.proofs.lemmas.List.Recursion.{is_count_by}
use Rattle.message.specs.Count.{count}
use Rattle.message.specs.Members.{quorum}
use Rattle.message.specs.Tally.{names, differs, entry, tally, earlier, passing, lowest, reaches, reaching, LowestReaching, TellsDispute}
use Rattle.message.proofs.Counting.{count_append, count_front, count_meet, count_none, count_pos, count_some}

-- ---- one entry

pub names_is : (v : ℕ) (o : Option ℕ) → names v o ≡ true → o ≡ Some v
names_is v o e = grind arith

pub is_names : (v : ℕ) (o : Option ℕ) → o ≡ Some v → names v o ≡ true
is_names v o e = grind arith

differs_is : (v : ℕ) (o : Option ℕ) → differs v o ≡ true → (u : ℕ) × (o ≡ Some u) × (u ≡ v → ⊥)
differs_is v None e = absurd (both_ways false refl e)
differs_is v (Some u) e = (u, refl, eqb-false u v (not-true (eqb u v) e))

-- ---- a tally

-- past the end nothing is counted
pub tally_upto : (days : List (Option ℕ)) (k d : ℕ) → length days ≤ k → tally days d ≡ count (λ i. names d (entry days i)) k
unfolding tally
tally_upto days k d h =
    let at : k ≡ length days + (k - length days) = omega arith in
    let none =
    count_none (λ i. names d (entry days (length days + i))) (k - length days)
    (λ i _. ap (names d) (get_or_past days (length days + i) None (omega arith))) in
    omega (
      arith,
      ap (count (λ i. names d (entry days i))) at,
      count_append (λ i. names d (entry days i)) (length days) (k - length days),
      none,
    )

tally_cons : (x : Option ℕ) (days : List (Option ℕ)) (d : ℕ) → tally (x ∷ days) d ≡ cond (names d x) 1 0 + tally days d
unfolding tally
tally_cons x days d = count_front (λ i. names d (entry (x ∷ days) i)) (length days)

-- the tally of what entries name is how many of them name it
pub tally_counts : {X : Type 0} (f : X → Option ℕ) (d : ℕ) (xs : List X) → count_by (λ x. names d (f x)) xs ≡ tally (map f xs) d
unfolding tally count
tally_counts f d xs = sym (is_count_by (λ ys. tally (map f ys) d) (λ x. names d (f x)) refl more xs)
  where
    more : (x : _) (ys : _) → tally (map f (x ∷ ys)) d ≡ cond (names d (f x)) (1 + tally (map f ys) d) (tally (map f ys) d)
    more x ys = let first = tally_cons (f x) (map f ys) d in grind arith

-- who is counted stands somewhere
pub named_somewhere : (days : List (Option ℕ)) (d : ℕ) → 0 < tally days d → (i : ℕ) × (entry days i ≡ Some d)
unfolding tally
named_somewhere days d h = grind (arith, count_some, names_is)

-- who stands somewhere is counted
pub counted : (days : List (Option ℕ)) (d i : ℕ) → entry days i ≡ Some d → 0 < tally days d
counted days d i e =
    rw (tally_upto days (length days + suc i) d (omega arith))
    (count_pos (λ j. names d (entry days j)) (length days + suc i) i (omega arith) (is_names d (entry days i) e))

-- ---- a dispute

-- an entry in front that names another day
dispute_first : (d : ℕ) (o : Option ℕ) (days : List (Option ℕ)) → differs d o ≡ true → TellsDispute (o ∷ days) d true
dispute_first d o days e = let other = differs_is d o e in (0, other.0, other.1, other.2)

-- an entry in front that does not
dispute_later :
    (d : ℕ) (o : Option ℕ) (days : List (Option ℕ)) → differs d o ≡ false → (r : Bool) → TellsDispute days d r
    → TellsDispute (o ∷ days) d r
dispute_later d o days e true some = (suc some.0, some.1, some.2, some.3)
dispute_later d o days e false none = at
  where
    at : (i u : ℕ) → entry (o ∷ days) i ≡ Some u → u ≡ d
    at zero u named = eqb-true u d (not-false (eqb u d) (sym (ap (differs d) named) ∙ e))
    at (suc i) u named = none i u named

-- a search for an entry that names another day tells whether there is one
pub dispute_told :
    {X : Type 0} (f : X → Option ℕ) (d : ℕ) (xs : List X) → TellsDispute (map f xs) d (list_any (λ x. differs d (f x)) xs)
dispute_told f d [] = λ i u e. let past : entry [] i ≡ None = get_or_past [] i None (omega arith) in cc
dispute_told f d (x ∷ xs) = go (cases_Bool (differs d (f x))) (dispute_told f d xs)
  where
    go : (differs d (f x) ≡ true) ⊎ (differs d (f x) ≡ false) → TellsDispute (map f xs) d (list_any (λ y. differs d (f y)) xs)
        → TellsDispute (map f (x ∷ xs)) d (list_any (λ y. differs d (f y)) (x ∷ xs))
    go (inl e) later = rw e (dispute_first d (f x) (map f xs) e)
    go (inr e) later = rw e (dispute_later d (f x) (map f xs) e _ later)

-- ---- the lowest day that passes a test

lowest_cons : (ok : ℕ → Bool) (x : Option ℕ) (days : List (Option ℕ)) → lowest ok (x ∷ days) ≡ earlier (passing ok x) (lowest ok days)
unfolding lowest
lowest_cons ok x days = refl

earlier_is : (u v : ℕ) → earlier (Some u) (Some v) ≡ Some (min u v)
earlier_is u v = ap Some (grind arith)

earlier_assoc : (a b c : Option ℕ) → earlier (earlier a b) c ≡ earlier a (earlier b c)
earlier_assoc None b c = refl
earlier_assoc (Some u) None c = refl
earlier_assoc (Some u) (Some v) None = refl
earlier_assoc (Some u) (Some v) (Some w) = ap Some (grind arith)

-- the least of several is the earlier of the first and the least of the others
least_front : (u : ℕ) (us : List ℕ) → reduce min (u ∷ us) ≡ earlier (Some u) (reduce min us)
least_front u [] = refl
least_front u (v ∷ us) =
    least_front (min u v) us ∙ ap (λ o. earlier o (reduce min us)) (sym (earlier_is u v))
    ∙ earlier_assoc (Some u) (Some v) (reduce min us) ∙ ap (earlier (Some u)) (sym (least_front v us))

-- the order in which days are set beside one another makes no difference
earlier_turn : (a b c : Option ℕ) → earlier (earlier a b) c ≡ earlier b (earlier a c)
earlier_turn None b c = refl
earlier_turn (Some u) None c = refl
earlier_turn (Some u) (Some v) None = ap Some (grind arith)
earlier_turn (Some u) (Some v) (Some w) = ap Some (grind arith)

-- the earlier of a first day and of each further one in turn is the least of them all
earliest_from : (o : Option ℕ) (us : List ℕ) → fold (λ best u. earlier (Some u) best) o us ≡ earlier (reduce min us) o
earliest_from o [] = refl
earliest_from o (u ∷ us) =
    earliest_from (earlier (Some u) o) us ∙ sym (earlier_turn (Some u) (reduce min us) o)
    ∙ ap (λ least. earlier least o) (sym (least_front u us))

none_later : (o : Option ℕ) → earlier o None ≡ o
none_later None = refl
none_later (Some u) = refl

pub earliest_is_least : (us : List ℕ) → fold (λ best u. earlier (Some u) best) None us ≡ reduce min us
earliest_is_least us = earliest_from None us ∙ none_later (reduce min us)

-- the least of the days that are named and pass a test is the lowest such day
pub lowest_is_least :
    {X : Type 0} (f : X → Option ℕ) (ok : ℕ → Bool) (xs : List X) → reduce min (filter ok (filter_map f xs)) ≡ lowest ok (map f xs)
unfolding lowest
lowest_is_least f ok [] = refl
lowest_is_least f ok (x ∷ xs) = front (f x) (lowest_is_least f ok xs) ∙ sym (lowest_cons ok (f x) (map f xs))
  where
    front :
        (o : Option ℕ) → reduce min (filter ok (filter_map f xs)) ≡ lowest ok (map f xs)
        → reduce min (filter ok (cons_option o (filter_map f xs))) ≡ earlier (passing ok o) (lowest ok (map f xs))
    front None rest = rest
    front (Some u) rest = go (cases_Bool (ok u))
      where
        go : (ok u ≡ true) ⊎ (ok u ≡ false)
            → reduce min (filter ok (u ∷ filter_map f xs)) ≡ earlier (passing ok (Some u)) (lowest ok (map f xs))
        go (inl e) = rw e (least_front u (filter ok (filter_map f xs)) ∙ ap (earlier (Some u)) rest)
        go (inr e) = rw e rest

-- o is the lowest day that an entry names and that passes the test
abbrev Least : (ℕ → Bool) → List (Option ℕ) → Option ℕ → Type 0
Least ok days None = (i u : ℕ) → entry days i ≡ Some u → ok u ≡ false
Least ok days (Some v) = (ok v ≡ true) × ((i u : ℕ) → entry days i ≡ Some u → ok u ≡ true → v ≤ u)

-- an entry in front that does not pass
least_skip :
    (ok : ℕ → Bool) (x : Option ℕ) (days : List (Option ℕ)) → ((u : ℕ) → x ≡ Some u → ok u ≡ false)
    → (o : Option ℕ) → Least ok days o → Least ok (x ∷ days) o
least_skip ok x days fails o least = grind arith

-- an entry in front that passes
least_take :
    (ok : ℕ → Bool) (x : ℕ) (days : List (Option ℕ)) → ok x ≡ true
    → (o : Option ℕ) → Least ok days o → Least ok (Some x ∷ days) (earlier (Some x) o)
least_take ok x days pass o least = grind arith

lowest_least : (ok : ℕ → Bool) (days : List (Option ℕ)) → Least ok days (lowest ok days)
unfolding lowest
lowest_least ok [] = grind arith
lowest_least ok (None ∷ days) =
    least_skip ok None days (λ u e. absurd (cc)) (lowest ok days) (lowest_least ok days)
lowest_least ok (Some x ∷ days) = let ih = lowest_least ok days in grind (arith, least_skip, least_take)

-- ---- the day that reaches a mark

pub reaching_means : (mark : ℕ) (days : List (Option ℕ)) → LowestReaching mark days (reaching mark days)
unfolding reaching
reaching_means mark days = go (lowest (reaches mark days) days) (lowest_least (reaches mark days) days)
  where
    enough : (d : ℕ) → 0 < mark → mark ≤ tally days d → reaches mark days d ≡ true
    enough d some h = grind arith

    go : (o : Option ℕ) → Least (reaches mark days) days o → LowestReaching mark days o
    go None least = grind (arith, cases_lt, named_somewhere, enough)
    go (Some v) least = grind (arith, cases_lt, named_somewhere, enough)

-- no day reaches a mark of 0
pub reaching_nought : (days : List (Option ℕ)) → reaching 0 days ≡ None
unfolding reaching
reaching_nought days = go (lowest (reaches 0 days) days) (lowest_least (reaches 0 days) days)
  where
    go : (o : Option ℕ) → Least (reaches 0 days) days o → o ≡ None
    go None least = refl
    go (Some v) least = grind arith

pub reaching_has : (mark : ℕ) (days : List (Option ℕ)) (v : ℕ) → reaching mark days ≡ Some v → mark ≤ tally days v
reaching_has mark days v e = (subst (LowestReaching mark days) e (reaching_means mark days)).1

-- a day that reaches the mark, and no other day does, is the one
reaching_is :
    (mark : ℕ) (days : List (Option ℕ)) (v : ℕ) → 0 < mark → mark ≤ tally days v
    → ((u : ℕ) → mark ≤ tally days u → u ≡ v) → reaching mark days ≡ Some v
reaching_is mark days v some h only = grind (arith, reaching_means, reaching_has)

-- two days with a quorum are one
pub quorums_meet :
    (days : List (Option ℕ)) (k u v : ℕ) → length days ≤ k → quorum k ≤ tally days u → quorum k ≤ tally days v → u ≡ v
quorums_meet days k u v h hu hv =
    let both =
    count_meet (λ i. names u (entry days i)) (λ i. names v (entry days i)) k
    (omega (arith, tally_upto days k u h, tally_upto days k v h)) in
    let a = names_is u (entry days both.0) both.2 in
    let b = names_is v (entry days both.0) both.3 in
    cc

pub reaching_only :
    (days : List (Option ℕ)) (k : ℕ) → length days ≤ k → (v : ℕ) → quorum k ≤ tally days v → reaching (quorum k) days ≡ Some v
reaching_only days k h v has =
    reaching_is (quorum k) days v (omega arith) has (λ u other. quorums_meet days k u v h other has)

-- where somebody names v and nobody another day, v is the lowest
pub reaching_one :
    (days : List (Option ℕ)) (i v : ℕ) → entry days i ≡ Some v → ((j u : ℕ) → entry days j ≡ Some u → u ≡ v)
    → reaching 1 days ≡ Some v
reaching_one days i v e only =
    reaching_is 1 days v (omega arith) (counted days v i e)
    (λ u h. let s = named_somewhere days u h in only s.0 u s.1)

-- a day that reaches a mark is named somewhere
pub reaching_named : (mark : ℕ) (days : List (Option ℕ)) (v : ℕ) → reaching mark days ≡ Some v → (i : ℕ) × (entry days i ≡ Some v)
reaching_named mark days v e = grind (arith, reaching_means, named_somewhere)
