-- The laws of `count` and `sum`: what is counted where tests agree, meet, or part, and what sums are bounded by.
use Rattle.std.proofs.Common.{◌≡◌, ℕ, zero, suc, ◌+◌, ◌*◌, ◌<◌, ◌≤◌, Bool, true, false, cond, not, ◌&&◌, ◌||◌, eqb, ◌≢◌, ◌⊎◌, ⊎_elim, sym, refl, ap, ◌∙◌, inl, inr, add-zero, add-suc, arith}
use Rattle.std.proofs.Math.Logic.{⊎_map}
use Rattle.std.proofs.lemmas.Bool.{cases_Bool, false_from_ne_true, cases_eq, eq-eqb, eqb-true, or_cases}
use Rattle.message.specs.Count.{count, sum}

-- a number below suc n is below n, or is n
pub below_suc : (P : ℕ → Type 0) (n : ℕ) → ((i : ℕ) → i < n → P i) → P n → (i : ℕ) → i < suc n → P i
below_suc P n below here i h = grind arith

-- a test is passed somewhere below n, or fails everywhere there
pub somewhere : (f : ℕ → Bool) (n : ℕ) → ((i : ℕ) × (i < n) × (f i ≡ true)) ⊎ ((i : ℕ) → i < n → f i ≡ false)
somewhere f zero = grind arith
somewhere f (suc n) =
    ⊎_elim (λ e. inl (n, omega arith, e))
    (λ e. ⊎_map (λ s. (s.0, omega arith, s.2)) (λ all. below_suc (λ i. f i ≡ false) n all e) (somewhere f n))
    (cases_Bool (f n))

pub count_le : (f : ℕ → Bool) (n : ℕ) → count f n ≤ n
unfolding count
count_le f zero = omega arith
count_le f (suc n) = let ih = count_le f n in grind arith

-- a test that passes wherever another does passes at least as often
pub count_mono : (f g : ℕ → Bool) (n : ℕ) → ((i : ℕ) → i < n → f i ≡ true → g i ≡ true) → count f n ≤ count g n
unfolding count
count_mono f g zero h = omega arith
count_mono f g (suc n) h =
    let ih = count_mono f g n (λ i l. h i (omega arith)) in
    let k = h n (omega arith) in
    grind arith

pub count_same : (f g : ℕ → Bool) (n : ℕ) → ((i : ℕ) → i < n → f i ≡ g i) → count f n ≡ count g n
unfolding count
count_same f g zero h = refl
count_same f g (suc n) h =
    let ih = count_same f g n (λ i l. h i (omega arith)) in
    let k = h n (omega arith) in
    cc

pub count_all : (f : ℕ → Bool) (n : ℕ) → ((i : ℕ) → i < n → f i ≡ true) → count f n ≡ n
unfolding count
count_all f zero h = refl
count_all f (suc n) h =
    let ih = count_all f n (λ i l. h i (omega arith)) in
    let k = h n (omega arith) in
    grind arith

pub count_none : (f : ℕ → Bool) (n : ℕ) → ((i : ℕ) → i < n → f i ≡ false) → count f n ≡ 0
unfolding count
count_none f zero h = refl
count_none f (suc n) h =
    let ih = count_none f n (λ i l. h i (omega arith)) in
    let k = h n (omega arith) in
    grind arith

-- each number passes a test or its negation
pub count_not : (f : ℕ → Bool) (n : ℕ) → count f n + count (λ i. not (f i)) n ≡ n
unfolding count
count_not f zero = refl
count_not f (suc n) = let ih = count_not f n in grind arith

pub count_or_and : (f g : ℕ → Bool) (n : ℕ) → count (λ i. f i || g i) n + count (λ i. f i && g i) n ≡ count f n + count g n
unfolding count
count_or_and f g zero = refl
count_or_and f g (suc n) = let ih = count_or_and f g n in grind arith

-- the numbers below a + c are those below a, and c more
pub count_append : (f : ℕ → Bool) (a c : ℕ) → count f (a + c) ≡ count f a + count (λ i. f (a + i)) c
unfolding count
count_append f a zero = simp add-zero
count_append f a (suc c) = let ih = count_append f a c in simp add-suc (omega arith)

-- the first number, and those after it
pub count_front : (f : ℕ → Bool) (n : ℕ) → count f (suc n) ≡ cond (f 0) 1 0 + count (λ i. f (suc i)) n
unfolding count
count_front f zero = omega arith
count_front f (suc n) = omega (arith, count_front f n)

-- where f passes more often than g, it passes somewhere that g does not
pub count_more : (f g : ℕ → Bool) (n : ℕ) → count g n < count f n → (i : ℕ) × (i < n) × (f i ≡ true) × (g i ≡ false)
count_more f g n h =
    ⊎_elim (λ s. grind arith) (λ all. absurd (omega (arith, count_mono f g n (λ i l e. none (f i) (g i) (all i l) e))))
    (somewhere (λ i. f i && not (g i)) n)
  where
    none : (a b : Bool) → (a && not b) ≡ false → a ≡ true → b ≡ true
    none a b e k = grind arith

-- two tests that pass more than n times together, pass together somewhere
pub count_meet : (f g : ℕ → Bool) (n : ℕ) → n < count f n + count g n → (i : ℕ) × (i < n) × (f i ≡ true) × (g i ≡ true)
count_meet f g n h = grind (arith, count_more, count_not)

pub count_some : (f : ℕ → Bool) (n : ℕ) → 0 < count f n → (i : ℕ) × (i < n) × (f i ≡ true)
count_some f n h =
    let s = count_more f (λ _. false) n (omega (arith, count_none (λ _. false) n (λ _ _. refl))) in
    (s.0, s.1, s.2)

-- what is passed once is counted
pub count_pos : (f : ℕ → Bool) (n i : ℕ) → i < n → f i ≡ true → 0 < count f n
unfolding count
count_pos f zero i h e = absurd (omega arith)
count_pos f (suc n) i h e = go (cases_eq i n) (λ l. count_pos f n i l e)
  where
    go : (i ≡ n) ⊎ (i ≡ n → ⊥) → (i < n → 0 < count f n) → 0 < count f n + cond (f n) 1 0
    go (inl at) ih = rw (ap f (sym at) ∙ e) (omega arith)
    go (inr off) ih = omega arith

pub count_zero : (f : ℕ → Bool) (n i : ℕ) → count f n ≡ 0 → i < n → f i ≡ false
count_zero f n i none h = false_from_ne_true (f i) (λ e. omega (arith, count_pos f n i h e))

-- a test that only one number can pass is passed at most once
pub count_one : (f : ℕ → Bool) (i n : ℕ) → ((s : ℕ) → f s ≡ true → s ≡ i) → count f n ≤ 1
unfolding count
count_one f i zero only = omega arith
count_one f i (suc n) only = go (cases_Bool (f n)) (count_one f i n only)
  where
    before : f n ≡ true → (s : ℕ) → s < n → f s ≡ false
    before e s h = false_from_ne_true (f s) (λ t. omega (arith, only s t, only n e))

    go : (f n ≡ true) ⊎ (f n ≡ false) → count f n ≤ 1 → count f n + cond (f n) 1 0 ≤ 1
    go (inl e) ih = rw e (omega (arith, count_none f n (before e)))
    go (inr e) ih = rw e (omega arith)

-- and one that only two numbers can pass at most twice
pub count_two : (f : ℕ → Bool) (i j n : ℕ) → ((s : ℕ) → f s ≡ true → (s ≡ i) ⊎ (s ≡ j)) → count f n ≤ 2
count_two f i j n only =
    omega (
      arith,
      count_mono f (λ s. eqb s i || eqb s j) n (λ s _ e. either s (only s e)),
      count_or_and (λ s. eqb s i) (λ s. eqb s j) n,
      count_one (λ s. eqb s i) i n (λ s. eqb-true s i),
      count_one (λ s. eqb s j) j n (λ s. eqb-true s j),
    )
  where
    either : (s : ℕ) → (s ≡ i) ⊎ (s ≡ j) → (eqb s i || eqb s j) ≡ true
    either s e = grind arith

-- what is passed at two places is counted twice
pub count_both : (f : ℕ → Bool) (n i j : ℕ) → i < n → j < n → i ≢ j → f i ≡ true → f j ≡ true → 2 ≤ count f n
count_both f n i j hi hj off fi fj =
    omega (
      arith,
      count_mono (λ s. eqb s i || eqb s j) f n (λ s _ e. passes s (or_cases (eqb s i) (eqb s j) e)),
      count_or_and (λ s. eqb s i) (λ s. eqb s j) n,
      count_none (λ s. eqb s i && eqb s j) n (λ s _. apart s),
      count_pos (λ s. eqb s i) n i hi (eq-eqb i i refl),
      count_pos (λ s. eqb s j) n j hj (eq-eqb j j refl),
    )
  where
    passes : (s : ℕ) → (eqb s i ≡ true) ⊎ (eqb s j ≡ true) → f s ≡ true
    passes s (inl e) = ap f (eqb-true s i e) ∙ fi
    passes s (inr e) = ap f (eqb-true s j e) ∙ fj

    apart : (s : ℕ) → (eqb s i && eqb s j) ≡ false
    apart s = grind arith

pub sum_mono : (f g : ℕ → ℕ) (n : ℕ) → ((i : ℕ) → i < n → f i ≤ g i) → sum f n ≤ sum g n
unfolding sum
sum_mono f g zero h = omega arith
sum_mono f g (suc n) h =
    let ih = sum_mono f g n (λ i l. h i (omega arith)) in
    let k = h n (omega arith) in
    omega arith

pub sum_same : (f g : ℕ → ℕ) (n : ℕ) → ((i : ℕ) → i < n → f i ≡ g i) → sum f n ≡ sum g n
sum_same f g n each =
    omega (arith, sum_mono f g n (λ i h. omega (arith, each i h)), sum_mono g f n (λ i h. omega (arith, each i h)))

pub sum_constant : (x n : ℕ) → sum (λ _. x) n ≡ n * x
unfolding sum
sum_constant x zero = omega arith
sum_constant x (suc n) = let rest = sum_constant x n in omega (arith, rest)

-- n values of at most b each
pub sum_bound : (f : ℕ → ℕ) (b n : ℕ) → ((i : ℕ) → i < n → f i ≤ b) → sum f n ≤ n * b
sum_bound f b n h = omega (arith, sum_mono f (λ _. b) n h, sum_constant b n)
