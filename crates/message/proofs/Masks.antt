-- Sets as numbers: who is a member of a set that is made from others, when two sets are one, and how large a set is.
use Rattle.std.proofs.Common.{◌≡◌, ℕ, zero, suc, ◌+◌, ◌-◌, ◌*◌, ◌/◌, ◌%◌, ◌^◌, ◌<◌, ◌≤◌, Bool, true, false, cond, not, ◌&&◌, ◌||◌, eqb, ltb, leb, ◌≢◌, ◌⊎◌, sym, refl, ap, ◌∙◌, subst, inl, inr, ⊎_elim, add-zero, mul_assoc, add_comm, pow-suc, zero-add, div-one, one-add, arith, mod-eq_of_lt}
use native.Mathlib.Nat.{add-mul-div_right, add-div_right, div-eq_of_lt, sub-zero}
use lib.Bits.{bit_and, bit_or, and_step, or_step}
use lib.Count.{ones, ones_step}
use lib.Pow.{ones_split}
use Rattle.std.proofs.lemmas.Nat.{one_shl, pow_pos, pow-add, pow_below, shl-shr, shr-shr, shr_split, shr_high, mod_below, and_mask, and_le_l, and_shr, or_shr}
use Rattle.std.proofs.lemmas.Bool.{cases_eq, cases_lt, cases_order, both_ways, eq-eqb, ne_eqb, eqb-true, eqb-false, lt-ltb, le-ltb, le-leb, lt-leb, and_parts}
use Rattle.message.specs.Count.{count}
use Rattle.message.specs.Members.{member, size, gathered, Holds, TellsSubset, width}
use Rattle.message.proofs.Counting.{below_suc, count_same}

-- ---- one member at a time, the lowest first

member_low : (set : ℕ) → member 0 set ≡ eqb (set % 2) 1
unfolding member
member_low set = ap (λ n. eqb (n % 2) 1) (div-one set)

member_suc : (i set : ℕ) → member (suc i) set ≡ member i (set / 2)
unfolding member
member_suc i set = ap (λ n. eqb (n % 2) 1) (rw (one-add i) at (sym (shr-shr set 1 i)))

-- a set that is not empty has a member
pub some_member : (k set : ℕ) → 0 < set → set < 2 ^ k → (i : ℕ) × (i < k) × (member i set ≡ true)
some_member zero set some small = absurd (omega arith)
some_member (suc k) set some small =
    ⊎_elim
    (λ odd. (0, omega arith, member_low set ∙ eq-eqb (set % 2) 1 odd))
    (λ even.
    let rest = some_member k (set / 2) (omega arith) (omega (arith, pow-suc 2 k)) in
    (suc rest.0, omega (arith, rest.1), member_suc rest.0 set ∙ rest.2))
    (cases_eq (set % 2) 1)

parity : (a b : ℕ) → eqb (a % 2) 1 ≡ eqb (b % 2) 1 → a % 2 ≡ b % 2
parity a b e = go (cases_eq (a % 2) 1) (cases_eq (b % 2) 1)
  where
    go : (a % 2 ≡ 1) ⊎ (a % 2 ≡ 1 → ⊥) → (b % 2 ≡ 1) ⊎ (b % 2 ≡ 1 → ⊥) → a % 2 ≡ b % 2
    go (inl x) (inl y) = x ∙ sym y
    go (inl x) (inr y) = absurd (y (eqb-true (b % 2) 1 (sym e ∙ eq-eqb (a % 2) 1 x)))
    go (inr x) (inl y) = absurd (x (eqb-true (a % 2) 1 (e ∙ eq-eqb (b % 2) 1 y)))
    go (inr x) (inr y) = omega arith

-- a set is known by its members
pub same_members : (k a b : ℕ) → a < 2 ^ k → b < 2 ^ k → ((i : ℕ) → member i a ≡ member i b) → a ≡ b
same_members zero a b la lb same = omega arith
same_members (suc k) a b la lb same =
    let low = parity a b (sym (member_low a) ∙ same 0 ∙ member_low b) in
    let high =
    same_members k (a / 2) (b / 2) (omega (arith, pow-suc 2 k)) (omega (arith, pow-suc 2 k))
    (λ i. sym (member_suc i a) ∙ same (suc i) ∙ member_suc i b) in
    omega arith

own_bound : (n : ℕ) → n < 2 ^ n
own_bound zero = omega arith
own_bound (suc n) = omega (arith, own_bound n, pow-suc 2 n)

-- and so are sets of any size
pub same_set : (a b : ℕ) → Holds a (λ i. member i b) → a ≡ b
same_set a b same =
    let k = suc (a + b) in
    same_members k a b (omega (arith, own_bound a, pow_below a k (omega arith)))
    (omega (arith, own_bound b, pow_below b k (omega arith))) same

-- ---- both sets, either, and those left out

pub member_or : (i a b : ℕ) → member i (bit_or a b) ≡ (member i a || member i b)
unfolding member
member_or i a b = rw (or_shr a b i) (odd (a / 2 ^ i) (b / 2 ^ i))
  where
    odd : (x y : ℕ) → eqb (bit_or x y % 2) 1 ≡ (eqb (x % 2) 1 || eqb (y % 2) 1)
    odd x y = let s = or_step x y in grind arith

pub member_and : (i a b : ℕ) → member i (bit_and a b) ≡ (member i a && member i b)
unfolding member
member_and i a b = rw (and_shr a b i) (odd (a / 2 ^ i) (b / 2 ^ i))
  where
    odd : (x y : ℕ) → eqb (bit_and x y % 2) 1 ≡ (eqb (x % 2) 1 && eqb (y % 2) 1)
    odd x y = let s = and_step x y in grind arith

turned : (x y : ℕ) → x + y ≡ 1 → eqb x 1 ≡ not (eqb y 1)
turned x y e = grind arith

-- those below k that are no members
pub member_not : (k i set : ℕ) → i < k → set < 2 ^ k → member i (2 ^ k - 1 - set) ≡ not (member i set)
member_not zero i set h small = absurd (omega arith)
member_not (suc k) zero set h small =
    let one : (2 ^ suc k - 1 - set) % 2 + set % 2 ≡ 1 = omega (arith, pow-suc 2 k) in
    rw (member_low (2 ^ suc k - 1 - set), member_low set) (turned ((2 ^ suc k - 1 - set) % 2) (set % 2) one)
member_not (suc k) (suc i) set h small =
    let half : (2 ^ suc k - 1 - set) / 2 ≡ 2 ^ k - 1 - set / 2 = omega (arith, pow-suc 2 k) in
    rw (member_suc i (2 ^ suc k - 1 - set), member_suc i set, half)
    (member_not k i (set / 2) (omega arith) (omega (arith, pow-suc 2 k)))

-- ---- a set below 2 ^ k has no member from k on

above : (set i : ℕ) → set < 2 ^ i → member i set ≡ false
unfolding member
above set i h = ap (λ b. eqb (b % 2) 1) (div-eq_of_lt h)

pub none_above : (set k i : ℕ) → set < 2 ^ k → k ≤ i → member i set ≡ false
none_above set k i small far = above set i (grow (cases_eq k i))
  where
    grow : (k ≡ i) ⊎ (k ≡ i → ⊥) → set < 2 ^ i
    grow (inl same) = subst (λ n. set < 2 ^ n) same small
    grow (inr other) = omega (arith, pow_below k i (omega arith))

pub member_below : (set k i : ℕ) → set < 2 ^ k → member i set ≡ true → i < k
member_below set k i small e = go (cases_lt i k)
  where
    go : (i < k) ⊎ (k ≤ i) → i < k
    go (inl h) = h
    go (inr h) = absurd (both_ways (member i set) (none_above set k i small h) e)

pub member_none : (i : ℕ) → member i 0 ≡ false
member_none i = above 0 i (pow_pos i)

-- how a member is asked for
pub member_test : (i set : ℕ) → eqb (bit_and (set / 2 ^ i) 1) 1 ≡ member i set
unfolding member
member_test i set = ap (λ n. eqb n 1) (and_mask (set / 2 ^ i) 1)

-- ---- sets that are moved up or down

pub member_shift : (lo i set : ℕ) → member (lo + i) (set * 2 ^ lo) ≡ member i set
unfolding member
member_shift lo i set = ap (λ n. eqb (n % 2) 1) (sym (shr-shr (set * 2 ^ lo) lo i) ∙ ap (λ n. n / 2 ^ i) (shl-shr set lo))

pub member_down : (lo i set : ℕ) → member i (set / 2 ^ lo) ≡ member (lo + i) set
unfolding member
member_down lo i set = ap (λ n. eqb (n % 2) 1) (shr-shr set lo i)

twice : (lo set : ℕ) → set * 2 ^ suc lo ≡ set * 2 ^ lo * 2
twice lo set = rw (pow-suc 2 lo) (sym (mul_assoc set (2 ^ lo) 2))

pub member_shift_below : (lo i set : ℕ) → i < lo → member i (set * 2 ^ lo) ≡ false
member_shift_below zero i set h = absurd (omega arith)
member_shift_below (suc lo) zero set h =
    let even : set * 2 ^ suc lo % 2 ≡ 0 = omega (arith, twice lo set) in
    member_low (set * 2 ^ suc lo) ∙ ap (λ n. eqb n 1) even
member_shift_below (suc lo) (suc i) set h =
    let half : set * 2 ^ suc lo / 2 ≡ set * 2 ^ lo = omega (arith, twice lo set) in
    rw (member_suc i (set * 2 ^ suc lo), half) (member_shift_below lo i set (omega arith))

pub member_moved : (lo i set : ℕ) → member i (set * 2 ^ lo) ≡ (leb lo i && member (i - lo) set)
member_moved lo i set = go (cases_lt i lo)
  where
    go : (i < lo) ⊎ (lo ≤ i) → member i (set * 2 ^ lo) ≡ (leb lo i && member (i - lo) set)
    go (inl h) = rw (lt-leb lo i h) (member_shift_below lo i set h)
    go (inr h) =
        let at : lo + (i - lo) ≡ i = omega arith in
        rw (le-leb lo i h) (ap (λ n. member n (set * 2 ^ lo)) (sym at) ∙ member_shift lo (i - lo) set)

-- ---- one alone, and the first so many

-- a higher bit changes no lower one
lower : (set i k : ℕ) → i < k → member i (set + 2 ^ k) ≡ member i set
unfolding member
lower set i k h =
    let at : k ≡ suc (k - suc i) + i = omega arith in
    let bits : (set + 2 ^ k) / 2 ^ i % 2 ≡ set / 2 ^ i % 2 = ap (λ n. (set + 2 ^ n) / 2 ^ i % 2) at ∙ skip (k - suc i) in
    ap (λ b. eqb b 1) bits
  where
    skip : (d : ℕ) → (set + 2 ^ (suc d + i)) / 2 ^ i % 2 ≡ set / 2 ^ i % 2
    skip d = rw (pow-add 2 (suc d) i) (rw (add-mul-div_right set (2 ^ suc d) (pow_pos i)) (omega arith))

here : (set i : ℕ) → set < 2 ^ i → member i (set + 2 ^ i) ≡ true
unfolding member
here set i h =
    let bits : (set + 2 ^ i) / 2 ^ i % 2 ≡ 1 = rw (add-div_right set (pow_pos i)) (rw (div-eq_of_lt h) refl) in
    ap (λ b. eqb b 1) bits

-- 2 ^ i has the one member i
pub member_alone : (i j : ℕ) → member i (2 ^ j) ≡ eqb i j
member_alone i j = go (cases_order i j)
  where
    plus : (n : ℕ) → member i (2 ^ n) ≡ member i (0 + 2 ^ n)
    plus n = ap (member i) (sym (zero-add (2 ^ n)))

    go : (i ≡ j) ⊎ ((i < j) ⊎ (j < i)) → member i (2 ^ j) ≡ eqb i j
    go (inl same) = rw (eq-eqb i j same, ← same) (plus i ∙ here 0 i (pow_pos i))
    go (inr (inl l)) = rw (ne_eqb i j (λ e. omega arith)) (plus j ∙ lower 0 i j l ∙ member_none i)
    go (inr (inr g)) = rw (ne_eqb i j (λ e. omega arith)) (none_above (2 ^ j) (suc j) i (pow_below j (suc j) (omega arith)) g)

pub member_own : (i : ℕ) → member i (2 ^ i) ≡ true
member_own i = member_alone i i ∙ eq-eqb i i refl

pub member_only : (i j : ℕ) → member i (2 ^ j) ≡ true → i ≡ j
member_only i j e = eqb-true i j (sym (member_alone i j) ∙ e)

-- a set with one more member
pub member_with : (i j set : ℕ) → member i (bit_or set (2 ^ j)) ≡ (eqb i j || member i set)
member_with i j set = member_or i set (2 ^ j) ∙ ap (λ x. member i set || x) (member_alone i j) ∙ turn (member i set) (eqb i j)
  where
    turn : (x y : Bool) → (x || y) ≡ (y || x)
    turn x y = grind arith

-- the first k
pub member_first : (k i : ℕ) → member i (2 ^ k - 1) ≡ ltb i k
member_first k i = go (cases_lt i k)
  where
    go : (i < k) ⊎ (k ≤ i) → member i (2 ^ k - 1) ≡ ltb i k
    go (inl h) = rw (lt-ltb i k h) (ap (member i) (sym (sub-zero (2 ^ k - 1))) ∙ member_not k i 0 h (pow_pos k) ∙ ap not (member_none i))
    go (inr h) = rw (le-ltb i k h) (none_above (2 ^ k - 1) k i (omega (arith, pow_pos k)) h)

-- how the first so many of w are made
pub first_of : (w k : ℕ) → k ≤ w → (2 ^ w - 1) / 2 ^ (w - k) ≡ 2 ^ k - 1
first_of w k h =
    let at : w ≡ k + (w - k) = omega arith in
    ap (λ n. (2 ^ n - 1) / 2 ^ (w - k)) at ∙ ap (λ n. n / 2 ^ (w - k)) (ones_split k (w - k))
    ∙ shr_high (2 ^ k - 1) (w - k) (2 ^ (w - k) - 1) (omega (arith, pow_pos (w - k)))

-- the members of a set that come before k
member_front : (k i set : ℕ) → member i (set % 2 ^ k) ≡ (member i set && ltb i k)
member_front k i set =
    ap (member i) (sym (and_mask set k)) ∙ member_and i set (2 ^ k - 1) ∙ ap (λ x. member i set && x) (member_first k i)

some_before : (k set : ℕ) → 0 < set % 2 ^ k → (i : ℕ) × (i < k) × (member i set ≡ true)
some_before k set some =
    let found = some_member k (set % 2 ^ k) some (mod_below set (2 ^ k) (pow_pos k)) in
    let i = found.0 in
    let parts = and_parts (member i set) (ltb i k) (sym (member_front k i set) ∙ found.2) in
    (i, found.1, parts.0)

-- the low bits tell whether a set has a member below k
pub some_below : (k set low : ℕ) → low ≡ 2 ^ k - 1 → bit_and set low ≢ 0 → (i : ℕ) × (i < k) × (member i set ≡ true)
some_below k set low is some =
    let front : bit_and set low ≡ set % 2 ^ k = rw is (and_mask set k) in
    some_before k set (omega arith)

pub none_below : (k set low : ℕ) → low ≡ 2 ^ k - 1 → bit_and set low ≡ 0 → set ≡ set / 2 ^ k * 2 ^ k
none_below k set low is none =
    let front : bit_and set low ≡ set % 2 ^ k = rw is (and_mask set k) in
    let split = shr_split set k in
    omega arith

-- ---- two members

next_below : (j k : ℕ) → j < k → 2 ^ j + 2 ^ j ≤ 2 ^ k
next_below j k h = go (cases_eq (suc j) k)
  where
    double : 2 ^ suc j ≡ 2 ^ j + 2 ^ j
    double = omega arith

    go : (suc j ≡ k) ⊎ (suc j ≡ k → ⊥) → 2 ^ j + 2 ^ j ≤ 2 ^ k
    go (inl same) = omega (arith, double, ap (λ n. 2 ^ n) same)
    go (inr other) = omega (arith, double, pow_below (suc j) k (omega arith))

pub two_below : (i j k : ℕ) → i ≢ j → i < k → j < k → 2 ^ i + 2 ^ j < 2 ^ k
two_below i j k off hi hj = go (cases_lt i j)
  where
    go : (i < j) ⊎ (j ≤ i) → 2 ^ i + 2 ^ j < 2 ^ k
    go (inl l) = omega (arith, pow_below i j l, next_below j k hj)
    go (inr l) = let less : j < i = omega arith in omega (arith, pow_below j i less, next_below i k hi)

ordered_two : (i j s : ℕ) → i < j → member s (2 ^ i + 2 ^ j) ≡ true → (s ≡ i) ⊎ (s ≡ j)
ordered_two i j s h e = go (cases_order s j)
  where
    go : (s ≡ j) ⊎ ((s < j) ⊎ (j < s)) → (s ≡ i) ⊎ (s ≡ j)
    go (inl at) = inr at
    go (inr (inl l)) = inl (member_only s i (sym (lower (2 ^ i) s j l) ∙ e))
    go (inr (inr g)) = absurd (both_ways (member s (2 ^ i + 2 ^ j)) (above (2 ^ i + 2 ^ j) s (two_below i j s (omega arith) (omega arith) g)) e)

pub member_two : (i j s : ℕ) → i ≢ j → member s (2 ^ i + 2 ^ j) ≡ true → (s ≡ i) ⊎ (s ≡ j)
member_two i j s off e = go (cases_lt i j)
  where
    turn : (s ≡ j) ⊎ (s ≡ i) → (s ≡ i) ⊎ (s ≡ j)
    turn (inl x) = inr x
    turn (inr x) = inl x

    go : (i < j) ⊎ (j ≤ i) → (s ≡ i) ⊎ (s ≡ j)
    go (inl l) = ordered_two i j s l e
    go (inr l) = turn (ordered_two j i s (omega arith) (ap (member s) (add_comm (2 ^ j) (2 ^ i)) ∙ e))

pub member_right : (i j : ℕ) → i ≢ j → member j (2 ^ i + 2 ^ j) ≡ true
member_right i j off = go (cases_lt i j)
  where
    go : (i < j) ⊎ (j ≤ i) → member j (2 ^ i + 2 ^ j) ≡ true
    go (inl l) = here (2 ^ i) j (pow_below i j l)
    go (inr l) = ap (member j) (add_comm (2 ^ i) (2 ^ j)) ∙ lower (2 ^ j) j i (omega arith) ∙ member_own j

pub member_left : (i j : ℕ) → i ≢ j → member i (2 ^ i + 2 ^ j) ≡ true
member_left i j off = ap (member i) (add_comm (2 ^ i) (2 ^ j)) ∙ member_right j i (λ e. off (sym e))

-- ---- those below k that pass a test

pub gathered_below : (f : ℕ → Bool) (k : ℕ) → gathered f k < 2 ^ k
unfolding gathered
gathered_below f zero = omega arith
gathered_below f (suc k) =
    let ih = gathered_below f k in
    elim (f k) as (λ b. gathered f k + cond b (2 ^ k) 0 < 2 ^ suc k) [ true ↦ omega arith | false ↦ omega arith ]

pub member_gathered : (f : ℕ → Bool) (k i : ℕ) → i < k → member i (gathered f k) ≡ f i
unfolding gathered
member_gathered f zero i h = absurd (omega arith)
member_gathered f (suc k) i h =
    below_suc (λ i. member i (gathered f (suc k)) ≡ f i) k (λ i l. old i l (member_gathered f k i l) (f k)) (new (f k)) i h
  where
    old : (i : ℕ) → i < k → member i (gathered f k) ≡ f i → (b : Bool) → member i (gathered f k + cond b (2 ^ k) 0) ≡ f i
    old i l ih true = lower (gathered f k) i k l ∙ ih
    old i l ih false = ap (member i) (add-zero (gathered f k)) ∙ ih

    new : (b : Bool) → member k (gathered f k + cond b (2 ^ k) 0) ≡ b
    new true = here (gathered f k) k (gathered_below f k)
    new false = ap (member k) (add-zero (gathered f k)) ∙ above (gathered f k) k (gathered_below f k)

-- and there is one such set
pub gathered_is : (f : ℕ → Bool) (k set : ℕ) → Holds set (λ i. ltb i k && f i) → set ≡ gathered f k
gathered_is f k set holds = same_set set (gathered f k) (λ i. holds i ∙ go i (cases_lt i k))
  where
    go : (i : ℕ) → (i < k) ⊎ (k ≤ i) → (ltb i k && f i) ≡ member i (gathered f k)
    go i (inl h) = rw (lt-ltb i k h) (sym (member_gathered f k i h))
    go i (inr h) = rw (le-ltb i k h) (sym (none_above (gathered f k) k i (gathered_below f k) h))

-- ---- how large a set is

pub size_gathered : (f : ℕ → Bool) (k : ℕ) → size k (gathered f k) ≡ count f k
size_gathered f k = count_same (λ i. member i (gathered f k)) f k (member_gathered f k)

low_one : (set : ℕ) → cond (member 0 set) 1 0 ≡ set % 2
low_one set = rw (member_low set) (grind arith)

size_low : (k set : ℕ) → size (suc k) set ≡ set % 2 + size k (set / 2)
unfolding count
size_low zero set = omega (arith, low_one set)
size_low (suc k) set = omega (arith, size_low k set, ap {B = ℕ} (λ b. cond b 1 0) (member_suc k set))

-- the bits of a set that has no member from k on
pub size_ones : (k set : ℕ) → set < 2 ^ k → ones set ≡ size k set
unfolding ones count
size_ones zero set small = let e : set ≡ 0 = omega arith in rw e
size_ones (suc k) set small =
    ones_step set ∙ rw (size_ones k (set / 2) (omega (arith, pow-suc 2 k))) (sym (size_low k set))

-- ---- whether each member of a set is one of another

without : (k i a b : ℕ) → i < k → b < 2 ^ k → member i (bit_and a (2 ^ k - 1 - b)) ≡ (member i a && not (member i b))
without k i a b h lb = member_and i a (2 ^ k - 1 - b) ∙ ap (λ x. member i a && x) (member_not k i b h lb)

pub tells_subset :
    (k a b : ℕ) → a < 2 ^ k → b < 2 ^ k → (r : Bool) → eqb (bit_and a (2 ^ k - 1 - b)) 0 ≡ r → TellsSubset a b r
tells_subset k a b la lb true e = λ i ma.
    let none = sym (without k i a b (member_below a k i la ma) lb)
    ∙ ap (member i) (eqb-true (bit_and a (2 ^ k - 1 - b)) 0 e) ∙ member_none i in
    within (member i a) (member i b) none ma
  where
    within : (x y : Bool) → (x && not y) ≡ false → x ≡ true → y ≡ true
    within x y none here = grind arith
tells_subset k a b la lb false e =
    let ne = eqb-false (bit_and a (2 ^ k - 1 - b)) 0 e in
    let found = some_member k (bit_and a (2 ^ k - 1 - b)) (omega arith) (omega (arith, and_le_l a (2 ^ k - 1 - b))) in
    let i = found.0 in
    let parts = left_out (member i a) (member i b) (sym (without k i a b found.1 lb) ∙ found.2) in
    (i, parts.0, parts.1)
  where
    left_out : (x y : Bool) → (x && not y) ≡ true → (x ≡ true) × (y ≡ false)
    left_out x y e = grind arith

-- ---- a word's own operations, which drop what goes past its last bit

-- one bit moved up within the word
pub one_up : (j : ℕ) → j < width → 1 * 2 ^ j % 2 ^ width ≡ 2 ^ j
one_up j h = one_shl j width h

-- what has room in the word stays as it is
pub kept_whole : (n : ℕ) → n < 2 ^ width → n % 2 ^ width ≡ n
kept_whole n h = mod-eq_of_lt h

-- no bit outside the other word is no member outside it
pub subset_told : (a b : ℕ) → a < 2 ^ width → b < 2 ^ width → TellsSubset a b (eqb (bit_and a (2 ^ width - 1 - b)) 0)
subset_told a b la lb = tells_subset width a b la lb _ refl
