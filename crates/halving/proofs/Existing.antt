-- Executions exist: play every part with the corrupt parties silent, and put the parts together.
use Rattle.std.proofs.Common.{◌≡◌, ℕ, suc, ◌+◌, ◌-◌, ◌*◌, ◌<◌, ◌≤◌, Bool, true, false, cond, ◌⊎◌, List, map, length, Some, None, Option, unwrap_or, sym, refl, ap, ◌∙◌, subst, inl, inr, arith}
use Rattle.std.specs.List.{range_with_len}
use Rattle.std.proofs.lemmas.List.FromFn.{get_or-map-range_with_len, length-map-range_with_len}
use Rattle.std.proofs.lemmas.List.{get_or_past}
use Rattle.std.proofs.lemmas.Bool.{cond-true, cond-false, cases_Bool, cases_lt}
use Rattle.message.specs.Count.{count}
use Rattle.message.specs.Members.{quorum}
use Rattle.message.specs.Tally.{Day, names, entry, tally, reaching}
use Rattle.message.proofs.Counting.{count_same}
use Rattle.message.proofs.Tallying.{tally_upto, reaching_has, reaching_only, reaching_named}
use Rattle.protocol.specs.Protocol.{Protocol}
use Rattle.protocol.specs.Grading.{Grading, LeavesWithDays, day_of, grade_of}
use Rattle.protocol.specs.Agreement.{Meaning, protocol_of, answer, Agrees}
use Rattle.protocol.proofs.Continuing.{exist}
use Rattle.committee.specs.Plan.{duration}
use Rattle.committee.specs.Tree.{Tree, leaf, node, low, size, Split, Halved}
use Rattle.halving.specs.Execution.{Run, trace, Turn, Turns, turn_time, time, Exec}
use Rattle.halving.specs.Theorems.{OnlyGrows, HoldDays, ExecutionsExist}
use Rattle.halving.proofs.Timeline.{was_honest}

module _ (corrupt : ℕ → ℕ → Bool) (grows : OnlyGrows corrupt) where
  -- a play of any protocol on days
  a_run : {R : Type 0} (p : Protocol R) (t lo s : ℕ) (day : ℕ → ℕ) → HoldDays corrupt t lo s day → Run corrupt p t lo s day
  a_run p t lo s day days =
      let made = exist p s (λ i. day (lo + i)) (λ r i. corrupt (t + r) (lo + i))
      (λ i hi good. days i hi (subst (λ n. corrupt n (lo + i) ≡ false) (omega arith) good))
      (λ r i _ _ bad. subst (λ n. corrupt n (lo + i) ≡ true) (omega arith) (grows (t + r) (lo + i) bad)) in
      record { inbox = made.0; play = made.1 }

  -- what a committee can be made to do: an execution, after which its honest parties hold days
  record Made (Part : (ℕ → ℕ) → Type 0) (end lo s : ℕ) : Type 0 where
    after : ℕ → ℕ
    done : Part after
    days : HoldDays corrupt end lo s after

  -- one half's turn, if the half can be made to do its part
  module _ {G : Type 0} (g : Grading G) (leaves : LeavesWithDays g) (t lo s half_time half_lo half_size skip : ℕ)
      (at : half_lo ≡ lo + skip) (inside : skip + half_size ≤ s) (Half : ℕ → (ℕ → ℕ) → (ℕ → ℕ) → Type 0)
      (make : (held : ℕ → ℕ) → HoldDays corrupt (t + g.protocol.rounds s) half_lo half_size held
      → Made (Half (t + g.protocol.rounds s) held) (t + g.protocol.rounds s + half_time) half_lo half_size)
      (before : ℕ → ℕ) (begin : HoldDays corrupt t lo s before) where
    run : Run corrupt g.protocol t lo s before
    run = a_run g.protocol t lo s before begin

    held : ℕ → ℕ
    held party = day_of g s (trace corrupt run) (party - lo)

    sure_at : ℕ → Bool
    sure_at party = grade_of g s (trace corrupt run) (party - lo)

    seat : (i : ℕ) → (lo + i) - lo ≡ i
    seat i = omega arith

    held_days : HoldDays corrupt (t + g.protocol.rounds s) lo s held
    unfolding held
    held_days i hi good = subst (λ x. Day (day_of g s (trace corrupt run) x)) (sym (seat i)) (leaves s (trace corrupt run) run.play i hi good)

    half_days : HoldDays corrupt (t + g.protocol.rounds s) half_lo half_size held
    half_days j hj good =
        let here : half_lo + j ≡ lo + (skip + j) = omega (arith, at) in
        subst (λ x. Day (held x)) (sym here) (held_days (skip + j) (omega arith) (sym (ap (corrupt (t + g.protocol.rounds s)) here) ∙ good))

    half : Made (Half (t + g.protocol.rounds s) held) (t + g.protocol.rounds s + half_time) half_lo half_size
    half = make held half_days

    -- honest seats of the half report its answer, and corrupt ones are silent
    said : ℕ → Option ℕ
    said j = cond (corrupt (suc (t + g.protocol.rounds s + half_time)) (half_lo + j)) None (Some (half.after (half_lo + j)))

    reports : List (Option ℕ)
    reports = map said (range_with_len 0 half_size)

    reports_length : length reports ≡ half_size
    unfolding reports
    reports_length = length-map-range_with_len said 0 half_size

    reports_at : (j : ℕ) → j < half_size → entry reports j ≡ said j
    unfolding reports
    reports_at j hj = get_or-map-range_with_len said 0 half_size j j None hj (omega arith)

    reported : (v : ℕ) → tally reports v ≡ count (λ j. names v (said j)) half_size
    reported v =
        tally_upto reports half_size v (omega (arith, reports_length))
        ∙ count_same (λ j. names v (entry reports j)) (λ j. names v (said j)) half_size (λ j hj. ap (names v) (reports_at j hj))

    after : ℕ → ℕ
    after party = cond (sure_at party) (held party) (unwrap_or (reaching (quorum half_size) reports) (held party))

    after_sure : (i : ℕ) → grade_of g s (trace corrupt run) i ≡ true → after (lo + i) ≡ held (lo + i)
    unfolding after sure_at
    after_sure i e =
        cond-true _ (held (lo + i)) (unwrap_or (reaching (quorum half_size) reports) (held (lo + i))) (ap (λ x. grade_of g s (trace corrupt run) x) (seat i) ∙ e)

    after_unsure : (i : ℕ) → grade_of g s (trace corrupt run) i ≡ false → after (lo + i) ≡ unwrap_or (reaching (quorum half_size) reports) (held (lo + i))
    unfolding after sure_at
    after_unsure i e =
        cond-false _ (held (lo + i)) (unwrap_or (reaching (quorum half_size) reports) (held (lo + i))) (ap (λ x. grade_of g s (trace corrupt run) x) (seat i) ∙ e)

    told : (v : ℕ) → half_size < 2 * count (λ j. names v (said j)) half_size → reaching (quorum half_size) reports ≡ Some v
    told v most = reaching_only reports half_size (omega (arith, reports_length)) v (omega (arith, reported v))

    untold : ((v : ℕ) → 2 * count (λ j. names v (said j)) half_size ≤ half_size) → reaching (quorum half_size) reports ≡ None
    untold few = go (reaching (quorum half_size) reports) refl
      where
        go : (o : Option ℕ) → reaching (quorum half_size) reports ≡ o → o ≡ None
        go None e = refl
        go (Some v) e = absurd (omega (arith, few v, reaching_has (quorum half_size) reports v e, reported v))

    turn : Turn corrupt g t lo s half_time half_lo half_size Half before after
    unfolding held said
    turn = record {
      run = run;
      held = held;
      held_is = λ i hi _. ap (λ x. day_of g s (trace corrupt run) x) (seat i);
      answers = half.after;
      half = half.done;
      report = λ _ j. said j;
      from_honest = λ i j _ hj good. cond-false _ None (Some (half.after (half_lo + j))) good;
      sure = λ i _ _ e. after_sure i e;
      told = λ i _ _ e v most. after_unsure i e ∙ ap (λ o. unwrap_or o (held (lo + i))) (told v most);
      untold = λ i _ _ e few. after_unsure i e ∙ ap (λ o. unwrap_or o (held (lo + i))) (untold few);
    }

    -- what is reported by a majority was reported by an honest seat
    majority_day : (o : Option ℕ) (own : ℕ) → reaching (quorum half_size) reports ≡ o → Day own → Day (unwrap_or o own)
    unfolding said
    majority_day None own e d = d
    majority_day (Some v) own e d = from (reaching_named (quorum half_size) reports v e)
      where
        speaks : (j : ℕ) (b : Bool) → corrupt (suc (t + g.protocol.rounds s + half_time)) (half_lo + j) ≡ b → j < half_size
            → cond b None (Some (half.after (half_lo + j))) ≡ Some v → Day v
        speaks j true is hj e = absurd (cc)
        speaks j false is hj e =
            let same : half.after (half_lo + j) ≡ v = cc in
            subst Day same (half.days j hj (was_honest corrupt grows (t + g.protocol.rounds s + half_time) (suc (t + g.protocol.rounds s + half_time)) (half_lo + j) (omega arith) is))

        from : (j : ℕ) × (entry reports j ≡ Some v) → Day v
        from found = side (cases_lt found.0 half_size)
          where
            side : (found.0 < half_size) ⊎ (half_size ≤ found.0) → Day v
            side (inl hj) =
                speaks found.0 (corrupt (suc (t + g.protocol.rounds s + half_time)) (half_lo + found.0)) refl hj (sym (reports_at found.0 hj) ∙ found.1)
            side (inr out) =
                let none = get_or_past reports found.0 None (omega (arith, reports_length)) in
                let some = found.1 in
                absurd (cc)

    after_days : HoldDays corrupt (t + turn_time g s half_time) lo s after
    after_days i hi good = go (cases_Bool (grade_of g s (trace corrupt run) i))
      where
        own : Day (held (lo + i))
        own = held_days i hi (was_honest corrupt grows (t + g.protocol.rounds s) (t + turn_time g s half_time) (lo + i) (omega arith) good)

        go : (grade_of g s (trace corrupt run) i ≡ true) ⊎ (grade_of g s (trace corrupt run) i ≡ false) → Day (after (lo + i))
        go (inl e) = subst Day (sym (after_sure i e)) own
        go (inr e) = subst Day (sym (after_unsure i e)) (majority_day (reaching (quorum half_size) reports) (held (lo + i)) refl own)

    made_turn : Made (Turn corrupt g t lo s half_time half_lo half_size Half before) (t + turn_time g s half_time) lo s
    made_turn = record { after = after; done = turn; days = after_days }

  module _ {B G : Type 0} (a : Meaning B) (g : Grading G) (agrees : Agrees a) (leaves : LeavesWithDays g) where
    -- the two turns of a committee, if its halves can be made to do theirs
    both : (lo s : ℕ) (l r : Tree) → Split lo s l r → (t : ℕ) (before : ℕ → ℕ) → HoldDays corrupt t lo s before
        → ((held : ℕ → ℕ) → HoldDays corrupt (t + g.protocol.rounds s) (low l) (size l) held
        → Made (Exec corrupt a g l (t + g.protocol.rounds s) held) (t + g.protocol.rounds s + time a g l) (low l) (size l))
        → ((held : ℕ → ℕ) → HoldDays corrupt (t + turn_time g s (time a g l) + g.protocol.rounds s) (low r) (size r) held
        → Made (Exec corrupt a g r (t + turn_time g s (time a g l) + g.protocol.rounds s) held)
        (t + turn_time g s (time a g l) + g.protocol.rounds s + time a g r) (low r) (size r))
        → Made (Turns corrupt a g t lo s l r (Exec corrupt a g l) (Exec corrupt a g r) before) (t + (turn_time g s (time a g l) + turn_time g s (time a g r))) lo s
    both lo s l r split t before begin left right =
        let first =
        made_turn g leaves t lo s (time a g l) (low l) (size l) 0 (omega (arith, split.left_low)) (omega (arith, split.left_size)) (Exec corrupt a g l)
        left before begin in
        let second =
        made_turn g leaves (t + turn_time g s (time a g l)) lo s (time a g r) (low r) (size r) (size l)
        (omega (arith, split.right_low, split.left_size)) (omega (arith, split.left_size, split.right_size)) (Exec corrupt a g r)
        right first.after first.days in
        record {
          after = second.after;
          done = record { between = first.after; first = first.done; second = second.done };
          days = λ i hi good. second.days i hi (subst (λ n. corrupt n (lo + i) ≡ false) (omega arith) good);
        }

    make : (tree : Tree) → Halved a.most tree → (t : ℕ) (before : ℕ → ℕ) → HoldDays corrupt t (low tree) (size tree) before
        → Made (Exec corrupt a g tree t before) (t + time a g tree) (low tree) (size tree)
    unfolding Halved Exec duration
    make (leaf lo s) fits t before begin = record {
      after = λ party. answer a s (trace corrupt run) (party - lo);
      done = record { run = run; answers = λ i hi _. ap (λ x. answer a s (trace corrupt run) x) (omega arith) };
      days = λ i hi good.
          subst (λ x. Day (answer a s (trace corrupt run) x)) (omega arith) (agrees.a_day s (trace corrupt run) (fits.0, fits.1) run.play i hi good);
    }
      where
        run : Run corrupt (protocol_of a) t lo s before
        run = a_run (protocol_of a) t lo s before begin
    make (node lo s l r) fits t before begin =
        both lo s l r fits.1 t before begin (make l fits.2 (t + g.protocol.rounds s))
        (make r fits.3 (t + turn_time g s (time a g l) + g.protocol.rounds s))

pub executions : {B G : Type 0} → ExecutionsExist B G
executions a g agrees leaves corrupt grows tree fits t before begin =
    let made = make corrupt grows a g agrees leaves tree fits t before begin in
    (made.after, made.done)
