-- In a play of the four rounds, what honest seats keep, say and leave with is on days.
use Rattle.std.proofs.Common.{◌≡◌, ℕ, zero, suc, ◌<◌, ◌≤◌, true, false, ◌⊎◌, List, Some, None, Option, unwrap_or, sym, refl, ap, ◌∙◌, subst, inl, inr, arith}
use Rattle.std.proofs.lemmas.Bool.{cases_Bool}
use Rattle.message.specs.declared.Message.{Message}
use Rattle.message.specs.Members.{quorum}
use Rattle.message.specs.Tally.{Day, slot_day, entry, reaching}
use Rattle.protocol.specs.Protocol.{Inbox}
use Rattle.protocol.specs.Play.{Trace, state, hears, Sends, Play}
use Rattle.protocol.specs.Inboxes.{under, days}
use Rattle.protocol.specs.Grading.{LeavesWithDays}
use Rattle.protocol.proofs.Reading.{entry_of, few_entries, slot_names}
use Rattle.protocol.proofs.Arriving.{was_honest}
use Rattle.graded.specs.declared.seats.Seat.{Seat}
use Rattle.graded.specs.declared.table.Role.{Role}
use Rattle.graded.specs.declared.table.Role.TheVariants.{Echo, EchoCertificate, Vote, VoteCertificate, SecondVote}
use Rattle.graded.specs.Roles.{role_at}
use Rattle.graded.specs.Steps.{signed_by, certificate, unless_disputed, says_at, hear, four_rounds}
use Rattle.message.proofs.Tallying.{reaching_named}
use Rattle.graded.proofs.Reading.{entry_within, signed_day, certificate_day}
use Rattle.graded.proofs.Grades.{undisputed_is}
use Rattle.graded.proofs.Hearing.{P}

-- whatever is named is a day
abbrev NamedDays : List (Option ℕ) → Type 0
NamedDays named = (j u : ℕ) → entry named j ≡ Some u → Day u

-- if anything is named, it is a day
abbrev IfDay : Option ℕ → Type 0
IfDay o = (u : ℕ) → o ≡ Some u → Day u

no_day : IfDay None
no_day u e = cc

just_day : (v : ℕ) → Day v → IfDay (Some v)
just_day v h u e = let same : v ≡ u = cc in subst Day same h

-- all that a seat keeps is on days
record OnDays (s : Seat) : Type 0 where
  day : Day s.day
  echoes : IfDay (slot_day s.echoes)
  vote : IfDay s.vote
  votes : IfDay (slot_day s.votes)

reached_day : (mark : ℕ) (named : List (Option ℕ)) → NamedDays named → IfDay (reaching mark named)
reached_day mark named all u e = let at = reaching_named mark named u e in all at.0 u at.1

certified_day : (k : ℕ) (named : List (Option ℕ)) → NamedDays named → IfDay (slot_day (certificate k named))
certified_day k named all u e = reached_day (quorum k) named all u (sym (certificate_day k named) ∙ e)

undisputed_day : (named : List (Option ℕ)) (o : Option ℕ) → IfDay o → IfDay (unless_disputed named o)
undisputed_day named o h u e = h u (undisputed_is named o u e).0

taken_day : (o : Option ℕ) (own : ℕ) → IfDay o → Day own → Day (unwrap_or o own)
taken_day None own h d = d
taken_day (Some v) own h d = h v refl

-- what it hears on days it keeps on days
hears_days : (s : Seat) (r : ℕ) (x : Inbox) → OnDays s → ((t : ℕ) → t < 2 → NamedDays (days (under s.seats t x))) → OnDays (hear s r x)
hears_days s zero x h all = h
hears_days s (suc zero) x h all = record {
  day = h.day;
  echoes = certified_day s.seats (days (under s.seats 0 x)) (all 0 (omega arith));
  vote = h.vote;
  votes = h.votes;
}
hears_days s (suc (suc zero)) x h all = record {
  day = h.day;
  echoes = h.echoes;
  vote = undisputed_day (days (under s.seats 0 x)) (slot_day s.echoes) h.echoes;
  votes = h.votes;
}
hears_days s (suc (suc (suc zero))) x h all = record {
  day = h.day;
  echoes = h.echoes;
  vote = h.vote;
  votes = certified_day s.seats (days (under s.seats 0 x)) (all 0 (omega arith));
}
hears_days s (suc (suc (suc (suc zero)))) x h all = record {
  day = taken_day (reaching 1 (days (under s.seats 0 x))) s.day (reached_day 1 (days (under s.seats 0 x)) (all 0 (omega arith))) h.day;
  echoes = h.echoes;
  vote = h.vote;
  votes = h.votes;
}
hears_days s (suc (suc (suc (suc (suc r))))) x h all = h

-- what it keeps on days it says on days
signed_on : (who : ℕ → ℕ) (o : Option ℕ) → IfDay o → IfDay (slot_day (signed_by who o))
signed_on who o h u e = h u (sym (signed_day who o) ∙ e)

says_days : (s : Seat) (o : Option Role) → OnDays s → IfDay (slot_day (says_at s o))
says_days s None h = no_day
says_days s (Some Echo) h = just_day s.day h.day
says_days s (Some EchoCertificate) h = h.echoes
says_days s (Some Vote) h = signed_on _ s.vote h.vote
says_days s (Some VoteCertificate) h = h.votes
says_days s (Some SecondVote) h = signed_on _ (slot_day s.votes) h.votes

-- the number of seats is never lost
keeps_seats : (s : Seat) (r : ℕ) (x : Inbox) → (hear s r x).seats ≡ s.seats
keeps_seats s zero x = refl
keeps_seats s (suc zero) x = refl
keeps_seats s (suc (suc zero)) x = refl
keeps_seats s (suc (suc (suc zero))) x = refl
keeps_seats s (suc (suc (suc (suc zero)))) x = refl
keeps_seats s (suc (suc (suc (suc (suc r))))) x = refl

module _ (k : ℕ) (tr : Trace) where
  has_seats : (r i : ℕ) → (state P k tr r i).seats ≡ k
  unfolding state
  has_seats zero i = refl
  has_seats (suc r) i = keeps_seats (state P k tr r i) (suc r) (tr.inbox (suc r) i) ∙ has_seats r i

  begins : (i : ℕ) → Day (tr.input i) → OnDays (state P k tr 0 i)
  unfolding state
  begins i d = record { day = d; echoes = no_day; vote = no_day; votes = no_day }

  goes_on : (r i : ℕ) → OnDays (hear (state P k tr r i) (suc r) (tr.inbox (suc r) i)) → OnDays (state P k tr (suc r) i)
  unfolding state
  goes_on r i h = h

  module _ (play : Play P k tr) where
    -- what arrives is on days, if what honest seats keep is
    arrives : (r : ℕ) → r < 4 → ((j : ℕ) → j < k → tr.corrupt r j ≡ false → OnDays (state P k tr r j))
        → (t i : ℕ) → t < 2 → i < k → NamedDays (days (under k t (tr.inbox (suc r) i)))
    arrives r hr kept t i ht hi j u e =
        from (omega (arith, entry_within (days (under k t (tr.inbox (suc r) i))) j u e, few_entries k t (tr.inbox (suc r) i))) (cases_Bool (tr.corrupt (suc r) j))
      where
        from : j < k → (tr.corrupt (suc r) j ≡ true) ⊎ (tr.corrupt (suc r) j ≡ false) → Day u
        from hj (inl bad) =
            let read = slot_names (hears P k tr r t j i) u (sym (entry_of k t (tr.inbox (suc r) i) j hj) ∙ e) in
            let can = play.from_corrupt r t j i hr ht hj hi bad read.0 read.1 in
            subst Day read.2 can.a_day
        from hj (inr good) =
            let said = sym (entry_of k t (tr.inbox (suc r) i) j hj ∙ ap slot_day (play.from_honest r t j i hr ht hj hi good)) ∙ e in
            says_days (state P k tr r j) (role_at (suc r) t) (kept j hj (was_honest P k tr play r j hr hj good)) u said

    on_days : (r : ℕ) → r ≤ 4 → (i : ℕ) → i < k → tr.corrupt r i ≡ false → OnDays (state P k tr r i)
    on_days zero hr i hi good = begins i (play.days i hi good)
    on_days (suc r) hr i hi good =
        goes_on r i
        (hears_days (state P k tr r i) (suc r) (tr.inbox (suc r) i) (on_days r (omega arith) i hi (was_honest P k tr play r i hr hi good))
        (λ t ht. subst (λ n. NamedDays (days (under n t (tr.inbox (suc r) i)))) (sym (has_seats r i)) (arrives r hr (on_days r (omega arith)) t i ht hi)))

    -- what an honest seat sends is on a day
    pub sends_day : (r t i : ℕ) (m : Message) → Sends P k tr r t i m → Day m.day
    sends_day r t i m s =
        says_days (state P k tr r i) (role_at (suc r) t) (on_days r (omega (arith, s.a_round)) i s.a_seat s.honest) m.day (ap slot_day s.says_it)

-- and so is what it leaves with
pub leaves : LeavesWithDays four_rounds
leaves k tr play i hi good = (on_days k tr play 4 (omega arith) i hi good).day
