-- One party's part when a round closes: what it hears, and what it holds afterwards.
use Rattle.std.specs.Prelude.{ℕ, ◌+◌, ◌-◌, cond, ◌&&◌, List, map, Some, None, Option, ◌==◌, nat_le, slice_set}
use Rattle.std.specs.List.{range_with_len}
use Rattle.std.specs.Option.{unwrap_or}
use Rattle.message.specs.declared.Message.{Message}
use Rattle.message.specs.Members.{quorum}
use Rattle.message.specs.Tally.{slot_day, reaching}
use Rattle.protocol.specs.declared.Form.{Form}
use Rattle.protocol.specs.Protocol.{Inbox, arrived}
use Rattle.protocol.specs.Grading.{Grading}
use Rattle.protocol.specs.Agreement.{Meaning}
use Rattle.committee.specs.declared.stages.Stage.{Stage}
use Rattle.runs.specs.State.{Party, day_at, sure_at}
use Rattle.runs.specs.Round.{Work, grading, reporting, agreeing, work, party_of, seat_of, in_half, form_in}

module _ {B G : Type 0} (a : Meaning B) (g : Grading G) where
  -- the day that a seat of k enters a committee with; a base agreement without rounds answers at once
  abbrev pub entered : ℕ → ℕ → ℕ → ℕ
  entered k i day = cond (nat_le k a.most && a.rounds k == 0) (a.day (a.start k i day)) day

  -- a message that has no form is as if it had not come
  abbrev pub if_formed : Option Form → Option Message → Option Message
  if_formed None o = None
  if_formed (Some f) o = o

  abbrev pub formed : Stage → ℕ → ℕ → Option Message → Option Message
  formed st t i None = None
  formed st t i (Some m) = if_formed (form_in a g st t i m.signers.mask) (Some m)

  -- the last round of a graded agreement: a day and a grade, and a seat of the half enters the half with that day
  abbrev pub leave_grading : Stage → ℕ → Party B G → G → Party B G
  leave_grading st i p x =
      let d = st.committee.depth in
      let own = slice_set p.days d (g.outcome x).0 in
      record {
        days = cond (in_half st i) (slice_set own st.half.depth (entered st.half.size (party_of st i - st.half.first) (g.outcome x).0)) own;
        sure = slice_set p.sure d (g.outcome x).1;
        graded = x;
        base = p.base;
        signed = p.signed;
      }

  -- the days that the half's seats report
  abbrev pub reported : Stage → Inbox → List (Option ℕ)
  reported st box = map (λ j. slot_day (arrived st.committee.size box 0 (seat_of st (st.half.first + j)))) (range_with_len 0 st.half.size)

  -- one that is not sure goes by what more than half of the half's seats report, if they report one day
  abbrev pub go_by_report : Stage → Party B G → Inbox → Party B G
  go_by_report st p box =
      let d = st.committee.depth in
      let told = slice_set p.days d (unwrap_or (reaching (quorum st.half.size) (reported st box)) (day_at p d)) in
      record { days = cond (sure_at p d) p.days told; sure = p.sure; graded = p.graded; base = p.base; signed = p.signed }

  -- what seat i holds after the round, by what arrived
  abbrev pub hears_for : Work → Stage → ℕ → Party B G → Inbox → Party B G
  hears_for grading st i p box =
      let x = g.protocol.hear p.graded st.round box in
      let more : Party B G = record { days = p.days; sure = p.sure; graded = x; base = p.base; signed = p.signed } in
      let last = leave_grading st i p x in
      cond (st.round == g.protocol.rounds st.committee.size) last more
  hears_for reporting st i p box = go_by_report st p box
  hears_for agreeing st i p box =
      let y = a.hear p.base st.round box in
      let more : Party B G = record { days = p.days; sure = p.sure; graded = p.graded; base = y; signed = p.signed } in
      let last : Party B G = record { days = slice_set p.days st.committee.depth (a.day y); sure = p.sure; graded = p.graded; base = y; signed = p.signed } in
      cond (st.round == a.rounds st.committee.size) last more

  unfoldable pub hears_in : Stage → ℕ → Party B G → Inbox → Party B G
  hears_in st i p box = hears_for (work st) st i p box
