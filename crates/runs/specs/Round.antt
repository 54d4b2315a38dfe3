-- One party's part when a round opens: what it says, in which form, and what it has signed then.
use Rattle.std.specs.Prelude.{ℕ, zero, suc, ◌+◌, ◌-◌, ◌^◌, Bool, false, cond, ◌&&◌, List, replicate, Some, None, Option, ◌==◌, slice_set}
use Rattle.message.specs.declared.Message.{Message}
use Rattle.message.specs.Members.{member}
use Rattle.protocol.specs.declared.Form.{Form}
use Rattle.protocol.specs.declared.Form.TheVariants.{Listed, Certificate}
use Rattle.protocol.specs.Grading.{Grading}
use Rattle.protocol.specs.Agreement.{Meaning, base_topics}
use Rattle.committee.specs.declared.stages.Part.{Part}
use Rattle.committee.specs.declared.stages.Part.TheVariants.{FirstGraded, FirstReport, SecondGraded, SecondReport, Base}
use Rattle.committee.specs.declared.stages.Stage.{Stage}
use Rattle.committee.specs.Plan.{sits}
use Rattle.runs.specs.State.{Party, day_at}

-- what a committee is at: grading, hearing a half's report, or the base agreement
pub data Work : Type 0 where
  grading reporting agreeing : Work

abbrev pub work_of : Part → Work
work_of FirstGraded = grading
work_of SecondGraded = grading
work_of FirstReport = reporting
work_of SecondReport = reporting
work_of Base = agreeing

abbrev pub work : Stage → Work
work st = work_of st.part

-- how many topics are in use
abbrev pub topics_for : Work → ℕ
topics_for grading = 2
topics_for reporting = 2
topics_for agreeing = base_topics

-- the party of a seat, and the seat of a party
abbrev pub party_of : Stage → ℕ → ℕ
party_of st i = st.committee.first + i

abbrev pub seat_of : Stage → ℕ → ℕ
seat_of st p = p - st.committee.first

-- seat i of the committee sits in the half whose turn it is
abbrev pub in_half : Stage → ℕ → Bool
in_half st i = sits st.half (party_of st i)

module _ {B G : Type 0} (a : Meaning B) (g : Grading G) where
  -- a report is a word of a seat of the half, under topic 0
  abbrev pub report_form : Stage → ℕ → ℕ → ℕ → Option Form
  report_form st t i signers = cond (t == 0 && (in_half st i && signers == 2 ^ i)) (Some Listed) None

  -- the form of a message of seat i under topic t, by its signers as seats
  abbrev pub form_for : Work → Stage → ℕ → ℕ → ℕ → Option Form
  form_for grading st t i signers = g.protocol.form st.committee.size st.round t i signers
  form_for reporting st t i signers = report_form st t i signers
  form_for agreeing st t i signers = a.form st.committee.size st.round t i signers

  unfoldable pub form_in : Stage → ℕ → ℕ → ℕ → Option Form
  form_in st t i signers = form_for (work st) st t i signers

  -- what a message under topic t is about
  abbrev pub kind_for : Work → Stage → ℕ → ℕ
  kind_for grading st t = g.protocol.kind st.round t
  kind_for reporting st t = 0
  kind_for agreeing st t = t

  unfoldable pub kind_in : Stage → ℕ → ℕ
  kind_in st t = kind_for (work st) st t

  -- what seat i says to all under topic t: in a report the day that the half has answered it
  abbrev pub says_for : Work → Stage → ℕ → Party B G → ℕ → Option Message
  says_for grading st i p t = g.protocol.send p.graded st.round t
  says_for reporting st i p t =
      cond (t == 0 && in_half st i) (Some (record { day = day_at p st.half.depth; signers = record { mask = 2 ^ i } })) None
  says_for agreeing st i p t = a.send p.base st.round t

  unfoldable pub says_in : Stage → ℕ → Party B G → ℕ → Option Message
  says_in st i p t = says_for (work st) st i p t

  -- ---- when the round opens

  -- the kinds of sentences that a part may have
  abbrev pub kinds : ℕ
  kinds = base_topics

  -- a part begins: nothing is signed in it, and a graded or base agreement starts from the day that the party holds
  abbrev pub begin_for : Work → Stage → ℕ → Party B G → Party B G
  begin_for grading st i p = record {
    days = p.days;
    sure = p.sure;
    base = p.base;
    signed = replicate kinds None;
    graded = g.protocol.start st.committee.size i (day_at p st.committee.depth);
  }
  begin_for reporting st i p = record { days = p.days; sure = p.sure; graded = p.graded; base = p.base; signed = replicate kinds None }
  begin_for agreeing st i p = record {
    days = p.days;
    sure = p.sure;
    graded = p.graded;
    signed = replicate kinds None;
    base = a.start st.committee.size i (day_at p st.committee.depth);
  }

  -- what seat i holds when it is about to speak
  unfoldable pub ready : Stage → ℕ → Party B G → Party B G
  ready st i p = let begun = begin_for (work st) st i p in cond (st.round == 1) begun p

  -- a listed message under its own signature is signed by the seat, and no other
  abbrev pub signs_by : Option Form → ℕ → Message → Bool
  signs_by None i m = false
  signs_by (Some Listed) i m = member i m.signers.mask
  signs_by (Some Certificate) i m = false

  abbrev pub note : Stage → ℕ → ℕ → Option Message → List (Option ℕ) → List (Option ℕ)
  note st i t None signed = signed
  note st i t (Some m) signed = cond (signs_by (form_in st t i m.signers.mask) i m) (slice_set signed (kind_in st t) (Some m.day)) signed

  -- what it has signed when it has spoken under the topics below t
  unfoldable pub noted : Stage → ℕ → Party B G → ℕ → List (Option ℕ)
  noted st i p zero = p.signed
  noted st i p (suc t) = note st i t (says_in st i p t) (noted st i p t)

  -- what seat i holds when it has spoken
  unfoldable pub spoken : Stage → ℕ → Party B G → Party B G
  spoken st i p = record { days = p.days; sure = p.sure; graded = p.graded; base = p.base; signed = noted st i p (topics_for (work st)) }
