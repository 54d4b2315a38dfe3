-- Each check says yes just when its number applies.
use Rattle.std.proofs.Common.{◌≡◌, ℕ, ◌<◌, true, not, ◌&&◌, eqb, ◌⊎◌, Some, Option, arith}
use Rattle.std.proofs.Math.Logic.{⊎_map}
use Rattle.std.proofs.lemmas.Bool.{both_ways, cases_Bool}
use Rattle.message.specs.declared.Message.{Message}
use Rattle.message.specs.Members.{member}
use Rattle.message.proofs.Counting.{count_some, count_pos}
use Rattle.protocol.specs.declared.Form.{Form}
use Rattle.protocol.specs.Grading.{Grading}
use Rattle.protocol.specs.Agreement.{Meaning}
use Rattle.committee.specs.declared.stages.Stage.{Stage}
use Rattle.runs.specs.State.{State}
use Rattle.runs.specs.Round.{work, topics_for, seat_of, form_in, kind_in}
use Rattle.runs.specs.Wire.{to_seats}
use Rattle.runs.specs.Calls.{message, Call, corrupts, injects, closes, reads_decision, reads_signatures, reads_closings, Applies, short_corrupts, short_injects, short_closes, no_party_corrupts, no_party_injects, no_party_reads, bad_signers, over_corrupts, over_injects, over_closes, corrupt_corrupts, corrupt_reads, limit_reached, sender_honest, not_seated, no_form, no_signature, filled, not_over, Formed, Exists}
use Rattle.runs.specs.Checking.{is_formed, exists_for, forged, checks}
use Rattle.runs.proofs.Refusing.{Rows, end, row, Marked, this, later}

module _ {B G : Type 0} (a : Meaning B) (g : Grading G) where
  module _ (s : State B G) where
    -- some signature does not exist
    forged_is : (about day signers : ℕ) → not (eqb (forged a g s about day signers) 0) ≡ true
        → (p : ℕ) × (p < s.parties) × (member p signers ≡ true) × (Exists a g s about day p → ⊥)
    forged_is about day signers e = grind (arith, count_some)

    is_forged : (about day signers p : ℕ) → p < s.parties → member p signers ≡ true → (Exists a g s about day p → ⊥)
        → not (eqb (forged a g s about day signers) 0) ≡ true
    is_forged about day signers p h on off =
        let more = count_pos (λ q. member q signers && not (exists_for a g s about day q)) s.parties p h (grind arith) in grind arith

    formed_is : (st : Stage) (t i : ℕ) (o : Option Message) → is_formed a g st t i o ≡ true
        → (t < topics_for (work st)) × ((m : Message) × (f : Form) × (o ≡ Some m) × (form_in a g st t i m.signers.mask ≡ Some f))
    formed_is st t i o e = grind arith

    is_formed_if : (st : Stage) (t i : ℕ) (o : Option Message)
        → (t < topics_for (work st)) × ((m : Message) × (f : Form) × (o ≡ Some m) × (form_in a g st t i m.signers.mask ≡ Some f))
        → is_formed a g st t i o ≡ true
    is_formed_if st t i o formed = grind arith

    -- a signature exists or it does not, and a message has a form or none
    pub exists_or_not : (about day p : ℕ) → Exists a g s about day p ⊎ (Exists a g s about day p → ⊥)
    exists_or_not about day p = grind arith

    pub formed_or_not : (st : Stage) (i t day signers : ℕ) → Formed a g s st i t day signers ⊎ (Formed a g s st i t day signers → ⊥)
    formed_or_not st i t day signers =
        let o = to_seats st.committee.first (Some (message day signers)) in
        ⊎_map (formed_is st t (seat_of st i) o) (λ off formed. both_ways _ off (is_formed_if st t (seat_of st i) o formed))
        (cases_Bool (is_formed a g st t (seat_of st i) o))

    -- ---- the checks call by call

    pub rows : (c : Call) → Rows (Applies a g s c) 0 (checks a g s c)
    unfolding checks
    rows (corrupts p) =
        row (omega arith) (λ on. short_corrupts (grind arith))
        (row (omega arith) (λ on. no_party_corrupts (grind arith))
        (row (omega arith) (λ on. over_corrupts (grind arith))
        (row (omega arith) (λ on. corrupt_corrupts on)
        (row (omega arith) (λ on. limit_reached (grind arith)) end))))
    rows (injects i j t day signers) =
        row (omega arith) (λ on. short_injects (grind arith))
        (row (omega arith) (λ on. no_party_injects (grind arith))
        (row (omega arith) (λ on. bad_signers (grind arith))
        (row (omega arith) (λ on. over_injects (grind arith))
        (row (omega arith) (λ on. sender_honest (grind arith))
        (row (omega arith) (λ on. grind (arith, not_seated))
        (row (omega arith) (λ on. grind (arith, no_form, is_formed_if))
        (row (omega arith) (λ on. grind (arith, no_signature, forged_is))
        (row (omega arith) (λ on. grind (arith, filled)) end))))))))
    rows closes = row (omega arith) (λ on. short_closes (grind arith)) (row (omega arith) (λ on. over_closes (grind arith)) end)
    rows (reads_decision p) =
        row (omega arith) (λ on. no_party_reads (grind arith))
        (row (omega arith) (λ on. corrupt_reads on)
        (row (omega arith) (λ on. grind (arith, not_over)) end))
    rows reads_signatures = end
    rows reads_closings = end

    pub marks : (c : Call) (k : ℕ) → Applies a g s c k → Marked k (checks a g s c)
    unfolding checks
    marks (corrupts p) k (short_corrupts h) = this (grind arith)
    marks (corrupts p) k (no_party_corrupts h) = later (this (grind arith))
    marks (corrupts p) k (over_corrupts e) = later (later (this (grind arith)))
    marks (corrupts p) k (corrupt_corrupts on) = later (later (later (this on)))
    marks (corrupts p) k (limit_reached h) = later (later (later (later (this (grind arith)))))
    marks (injects i j t day signers) k (short_injects h) = this (grind arith)
    marks (injects i j t day signers) k (no_party_injects h) = later (this (grind arith))
    marks (injects i j t day signers) k (bad_signers h) = later (later (this (grind arith)))
    marks (injects i j t day signers) k (over_injects e) = later (later (later (this (grind arith))))
    marks (injects i j t day signers) k (sender_honest e) = later (later (later (later (this (grind arith)))))
    marks (injects i j t day signers) k (not_seated e off) = later (later (later (later (later (this (grind arith))))))
    marks (injects i j t day signers) k (no_form e off) = later (later (later (later (later (later (this (grind (arith, formed_is))))))))
    marks (injects i j t day signers) k (no_signature {p = p} {st = st} e h on off) =
        later (later (later (later (later (later (later (this (rw e (is_forged (kind_in a g st t) day signers p h on off)))))))))
    marks (injects i j t day signers) k (filled e there) = later (later (later (later (later (later (later (later (this (grind arith)))))))))
    marks closes k (short_closes h) = this (grind arith)
    marks closes k (over_closes e) = later (this (grind arith))
    marks (reads_decision p) k (no_party_reads h) = this (grind arith)
    marks (reads_decision p) k (corrupt_reads on) = later (this on)
    marks (reads_decision p) k (not_over e) = later (later (this (grind arith)))
    marks reads_signatures k on = elim on [ ]
    marks reads_closings k on = elim on [ ]
