-- What an honest party holds is fixed by its input and what it heard.
use Rattle.std.proofs.Common.{◌≡◌, ℕ, suc, ◌<◌, ◌≤◌, false, List, [], ◌∷◌, length, get_or, Some, Option, sym, ap, ◌∙◌, arith}
use Rattle.std.proofs.lemmas.List.FromFn.{length-map-range_with_len, get_or-map-range_with_len}
use Rattle.message.specs.Members.{member}
use Rattle.message.proofs.Masks.{member_none}
use Rattle.protocol.specs.Protocol.{Inbox}
use Rattle.protocol.specs.Grading.{Grading}
use Rattle.protocol.specs.Agreement.{Meaning, Sized}
use Rattle.committee.specs.declared.stages.Stage.{Stage}
use Rattle.runs.specs.State.{State, room, stage_at, here, nobody, party}
use Rattle.runs.specs.Round.{party_of, says_in}
use Rattle.runs.specs.Wire.{Slots, Place, stands, to_parties}
use Rattle.runs.specs.Calls.{Call}
use Rattle.runs.specs.Rules.{Answer, GoesOn, Heard, Closed, Does, corrupted, injected, closed, decision, signatures, closings, refuses, accepts}
use Rattle.runs.specs.History.{beginner, seated, opened, History, begins, goes_on, closing_of}
use Rattle.runs.specs.Life.{at_opening, at_closing, life, box_in, one_more_box, heard}
use Rattle.runs.proofs.Acting.{opens}
use Rattle.runs.proofs.Fitting.{round_fits}
use Rattle.runs.proofs.Room.{history_keeps}
use Rattle.runs.proofs.Fairness.{history_fair}
use Rattle.runs.proofs.Histories.{going_keeps, going_corrupt, no_closing}

module _ {B G : Type 0} (a : Meaning B) (g : Grading G) where
  -- everybody is still there when a round opens
  going_everybody : (o : Option Stage) (s new : State B G) → GoesOn a g o s new → length new.held ≡ length s.held
  going_everybody o s new on = grind arith

  opening_gives : (o : Option Stage) (s new : State B G) → GoesOn a g o s new → (p : ℕ) → p < length s.held → member p s.corrupt ≡ false
      → party a g new p ≡ at_opening a g p o (party a g s p)
  opening_gives o s new on p h honest = grind arith

  closing_gives : (st : Stage) (s new : State B G) → Heard a g st s new → (p : ℕ) → p < length s.held → member p s.corrupt ≡ false
      → party a g new p ≡ at_closing a g p (Some st) (box_in a g (Some st) s.wire p) (party a g s p)
  closing_gives st s new on p h honest = grind arith

  -- what an honest party holds after so many closings
  record Lives (n p input : ℕ) (boxes : List Inbox) (s : State B G) : Type 0 where
    parties : s.parties ≡ n
    everybody : length s.held ≡ n
    rounds : length boxes ≡ s.closings
    holds : member p s.corrupt ≡ false → party a g s p ≡ life a g n p input boxes

  module _ (n p input : ℕ) (below : p < n) where
    lives_closing : (boxes : List Inbox) (st : Stage) (s new : State B G) → here a g s ≡ Some st → Closed a g st s new → Lives n p input boxes s
        → Lives n p input (box_in a g (here a g s) s.wire p ∷ boxes) new
    unfolding life
    lives_closing boxes st s new now d lives =
        let between = d.between in
        let on = d.heard in
        let next = d.goes_on in
        let keeps = going_keeps a g (here a g between) between new next in
        let place : p < length s.held = omega (arith, below, lives.everybody) in
        let place_then : p < length between.held = omega (arith, place, on.everybody) in
        record {
          parties = keeps.parties ∙ on.parties ∙ lives.parties;
          everybody = going_everybody (here a g between) between new next ∙ on.everybody ∙ lives.everybody;
          rounds = omega (arith, lives.rounds, keeps.closings, on.closings);
          holds = λ honest.
              let then : member p between.corrupt ≡ false = ap (member p) (sym (going_corrupt a g (here a g between) between new next)) ∙ honest in
              let before : member p s.corrupt ≡ false = ap (member p) (sym on.corrupt) ∙ then in
              let stage : here a g s ≡ stage_at a g n (length boxes) = rw (lives.parties, lives.rounds) in
              let stage_then : here a g between ≡ stage_at a g n (suc (length boxes)) = rw (on.parties, on.closings, lives.parties, lives.rounds) in
              opening_gives (here a g between) between new next p place_then then
              ∙ ap (λ o. at_opening a g p o (party a g between p)) stage_then
              ∙ ap (at_opening a g p (stage_at a g n (suc (length boxes))))
              (closing_gives st s between on p place before
              ∙ ap (λ o. at_closing a g p o (box_in a g o s.wire p) (party a g s p)) (sym now)
              ∙ ap (λ o. at_closing a g p o (box_in a g (here a g s) s.wire p) (party a g s p)) stage
              ∙ ap (at_closing a g p (stage_at a g n (length boxes)) (box_in a g (here a g s) s.wire p)) (lives.holds before));
        }

    lives_doing : (boxes : List Inbox) {s new : State B G} {c : Call} {x : Answer} → Does a g s c x new → Lives n p input boxes s
        → Lives n p input (one_more_box a g (closing_of c x) (box_in a g (here a g s) s.wire p) boxes) new
    lives_doing boxes (corrupted _ d) lives = grind arith
    lives_doing boxes (injected _ d) lives = grind arith
    lives_doing boxes {s = s} {new = new} (closed {st = st} now d) lives = lives_closing boxes st s new now d lives
    lives_doing boxes decision lives = lives
    lives_doing boxes signatures lives = lives
    lives_doing boxes closings lives = lives

  module _ (sized : Sized a) (n b : ℕ) (inputs : List ℕ) (wire : Slots) (long : room n ≤ length wire) (p : ℕ) (below : p < n) where
    opened_lives : Lives n p (get_or inputs p 0) [] (opened a g n b inputs wire)
    unfolding seated life
    opened_lives =
        let s = seated a g n b inputs wire in
        let o = here a g s in
        let new = opened a g n b inputs wire in
        let on = opens a g sized n b inputs wire long in
        let keeps = going_keeps a g o s new on in
        let begin = λ (q : ℕ). beginner a g n q (get_or inputs q 0) in
        let all : length s.held ≡ n = length-map-range_with_len begin 0 n in
        record {
          parties = keeps.parties;
          everybody = going_everybody o s new on ∙ all;
          rounds = sym keeps.closings;
          holds = λ honest.
              opening_gives o s new on p (omega (arith, below, all)) (member_none p)
              ∙ ap (at_opening a g p o) (get_or-map-range_with_len begin 0 n p p (nobody a g) below (omega arith));
        }

    history_lives : {events : List (Call × Answer)} {s : State B G} (h : History a g (opened a g n b inputs wire) events s)
        → Lives n p (get_or inputs p 0) (heard a g h p) s
    unfolding heard
    history_lives begins = opened_lives
    history_lives (goes_on {s = s} {c = c} h (refuses {k = k} _ _)) =
        rw (no_closing a g c k) (history_lives h)
    history_lives (goes_on h (accepts _ d)) = lives_doing n p (get_or inputs p 0) below (heard a g h p) d (history_lives h)

    pub settles_as_prescribed : {events : List (Call × Answer)} {s : State B G} (h : History a g (opened a g n b inputs wire) events s)
        → member p s.corrupt ≡ false
        → (length (heard a g h p) ≡ s.closings) × (party a g s p ≡ life a g n p (get_or inputs p 0) (heard a g h p))
    settles_as_prescribed h honest = let lives = history_lives h in (lives.rounds, lives.holds honest)

  -- so what stands from an honest party is, too
  pub sends_as_lived : Sized a → (n b : ℕ) (inputs : List ℕ) (wire : Slots) → room n ≤ length wire
      → {events : List (Call × Answer)} {s : State B G} (h : History a g (opened a g n b inputs wire) events s) (st : Stage) → here a g s ≡ Some st
      → (t i j : ℕ) → Place st t i j → let p = party_of st i in member p s.corrupt ≡ false
      → stands st s.wire t i j ≡ to_parties st.committee.first (says_in a g st i (life a g n p (get_or inputs p 0) (heard a g h p)) t)
  sends_as_lived sized n b inputs wire long {s = s} h st now t i j at honest =
      let fits = round_fits a g sized s.parties s.closings st now in
      let same = (history_keeps a g sized n b inputs wire long _ s h).parties in
      let below : party_of st i < n = omega (arith, at.sender, fits.parties, same) in
      (history_fair a g sized n b inputs wire long h st now).honest t i j at honest
      ∙ ap (λ x. to_parties st.committee.first (says_in a g st i x t)) (settles_as_prescribed sized n b inputs wire long (party_of st i) below h honest).1
