-- Plays: what can happen when k seats run a protocol and an adversary takes over seats as it goes on.
use Rattle.std.specs.Prelude.{◌≡◌, ℕ, zero, suc, ◌*◌, ◌<◌, Bool, true, false, ◌⊎◌, length, Some, Option}
use Rattle.message.specs.declared.Message.{Message}
use Rattle.message.specs.Count.{count}
use Rattle.message.specs.Members.{member}
use Rattle.message.specs.Tally.{Day}
use Rattle.protocol.specs.declared.Form.{Form}
use Rattle.protocol.specs.declared.Form.TheVariants.{Listed}
use Rattle.protocol.specs.Protocol.{Inbox, arrived, Protocol}

-- what happens, as somebody sees it who sees everything
pub record Trace : Type 0 where
  -- each seat's input
  pub input : ℕ → ℕ
  -- corrupt r i: seat i is corrupt when round r closes; for r = 0, before the first round opens
  pub corrupt : ℕ → ℕ → Bool
  -- inbox r i: what arrives at seat i in round r
  pub inbox : ℕ → ℕ → Inbox

module _ {R : Type 0} (p : Protocol R) (k : ℕ) (tr : Trace) where
  -- what seat i keeps after round r, if it keeps to the protocol
  unfoldable pub state : ℕ → ℕ → R
  state zero i = p.start k i (tr.input i)
  state (suc r) i = p.hear (state r i) (suc r) (tr.inbox (suc r) i)

  -- what seat i says in round suc r under topic t, if it keeps to the protocol
  abbrev pub says : ℕ → ℕ → ℕ → Option Message
  says r t i = p.send (state r i) (suc r) t

  -- what arrives at seat i in round suc r under topic t from seat j
  abbrev pub hears : ℕ → ℕ → ℕ → ℕ → Option Message
  hears r t j i = arrived k (tr.inbox (suc r) i) t j

  -- the form that a message of seat i has in round suc r under topic t
  abbrev pub form_of : ℕ → ℕ → ℕ → Message → Option Form
  form_of r t i m = p.form k (suc r) t i m.signers.mask

  -- Seat i, honest as round suc r opens, sends this message in it under topic t.
  pub record Sends (r t i : ℕ) (m : Message) : Type 0 where
    pub a_round : r < p.rounds k
    pub a_topic : t < p.topics
    pub a_seat : i < k
    pub honest : tr.corrupt r i ≡ false
    pub says_it : says r t i ≡ Some m

  -- In round r or earlier, seat s has itself said a sentence of this kind on this day: it sent, while honest, a listed message under its own signature.
  pub record Said (r about day s : ℕ) : Type 0 where
    pub before : ℕ
    pub topic : ℕ
    pub message : Message
    pub by_then : before < r
    pub sends : Sends before topic s message
    pub listed : form_of before topic s message ≡ Some Listed
    pub of_kind : p.kind (suc before) topic ≡ about
    pub on_day : message.day ≡ day
    pub signed : member s message.signers.mask ≡ true

  -- What a corrupt seat j can bring about in round suc r under topic t: a message on a day that has a form and a signer, and each of whose
  -- signers is corrupt when the round closes or has said that sentence.
  pub record Possible (r t j : ℕ) (m : Message) : Type 0 where
    pub a_day : Day m.day
    pub has_signers : 0 < m.signers.mask
    pub the_form : Form
    pub formed : form_of r t j m ≡ Some the_form
    pub unforged : (s : ℕ) → s < k → member s m.signers.mask ≡ true
        → (tr.corrupt (suc r) s ≡ true) ⊎ Said (suc r) (p.kind (suc r) t) m.day s

  -- The first n rounds go by the rules.
  pub record Played (n : ℕ) : Type 0 where
    -- whoever is honest at first has a day as its input
    pub days : (i : ℕ) → i < k → tr.corrupt 0 i ≡ false → Day (tr.input i)
    -- whoever is corrupt stays so
    pub stays : (r i : ℕ) → r < n → i < k → tr.corrupt r i ≡ true → tr.corrupt (suc r) i ≡ true
    -- an inbox has its slots and no others
    pub whole : (r i : ℕ) → r < n → i < k → length (tr.inbox (suc r) i) ≡ p.topics * k
    -- from a seat that is honest when the round closes arrives, everywhere, what it says
    pub from_honest : (r t j i : ℕ) → r < n → t < p.topics → j < k → i < k → tr.corrupt (suc r) j ≡ false
        → hears r t j i ≡ says r t j
    -- from any other arrives nothing, or what a corrupt seat can bring about
    pub from_corrupt : (r t j i : ℕ) → r < n → t < p.topics → j < k → i < k → tr.corrupt (suc r) j ≡ true
        → (m : Message) → hears r t j i ≡ Some m → Possible r t j m

  -- the trace is a play: all rounds go by the rules
  abbrev pub Play : Type 0
  Play = Played (p.rounds k)

  -- what seat i keeps at the end
  abbrev pub final : ℕ → R
  final i = state (p.rounds k) i

  -- seat i is honest to the end
  abbrev pub EndsHonest : ℕ → Type 0
  EndsHonest i = tr.corrupt (p.rounds k) i ≡ false

  -- fewer than a d-th of the seats are corrupt at the end
  abbrev pub FewerThanOneIn : ℕ → Type 0
  FewerThanOneIn d = d * count (tr.corrupt (p.rounds k)) k < k
