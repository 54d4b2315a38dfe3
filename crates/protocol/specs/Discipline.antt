-- Discipline: what honest seats may say, in every play.
use Rattle.std.specs.Prelude.{◌≡◌, ℕ, suc, ◌<◌, true, ◌≢◌, Some}
use Rattle.message.specs.declared.Message.{Message}
use Rattle.message.specs.Members.{member}
use Rattle.message.specs.Tally.{Day}
use Rattle.protocol.specs.declared.Form.{Form}
use Rattle.protocol.specs.declared.Form.TheVariants.{Listed, Certificate}
use Rattle.protocol.specs.Protocol.{Protocol}
use Rattle.protocol.specs.Play.{Trace, Play, Sends, hears, form_of}

-- Before round suc r there arrived at seat i, on a sentence of this kind and day, the signature of s.
pub record Reached {R : Type 0} (p : Protocol R) (k : ℕ) (tr : Trace) (r about day s i : ℕ) : Type 0 where
  pub before : ℕ
  pub topic : ℕ
  pub sender : ℕ
  pub message : Message
  pub in_time : before < r
  pub a_topic : topic < p.topics
  pub a_seat : sender < k
  pub heard : hears p k tr before topic sender i ≡ Some message
  pub of_kind : p.kind (suc before) topic ≡ about
  pub on_day : message.day ≡ day
  pub signed : member s message.signers.mask ≡ true

-- In every play, whatever a seat of k sends while it is honest:
pub record Disciplined {R : Type 0} (p : Protocol R) (k : ℕ) : Type 0 where
  -- it is on a day
  pub a_day : (tr : Trace) → Play p k tr → (r t i : ℕ) (m : Message) → Sends p k tr r t i m → Day m.day
  -- it has a form
  pub formed : (tr : Trace) → Play p k tr → (r t i : ℕ) (m : Message) → Sends p k tr r t i m → (f : Form) × (form_of p k tr r t i m ≡ Some f)
  -- if listed, it has the seat's own signature
  pub own : (tr : Trace) → Play p k tr → (r t i : ℕ) (m : Message) → Sends p k tr r t i m → form_of p k tr r t i m ≡ Some Listed
      → member i m.signers.mask ≡ true
  -- every other signature on it had reached the seat
  pub others : (tr : Trace) → Play p k tr → (r t i : ℕ) (m : Message) → Sends p k tr r t i m → form_of p k tr r t i m ≡ Some Listed
      → (s : ℕ) → member s m.signers.mask ≡ true → s ≢ i → Reached p k tr r (p.kind (suc r) t) m.day s i
  -- and so had every signature behind a certificate
  pub behind : (tr : Trace) → Play p k tr → (r t i : ℕ) (m : Message) → Sends p k tr r t i m → form_of p k tr r t i m ≡ Some Certificate
      → (s : ℕ) → member s m.signers.mask ≡ true → Reached p k tr r (p.kind (suc r) t) m.day s i
  -- listed messages of one kind are on one day
  pub one_day : (tr : Trace) → Play p k tr → (i r t r' t' : ℕ) (m m' : Message)
      → Sends p k tr r t i m → form_of p k tr r t i m ≡ Some Listed
      → Sends p k tr r' t' i m' → form_of p k tr r' t' i m' ≡ Some Listed
      → p.kind (suc r) t ≡ p.kind (suc r') t' → m.day ≡ m'.day
