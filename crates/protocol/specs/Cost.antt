-- What messages cost, in signatures.
use Rattle.std.specs.Prelude.{ℕ, ◌*◌, cond, Some, None, Option}
use Rattle.message.specs.declared.Message.{Message}
use Rattle.message.specs.Count.{sum}
use Rattle.message.specs.Members.{size}
use Rattle.protocol.specs.declared.Form.{Form}
use Rattle.protocol.specs.declared.Form.TheVariants.{Listed, Certificate}
use Rattle.protocol.specs.Protocol.{Protocol}
use Rattle.protocol.specs.Play.{Trace, says, form_of}

-- the signatures on one copy: a listed message has one of each of its signers, a certificate one in all
abbrev pub on_one_copy : ℕ → Option Form → ℕ → ℕ
on_one_copy k None signers = 0
on_one_copy k (Some Listed) signers = size k signers
on_one_copy k (Some Certificate) signers = 1

-- how many copies of a message are sent among k seats: one to each, the sender included
abbrev pub copies : ℕ → ℕ
copies k = k

-- what a message with this form and these signers costs
abbrev pub cost : ℕ → Option Form → ℕ → ℕ
cost k f signers = copies k * on_one_copy k f signers

module _ {R : Type 0} (p : Protocol R) (k : ℕ) (tr : Trace) where
  -- what it costs that seat i sends this in round suc r under topic t
  abbrev pub cost_of : ℕ → ℕ → ℕ → Option Message → ℕ
  cost_of r t i None = 0
  cost_of r t i (Some m) = cost k (form_of p k tr r t i m) m.signers.mask

  -- what all those spend in round suc r that are honest as it opens
  abbrev pub spent_in : ℕ → ℕ
  spent_in r = sum (λ i. cond (tr.corrupt r i) 0 (sum (λ t. cost_of r t i (says p k tr r t i)) p.topics)) k

  -- what is spent in the whole play
  unfoldable pub signatures : ℕ
  signatures = sum spent_in (p.rounds k)
