-- How inboxes are read: what stands in the slots of one topic.
use Rattle.std.proofs.Common.{◌≡◌, ℕ, ◌*◌, ◌<◌, ◌≤◌, length, drop, Some, None, Option, refl, ap, ◌∙◌, mul-le-mul_right, arith, length-drop, length-take}
use Rattle.std.proofs.Math.ListN.{get_or-map}
use Rattle.std.proofs.lemmas.List.{get_or-take, get_or-drop, length-map}
use Rattle.message.specs.declared.Message.{Message}
use Rattle.message.specs.Tally.{slot_day, entry}
use Rattle.protocol.specs.Protocol.{Inbox, arrived}
use Rattle.protocol.specs.Inboxes.{under, days}

-- place j under topic t is what arrived from seat j
pub entry_of : (k t : ℕ) (x : Inbox) (j : ℕ) → j < k → entry (days (under k t x)) j ≡ slot_day (arrived k x t j)
unfolding arrived
entry_of k t x j h =
    get_or-map slot_day (under k t x) j None ∙ ap slot_day (get_or-take k (drop (t * k) x) j None h ∙ get_or-drop (t * k) x j None)

-- no more than k places are read
pub few_entries : (k t : ℕ) (x : Inbox) → length (days (under k t x)) ≤ k
few_entries k t x = rw (length-map (under k t x) slot_day, length-take k (drop (t * k) x)) (omega arith)

-- in an inbox with the slots of n topics each topic has k
pub all_entries : (n k t : ℕ) (x : Inbox) → length x ≡ n * k → t < n → length (days (under k t x)) ≡ k
all_entries n k t x whole h =
    length-map (under k t x) slot_day ∙ length-take k (drop (t * k) x)
    ∙ rw (length-drop (t * k) x, whole) (omega (arith, mul-le-mul_right k h))

-- a message names its day
pub slot_names : (o : Option Message) (v : ℕ) → slot_day o ≡ Some v → (m : Message) × (o ≡ Some m) × (m.day ≡ v)
slot_names None v e = cc
slot_names (Some m) v e = (m, refl, cc)
