-- Inboxes as seats read them: the slots of one topic, and the days in them.
use Rattle.std.specs.Prelude.{ℕ, ◌*◌, List, map, take, drop, Option}
use Rattle.message.specs.Tally.{slot_day}
use Rattle.protocol.specs.Protocol.{Inbox}

-- the slots of one topic, one for each of k seats
abbrev pub under : ℕ → ℕ → Inbox → Inbox
under k t inbox = take k (drop (t * k) inbox)

-- the days that are named in slots
abbrev pub days : Inbox → List (Option ℕ)
days slots = map slot_day slots
