-- The base agreement of up to four seats: each says its day, then passes on what each other seat said, and the day of most seats wins.
use Rattle.std.specs.Prelude.{◌≡◌, ℕ, zero, suc, ◌+◌, ◌^◌, ◌<◌, ◌≤◌, Bool, true, cond, not, ◌&&◌, ◌||◌, List, map, replicate, Some, None, fold, Option, ◌==◌, nat_lt, slice_index_or, codes}
use Rattle.std.specs.Fmt.{decimal}
use Rattle.std.specs.List.{range_with_len}
use Rattle.std.specs.Option.{unwrap_or}
use Rattle.message.specs.declared.Message.{Message}
use Rattle.message.specs.declared.Signers.{Signers}
use Rattle.message.specs.Tally.{before, tally}
use Rattle.protocol.specs.declared.Form.{Form}
use Rattle.protocol.specs.declared.Form.TheVariants.{Listed}
use Rattle.protocol.specs.Protocol.{Inbox}
use Rattle.protocol.specs.Inboxes.{under, days}
use Rattle.protocol.specs.Agreement.{Meaning}
use Rattle.base.specs.declared.relays.Seen.{Seen}
use Rattle.base.specs.declared.relays.Seen.TheVariants.{Nothing, One, Several}
use Rattle.base.specs.declared.relays.Relay.{Relay}

-- one seat takes no round, several take two
abbrev pub rounds : ℕ → ℕ
rounds zero = 0
rounds (suc zero) = 0
rounds (suc (suc k)) = 2

-- ---- what may be said

-- one seat's signature alone
abbrev pub alone : ℕ → Signers
alone i = record { mask = 2 ^ i }

-- two seats' signatures
abbrev pub both : ℕ → ℕ → Signers
both t i = record { mask = 2 ^ t + 2 ^ i }

-- the signers that a message must have, if one may stand at all: by the number of seats, round, topic and sender
abbrev pub due : ℕ → ℕ → ℕ → ℕ → Option Signers
due k zero t i = None
-- in round 1 a seat says its own day, under its own topic,
due k (suc zero) t i = cond (t == i) (Some (alone i)) None
-- and in round 2 it passes on another seat's, under that seat's topic
due k (suc (suc zero)) t i = cond (nat_lt t k && not (t == i)) (Some (both t i)) None
due k (suc (suc (suc r))) t i = None

-- what has just those signers is listed
abbrev pub listed_if : Option Signers → ℕ → Option Form
listed_if None mask = None
listed_if (Some who) mask = cond (who.mask == mask) (Some Listed) None

-- and nothing else has a form
abbrev pub form : ℕ → ℕ → ℕ → ℕ → ℕ → Option Form
form k r t i mask = listed_if (due k r t i) mask

-- ---- what has been seen

-- with one more day, if there is one
abbrev pub add : Seen → Option ℕ → Seen
add s None = s
add Nothing (Some v) = One v
add (One u) (Some v) = cond (u == v) (One u) Several
add Several (Some v) = Several

-- with all the days of a list
abbrev pub gather : Seen → List (Option ℕ) → Seen
gather s os = fold add s os

-- the day, if just one has been seen
abbrev pub only_day : Seen → Option ℕ
only_day Nothing = None
only_day (One v) = Some v
only_day Several = None

-- what is printed of it
abbrev pub words : Seen → List ℕ
words Nothing = codes "nothing"
words (One v) = decimal v
words Several = codes "several days"

-- what a seat has seen under a topic
abbrev pub seen_under : Relay → ℕ → Seen
seen_under s t = slice_index_or s.seen t Nothing

-- a topic's entry: the one day seen under it; only the seats have entries
abbrev pub entry_under : Relay → ℕ → Option ℕ
entry_under s t = cond (nat_lt t s.seats) (only_day (seen_under s t)) None

abbrev pub entries_of : Relay → List (Option ℕ)
entries_of s = map (entry_under s) (range_with_len 0 4)

-- ---- the day of most entries

-- There is none exactly if no entry names a day.
abbrev pub MostNamed : List (Option ℕ) → Option ℕ → Type 0
MostNamed entries None = (u : ℕ) → tally entries u ≡ 0
-- Else somebody names it, nobody is named more often, and every earlier day is named less often.
MostNamed entries (Some d) =
    (0 < tally entries d) × ((u : ℕ) → tally entries u ≤ tally entries d) × ((u : ℕ) → before u d ≡ true → tally entries u < tally entries d)

-- more entries name u than v, or as many, and u comes before v
abbrev pub ahead : List (Option ℕ) → ℕ → ℕ → Bool
ahead entries u v = nat_lt (tally entries v) (tally entries u) || (tally entries v == tally entries u && before u v)

-- the second of two days if it is ahead, else the first
abbrev pub leader : List (Option ℕ) → Option ℕ → Option ℕ → Option ℕ
leader entries o None = o
leader entries None (Some u) = Some u
leader entries (Some v) (Some u) = cond (ahead entries u v) (Some u) (Some v)

-- the day that is ahead of all others
abbrev pub most_named : List (Option ℕ) → Option ℕ
most_named entries = fold (leader entries) None entries

-- ---- a seat's steps

-- at first it has seen nothing
abbrev pub start : ℕ → ℕ → ℕ → Relay
start k i input = record { seats = k; own = i; day = input; seen = replicate 4 Nothing }

-- the day that it has to say: its own in round 1, and then the topic's entry
abbrev pub word : Relay → ℕ → ℕ → Option ℕ
word s zero t = None
word s (suc zero) t = Some s.day
word s (suc (suc r)) t = entry_under s t

-- a day, under the signatures that are due
abbrev pub signed : Option Signers → Option ℕ → Option Message
signed None day = None
signed (Some who) None = None
signed (Some who) (Some v) = Some (record { day = v; signers = who })

abbrev pub send : Relay → ℕ → ℕ → Option Message
send s r t = signed (due s.seats r t s.own) (word s r t)

-- in every round it gathers, under each topic, the days that arrive, whoever sends them
abbrev pub hear : Relay → ℕ → Inbox → Relay
hear s r x = record {
  seats = s.seats;
  own = s.own;
  day = s.day;
  seen = map (λ t. gather (seen_under s t) (days (under s.seats t x))) (range_with_len 0 4);
}

-- it answers the day of most entries, or its own if there is none
abbrev pub day_of : Relay → ℕ
day_of s = unwrap_or (most_named (entries_of s)) s.day

abbrev pub relays : Meaning Relay
relays = record { most = 4; rounds = rounds; start = start; send = send; hear = hear; form = form; day = day_of }
