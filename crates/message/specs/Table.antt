-- The one table of refusals and layers: each refusal's number, and the word that is printed for each layer.
use Rattle.std.specs.Prelude.{ℕ, List, codes}
use Rattle.message.specs.declared.refusals.Refusal.{Refusal}
use Rattle.message.specs.declared.refusals.Refusal.TheVariants.{PartiesOutOfRange, LimitAboveParties, WrongInputCount, WireTooShort, NoSuchParty, BadSigners, KindOutOfPlace, UnnamedBitSet, CutShort, UnknownAgreement, AlreadyOver, PartyCorrupt, LimitReached, SenderHonest, NotSeated, NoForm, NoSuchSignature, SlotFilled, NotYetOver}
use Rattle.message.specs.declared.refusals.Layer.{Layer}
use Rattle.message.specs.declared.refusals.Layer.TheVariants.{Script, Base, Execution}

abbrev pub number_of : Refusal → ℕ
-- from the input
number_of PartiesOutOfRange = 1
number_of LimitAboveParties = 2
number_of WrongInputCount = 3
number_of WireTooShort = 4
number_of NoSuchParty = 5
number_of BadSigners = 6
number_of KindOutOfPlace = 7
number_of UnnamedBitSet = 8
number_of CutShort = 9
number_of UnknownAgreement = 10
-- from the state of an execution
number_of AlreadyOver = 20
number_of PartyCorrupt = 21
number_of LimitReached = 22
number_of SenderHonest = 23
number_of NotSeated = 24
number_of NoForm = 25
number_of NoSuchSignature = 26
number_of SlotFilled = 27
number_of NotYetOver = 28

abbrev pub word_of : Layer → List ℕ
word_of Script = codes "sheet"
word_of Base = codes "small"
word_of Execution = codes "sitting"
