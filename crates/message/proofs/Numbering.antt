-- A refusal is known by its number.
use Rattle.std.proofs.Common.{◌≡◌, ◌==◌, ℕ, cond, List, [], ◌∷◌, refl, sym, ap, ◌∙◌}
use Rattle.message.specs.declared.refusals.Refusal.{Refusal}
use Rattle.message.specs.declared.refusals.Refusal.TheVariants.{PartiesOutOfRange, LimitAboveParties, WrongInputCount, WireTooShort, NoSuchParty, BadSigners, KindOutOfPlace, UnnamedBitSet, CutShort, UnknownAgreement, AlreadyOver, PartyCorrupt, LimitReached, SenderHonest, NotSeated, NoForm, NoSuchSignature, SlotFilled, NotYetOver}
use Rattle.message.specs.Table.{number_of}

-- all refusals
all : List Refusal
all =
    PartiesOutOfRange ∷ LimitAboveParties ∷ WrongInputCount ∷ WireTooShort ∷ NoSuchParty ∷ BadSigners ∷ KindOutOfPlace
    ∷ UnnamedBitSet ∷ CutShort ∷ UnknownAgreement ∷ AlreadyOver ∷ PartyCorrupt ∷ LimitReached
    ∷ SenderHonest ∷ NotSeated ∷ NoForm ∷ NoSuchSignature ∷ SlotFilled ∷ NotYetOver ∷ []

-- of those in a list the first that has the number; if none has, the last of all
numbered : List Refusal → ℕ → Refusal
numbered [] n = NotYetOver
numbered (x ∷ xs) n = cond (number_of x == n) x (numbered xs n)

numbered_back : (x : Refusal) → numbered all (number_of x) ≡ x
unfolding numbered all
numbered_back PartiesOutOfRange = refl
numbered_back LimitAboveParties = refl
numbered_back WrongInputCount = refl
numbered_back WireTooShort = refl
numbered_back NoSuchParty = refl
numbered_back BadSigners = refl
numbered_back KindOutOfPlace = refl
numbered_back UnnamedBitSet = refl
numbered_back CutShort = refl
numbered_back UnknownAgreement = refl
numbered_back AlreadyOver = refl
numbered_back PartyCorrupt = refl
numbered_back LimitReached = refl
numbered_back SenderHonest = refl
numbered_back NotSeated = refl
numbered_back NoForm = refl
numbered_back NoSuchSignature = refl
numbered_back SlotFilled = refl
numbered_back NotYetOver = refl

-- refusals of one number are the same
pub one_number : (x y : Refusal) → number_of x ≡ number_of y → x ≡ y
one_number x y e = sym (numbered_back x) ∙ ap (numbered all) e ∙ numbered_back y
