-- The bit that is read says who is in, and past the last bit nobody is.
use Rattle.std.proofs.Common.{sym, ◌∙◌, arith}
use Rattle.std.proofs.lemmas.Bool.{le-ltb}
use Rattle.message.specs.Members.{width}
use Rattle.message.proofs.Masks.{member_test, none_above}
use Rattle.message.proofs.Signers.contains.Goals as goal

pub returns-then-seat-lt-MOST_PARTIES : goal.returns-then-seat-lt-MOST_PARTIES
returns-then-seat-lt-MOST_PARTIES c = member_test c.args.seat c.args.self.mask

pub returns-else-seat-lt-MOST_PARTIES : goal.returns-else-seat-lt-MOST_PARTIES
returns-else-seat-lt-MOST_PARTIES c =
    let far = c.if-seat-lt-MOST_PARTIES.false in
    le-ltb c.args.seat width far ∙ sym (none_above c.args.self.mask width c.args.seat (omega arith) far)
