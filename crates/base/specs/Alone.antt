-- The base agreement of one seat: what it means.
use Rattle.std.specs.Prelude.{ℕ, None}
use Rattle.protocol.specs.Agreement.{Meaning}

-- One seat, no round: nothing is said, nothing has a form, and the seat answers its input.
abbrev pub lone : Meaning ℕ
lone = record {
  most = 1;
  rounds = λ _. 0;
  start = λ _ _ input. input;
  send = λ _ _ _. None;
  hear = λ seat _ _. seat;
  form = λ _ _ _ _ _. None;
  day = λ seat. seat;
}
