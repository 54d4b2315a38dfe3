-- What no lawful base agreement of several seats can be: one without a round, one that does not listen, one that admits no message.
use Rattle.std.specs.Prelude.{◌≡◌, ℕ, ◌<◌, ◌≤◌, None}
use Rattle.protocol.specs.Play.{Trace, Play}
use Rattle.protocol.specs.Agreement.{Meaning, protocol_of, answer, Agrees, KeepsDiscipline}

-- where several seats are to agree, it takes a round
abbrev pub AgreeingTakesARound : Type 0 → Type 0
AgreeingTakesARound R = (a : Meaning R) → Agrees a → (k : ℕ) → 2 ≤ k → k ≤ a.most → 1 ≤ a.rounds k

-- among k seats, what a seat answers depends on its input alone, in whatever play
abbrev pub DoesNotListen : {R : Type 0} → Meaning R → ℕ → Type 0
DoesNotListen a k =
    (tr tr' : Trace) → Play (protocol_of a) k tr → Play (protocol_of a) k tr'
    → (i : ℕ) → i < k → tr.input i ≡ tr'.input i → answer a k tr i ≡ answer a k tr' i

abbrev pub AgreeingTakesListening : Type 0 → Type 0
AgreeingTakesListening R = (a : Meaning R) → Agrees a → (k : ℕ) → 2 ≤ k → k ≤ a.most → DoesNotListen a k → ⊥

-- among k seats no message has a form
abbrev pub AdmitsNothing : {R : Type 0} → Meaning R → ℕ → Type 0
AdmitsNothing a k = (r t i signers : ℕ) → i < k → a.form k r t i signers ≡ None

abbrev pub AgreeingTakesMessages : Type 0 → Type 0
AgreeingTakesMessages R =
    (a : Meaning R) → Agrees a → KeepsDiscipline a → (k : ℕ) → 2 ≤ k → k ≤ a.most → AdmitsNothing a k → ⊥
