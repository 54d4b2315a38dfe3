-- The five roles that messages play: where each stands, what it is about, and what form it has.
use Rattle.std.specs.Prelude.{ℕ, zero, suc, ◌^◌, cond, ◌&&◌, List, Some, None, Option, ◌==◌, nat_le, nat_lt, codes}
use Rattle.message.specs.Members.{size, quorum}
use Rattle.protocol.specs.declared.Form.{Form}
use Rattle.protocol.specs.declared.Form.TheVariants.{Listed, Certificate}
use Rattle.graded.specs.declared.table.Kind.{Kind}
use Rattle.graded.specs.declared.table.Kind.TheVariants.{Echo as OfEchoes, Vote as OfVotes, SecondVote as OfSecondVotes}
use Rattle.graded.specs.declared.table.Role.{Role}
use Rattle.graded.specs.declared.table.Role.TheVariants.{Echo, EchoCertificate, Vote, VoteCertificate, SecondVote}

-- there are four rounds, and two topics
abbrev pub rounds : ℕ
rounds = 4

abbrev pub topics : ℕ
topics = 2

-- a role that stands under topic 0, alone in its round
abbrev pub alone : Role → ℕ → Option Role
alone x zero = Some x
alone x (suc t) = None

-- in round 4 there are two
abbrev pub both : ℕ → Option Role
both zero = Some VoteCertificate
both (suc zero) = Some SecondVote
both (suc (suc t)) = None

-- which role stands in a round under a topic
abbrev pub role_at : ℕ → ℕ → Option Role
role_at zero t = None
role_at (suc zero) t = alone Echo t
role_at (suc (suc zero)) t = alone EchoCertificate t
role_at (suc (suc (suc zero))) t = alone Vote t
role_at (suc (suc (suc (suc zero)))) t = both t
role_at (suc (suc (suc (suc (suc r))))) t = None

-- what the sentences are about: a certificate is about what it puts together
abbrev pub about : Role → ℕ
about Echo = 0
about EchoCertificate = 0
about Vote = 1
about VoteCertificate = 1
about SecondVote = 2

-- the number of a kind
abbrev pub number_of : Kind → ℕ
number_of OfEchoes = 0
number_of OfVotes = 1
number_of OfSecondVotes = 2

abbrev pub about_at : Option Role → ℕ
about_at None = 0
about_at (Some x) = about x

abbrev pub kind : ℕ → ℕ → ℕ
kind r t = about_at (role_at r t)

-- a seat's own word has its signature alone
abbrev pub word_form : ℕ → ℕ → Option Form
word_form i signers = cond (signers == 2 ^ i) (Some Listed) None

-- a certificate is signed by a quorum of the k seats, and by nobody else
abbrev pub certificate_form : ℕ → ℕ → Option Form
certificate_form k signers = cond (nat_lt signers (2 ^ k) && nat_le (quorum k) (size k signers)) (Some Certificate) None

-- the form of what seat i of k sends
abbrev pub role_form : Role → ℕ → ℕ → ℕ → Option Form
role_form Echo k i signers = word_form i signers
role_form EchoCertificate k i signers = certificate_form k signers
role_form Vote k i signers = word_form i signers
role_form VoteCertificate k i signers = certificate_form k signers
role_form SecondVote k i signers = word_form i signers

abbrev pub form_at : Option Role → ℕ → ℕ → ℕ → Option Form
form_at None k i signers = None
form_at (Some x) k i signers = role_form x k i signers

abbrev pub form : ℕ → ℕ → ℕ → ℕ → ℕ → Option Form
form k r t i signers = form_at (role_at r t) k i signers

-- what a message in a role is called
abbrev pub name_of : Role → List ℕ
name_of Echo = codes "echo"
name_of EchoCertificate = codes "certificate of echoes for"
name_of Vote = codes "vote for"
name_of VoteCertificate = codes "certificate of votes for"
name_of SecondVote = codes "second vote for"
