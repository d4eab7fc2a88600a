-- The command `comm`: where its operands fail, and what it is answered.
use Rattle.std.specs.Prelude.{ℕ, List, codes}
use Rattle.ua_part.specs.Partitions.{Partition}
use Rattle.ua_part.specs.Blocks.{partition_text}
use Rattle.ua_comm.specs.declared.commutators.Comm.{Comm}
use Rattle.ua_comm.specs.declared.commutators.Comm.TheVariants.{Whole, Exceeds}
use Rattle.ua_comm.specs.Permitted.{MayCommute}
use Rattle.ua_text.specs.declared.named.Block.{Block}
use Rattle.ua_operands.specs.declared.written.Word.{Word}
use Rattle.ua_operands.specs.declared.written.PartText.{PartText}
use Rattle.ua_reply.specs.Sessions.{Bounds}
use Rattle.ua_reply.specs.Checks.{Checks, ◌and◌}
use Rattle.ua_reply.specs.Parts.{part_in}
use Rattle.ua_reply.specs.Closures.{told}
use Rattle.ua_reply.specs.Replies.{Says, AnsweredOn}
use Rattle.ua_reply.specs.Texts.{line, counted}
use Rattle.ua_answer_congruences.specs.Congruences.{OfCongruence}

-- comm NAME |..| |..|
abbrev pub comm_checks : Block → PartText → PartText → Checks
comm_checks k alpha beta = part_in k alpha and part_in k beta

-- the commutator, or that its matrices are more than the budget
abbrev pub comm_text : ℕ → Comm → List ℕ
comm_text budget (Whole commutator) = line (partition_text commutator)
comm_text budget Exceeds = line (counted (codes "exceeds") budget)

abbrev pub CommSays : Block → Bounds → Partition → Partition → List ℕ → Type 0
CommSays k b alpha beta bytes = Says (MayCommute k.algebra alpha beta b.budget) (told (comm_text b.budget)) bytes

abbrev pub CommAnswer : Block → Bounds → PartText → PartText → List ℕ → Type 0
CommAnswer k b alpha beta bytes = OfCongruence k alpha (λ p. OfCongruence k beta (CommSays k b p)) bytes

abbrev pub CommReply : List Block → Bounds → Word → PartText → PartText → List ℕ → Type 0
CommReply s b w alpha beta bytes = AnsweredOn s w (λ k. comm_checks k alpha beta) (λ k. CommAnswer k b alpha beta) bytes
