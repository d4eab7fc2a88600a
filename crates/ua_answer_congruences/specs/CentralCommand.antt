-- The command `central`: where its operands fail, and what it is answered.
use Rattle.std.specs.Prelude.{ℕ, List, ◌++◌, codes}
use Rattle.ua_part.specs.Partitions.{Partition}
use Rattle.ua_matrix.specs.declared.centrality.Central.{Central}
use Rattle.ua_matrix.specs.declared.centrality.Central.TheVariants.{Yes, No, Exceeds}
use Rattle.ua_matrix.specs.Permitted.{MayBeCentral}
use Rattle.ua_text.specs.declared.named.Block.{Block}
use Rattle.ua_operands.specs.declared.written.Word.{Word}
use Rattle.ua_operands.specs.declared.written.PartText.{PartText}
use Rattle.ua_reply.specs.Sessions.{Bounds}
use Rattle.ua_reply.specs.Checks.{Checks, ◌and◌}
use Rattle.ua_reply.specs.Parts.{part_in}
use Rattle.ua_reply.specs.Closures.{told}
use Rattle.ua_reply.specs.Replies.{Says, AnsweredOn}
use Rattle.ua_reply.specs.Texts.{line, counted, vector_text, steps_text}
use Rattle.ua_answer_congruences.specs.Congruences.{OfCongruence}

-- central NAME |..| |..| |..|
abbrev pub central_checks : Block → PartText → PartText → PartText → Checks
central_checks k alpha beta delta = part_in k alpha and part_in k beta and part_in k delta

-- that the first centralizes the second modulo the third, or a matrix that shows that it does not, with steps to it
abbrev pub central_text : Block → ℕ → Central → List ℕ
central_text k budget Yes = line (codes "central yes")
central_text k budget (No matrix steps) = line (codes "central no " ++ vector_text k matrix) ++ steps_text k steps
central_text k budget Exceeds = line (counted (codes "exceeds") budget)

abbrev pub CentralSays : Block → Bounds → Partition → Partition → Partition → List ℕ → Type 0
CentralSays k b alpha beta delta bytes = Says (MayBeCentral k.algebra alpha beta delta b.budget b.workers) (told (central_text k b.budget)) bytes

abbrev pub CentralAnswer : Block → Bounds → PartText → PartText → PartText → List ℕ → Type 0
CentralAnswer k b alpha beta delta bytes = OfCongruence k alpha (λ p. OfCongruence k beta (λ q. OfCongruence k delta (CentralSays k b p q))) bytes

abbrev pub CentralReply : List Block → Bounds → Word → PartText → PartText → PartText → List ℕ → Type 0
CentralReply s b w alpha beta delta bytes = AnsweredOn s w (λ k. central_checks k alpha beta delta) (λ k. CentralAnswer k b alpha beta delta) bytes
