-- That each command on identities, conditions, chains and clones of terms has a reply.
use Rattle.std.specs.Prelude.{◌<◌, List, length}
use Rattle.ua_text.specs.declared.named.Block.{Block}
use Rattle.ua_term.specs.Phrases.{Phrase}
use Rattle.ua_operands.specs.declared.written.Word.{Word}
use Rattle.ua_operands.specs.declared.written.Number.{Number}
use Rattle.ua_operands.specs.declared.written.CondWord.{CondWord}
use Rattle.ua_operands.specs.declared.written.CloneWord.{CloneWord}
use Rattle.ua_operands.specs.declared.written.PointsText.{PointsText}
use Rattle.ua_operands.specs.declared.written.IdentityText.{IdentityText}
use Rattle.ua_reply.specs.Sessions.{Bounds, AreAlgebras}
use Rattle.ua_reply.specs.Replies.{HasBytes}
use Rattle.ua_chain.specs.declared.least_chains.NamedKind.{NamedKind}
use Rattle.ua_answer_conditions.specs.CondCommand.{CondReply, NuReply}
use Rattle.ua_answer_conditions.specs.ConditionCommand.{ConditionReply}
use Rattle.ua_answer_conditions.specs.CloneCommand.{CloneReply}
use Rattle.ua_answer_conditions.specs.ChainCommand.{ChainReply}
use Rattle.ua_answer_conditions.specs.HoldsCommand.{HoldsReply}

-- in each session of algebras within the limits; a condition that is written has an identity
pub record ConditionsReplied : Type 0 where
  pub named : (s : List Block) (b : Bounds) (w : Word) (name : CondWord) → AreAlgebras s → HasBytes (CondReply s b w name)
  pub near_unanimity : (s : List Block) (b : Bounds) (w : Word) (k : Number) → AreAlgebras s → HasBytes (NuReply s b w k)
  pub written : (s : List Block) (b : Bounds) (w : Word) (k : Number) (is : List IdentityText) → AreAlgebras s → 0 < length is → HasBytes (ConditionReply s b w k is)
  pub chain : (s : List Block) (b : Bounds) (w : Word) (asked : NamedKind) → AreAlgebras s → HasBytes (ChainReply s b w asked)
  pub clone : (s : List Block) (b : Bounds) (w : Word) (k : Number) (kind : CloneWord) (points : PointsText) → AreAlgebras s → HasBytes (CloneReply s b w k kind points)
  pub identity : (s : List Block) (w : Word) (left right : Phrase) → HasBytes (HoldsReply s w left right)
