-- That each command on congruences has a reply.
use Rattle.std.specs.Prelude.{◌≤◌, List}
use Rattle.ua_table.specs.declared.limits.TheConstants.{BUDGET}
use Rattle.ua_text.specs.declared.named.Block.{Block}
use Rattle.ua_operands.specs.declared.written.Word.{Word}
use Rattle.ua_operands.specs.declared.written.Items.{Items}
use Rattle.ua_operands.specs.declared.written.PartText.{PartText}
use Rattle.ua_operands.specs.declared.written.SeriesWord.{SeriesWord}
use Rattle.ua_reply.specs.Sessions.{Bounds, AreAlgebras}
use Rattle.ua_reply.specs.Replies.{HasBytes}
use Rattle.ua_answer_congruences.specs.CgCommand.{CgReply}
use Rattle.ua_answer_congruences.specs.ConCommand.{ConReply}
use Rattle.ua_answer_congruences.specs.TypesCommand.{TypesReply}
use Rattle.ua_answer_congruences.specs.CentralCommand.{CentralReply}
use Rattle.ua_answer_congruences.specs.CommCommand.{CommReply}
use Rattle.ua_answer_congruences.specs.SeriesCommand.{SeriesReply}

-- in each session of algebras within the limits; all congruences and their covers are listed within the greatest budget
pub record CongruencesReplied : Type 0 where
  pub generated : (s : List Block) (w : Word) (pairs : List Items) → AreAlgebras s → HasBytes (CgReply s w pairs)
  pub lattice : (s : List Block) (b : Bounds) (w : Word) → AreAlgebras s → b.budget ≤ BUDGET → HasBytes (ConReply s b w)
  pub covers : (s : List Block) (b : Bounds) (w : Word) → AreAlgebras s → b.budget ≤ BUDGET → HasBytes (TypesReply s b w)
  pub centrality : (s : List Block) (b : Bounds) (w : Word) (alpha beta delta : PartText) → AreAlgebras s → HasBytes (CentralReply s b w alpha beta delta)
  pub commutator : (s : List Block) (b : Bounds) (w : Word) (alpha beta : PartText) → AreAlgebras s → HasBytes (CommReply s b w alpha beta)
  pub series : (s : List Block) (b : Bounds) (w : Word) (kind : SeriesWord) → AreAlgebras s → HasBytes (SeriesReply s b w kind)
