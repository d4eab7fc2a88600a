-- That each command on closures, maps, values of terms, new algebras and certificates has a reply.
use Rattle.std.specs.Prelude.{ℕ, List}
use Rattle.ua_text.specs.declared.tokens.Place.{Place}
use Rattle.ua_text.specs.declared.named.Block.{Block}
use Rattle.ua_term.specs.Phrases.{Phrase}
use Rattle.ua_operands.specs.declared.written.Word.{Word}
use Rattle.ua_operands.specs.declared.written.Number.{Number}
use Rattle.ua_operands.specs.declared.written.Items.{Items}
use Rattle.ua_operands.specs.declared.written.Mode.{Mode}
use Rattle.ua_script.specs.declared.script.MakeForm.{MakeForm}
use Rattle.ua_reply.specs.Sessions.{Bounds, AreAlgebras}
use Rattle.ua_reply.specs.Replies.{HasBytes}
use Rattle.ua_answer_algebras.specs.CloseCommand.{CloseReply}
use Rattle.ua_answer_algebras.specs.MemberCommand.{MemberReply}
use Rattle.ua_answer_algebras.specs.FreeCommand.{FreeReply}
use Rattle.ua_answer_algebras.specs.SubCommand.{SubReply}
use Rattle.ua_answer_algebras.specs.OnesCommand.{OnesReply}
use Rattle.ua_answer_algebras.specs.EvalCommand.{EvalReply}
use Rattle.ua_answer_algebras.specs.HomCommand.{HomReply}
use Rattle.ua_answer_algebras.specs.CheckCommand.{CheckReply}
use Rattle.ua_answer_algebras.specs.MakeCommand.{MakeReply, HasReply}

-- in each session of algebras within the limits; what is made leaves such a session again
pub record AlgebrasReplied : Type 0 where
  pub closure : (s : List Block) (b : Bounds) (w : Word) (width : Number) (gens : List Items) (m : Mode) → AreAlgebras s → HasBytes (CloseReply s b w width gens m)
  pub membership : (s : List Block) (b : Bounds) (w : Word) (width : Number) (gens : List Items) (target : Items) → AreAlgebras s → HasBytes (MemberReply s b w width gens target)
  pub free : (s : List Block) (b : Bounds) (w : Word) (k : Number) (m : Mode) → AreAlgebras s → HasBytes (FreeReply s b w k m)
  pub subalgebra : (s : List Block) (w : Word) (set : Items) → AreAlgebras s → HasBytes (SubReply s w set)
  pub generated_by_one : (s : List Block) (w : Word) → AreAlgebras s → HasBytes (OnesReply s w)
  pub value : (s : List Block) (w : Word) (term : Phrase) (args : Items) → HasBytes (EvalReply s w term args)
  pub map : (s : List Block) (b : Bounds) (v w : Word) (gens images : Items) → AreAlgebras s → HasBytes (HomReply s b v w gens images)
  pub check : (s : List Block) (w : Word) (json : List ℕ) → HasBytes (CheckReply s w json)
  pub make : (s : List Block) (place : Place) (name : Word) (what : MakeForm) → AreAlgebras s → HasReply (MakeReply s place name what)
  pub left : (s : List Block) (place : Place) (name : Word) (what : MakeForm) (bytes : List ℕ) (t : List Block) → AreAlgebras s → MakeReply s place name what bytes t → AreAlgebras t
