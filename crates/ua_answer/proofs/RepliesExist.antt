-- Each command that is built has a reply, from the laws of the commands.
use Rattle.std.proofs.Common.{◌≡◌, ℕ, ◌≤◌, List, refl, sym, subst}
use Rattle.ua_text.specs.declared.named.Block.{Block}
use Rattle.ua_script.specs.declared.script.Provable.{Provable}
use Rattle.ua_script.specs.declared.script.Command.{Command}
use Rattle.ua_script.specs.declared.script.Command.TheVariants as commands
use Rattle.ua_script.specs.Forms.{asked, parts_of}
use Rattle.ua_reply.specs.Sessions.{Bounds, AreAlgebras, AreBounds}
use Rattle.ua_reply.specs.Replies.{HasBytes}
use Rattle.ua_answer_congruences.specs.Replied.{CongruencesReplied}
use Rattle.ua_chain.specs.declared.least_chains.NamedKind.TheVariants as chains
use Rattle.ua_answer_conditions.specs.Replied.{ConditionsReplied}
use Rattle.ua_answer_algebras.specs.MakeCommand.{HasReply}
use Rattle.ua_answer_algebras.specs.Replied.{AlgebrasReplied}
use Rattle.ua_answer.specs.Questions.{CertReply}
use Rattle.ua_answer.specs.Few.{AreFew}
use Rattle.ua_answer.specs.Replies.{IsBuilt, IsPlain, PlainReply, Reply}
use Rattle.ua_answer.proofs.QuestionsExist.{asked_replied}

-- a reply to each command of a kind
pub record Replied : Type 0 where
  pub congruences : CongruencesReplied
  pub conditions : ConditionsReplied
  pub algebras : AlgebrasReplied
  pub certified : (s : List Block) (b : Bounds) (what : Provable) → AreAlgebras s → 1 ≤ b.budget → HasBytes (CertReply s b what)

-- what leaves the session as it was
plain : (s : List Block) (b : Bounds) (c : Command) → HasBytes (PlainReply s b c) → HasReply (λ bytes t. PlainReply s b c bytes × (t ≡ s))
plain s b c h = record { bytes = h.bytes; left = s; are = (h.are, refl) }

module _ (r : Replied) (s : List Block) (b : Bounds) (algebras : AreAlgebras s) (bounds : AreBounds b) where
  said : (c : Command) → IsPlain c → AreFew (parts_of (asked c).form) (asked c).values → HasBytes (PlainReply s b c)
  said (commands.Ask what m cert) p few = asked_replied r.conditions r.algebras r.certified s b what m cert algebras bounds.some
  said (commands.Free w k m) p few = r.algebras.free s b w k m algebras
  said (commands.Sub w set) p few = r.algebras.subalgebra s w set algebras
  said (commands.Ones w) p few = r.algebras.generated_by_one s w algebras
  said (commands.Eval w term args) p few = r.algebras.value s w term args
  said (commands.Hom v w gens images) p few = r.algebras.map s b v w gens images algebras
  said (commands.Check w json) p few = r.algebras.check s w json
  said (commands.Cg w pairs) p few = r.congruences.generated s w pairs algebras
  said (commands.Con w) p few = r.congruences.lattice s b w algebras bounds.few
  said (commands.Types w) p few = r.congruences.covers s b w algebras bounds.few
  said (commands.Central w alpha beta delta) p few = r.congruences.centrality s b w alpha beta delta algebras
  said (commands.Comm w alpha beta) p few = r.congruences.commutator s b w alpha beta algebras
  said (commands.Series w kind) p few = r.congruences.series s b w kind algebras
  said (commands.Holds w left right) p few = r.conditions.identity s w left right
  said (commands.Day w) p few = r.conditions.chain s b w chains.Day algebras
  said (commands.Condition w k is) p few = r.conditions.written s b w k is algebras few.1.1.0
  said (commands.Clone w k kind points) p few = r.conditions.clone s b w k kind points algebras
  said (commands.Make place name what) p few = absurd p

  replied : (c : Command) → IsBuilt c → HasReply (Reply s b c)
  replied (commands.Make place name what) built = r.algebras.make s place name what algebras
  replied c built = plain s b c (said c tt built.1)

pub reply_exists : Replied → (s : List Block) (b : Bounds) (c : Command) → AreAlgebras s → AreBounds b → IsBuilt c → HasReply (Reply s b c)
reply_exists r s b c algebras bounds built = replied r s b algebras bounds c built

pub session_left : AlgebrasReplied → (s : List Block) (b : Bounds) (c : Command) (bytes : List ℕ) (t : List Block) → AreAlgebras s → Reply s b c bytes t → AreAlgebras t
session_left r s b (commands.Make place name what) bytes t algebras h = r.left s place name what bytes t algebras h
session_left r s b c bytes t algebras h = subst AreAlgebras (sym h.1) algebras
