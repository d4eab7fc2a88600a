-- What a command may be answered: a case for each form.
use Rattle.std.specs.Prelude.{◌≡◌, ℕ, List}
use Rattle.ua_script.specs.declared.script.Command.{Command}
use Rattle.ua_script.specs.declared.script.Command.TheVariants as commands
use Rattle.ua_script.specs.Forms.{asked, parts_of}
use Rattle.ua_script.specs.Grammar.{MayAsk}
use Rattle.ua_text.specs.declared.named.Block.{Block}
use Rattle.ua_reply.specs.Sessions.{Bounds}
use Rattle.ua_answer_congruences.specs.CgCommand.{CgReply}
use Rattle.ua_answer_congruences.specs.ConCommand.{ConReply}
use Rattle.ua_answer_congruences.specs.TypesCommand.{TypesReply}
use Rattle.ua_answer_congruences.specs.CentralCommand.{CentralReply}
use Rattle.ua_answer_congruences.specs.CommCommand.{CommReply}
use Rattle.ua_answer_congruences.specs.SeriesCommand.{SeriesReply}
use Rattle.ua_answer_conditions.specs.ConditionCommand.{ConditionReply}
use Rattle.ua_answer_conditions.specs.CloneCommand.{CloneReply}
use Rattle.ua_chain.specs.declared.least_chains.NamedKind.TheVariants as chains
use Rattle.ua_answer_conditions.specs.ChainCommand.{ChainReply}
use Rattle.ua_answer_conditions.specs.HoldsCommand.{HoldsReply}
use Rattle.ua_answer_algebras.specs.FreeCommand.{FreeReply}
use Rattle.ua_answer_algebras.specs.SubCommand.{SubReply}
use Rattle.ua_answer_algebras.specs.OnesCommand.{OnesReply}
use Rattle.ua_answer_algebras.specs.EvalCommand.{EvalReply}
use Rattle.ua_answer_algebras.specs.HomCommand.{HomReply}
use Rattle.ua_answer_algebras.specs.CheckCommand.{CheckReply}
use Rattle.ua_answer_algebras.specs.MakeCommand.{MakeReply}
use Rattle.ua_answer.specs.Questions.{AskedReply}
use Rattle.ua_answer.specs.Few.{AreFew}

-- the commands that are built: a mode stands where it may, and of each part there is no more than a script has bytes
abbrev pub IsBuilt : Command → Type 0
IsBuilt c = MayAsk c × AreFew (parts_of (asked c).form) (asked c).values

-- the commands that leave the session as it was
abbrev pub IsPlain : Command → Type 0
IsPlain (commands.Make place name what) = ⊥
IsPlain _ = Unit {0}

-- those of them that are built
abbrev pub IsPlainBuilt : Command → Type 0
IsPlainBuilt c = IsPlain c × IsBuilt c

-- the bytes are a reply to a command that leaves the session as it was
abbrev pub PlainReply : List Block → Bounds → Command → List ℕ → Type 0
PlainReply s b (commands.Ask what m cert) bytes = AskedReply s b what m cert bytes
PlainReply s b (commands.Free w k m) bytes = FreeReply s b w k m bytes
PlainReply s b (commands.Sub w set) bytes = SubReply s w set bytes
PlainReply s b (commands.Ones w) bytes = OnesReply s w bytes
PlainReply s b (commands.Eval w term args) bytes = EvalReply s w term args bytes
PlainReply s b (commands.Cg w pairs) bytes = CgReply s w pairs bytes
PlainReply s b (commands.Con w) bytes = ConReply s b w bytes
PlainReply s b (commands.Types w) bytes = TypesReply s b w bytes
PlainReply s b (commands.Day w) bytes = ChainReply s b w chains.Day bytes
PlainReply s b (commands.Condition w k is) bytes = ConditionReply s b w k is bytes
PlainReply s b (commands.Clone w k kind points) bytes = CloneReply s b w k kind points bytes
PlainReply s b (commands.Holds w left right) bytes = HoldsReply s w left right bytes
PlainReply s b (commands.Hom v w gens images) bytes = HomReply s b v w gens images bytes
PlainReply s b (commands.Central w alpha beta delta) bytes = CentralReply s b w alpha beta delta bytes
PlainReply s b (commands.Comm w alpha beta) bytes = CommReply s b w alpha beta bytes
PlainReply s b (commands.Series w kind) bytes = SeriesReply s b w kind bytes
PlainReply s b (commands.Check w json) bytes = CheckReply s w json bytes
PlainReply s b _ bytes = ⊥

-- the bytes are a reply to the command in the session, which leaves that session t
abbrev pub Reply : List Block → Bounds → Command → List ℕ → List Block → Type 0
Reply s b (commands.Make place name what) bytes t = MakeReply s place name what bytes t
Reply s b c bytes t = PlainReply s b c bytes × (t ≡ s)
