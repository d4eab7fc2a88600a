-- What was heard of commands, and what is told of it: what private functions say.
use Rattle.std.specs.Prelude.{◌≡◌, ℕ, ◌≤◌, List, [], ◌∷◌, ◌++◌, length, take, Option}
use Rattle.std.specs.List.{flat_map}
use Rattle.std.specs.Io.KnownBytes.{Appends}
use Rattle.ua_io.specs.Faults.{Rose, AppendsFront}
use Rattle.ua_text.specs.declared.named.Block.{Block}
use Rattle.ua_script.specs.declared.script.Command.{Command}
use Rattle.ua_script.specs.declared.script.Item.{Item}
use Rattle.ua_script.specs.declared.script.Item.TheVariants as items
use Rattle.ua_jobs.specs.Harvests.{AnswerEach}
use Rattle.ua_reply.specs.Sessions.{Bounds}
use Rattle.ua_answer.specs.Replies.{IsPlainBuilt, Reply}
use Rattle.ua_shell.specs.declared.hearing.Heard.{Heard}
use Rattle.ua_shell.specs.declared.hearing.Heard.TheVariants.{Said, Asked}
use Rattle.ua_shell.specs.declared.serve.Served.{Served}
use Rattle.ua_shell.specs.declared.serve.Served.TheVariants as served
use Rattle.ua_shell.specs.Hearing.{Tells}

-- what a command was answered; or a command that leaves the session as it was, and sees some first blocks of it
abbrev pub IsReady : List Block → Heard → Type 0
IsReady s (Said reply) = Unit {0}
IsReady s (Asked known command) = IsPlainBuilt command.now × (known ≤ length s)

-- what was heard of a command goes on with the session s to t, and whatever it tells there is a reply to the command
pub record IsHeard (b : Bounds) (c : Command) (s t : List Block) (heard : Heard) : Type 0 where
  pub kept : take (length s) t ≡ s
  pub ready : IsReady t heard
  pub says : (bytes : List ℕ) → Tells t b heard bytes → Reply s b c bytes t

-- an item is heard: a block joins the session, what was heard of a command stands last
abbrev pub Hears : Bounds → Item → (s t : List Block) → (before after : List Heard) → Type 0
Hears b (items.Block k) s t before after = (t ≡ s ++ k ∷ []) × (after ≡ before)
Hears b (items.Command c) s t before after = (heard : Heard) × IsHeard b c s t heard × (after ≡ before ++ heard ∷ [])

-- the bytes of some replies, one after another
abbrev pub bytes_of : List (List ℕ) → List ℕ
bytes_of replies = flat_map (λ reply. reply) replies

-- each of what was heard has a reply, and the bytes of all of them are of this kind
pub record AreTold (s : List Block) (b : Bounds) (heard : List Heard) (Kind : List ℕ → Type 0) : Type 0 where
  pub replies : List (List ℕ)
  pub each : AnswerEach (Tells s b) heard replies
  pub written : Kind (bytes_of replies)

-- all replies are written, or the front of them and the sink's count rose, or nothing
abbrev pub TellsAll : {K : Type 0} → (K → Option (List ℕ)) → (K → ℕ) → List Block → Bounds → List Heard → K → K → Served → Type 0
TellsAll written faults s b heard old new served.Done = AreTold s b heard (Appends (written old) (written new))
TellsAll written faults s b heard old new served.WriteFault = AreTold s b heard (AppendsFront (written old) (written new)) × Rose (faults old) (faults new)
TellsAll written faults s b heard old new served.OutOfMemory = new ≡ old
