-- What was heard of commands, and what is told of it.
use Rattle.std.specs.Prelude.{◌≡◌, ℕ, List, take}
use Rattle.ua_text.specs.declared.named.Block.{Block}
use Rattle.ua_reply.specs.Sessions.{Bounds}
use Rattle.ua_answer.specs.Replies.{PlainReply}
use Rattle.ua_shell.specs.declared.hearing.Heard.{Heard}
use Rattle.ua_shell.specs.declared.hearing.Heard.TheVariants.{Said, Asked}

-- the bytes are what was said, or a reply to what was asked, in the session of the blocks that it sees
abbrev pub Tells : List Block → Bounds → Heard → List ℕ → Type 0
Tells s b (Said reply) bytes = bytes ≡ reply.items
Tells s b (Asked known command) bytes = PlainReply (take known s) b command.now bytes
