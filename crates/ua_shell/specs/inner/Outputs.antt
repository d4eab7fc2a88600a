-- What a script may be answered: a reply to each command, in order: what private functions say.
use Rattle.ua_table.specs.Tables.{IsAlgebraTable}
use Rattle.ua_script.specs.declared.script.Item.{Item}
use Rattle.ua_script.specs.declared.script.Item.TheVariants as items
use Rattle.ua_answer.specs.Replies.{IsBuilt}

-- an algebra within the limits, or a command that is built
abbrev pub IsServed : Item → Type 0
IsServed (items.Block k) = IsAlgebraTable k.algebra
IsServed (items.Command c) = IsBuilt c
