-- The script that is generated from a number.
use Rattle.std.specs.Prelude.{ℕ, ◌*◌, false, List, [], ◌∷◌, map, codes}
use Rattle.std.specs.List.{range_with_len}
use Rattle.ua_text.specs.declared.named.Block.{Block}
use Rattle.ua_text.specs.Blocks.{unnamed}
use Rattle.ua_term.specs.Phrases.{nowhere}
use Rattle.ua_prod.specs.Sizes.{values_needed}
use Rattle.ua_prod.specs.Draws.{state_after, draws, drawn_algebra}
use Rattle.ua_operands.specs.declared.written.Word.{Word}
use Rattle.ua_operands.specs.declared.written.Number.{Number}
use Rattle.ua_operands.specs.declared.written.Entry.{Entry}
use Rattle.ua_operands.specs.declared.written.Entry.TheVariants as entries
use Rattle.ua_operands.specs.declared.written.Items.{Items}
use Rattle.ua_operands.specs.declared.written.Mode.TheVariants.{Count}
use Rattle.ua_script.specs.declared.script.Provable.TheVariants.{Close}
use Rattle.ua_script.specs.declared.script.Command.{Command}
use Rattle.ua_script.specs.declared.script.Command.TheVariants as commands
use Rattle.ua_script.specs.declared.script.Item.TheVariants as items
use Rattle.ua_script.specs.declared.script.Script.{Script}

-- What no text has stands nowhere.

abbrev pub word : List ℕ → Word
word name = record { name = name; place = nowhere }

abbrev pub number : ℕ → Number
number value = record { value = value; place = nowhere }

abbrev pub entry : ℕ → Entry
entry value = entries.Number (number value)

-- two operations, of two arguments and of one
abbrev pub arities : List ℕ
arities = 2 ∷ 1 ∷ []

-- the algebra G of three elements that is drawn
unfoldable pub drawn_block : ℕ → Block
drawn_block s = unnamed (drawn_algebra (codes "G") 3 s arities)

-- how many values it has
abbrev pub values_drawn : ℕ
values_drawn = values_needed 3 arities

-- a vector of the next seven elements
unfoldable pub drawn_vector : ℕ → Items
drawn_vector s = record { values = map entry (draws 3 s 7); place = nowhere }

-- so many of them, drawn one after another
unfoldable pub drawn_vectors : ℕ → ℕ → List Items
drawn_vectors s count = map (λ i. drawn_vector (state_after s (7 * i))) (range_with_len 0 count)

-- close G 7 [v v v v v v v] .. count
abbrev pub closing : List Items → Command
closing gens = commands.Ask (Close (word (codes "G")) (number 7) gens) Count false

-- con G
abbrev pub congruences : Command
congruences = commands.Con (word (codes "G"))

-- the algebra, the size of the closure of four vectors that are drawn behind it, and its congruences
unfoldable pub generated : ℕ → Script
generated n = record {
  version = 1;
  items = items.Block (drawn_block n) ∷ items.Command (closing (drawn_vectors (state_after n values_drawn) 4)) ∷ items.Command congruences ∷ [];
}
