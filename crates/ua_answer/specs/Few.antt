-- What stands for the parts of a command that is built.
use Rattle.std.specs.Prelude.{◌<◌, ◌≤◌, List, [], ◌∷◌, length}
use Rattle.ua_table.specs.declared.limits.TheConstants.{SCRIPT}
use Rattle.ua_text.specs.declared.symbols.Part.{Part}
use Rattle.ua_text.specs.declared.symbols.Part.TheVariants as parts
use Rattle.ua_text.specs.declared.symbols.Table.TheVariants.{Constructions, Points}
use Rattle.ua_script.specs.Operands.{Value, Values}
use Rattle.ua_answer_conditions.specs.CloneCommand.{IsShortTable}
use Rattle.ua_answer_algebras.specs.MakeCommand.{IsConstructionBuilt}

-- no more vectors, and in a vector no more entries, than a script has bytes; and some identity where there are to be some
abbrev pub IsFew : (p : Part) → Value p → Type 0
IsFew parts.Vector x = length x.values ≤ SCRIPT
IsFew parts.Vectors x = length x ≤ SCRIPT
IsFew (parts.Identities i) x = 0 < length x
IsFew (parts.Pick Constructions) x = IsConstructionBuilt x
IsFew (parts.Pick Points) x = IsShortTable x
IsFew _ x = Unit {0}

-- and so for parts in a row
abbrev pub AreFew : (ps : List Part) → Values ps → Type 0
AreFew [] x = Unit {0}
AreFew (p ∷ ps) x = IsFew p x.0 × AreFew ps x.1
