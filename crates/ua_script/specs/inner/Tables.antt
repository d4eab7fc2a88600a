-- The words of choices, and where the machine of scripts begins.
use Rattle.std.specs.Prelude.{ℕ, List, [], ◌∷◌}
use Rattle.ua_text.specs.declared.symbols.Symbol.{Symbol}
use Rattle.ua_text.specs.declared.symbols.Symbol.TheVariants.{Start, Items}
use Rattle.ua_text.specs.Machine.{choice}
use Rattle.ua_script.specs.Tables.{script_forms}

abbrev pub choice_words : ℕ → List (List ℕ)
choice_words i = choice script_forms i

abbrev pub script_start : List Symbol
script_start = Start ∷ Items ∷ []
