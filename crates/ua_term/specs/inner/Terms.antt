-- The machine that reads a term.
use Rattle.std.specs.Prelude.{List, [], ◌∷◌}
use Rattle.ua_table.specs.declared.limits.TheConstants.{NESTING}
use Rattle.ua_text.specs.declared.symbols.Symbol.{Symbol}
use Rattle.ua_text.specs.declared.symbols.Symbol.TheVariants.{Term}
use Rattle.ua_text.specs.Machine.{Forms}
use Rattle.ua_term.specs.Terms.{term}

-- the machine of one term
abbrev pub term_forms : Forms
term_forms = record { version = 1; unbuilt = []; commands = []; provables = []; constructions = []; points = []; choices = [] }

abbrev pub term_start : List Symbol
term_start = Term NESTING ∷ []
