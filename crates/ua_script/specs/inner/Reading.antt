-- What stands at the front of the tokens while a script is read back.
use Rattle.std.specs.Prelude.{◌≡◌, Bool, true, ◌&&◌, List, [], ◌∷◌, ◌++◌, Option, Some, None, Result}
use Rattle.std.specs.List.{AllByRecursion}
use Rattle.ua_table.specs.declared.limits.TheConstants.{NESTING}
use Rattle.ua_text.specs.declared.tokens.Place.{Place}
use Rattle.ua_text.specs.declared.readers.Miss.{Miss}
use Rattle.ua_text.specs.Reading.{Gives}
use Rattle.ua_text.specs.declared.symbols.Table.TheVariants.{Constructions, Points}
use Rattle.ua_text.specs.declared.symbols.Part.{Part}
use Rattle.ua_text.specs.declared.symbols.Part.TheVariants as parts
use Rattle.ua_text.specs.Pieces.{Placed}
use Rattle.ua_text.specs.Signs.{Spelled, Wanted, AreSpelled, Front}
use Rattle.ua_term.specs.Phrases.{IsNested}
use Rattle.ua_term.specs.Terms.{term}
use Rattle.ua_operands.specs.Reading.{IsShort, IsNamed, IsShortVector, IsShortBlock, ArePointsShort, begins_item}
use Rattle.ua_script.specs.declared.script.MakeForm.{MakeForm}
use Rattle.ua_script.specs.declared.script.MakeForm.TheVariants.{Product, Quotient, Sub, Reduct}
use Rattle.ua_script.specs.declared.script.Command.{Command}
use Rattle.ua_script.specs.declared.forms.CommandForm.{CommandForm}
use Rattle.ua_script.specs.Operands.{Value, Values, values_text}
use Rattle.ua_script.specs.Forms.{word_of, parts_of, made}
use Rattle.ua_script.specs.Reading.{ends}

-- a construction whose names and numbers can be written
abbrev pub IsShortConstruction : MakeForm → Type 0
IsShortConstruction (Product a b) = IsNamed a × IsNamed b
IsShortConstruction (Quotient a p) = IsNamed a × AllByRecursion IsShortBlock p.blocks
IsShortConstruction (Sub a v) = IsNamed a × IsShortVector v
IsShortConstruction (Reduct a ops) = IsNamed a × AllByRecursion IsNamed ops

-- a value whose words and numbers can be written
abbrev pub IsShortValue : (p : Part) → Value p → Type 0
IsShortValue parts.Name x = IsNamed x
IsShortValue parts.Names x = AllByRecursion IsNamed x
IsShortValue parts.Count x = IsShort x
IsShortValue parts.Vector x = IsShortVector x
IsShortValue parts.Vectors x = AllByRecursion IsShortVector x
IsShortValue parts.Partition x = AllByRecursion IsShortBlock x.blocks
IsShortValue parts.Term x = IsNested NESTING x × AreSpelled (term x)
IsShortValue parts.Fresh x = IsNamed x
IsShortValue (parts.Pick Constructions) x = IsShortConstruction x
IsShortValue (parts.Pick Points) x = ArePointsShort x
IsShortValue _ x = Unit {0}

abbrev pub AreShort : (ps : List Part) → Values ps → Type 0
AreShort [] x = Unit {0}
AreShort (p ∷ ps) x = IsShortValue p x.0 × AreShort ps x.1

abbrev pub all_end : List Part → Bool
all_end [] = true
all_end (p ∷ ps) = ends p ps && all_end ps

-- values of parts stand at the front of the tokens, and what begins an item behind them
pub record Standing (ps : List Part) (x : Values ps) (ts : List Placed) (ws : List Wanted) : Type 0 where
  pub short : AreShort ps x
  pub end : all_end ps ≡ true
  pub begins : begins_item ws
  pub front : Front ts (values_text ps x ++ ws) []

-- a place, where one is kept
abbrev pub IsKept : Option Place → Place → Type 0
IsKept None p = Unit {0}
IsKept (Some q) p = q ≡ p

-- the word of a form, and values of its parts, stand at the front of the tokens, and what begins an item behind them
pub record Beginning (f : CommandForm) (x : Values (parts_of f)) (w : Wanted) (ts : List Placed) (ws : List Wanted) : Type 0 where
  pub named : w.sign ≡ Spelled (word_of f)
  pub short : AreShort (parts_of f) x
  pub begins : begins_item ws
  pub front : Front ts (w ∷ (values_text (parts_of f) x ++ ws)) []

-- the command that is made of them
pub record IsMade (f : CommandForm) (x : Values (parts_of f)) (place : Option Place) (c : Command) : Type 0 where
  pub at : Place
  pub kept : IsKept place at
  pub is : c ≡ made f at x

-- what is written for the parts of a form is read as the command that is made of it
abbrev pub IsCommandRead : CommandForm → Place → List Placed → List Placed → Result Command Miss → Type 0
IsCommandRead f place old new result = (x : Values (parts_of f)) (ws : List Wanted) → Standing (parts_of f) x old ws → Gives result (λ c. (c ≡ made f place x) × Front new ws [])

-- a command without `cert` is read
abbrev pub IsPlainRead : List Placed → List Placed → Result Command Miss → Type 0
IsPlainRead old new result =
    (f : CommandForm) (x : Values (parts_of f)) (w : Wanted) (ws : List Wanted) → Beginning f x w old ws → Gives result (λ c. IsMade f x w.place c × Front new ws [])
