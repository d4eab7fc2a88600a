-- What stands for a part of a form, by its type: for which part, and the value of that part that is meant. What it is to read them.
use Rattle.std.specs.Prelude.{◌≡◌, false, List, [], ◌∷◌, ◌++◌, Result, codes}
use Rattle.ua_term.specs.Reading.{IsEnd}
use Rattle.ua_text.specs.declared.readers.Miss.{Miss}
use Rattle.ua_text.specs.declared.symbols.Part.{Part}
use Rattle.ua_text.specs.declared.symbols.Part.TheVariants as parts
use Rattle.ua_text.specs.Pieces.{Placed}
use Rattle.ua_text.specs.Signs.{Wanted, Front}
use Rattle.ua_text.specs.Reading.{Gives, begins_with}
use Rattle.ua_operands.specs.Reading.{begins_item, begins_number}
use Rattle.ua_script.specs.Operands.{Value, Values, value_text}
use Rattle.ua_script.specs.inner.Reading.{IsShortValue, Standing}

-- what a type stands for
pub record ForPart (A : Type 0) : Type 0 where
  pub part : Part
  pub value : A → Value part

-- and for parts in a row
pub record ForParts (A : Type 0) : Type 0 where
  pub parts : List Part
  pub values : A → Values parts

abbrev pub no_parts : ForParts (Unit {0})
no_parts = record { parts = []; values = λ x. tt }

abbrev pub first : {A B : Type 0} → ForPart A → ForParts B → ForParts (A × B)
first a b = record { parts = a.part ∷ b.parts; values = λ x. (a.value x.0, b.values x.1) }

-- what the reader of a part wants of what stands behind it
abbrev pub Ends : Part → List Wanted → Type 0
Ends parts.Vectors ws = begins_with (codes "[") ws ≡ false
Ends parts.Partition ws = begins_number ws ≡ false
Ends parts.Term ws = IsEnd ws []
Ends parts.Modes ws = begins_item ws
Ends (parts.Identities i) ws = begins_with (codes "(") ws ≡ false
Ends (parts.Pick table) ws = begins_item ws
Ends p ws = Unit {0}

-- what is written for a value is read as that value
abbrev pub IsRead : {A : Type 0} → ForPart A → List Placed → List Placed → Result A Miss → Type 0
IsRead a old new result = (x : Value a.part) (ws : List Wanted) → IsShortValue a.part x → Ends a.part ws → Front old (value_text a.part x ++ ws) [] → Gives result (λ r. (a.value r ≡ x) × Front new ws [])

abbrev pub AreRead : {A : Type 0} → ForParts A → List Placed → List Placed → Result A Miss → Type 0
AreRead a old new result = (x : Values a.parts) (ws : List Wanted) → Standing a.parts x old ws → Gives result (λ r. (a.values r ≡ x) × Front new ws [])

-- Each type stands for one part.

-- a type whose values are those of the part
abbrev pub itself : (p : Part) → ForPart (Value p)
itself p = record { part = p; value = λ x. x }

-- the sign `=`
abbrev pub equals : {A : Type 0} → ForPart A
equals = record { part = parts.Mark 61; value = λ x. tt }
