-- Which operands can be written, and what begins with what.
use Rattle.std.specs.Prelude.{◌≡◌, ◌<◌, Bool, true, false, List, [], ◌∷◌, ◌++◌, length, codes, Result}
use Rattle.std.specs.List.{AllByRecursion}
use Rattle.ua_table.specs.declared.limits.TheConstants.{NUMBERS}
use Rattle.ua_text.specs.Bytes.{is_number}
use Rattle.ua_text.specs.Signs.{Sign, Spelled, Wanted, sign, Front}
use Rattle.ua_text.specs.Reading.{Gives, begins_with}
use Rattle.ua_text.specs.Tokens.{tokens_left}
use Rattle.ua_text.specs.declared.readers.Miss.{Miss}
use Rattle.ua_text.specs.declared.symbols.Role.TheVariants as roles
use Rattle.ua_text.specs.declared.tokens.Tokens.{Tokens}
use Rattle.ua_operands.specs.Written.{names}
use Rattle.ua_operands.specs.declared.written.Word.{Word}
use Rattle.ua_operands.specs.declared.written.Number.{Number}
use Rattle.ua_operands.specs.declared.written.Entry.{Entry}
use Rattle.ua_operands.specs.declared.written.Entry.TheVariants as entries
use Rattle.ua_table.specs.Names.{is_name}
use Rattle.ua_operands.specs.declared.written.Items.{Items}
use Rattle.ua_operands.specs.declared.written.PointsText.{PointsText}
use Rattle.ua_operands.specs.declared.written.PointsText.TheVariants.{Total, Partial}

abbrev pub IsShort : Number → Type 0
IsShort n = n.value < NUMBERS

-- a number below 10^9, or a word
abbrev pub IsShortEntry : Entry → Type 0
IsShortEntry (entries.Number n) = n.value < NUMBERS
IsShortEntry (entries.Word w) = is_name w.name ≡ true

abbrev pub IsShortVector : Items → Type 0
IsShortVector v = AllByRecursion IsShortEntry v.values

abbrev pub AreShortVectors : List Items → Type 0
AreShortVectors vs = AllByRecursion IsShortVector vs

-- the numbers of a block of a partition
abbrev pub IsShortBlock : List Number → Type 0
IsShortBlock b = (0 < length b) × AllByRecursion IsShort b

-- a word whose token can be written
abbrev pub IsNamed : Word → Type 0
IsNamed w = is_name w.name ≡ true

-- values of which the numbers and words can be written
abbrev pub ArePointsShort : PointsText → Type 0
ArePointsShort (Total v) = IsShortVector v
ArePointsShort (Partial v vs) = IsShortVector v × AreShortVectors vs

-- a number may be wanted first
abbrev pub may_be_number : Sign → Bool
may_be_number (Spelled text) = is_number text
may_be_number _ = true

abbrev pub begins_number : List Wanted → Bool
begins_number [] = false
begins_number (w ∷ ws) = may_be_number w.sign

-- what may stand behind a command: neither a vector, nor a mode, nor a number, nor a parenthesis
abbrev pub begins_item : List Wanted → Type 0
begins_item ws = (begins_with (codes "[") ws ≡ false) × (begins_with (codes "least") ws ≡ false) × (begins_with (codes "count") ws ≡ false) × (begins_number ws ≡ false) × (begins_with (codes "(") ws ≡ false)

-- a list of names in parentheses is read
abbrev pub TakesNames : Tokens → Tokens → Result (List Word) Miss → List Word → List Wanted → Type 0
TakesNames old new result ns ws =
    Front (tokens_left old) (sign roles.Opens (codes "(") ∷ (names ns ++ sign roles.Closes (codes ")") ∷ ws)) [] → Gives result (λ x. (x ≡ ns) × Front (tokens_left new) ws [])
