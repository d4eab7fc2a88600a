-- What is read up to a closing token, and a number at the front of the tokens.
use Rattle.std.specs.Prelude.{◌≡◌, ◌++◌, Bool, false, List, [], ◌∷◌, map, Result, Vec}
use Rattle.std.specs.List.{AllByRecursion, flat_map}
use Rattle.std.specs.declared.alloc.Global.{Global}
use Rattle.ua_text.specs.Bytes.{is_number}
use Rattle.ua_text.specs.Pieces.{Placed}
use Rattle.ua_text.specs.Reading.{Takes, Gives}
use Rattle.ua_text.specs.Signs.{Wanted, Front}
use Rattle.ua_text.specs.Tokens.{tokens_left}
use Rattle.ua_text.specs.declared.readers.Miss.{Miss}
use Rattle.ua_text.specs.declared.tokens.Tokens.{Tokens}
use Rattle.ua_operands.specs.Written.{vector}
use Rattle.ua_operands.specs.declared.written.Items.{Items}
use Rattle.ua_operands.specs.declared.written.PointsText.{PointsText}
use Rattle.ua_operands.specs.declared.written.PointsText.TheVariants.{Partial}

-- the first token is a number
abbrev pub is_number_front : List Placed → Bool
is_number_front [] = false
is_number_front (t ∷ ts) = is_number t.text

-- a list is read that is written so
abbrev pub TakesList : {A : Type 0} → Tokens → Tokens → Result (Vec A Global) Miss → List A → List Wanted → List Wanted → Type 0
TakesList old new result xs text ws = Takes old new result (λ read. read.items ≡ xs) text ws []

-- each list is read whose members can be written, one after the other, up to a closing token
abbrev pub TakesUpTo : {A : Type 0} → Tokens → Tokens → Result (Vec A Global) Miss → (A → Type 0) → (A → Wanted) → Wanted → Type 0
TakesUpTo {A} old new result IsWritable text closing = (xs : List A) (ws : List Wanted) → AllByRecursion IsWritable xs → TakesList old new result xs (map text xs) (closing ∷ ws)

-- the first vector of some values with their arguments is read, and the others behind it
abbrev pub TakesPoints : Tokens → Tokens → Result PointsText Miss → Items → List Items → List Wanted → Type 0
TakesPoints old new result v vs ws = Front (tokens_left old) (vector v ++ (flat_map vector vs ++ ws)) [] → Gives result (λ x. (x ≡ Partial v vs) × Front (tokens_left new) ws [])
