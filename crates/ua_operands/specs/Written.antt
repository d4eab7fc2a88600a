-- What is written for operands, token by token. Each keeps its place.
use Rattle.std.specs.Prelude.{ℕ, List, [], ◌∷◌, ◌++◌, map, codes}
use Rattle.std.specs.List.{flat_map}
use Rattle.ua_text.specs.declared.symbols.Role.{Role}
use Rattle.ua_text.specs.declared.symbols.Role.TheVariants.{Mode, Exact, Opens, Closes, Bar, Named, Further, Inner, More}
use Rattle.ua_text.specs.Signs.{Wanted, sign, sign_at, numeral_at}
use Rattle.ua_operands.specs.declared.written.Word.{Word}
use Rattle.ua_operands.specs.declared.written.Number.{Number}
use Rattle.ua_operands.specs.declared.written.Entry.{Entry}
use Rattle.ua_operands.specs.declared.written.Entry.TheVariants as entries
use Rattle.ua_operands.specs.declared.written.Items.{Items}
use Rattle.ua_operands.specs.declared.written.PartText.{PartText}
use Rattle.ua_operands.specs.declared.written.Mode.{Mode as ModeWord}
use Rattle.ua_operands.specs.declared.written.Mode.TheVariants.{Plain, Least, Count}
use Rattle.ua_operands.specs.declared.written.CondWord.{CondWord}
use Rattle.ua_operands.specs.declared.written.CondWord.TheVariants.{Maltsev, Majority, Minority, Pixley}
use Rattle.ua_operands.specs.declared.written.Variable.{Variable}
use Rattle.ua_operands.specs.declared.written.Variable.TheVariants.{X, Y, Z, W}
use Rattle.ua_operands.specs.declared.written.IdentityText.{IdentityText}
use Rattle.ua_operands.specs.declared.written.CloneWord.{CloneWord}
use Rattle.ua_operands.specs.declared.written.CloneWord.TheVariants.{Term, Polynomial}
use Rattle.ua_operands.specs.declared.written.PointsText.{PointsText}
use Rattle.ua_operands.specs.declared.written.PointsText.TheVariants.{Total, Partial}
use Rattle.ua_operands.specs.declared.written.SeriesWord.{SeriesWord}
use Rattle.ua_operands.specs.declared.written.SeriesWord.TheVariants.{Derived, Lower}

abbrev pub word : Word → Wanted
word w = sign_at Named w.name w.place

abbrev pub further : Word → Wanted
further w = sign_at Further w.name w.place

abbrev pub number : Role → Number → Wanted
number role n = numeral_at role n.value n.place

abbrev pub entry : Entry → Wanted
entry (entries.Number n) = number Inner n
entry (entries.Word w) = sign_at Inner w.name w.place

-- [0 1]
abbrev pub vector : Items → List Wanted
vector v = sign_at Opens (codes "[") v.place ∷ map entry v.values ++ sign Closes (codes "]") ∷ []

abbrev pub part_block : Role → List Number → List Wanted
part_block role [] = sign Bar (codes "|") ∷ []
part_block role (n ∷ ns) = number role n ∷ map (number Inner) ns ++ sign Bar (codes "|") ∷ []

abbrev pub part_blocks : Role → List (List Number) → List Wanted
part_blocks role [] = []
part_blocks role (b ∷ bs) = part_block role b ++ part_blocks More bs

-- |0 1|2|
abbrev pub part : PartText → List Wanted
part p = sign_at Bar (codes "|") p.place ∷ part_blocks Inner p.blocks

-- (meet join)
abbrev pub names : List Word → List Wanted
names [] = []
names (w ∷ ws) = word w ∷ map further ws

abbrev pub mode : ModeWord → List Wanted
mode Plain = []
mode Least = sign Mode (codes "least") ∷ []
mode Count = sign Mode (codes "count") ∷ []

abbrev pub cond_word : CondWord → List ℕ
cond_word Maltsev = codes "maltsev"
cond_word Majority = codes "majority"
cond_word Minority = codes "minority"
cond_word Pixley = codes "pixley"

abbrev pub variable_word : Variable → List ℕ
variable_word X = codes "x"
variable_word Y = codes "y"
variable_word Z = codes "z"
variable_word W = codes "w"

abbrev pub variable : Variable → Wanted
variable v = sign Exact (variable_word v)

-- the variables at the places of a term, and the parenthesis behind them
abbrev pub arguments : List Variable → List Wanted
arguments vs = map variable vs ++ sign Closes (codes ")") ∷ []

-- what stands behind the first parenthesis of an identity
abbrev pub identity_behind : IdentityText → List Wanted
identity_behind i = arguments i.args ++ sign Exact (codes "=") ∷ variable i.value ∷ []

-- (x y) = x
abbrev pub identity : IdentityText → List Wanted
identity i = sign_at Opens (codes "(") i.place ∷ identity_behind i

abbrev pub clone_word : CloneWord → List ℕ
clone_word Term = codes "term"
clone_word Polynomial = codes "polynomial"

-- total [0 1], or partial [0 0] [1 1]
abbrev pub points : PointsText → List Wanted
points (Total v) = sign Exact (codes "total") ∷ vector v
points (Partial v vs) = sign Exact (codes "partial") ∷ vector v ++ flat_map vector vs

abbrev pub series_word : SeriesWord → List ℕ
series_word Derived = codes "derived"
series_word Lower = codes "lower"
