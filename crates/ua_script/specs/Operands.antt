-- The operands of commands: what may stand for each part of a form, what is written for it, and the rules beside the
-- grammar.
use Rattle.std.specs.Prelude.{◌≡◌, ℕ, zero, suc, ◌<◌, List, [], ◌∷◌, ◌++◌, length, codes}
use Rattle.std.specs.List.{flat_map, AllByRecursion}
use Rattle.ua_table.specs.declared.limits.TheConstants.{NESTING}
use Rattle.ua_text.specs.declared.named.Block.{Block}
use Rattle.ua_text.specs.declared.symbols.Role.TheVariants.{Exact, Opens, Closes, Amount, Json}
use Rattle.ua_text.specs.declared.symbols.Table.TheVariants.{Constructions, Points}
use Rattle.ua_text.specs.declared.symbols.Part.{Part}
use Rattle.ua_text.specs.declared.symbols.Part.TheVariants as parts
use Rattle.ua_text.specs.Signs.{Wanted, sign}
use Rattle.ua_text.specs.Blocks.{body, IsBlock}
use Rattle.ua_term.specs.Phrases.{Phrase, IsNested}
use Rattle.ua_term.specs.Terms.{term}
use Rattle.ua_operands.specs.declared.written.Word.{Word}
use Rattle.ua_operands.specs.declared.written.Number.{Number}
use Rattle.ua_operands.specs.declared.written.Entry.{Entry}
use Rattle.ua_operands.specs.declared.written.Entry.TheVariants as entries
use Rattle.ua_operands.specs.declared.written.Items.{Items}
use Rattle.ua_operands.specs.declared.written.PartText.{PartText}
use Rattle.ua_operands.specs.declared.written.Mode.{Mode}
use Rattle.ua_operands.specs.declared.written.CondWord.{CondWord}
use Rattle.ua_operands.specs.declared.written.SeriesWord.{SeriesWord}
use Rattle.ua_operands.specs.declared.written.Variable.{Variable}
use Rattle.ua_operands.specs.declared.written.CloneWord.{CloneWord}
use Rattle.ua_operands.specs.declared.written.IdentityText.{IdentityText}
use Rattle.ua_operands.specs.declared.written.PointsText.{PointsText}
use Rattle.ua_operands.specs.declared.written.PointsText.TheVariants.{Total, Partial}
use Rattle.ua_operands.specs.Written.{word, number, vector, part, names, mode, cond_word, series_word, variable_word, clone_word, identity, points}
use Rattle.ua_script.specs.declared.script.MakeForm.{MakeForm}
use Rattle.ua_script.specs.declared.script.MakeForm.TheVariants.{Product, Quotient, Sub, Reduct}

-- what a word of each list to choose from says
abbrev pub Choice : ℕ → Type 0
Choice zero = CondWord
Choice (suc zero) = SeriesWord
Choice (suc (suc zero)) = Variable
Choice (suc (suc (suc zero))) = CloneWord
Choice (suc (suc (suc (suc i)))) = ⊥

-- what may stand for a part
abbrev pub Value : Part → Type 0
Value (parts.Mark b) = Unit {0}
Value parts.Name = Word
Value parts.Names = List Word
Value parts.Count = Number
Value parts.Vector = Items
Value parts.Vectors = List Items
Value parts.Partition = PartText
Value parts.Term = Phrase
Value parts.Json = List ℕ
Value parts.Modes = Mode
Value parts.Fresh = Word
Value parts.Body = Block
Value (parts.OneOf i) = Choice i
Value (parts.Identities i) = List IdentityText
Value (parts.Pick Constructions) = MakeForm
Value (parts.Pick Points) = PointsText
Value (parts.Pick table) = ⊥

-- and for parts in a row
abbrev pub Values : List Part → Type 0
Values [] = Unit {0}
Values (p ∷ ps) = Value p × Values ps

-- What is written.

abbrev pub construction : MakeForm → List Wanted
construction (Product a b) = sign Exact (codes "product") ∷ word a ∷ word b ∷ []
construction (Quotient a p) = sign Exact (codes "quotient") ∷ word a ∷ part p
construction (Sub a v) = sign Exact (codes "sub") ∷ word a ∷ vector v
construction (Reduct a ops) = sign Exact (codes "reduct") ∷ word a ∷ sign Opens (codes "(") ∷ names ops ++ sign Closes (codes ")") ∷ []

abbrev pub choice_text : (i : ℕ) → Choice i → List ℕ
choice_text zero c = cond_word c
choice_text (suc zero) c = series_word c
choice_text (suc (suc zero)) c = variable_word c
choice_text (suc (suc (suc zero))) c = clone_word c
choice_text (suc (suc (suc (suc i)))) c = []

abbrev pub value_text : (p : Part) → Value p → List Wanted
value_text (parts.Mark b) x = sign Exact (b ∷ []) ∷ []
value_text parts.Name x = word x ∷ []
value_text parts.Names x = sign Opens (codes "(") ∷ names x ++ sign Closes (codes ")") ∷ []
value_text parts.Count x = number Amount x ∷ []
value_text parts.Vector x = vector x
value_text parts.Vectors x = flat_map vector x
value_text parts.Partition x = part x
value_text parts.Term x = term x
value_text parts.Json x = sign Json x ∷ []
value_text parts.Modes x = mode x
value_text parts.Fresh x = word x ∷ []
value_text parts.Body x = body x
value_text (parts.OneOf i) x = sign Exact (choice_text i x) ∷ []
value_text (parts.Identities i) x = flat_map identity x
value_text (parts.Pick Constructions) x = construction x
value_text (parts.Pick Points) x = points x
value_text (parts.Pick table) x = []

abbrev pub values_text : (ps : List Part) → Values ps → List Wanted
values_text [] x = []
values_text (p ∷ ps) x = value_text p x.0 ++ values_text ps x.1

-- The rules beside the grammar.

-- in version 1 an entry is a number
abbrev pub IsEntry : ℕ → Entry → Type 0
IsEntry v (entries.Number n) = Unit {0}
IsEntry v (entries.Word w) = v ≡ 2

abbrev pub IsVector : ℕ → Items → Type 0
IsVector v x = AllByRecursion (IsEntry v) x.values

abbrev pub AreVectors : ℕ → List Items → Type 0
AreVectors v xs = AllByRecursion (IsVector v) xs

abbrev pub ArePoints : ℕ → PointsText → Type 0
ArePoints version (Total v) = IsVector version v
ArePoints version (Partial v vs) = IsVector version v × AreVectors version vs

-- a term has a place
abbrev pub IsIdentity : IdentityText → Type 0
IsIdentity i = 0 < length i.args

-- at least one identity
pub record AreIdentities (is : List IdentityText) : Type 0 where
  pub some : 0 < length is
  pub each : AllByRecursion IsIdentity is

-- at least one block, and no block is empty
pub record IsPart (p : PartText) : Type 0 where
  pub some : 0 < length p.blocks
  pub each : AllByRecursion (λ (b : List Number). 0 < length b) p.blocks

abbrev pub IsConstruction : ℕ → MakeForm → Type 0
IsConstruction v (Quotient a p) = IsPart p
IsConstruction v (Sub a x) = IsVector v x
IsConstruction v (Reduct a ops) = 0 < length ops
IsConstruction v _ = Unit {0}

abbrev pub IsValue : ℕ → (p : Part) → Value p → Type 0
IsValue v parts.Names x = 0 < length x
IsValue v parts.Vector x = IsVector v x
IsValue v parts.Vectors x = AreVectors v x
IsValue v parts.Partition x = IsPart x
IsValue v parts.Term x = IsNested NESTING x
IsValue v parts.Body x = IsBlock v x
IsValue v (parts.Identities i) x = AreIdentities x
IsValue v (parts.Pick Constructions) x = IsConstruction v x
IsValue v (parts.Pick Points) x = ArePoints v x
IsValue v _ x = Unit {0}

abbrev pub AreValues : ℕ → (ps : List Part) → Values ps → Type 0
AreValues v [] x = Unit {0}
AreValues v (p ∷ ps) x = IsValue v p x.0 × AreValues v ps x.1

-- the names that are introduced
abbrev pub new_name : (p : Part) → Value p → List (List ℕ)
new_name parts.Fresh x = x.name ∷ []
new_name parts.Body x = x.algebra.name ∷ []
new_name _ x = []

abbrev pub new_names : (ps : List Part) → Values ps → List (List ℕ)
new_names [] x = []
new_names (p ∷ ps) x = new_name p x.0 ++ new_names ps x.1
