-- What is read on the way to a block.
use Rattle.std.specs.Prelude.{◌≡◌, ℕ, ◌<◌, Bool, true, false, nat_eq, not, List, [], ◌∷◌, ◌++◌, length, map, codes, Option, Some, None, Result, Vec}
use Rattle.ua_table.specs.declared.limits.TheConstants.{SIZE}
use Rattle.ua_table.specs.Algebras.{Operation}
use Rattle.ua_table.specs.Names.{is_name}
use Rattle.std.specs.List.{AllByRecursion, IsDistinct, flat_map}
use Rattle.std.specs.declared.alloc.Global.{Global}
use Rattle.std.specs.Cmp.Lexicographic.{pointwise}
use Rattle.ua_forms.specs.Words.{command_words}
use Rattle.ua_text.specs.Machine.{Forms}
use Rattle.ua_text.specs.Numbers.{number_value}
use Rattle.ua_text.specs.Labels.{place_in}
use Rattle.ua_text.specs.Signs.{Wanted, may_spell, sign, element, Front}
use Rattle.ua_text.specs.Pieces.{Placed}
use Rattle.ua_text.specs.Blocks as written
use Rattle.ua_text.specs.Tokens.{tokens_left}
use Rattle.ua_text.specs.Reading.{Gives, Takes, IsReadable, IsReadableBlock}
use Rattle.ua_text.specs.declared.named.Block.{Block}
use Rattle.ua_text.specs.declared.readers.Miss.{Miss}
use Rattle.ua_text.specs.declared.symbols.Role.TheVariants as roles
use Rattle.ua_text.specs.declared.tokens.Tokens.{Tokens}

-- the machine of one block
abbrev pub block_forms : ℕ → Forms
block_forms version = record { version = version; unbuilt = command_words; commands = []; provables = []; constructions = []; points = []; choices = (codes "algebra" ∷ []) ∷ [] }

abbrev pub or_else : Option ℕ → Option ℕ → Option ℕ
or_else (Some v) o = Some v
or_else None o = o

-- the element that a text writes: a number, or else the place of its name
abbrev pub element_value : List (List ℕ) → List ℕ → Option ℕ
element_value names t = or_else (number_value t) (place_in 0 names t)

-- different names
pub record AreLabels (names : List (List ℕ)) : Type 0 where
  pub words : AllByRecursion (λ n. is_name n ≡ true) names
  pub distinct : IsDistinct (pointwise nat_eq) names

-- some token is wanted first, and may not have this text
abbrev pub starts_other : List ℕ → List Wanted → Bool
starts_other t [] = false
starts_other t (w ∷ ws) = not (may_spell w.sign t)

-- so many elements with these names are read where they are written
abbrev pub TakesElements : Tokens → Tokens → List (List ℕ) → ℕ → Result (Vec ℕ Global) Miss → Type 0
TakesElements old new labels count result =
    (vs : List ℕ) (ws : List Wanted) (rest : List Placed) → length vs ≡ count → AllByRecursion (λ v. v < SIZE) vs → AreLabels labels
    → Takes old new result (λ values. values.items ≡ vs) (map (element labels) vs) ws rest

-- so is an operation on so many elements with these names
abbrev pub TakesOperation : Tokens → Tokens → List (List ℕ) → ℕ → Result Operation Miss → Type 0
TakesOperation old new labels size result =
    (o : Operation) (ws : List Wanted) (rest : List Placed) → IsReadable size o → AreLabels labels → Takes old new result (λ table. table ≡ o) (written.operation labels o) ws rest

-- so are all operations, and the end of the block
abbrev pub TakesOperations : Tokens → Tokens → List (List ℕ) → ℕ → Result (Vec Operation Global) Miss → Type 0
TakesOperations old new labels size result =
    (os : List Operation) (ws : List Wanted) (rest : List Placed) → AllByRecursion (IsReadable size) os → AreLabels labels
    → Front (tokens_left old) (flat_map (written.operation labels) os ++ sign roles.Line (codes "end") ∷ ws) rest
    → Gives result (λ operations. (operations.items ≡ os) × Front (tokens_left new) ws rest)

-- so are names, up to a parenthesis
abbrev pub TakesLabels : Tokens → Tokens → Result (Vec (List ℕ) Global) Miss → Type 0
TakesLabels old new result =
    (ns : List (List ℕ)) (ws : List Wanted) (rest : List Placed) → AllByRecursion (λ n. is_name n ≡ true) ns
    → Takes old new result (λ names. names.items ≡ ns) (map (sign roles.Named) ns) (sign roles.Closes (codes ")") ∷ ws) rest

-- so are the names of elements, if they are given
abbrev pub TakesNaming : Tokens → Tokens → Result (Vec (List ℕ) Global) Miss → Type 0
TakesNaming old new result =
    (ns : List (List ℕ)) (ws : List Wanted) (rest : List Placed) → AllByRecursion (λ n. is_name n ≡ true) ns → starts_other (codes "names") ws ≡ true
    → Takes old new result (λ names. names.items ≡ ns) (written.naming ns) ws rest

-- so is a block
abbrev pub TakesBlock : Tokens → Tokens → Result Block Miss → Type 0
TakesBlock old new result =
    (version : ℕ) (b : Block) (rest : List Placed) → IsReadableBlock version b → Front (tokens_left old) (written.block b) rest → Gives result (λ block. (block ≡ b) × (tokens_left new ≡ rest))
