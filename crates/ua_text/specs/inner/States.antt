-- The fault at a token, and which symbols take it.
use Rattle.std.specs.Prelude.{◌≡◌, ℕ, suc, Bool, true, List, drop, slice_get, Some}
use Rattle.ua_text.specs.declared.machine.Machine.{Machine}
use Rattle.ua_text.specs.declared.symbols.Role.TheVariants as roles
use Rattle.ua_text.specs.declared.symbols.Symbol.{Symbol}
use Rattle.ua_text.specs.Pieces.{Placed}
use Rattle.ua_text.specs.declared.faults.FaultKind.{FaultKind}
use Rattle.ua_text.specs.declared.faults.TextFault.{TextFault}
use Rattle.ua_text.specs.declared.tokens.Token.{Token}
use Rattle.ua_text.specs.Tokens.{seen}
use Rattle.ua_text.specs.Offers.{offers, needs_term, kind_of}
use Rattle.ua_text.specs.Machine.{Forms, Taken, State}
use Rattle.ua_text.specs.Steps.{takes, next_taken, next_stack, move_of, step}
use Rattle.ua_text.specs.States.{IsState, forms_in}

-- the state when a token has been noted that a symbol takes
abbrev pub noted : State → Symbol → List ℕ → State
noted q symbol t = record { taken = next_taken q.taken symbol t; stack = q.stack }

-- what stands behind a token that a symbol takes
abbrev pub Follows : Forms → ℕ → Symbol → List ℕ → List Symbol → List Symbol → Type 0
Follows g version symbol t old new = (x : Taken) → x.version ≡ version → takes g x symbol t ≡ true → new ≡ next_stack g version symbol old t

-- a term is needed where the token stands, if the word of one could stand before the last token exactly where `behind_term` says so
abbrev pub IsTermNeeded : Machine → Bool → List ℕ → Bool → Type 0
IsTermNeeded m behind_term t needed =
    (q : State) (before : List Symbol) → IsState m q → behind_term ≡ offers (forms_in m) before roles.Applied → needed ≡ needs_term (forms_in m) q.stack before t

-- the kind of the fault that stands at the token, likewise
abbrev pub IsKindAt : Machine → Bool → Placed → FaultKind → Type 0
IsKindAt m behind_term t kind =
    (q : State) (before : List Symbol) → IsState m q → behind_term ≡ offers (forms_in m) before roles.Applied → kind ≡ kind_of (forms_in m) q.stack before t

-- the symbol below so many others takes the token
pub record IsTaken (g : Forms) (q : State) (t : List ℕ) (depth : ℕ) : Type 0 where
  pub symbol : Symbol
  pub stands : slice_get q.stack depth ≡ Some symbol
  pub takes_it : takes g q.taken symbol t ≡ true
  pub steps : step g q.taken q.stack t ≡ Some (move_of g q.taken symbol (drop (suc depth) q.stack) t)

-- the fault that stands at a token, where the last token was read in such a state
pub record IsAtToken (m : Machine) (behind_term : Bool) (t : Token) (fault : TextFault) : Type 0 where
  pub line : fault.line ≡ t.line
  pub column : fault.column ≡ t.column
  pub why : IsKindAt m behind_term (seen t) fault.kind
