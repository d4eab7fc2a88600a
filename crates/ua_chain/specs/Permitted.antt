-- What may be answered when a least chain is asked for, with the refusals.
use Rattle.std.specs.Prelude.{◌≡◌, ℕ, Bool, List, Option, Result, Ok, Err}
use Rattle.ua_table.specs.Algebras.{FiniteAlgebra, IsAlgebra}
use Rattle.ua_close.specs.declared.close.CloseError.{CloseError}
use Rattle.ua_close.specs.declared.close.CloseError.TheVariants.{OutOfMemory}
use Rattle.ua_close.specs.Answers.{IsWide, IsCause}
use Rattle.ua_close.specs.Permitted.{IsAnswerable}
use Rattle.ua_identity.specs.Identities.{VariablePattern}
use Rattle.ua_identity.specs.Chains.{ChainKind, power_of, generators_of}
use Rattle.ua_identity.specs.KindTables.{kind_of, IsKindTable}
use Rattle.ua_identity.specs.declared.kinds.PatternPair.{PatternPair}
use Rattle.ua_chain.specs.declared.chains.Chain.{Chain}
use Rattle.ua_chain.specs.Answers.{TellsChain, IsSerialChain}

-- a least chain, or that there is none, or that the terms have more vectors than the budget; serial with one worker; vectors that are too wide to be closed are refused
abbrev pub MayChain : FiniteAlgebra → ChainKind → ℕ → ℕ → Result Chain CloseError → Type 0
MayChain a kind b w (Ok chain) = (¬ IsWide (power_of a kind) (generators_of a kind) b) × TellsChain a kind b chain × (w ≡ 1 → IsSerialChain a kind b chain)
MayChain a kind b w (Err error) = IsCause (power_of a kind) (generators_of a kind) b error

-- it can be told otherwise than by want of memory
abbrev pub CanTellChain : FiniteAlgebra → ChainKind → ℕ → ℕ → Type 0
CanTellChain a kind b w = IsAnswerable (MayChain a kind b w) OutOfMemory

-- so can it for each kind that is made of the numbers of its patterns
abbrev pub CanTellMadeChains : FiniteAlgebra → Type 0
CanTellMadeChains a = (places : ℕ) (patterns : List VariablePattern) (own : Option ℕ) (even odd : PatternPair) (by_parity : Bool) (b w : ℕ) → IsAlgebra a
    → IsKindTable places patterns own even odd by_parity → CanTellChain a (kind_of places patterns own even odd by_parity) b w
