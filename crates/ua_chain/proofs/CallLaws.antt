-- What a call for a least chain may answer.
use Rattle.std.proofs.Common.{◌≡◌, ℕ, List, subst, Ok}
use Rattle.ua_table.specs.Algebras.{Vector, FiniteAlgebra, Product}
use Rattle.ua_table.specs.Listings.{Row, IsClosedListing}
use Rattle.ua_table.specs.Orders.{IsSerialListing}
use Rattle.ua_close.specs.declared.close.Closure.TheVariants as closures
use Rattle.ua_close.specs.Permitted.{MayClose}
use Rattle.ua_identity.specs.Chains.{ChainKind, power_of, generators_of}
use Rattle.ua_chain.specs.declared.chains.Chain.{Chain}
use Rattle.ua_chain.specs.Answers.{TellsChain, IsSerialChain}
use Rattle.ua_chain.specs.Permitted.{MayChain}

pub may_tell : (a : FiniteAlgebra) (kind : ChainKind) (p : Product) (gens : List Vector) (b w : ℕ) (rows : List Row) (chain : Chain)
    → p ≡ power_of a kind → gens ≡ generators_of a kind → MayClose p gens b w (Ok (closures.Closed rows))
    → ((c : ℕ) → IsClosedListing p gens c rows → TellsChain a kind c chain)
    → ((c : ℕ) → IsClosedListing p gens c rows → IsSerialListing p gens rows → IsSerialChain a kind c chain) → MayChain a kind b w (Ok chain)
may_tell a kind p gens b w rows chain e f may tells serial =
    let here = subst (λ (q : Product). MayClose q (generators_of a kind) b w (Ok (closures.Closed rows))) e (subst (λ (gs : List Vector). MayClose p gs b w (Ok (closures.Closed rows))) f may) in
    (here.0, tells b may.1, λ one. serial b may.1 (may.2 one))
