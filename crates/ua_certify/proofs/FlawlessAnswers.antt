-- The certificate of what a call may answer has no flaw.
use Rattle.std.proofs.Common.{◌≡◌, ℕ, ◌<◌, ◌≤◌, true, Ok, List, subst}
use Rattle.std.specs.List.{AllByRecursion}
use Rattle.std.proofs.lemmas.List.{length-replicate}
use Rattle.ua_table.specs.declared.limits.TheConstants.{WIDTH}
use Rattle.ua_table.specs.Algebras.{Vector, FiniteAlgebra, IsVector, power}
use Rattle.ua_table.specs.Tables.{IsAlgebraTable}
use Rattle.ua_table.specs.Frames.{IsWidth}
use Rattle.ua_close.specs.declared.close.Closure.{Closure}
use Rattle.ua_close.specs.declared.close.Closure.TheVariants as closures
use Rattle.ua_close.specs.declared.memberships.Answer.{Answer}
use Rattle.ua_close.specs.declared.memberships.Answer.TheVariants as answers
use Rattle.ua_close.specs.Answers.{IsWide}
use Rattle.ua_close.specs.Permitted.{MayClose, MayMember}
use Rattle.ua_cond.specs.Permitted.{MayDecide}
use Rattle.ua_chain.specs.declared.chains.Chain.{Chain}
use Rattle.ua_chain.specs.declared.chains.Chain.TheVariants as chains
use Rattle.ua_chain.specs.Permitted.{MayChain}
use Rattle.ua_cert.specs.declared.certs.CondName.{CondName}
use Rattle.ua_cert.specs.declared.certs.ChainName.{ChainName}
use Rattle.ua_flaws.specs.Laws.{MemberIsFlawless, NotMemberIsFlawless, ListingIsFlawless}
use Rattle.ua_check.specs.Laws.{TermIsFlawless, NoTermIsFlawless, ChainTermsAreFlawless, NoChainIsFlawless}
use Rattle.ua_check.specs.Conditions.{condition_of, has_places}
use Rattle.ua_check.specs.Chains.{kind_of}
use Rattle.ua_certify.specs.Certified.{closure_certificate, member_certificate, condition_certificate, chain_certificate, HasNoFlaw}
use Rattle.ua_certify.proofs.Flawless.{MemberLaw, WideLaw, ArgumentLaw, PlaceLaw}
use Rattle.ua_certify.proofs.Flawless.{NamedConditions, narrow, closed_power, steps_flawless, absent_flawless, term_flawless, no_term_flawless, chain_flawless, no_chain_flawless}

-- the width of a power that is not too wide
width_of : (a : FiniteAlgebra) (width b : ℕ) (gens : List Vector) → 0 < width → 1 ≤ b → ¬ IsWide (power a width) gens b → IsWidth width
width_of a width b gens some one fits = (some, subst (λ n. n ≤ WIDTH) (length-replicate width a) (narrow (power a width) gens b one fits))

pub closure_flawless : MemberLaw → ListingIsFlawless → (a : FiniteAlgebra) (width b w : ℕ) (gens : List Vector) (closure : Closure) → IsAlgebraTable a → 0 < width → 1 ≤ b → AllByRecursion (IsVector (power a width)) gens
    → MayClose (power a width) gens b w (Ok closure) → HasNoFlaw a (closure_certificate a width gens closure)
closure_flawless law listing a width b w gens (closures.Closed rows) table some one admitted may =
    listing a gens rows width table (closed_power a width b gens rows law table (width_of a width b gens some one may.0) admitted may.1)
closure_flawless law listing a width b w gens (closures.Exceeds rows) table some one admitted may = tt

pub membership_flawless : MemberLaw → MemberIsFlawless → NotMemberIsFlawless → (a : FiniteAlgebra) (width b w : ℕ) (gens : List Vector) (target : Vector) (answer : Answer) → IsAlgebraTable a → 0 < width → 1 ≤ b
    → AllByRecursion (IsVector (power a width)) gens → IsVector (power a width) target → MayMember (power a width) gens target b w (Ok answer) → HasNoFlaw a (member_certificate a width gens target answer)
membership_flawless law steps_law absent a width b w gens target (answers.Yes steps) table some one admitted vector may =
    steps_flawless a width gens target steps steps_law table (width_of a width b gens some one may.0) admitted vector may.1
membership_flawless law steps_law absent a width b w gens target (answers.No rows) table some one admitted vector may =
    absent_flawless a width b gens target rows law absent table (width_of a width b gens some one may.0) admitted vector may.1.0 may.1.1
membership_flawless law steps_law absent a width b w gens target (answers.Exceeds rows) table some one admitted vector may = tt

pub condition_flawless : NamedConditions → WideLaw → TermIsFlawless → NoTermIsFlawless → MemberLaw → ArgumentLaw → (a : FiniteAlgebra) (name : CondName) (k b w : ℕ) (answer : Answer) → IsAlgebraTable a → 1 ≤ b → has_places name k ≡ true
    → MayDecide a (condition_of name k) b w (Ok answer) → HasNoFlaw a (condition_certificate a name k answer)
condition_flawless named wide law no_law members arguments a name k b w (answers.Yes steps) table one places may = term_flawless a name k b w table one places named wide steps law may
condition_flawless named wide law no_law members arguments a name k b w (answers.No rows) table one places may = no_term_flawless a name k b w table one places named wide rows no_law members arguments may
condition_flawless named wide law no_law members arguments a name k b w (answers.Exceeds rows) table one places may = tt

pub chains_flawless : ChainTermsAreFlawless → NoChainIsFlawless → MemberLaw → WideLaw → PlaceLaw → (a : FiniteAlgebra) (name : ChainName) (b w : ℕ) (answer : Chain) → IsAlgebraTable a → 1 ≤ b
    → MayChain a (kind_of name) b w (Ok answer) → HasNoFlaw a (chain_certificate a name answer)
chains_flawless law no_law members wide places a name b w (chains.Yes terms) table one may = chain_flawless a name b w table one terms law may
chains_flawless law no_law members wide places a name b w (chains.No rows even odd) table one may = no_chain_flawless a name b w table one rows even odd no_law members wide places may
chains_flawless law no_law members wide places a name b w (chains.Exceeds rows) table one may = tt
