use Rattle.std.proofs.Common.{List, replicate, subst, Ok, Option}
use Rattle.std.specs.Prelude.{IfSome}
use Rattle.ua_table.specs.Algebras.{Vector}
use Rattle.ua_table.specs.VectorLists.{VectorList}
use Rattle.ua_table.specs.Listings.{vectors_of}
use Rattle.ua_table.proofs.ListingLaws.{exceeding_has_more, closed_has_no_more}
use Rattle.ua_close.specs.declared.close.Closure.{Closure}
use Rattle.ua_close.specs.Permitted.{MayClose}
use Rattle.ua_matrix.specs.Matrices.{matrix_generators}
use Rattle.ua_comm.specs.Growths.{IsLeastGoing}
use Rattle.ua_matrix.specs.Squares.{AreDeciding}
use Rattle.ua_comm.proofs.CommutatorLaws.{commutator_grown, commutator_decided}
use Rattle.ua_comm.proofs.commutators.commutator.Goals as goal

pub returns-in-Exceeds : goal.returns-in-Exceeds
returns-in-Exceeds g c =
    let p = replicate 4 c.args.a.now in
    let gens = matrix_generators c.args.alpha.now c.args.beta.now in
    let b = c.args.run.now.budget in
    let may = subst (λ (closure : Closure). MayClose p gens b c.args.run.now.workers (Ok closure)) c.in-Exceeds.is c.in_ok-matrices.ensures.permitted in
    record { permitted = (may.0, exceeding_has_more p gens b c.in-Exceeds.field-0 may.1) }

pub least_with-requires : goal.least_with-requires
least_with-requires g c =
    (subst (λ (o : Option VectorList). IfSome o (λ ms. AreDeciding c.args.a.now c.args.alpha.now c.args.beta.now c.args.run.now.budget ms.items)) c.in-Some.is c.in_ok-deciding.ensures).four

pub returns-in-Some : goal.returns-in-Some
returns-in-Some g c =
    let a = c.args.a.now in
    let alpha = c.args.alpha.now in
    let beta = c.args.beta.now in
    let b = c.args.run.now.budget in
    let d = subst (λ (o : Option VectorList). IfSome o (λ ms. AreDeciding c.args.a.now c.args.alpha.now c.args.beta.now c.args.run.now.budget ms.items)) c.in-Some.is c.in_ok-deciding.ensures in
    record { permitted = (d.narrow, (commutator_decided a alpha beta c.in_ok-least_with.field-0 b c.in-Some.deciding.items d c.in_ok-least_with.ensures, d.few)) }

pub returns : goal.returns
returns g c =
    let a = c.args.a.now in
    let alpha = c.args.alpha.now in
    let beta = c.args.beta.now in
    let p = replicate 4 a in
    let gens = matrix_generators alpha beta in
    let b = c.args.run.now.budget in
    let may = subst (λ (closure : Closure). MayClose p gens b c.args.run.now.workers (Ok closure)) c.in-Closed.is c.in_ok-matrices.ensures.permitted in
    record {
      permitted = (
        may.0,
        (
          commutator_grown a alpha beta c.in_ok-least_going-in-Closed.field-0 (vectors_of c.in-Closed.list) (λ m. may.1.exact m) c.in_ok-least_going-in-Closed.ensures,
          closed_has_no_more p gens b c.in-Closed.list may.1,
        ),
      );
    }
