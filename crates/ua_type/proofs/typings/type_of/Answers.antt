use Rattle.std.proofs.Common.{ℕ, subst, Option}
use Rattle.std.specs.Prelude.{Ok}
use Rattle.std.proofs.lemmas.Result.{err_from_is_err_and}
use Rattle.ua_type.specs.declared.searches.Search.{Search}
use Rattle.ua_type.specs.inner.Searches.{MaySearch}
use Rattle.ua_type.specs.inner.Squares.{MayHaveType}
use Rattle.ua_type.proofs.TypingLaws.{type_here, squares_exceed, squares_wide, pairs_wide_too}
use Rattle.ua_type.proofs.typings.type_of.Goals as goal

pub returns-in_err-pair : goal.returns-in_err-pair
returns-in_err-pair g c =
    let p = err_from_is_err_and c.from_residual-in_err-pair.result c.from_residual-in_err-pair.ensures.1 in
    record { permitted = rw (p.1, p.2) (pairs_wide_too c.args.a.now c.args.alpha.now c.args.beta.now c.args.run.now.budget c.in_ok-made.made c.in_ok-made.ensures c.in_err-pair.field-0.0 c.in_err-pair.ensures) }

pub returns-in_err-type_of_subtrace : goal.returns-in_err-type_of_subtrace
returns-in_err-type_of_subtrace g c =
    let p = err_from_is_err_and c.from_residual-in_err-type_of_subtrace.result c.from_residual-in_err-type_of_subtrace.ensures.1 in
    let made = c.in_ok-made.made in
    let budget = c.args.run.now.budget in
    record {
      permitted = rw (p.1, p.2) (squares_wide c.args.a.now c.args.alpha.now c.args.beta.now budget made c.in_ok-made.ensures c.in-Found.pair
          (subst (λ (s : Search). MaySearch made.algebra made.theta budget (Ok s)) c.in-Found.is c.in_ok-pair.ensures)
          c.in_err-type_of_subtrace.field-0.0 c.in_err-type_of_subtrace.ensures);
    }

pub returns-in-None : goal.returns-in-None
returns-in-None g c =
    let made = c.in_ok-made.made in
    let budget = c.args.run.now.budget in
    let pair = c.in-Found.pair in
    record {
      permitted = squares_exceed c.args.a.now c.args.alpha.now c.args.beta.now budget made c.in_ok-made.ensures pair
          (subst (λ (s : Search). MaySearch made.algebra made.theta budget (Ok s)) c.in-Found.is c.in_ok-pair.ensures)
          (subst (λ (n : Option ℕ). MayHaveType made.algebra budget pair.low pair.high (Ok n)) c.in-None.is c.in_ok-type_of_subtrace.ensures);
    }

pub returns : goal.returns
returns g c =
    let made = c.in_ok-made.made in
    let budget = c.args.run.now.budget in
    let pair = c.in-Found.pair in
    record {
      permitted = type_here c.args.a.now c.args.alpha.now c.args.beta.now budget made c.in_ok-made.ensures pair
          (subst (λ (s : Search). MaySearch made.algebra made.theta budget (Ok s)) c.in-Found.is c.in_ok-pair.ensures)
          c.in-Some.number c.index-low.result.now c.index-high.result.now
          (subst (λ (n : Option ℕ). MayHaveType made.algebra budget pair.low pair.high (Ok n)) c.in-Some.is c.in_ok-type_of_subtrace.ensures)
          c.index-low.ensures c.index-high.ensures;
    }
