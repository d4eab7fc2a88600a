use Rattle.ua_clone.proofs.PolynomialLaws.{few_elements, term_is_eval, values_at_points, generators_admitted, wanted_admitted, written_from, written_as, polynomial_from_member, member_from_polynomial}
use Rattle.ua_clone.specs.declared.kinds.CloneKind.TheVariants.{TermOps}
use Rattle.ua_clone.proofs.CloneLaws.{made_agrees}
use Rattle.ua_clone.proofs.laws.polynomials.Goals as goal

pub returns : goal.returns
returns c = record {
  values = values_at_points;
  written = λ a k kind ps t some points. (written_from a k kind ps some points t, written_as a k kind ps some points t);
  member = λ a k kind ps some points. (polynomial_from_member a k kind ps some points, member_from_polynomial a k kind ps some points);
  generators = generators_admitted;
  wanted = λ a k ps points. wanted_admitted a k TermOps ps points;
  made = made_agrees;
  terms = term_is_eval;
  few = few_elements;
}
