use Rattle.ua_identity.proofs.ConditionLaws.{meets_vector, written_from, written_as, met_from_member, member_from_met, arguments_admitted, value_admitted}
use Rattle.ua_identity.proofs.laws.conditions.Goals as goal

pub returns : goal.returns
returns c = record {
  terms = meets_vector;
  written = λ a k t some is. (written_from a k some is t, written_as a k some is t);
  member = λ a k some is. (met_from_member a k some is, member_from_met a k some is);
  arguments = arguments_admitted;
  value = value_admitted;
}
