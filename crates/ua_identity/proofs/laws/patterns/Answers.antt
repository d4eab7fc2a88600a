use Rattle.ua_identity.proofs.ConditionLaws.{value_on_patterns, generators_admitted}
use Rattle.ua_identity.proofs.FillingLaws.{power_wide}
use Rattle.ua_identity.proofs.laws.patterns.Goals as goal

pub returns : goal.returns
returns c = record {
  values = value_on_patterns;
  wide = power_wide;
  places = generators_admitted;
}
