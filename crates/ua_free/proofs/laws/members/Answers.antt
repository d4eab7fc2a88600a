use Rattle.ua_free.proofs.MemberLaws.{operation_from_member, member_from_operation, holds_from_values, values_from_holds}
use Rattle.ua_free.proofs.laws.members.Goals as goal

pub returns : goal.returns
returns c = record {
  terms = λ a k v some. (operation_from_member a k some v, member_from_operation a k some v);
  identities = λ a k s t. (holds_from_values a k s t, values_from_holds a k s t);
}
