use Rattle.std.proofs.Common.{sym, ap, ◌∙◌}
use Rattle.std.specs.Option.{is_some}
use Rattle.ua_operands.specs.inner.Reading.{is_number_front}
use Rattle.ua_operands.proofs.ReadLaws.{front_is_number}
use Rattle.ua_operands.proofs.readers.is_number_next.Goals as goal

pub returns-in-Some : goal.returns-in-Some
returns-in-Some c = c.is_some.ensures ∙ ap is_some c.number_value.ensures.value ∙ front_is_number c.in-Some.token.text.now ∙ sym (ap is_number_front c.in-Some.ensures.some)
