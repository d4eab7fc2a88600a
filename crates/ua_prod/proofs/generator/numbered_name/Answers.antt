use Rattle.std.proofs.Common.{◌≡◌, true, Err, sym, ap, subst, ◌∙◌}
use Rattle.std.proofs.lemmas.Bool.{both_ways}
use Rattle.ua_table.specs.Names.{is_name}
use Rattle.ua_prod.proofs.DrawLaws.{numbered-is_name}
use Rattle.ua_prod.proofs.generator.numbered_name.Goals as goal

pub unreachable-requires : goal.unreachable-requires
unreachable-requires c =
    let text = c.as_bytes.ensures.value ∙ c.in_ok-text.ensures.ok in
    both_ways (is_name c.as_bytes.result.now) (c.new.ensures.form.0 (c.in-Err-Form.is ∙ ap Err c.in-Err-Form.field-0-is)) (subst (λ bs. is_name bs ≡ true) (sym text) (numbered-is_name c.args.f c.requires))
