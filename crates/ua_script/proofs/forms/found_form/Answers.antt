use Rattle.std.proofs.Common.{◌∙◌, sym, ap}
use Rattle.ua_text.specs.Words.{same}
use Rattle.ua_script.specs.Forms.{all_forms}
use Rattle.ua_script.proofs.FirstWords.{found_form-other}
use Rattle.ua_script.proofs.forms.found_form.Goals as goal

pub loop-form-preserved : goal.loop-form-preserved
loop-form-preserved c =
    let other = ap (λ z. same c.args.text.now z.word) c.row.ensures in
    c.loop-form.invariant ∙ found_form-other c.args.text.now all_forms c.loop-form.form-index _ c.loop-form-test.true (sym other ∙ sym c.eq.ensures ∙ c.if-eq.false)
