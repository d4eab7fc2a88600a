use Rattle.ua_script.proofs.Vocabulary.{all_forms, found_form}
use Rattle.std.proofs.Common.{◌≡◌, drop}
use Rattle.ua_script.proofs.forms.found_form.Given as goal

-- the word is found among all as among those to come
abbrev pub invariant-loop-form : goal.invariant-loop-form
invariant-loop-form l = found_form l.text all_forms ≡ found_form l.text (drop l.form-index l.form-items)
