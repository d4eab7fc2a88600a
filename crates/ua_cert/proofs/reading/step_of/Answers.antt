use Rattle.std.proofs.Common.{◌-◌, length, take, drop, sym, subst}
use Rattle.serde_json.specs.View.{view, items_view}
use Rattle.ua_cert.specs.Reading.{both, under, index_path, text_of, number_of, items_from}
use Rattle.ua_cert.specs.inner.Reading.{Reads}
use Rattle.ua_cert.proofs.ReadLaws.{step_split}
use Rattle.ua_cert.proofs.reading.step_of.Goals as goal

pub returns-in-len1-up : goal.returns-in-len1-up
returns-in-len1-up c =
    let word = under (index_path 0) (text_of (view c.first-item.result)) in
    let args = items_from number_of 1 (items_view (take (length c.args.values.now - 1) (drop 1 c.args.values.now))) in
    subst (λ r. Reads r c.step.result) (sym (step_split c.args.values.now c.first-item.result c.in-len1-up.len_at_least c.first-item.is))
    (c.step.ensures (both word args) (c.both.ensures word args c.first_word-word.ensures c.items-args.ensures))
