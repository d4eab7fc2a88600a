use Rattle.std.proofs.Common.{sym, ◌∙◌, arith}
use Rattle.ua_sub.proofs.TwinLaws.{listed_has}
use Rattle.ua_sub.proofs.twins.is_listed.Goals as goal

pub returns-clause-contained : goal.returns-clause-contained
returns-clause-contained c =
    let within = c.if-place-question.false in
    λ t.
    listed_has c.args.question.now.lists.now c.args.y c.args.question.now.element c.index-question-place.result c.as_slice-list.result.now
    c.binary_search.result (omega (arith, within)) c.index-question-place.is c.as_slice-list.ensures.value c.binary_search.ensures.bound
    c.binary_search.ensures.ok (sym c.is_ok.ensures.value ∙ t)
