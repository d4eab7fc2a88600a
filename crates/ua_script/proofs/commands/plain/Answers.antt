use Rattle.ua_operands.proofs.Vocabulary.{tokens_left, seen}
use Rattle.ua_script.proofs.Vocabulary.{values_text, parts_of}
use Rattle.std.proofs.Common.{rules, ◌++◌, []}
use Rattle.ua_script.proofs.Making.{word_found, made_behind, none_found}
use Rattle.ua_script.proofs.commands.plain.Goals as goal

pub returns-in_err-first-clause-only : goal.returns-in_err-first-clause-only
returns-in_err-first-clause-only c = λ f x w ws h.
    let e = c.in_err-first.ensures.only w (values_text (parts_of f) x ++ ws) [] h.front in search rules

pub returns-in-Some-clause-only : goal.returns-in-Some-clause-only
returns-in-Some-clause-only c = λ f x w ws h.
    let s = c.in_ok-first.ensures.only w (values_text (parts_of f) x ++ ws) [] h.front in
    let e = word_found f w c.in_ok-first.first.text.now c.in-Some.form (c.found_form.result) h.named s.0 c.found_form.ensures c.in-Some.is in
    made_behind f c.in-Some.form x w c.place_of.result (seen c.in_ok-first.first) ws (tokens_left c.next.new.tokens) (tokens_left c.operands.new.tokens) c.operands.result e c.place_of.ensures s.1 h.short h.begins s.2 c.operands.ensures.only

pub returns-in-None-clause-only : goal.returns-in-None-clause-only
returns-in-None-clause-only c = λ f x w ws h.
    let s = c.in_ok-first.ensures.only w (values_text (parts_of f) x ++ ws) [] h.front in
    none_found f w c.in_ok-first.first.text.now c.found_form.result h.named s.0 c.found_form.ensures c.in-None.is
