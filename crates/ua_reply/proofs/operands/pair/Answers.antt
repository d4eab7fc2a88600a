use Rattle.std.proofs.Common.{List, length, map, slice_index, sym, ap, ◌∙◌, subst, arith}
use Rattle.ua_operands.specs.declared.written.Entry.{Entry}
use Rattle.ua_reply.specs.Checks.{Passes}
use Rattle.ua_reply.specs.Operands.{value_of, element_in, elements_in}
use Rattle.ua_reply.proofs.CheckLaws.{one_passes}
use Rattle.ua_reply.proofs.OperandLaws.{vector_length, entries_pass, value_at}
use Rattle.ua_reply.proofs.operands.pair.Goals as goal

pub bounds-entries-0 : goal.bounds-entries-0
bounds-entries-0 c =
    let count = ap (length {A = Entry}) c.as_slice-entries.ensures ∙ vector_length c.args.known.now 2 c.args.v.now c.requires in
    omega (arith, count)

pub element-requires : goal.element-requires
element-requires c =
    let k = c.args.known.now in
    let count = ap (length {A = Entry}) c.as_slice-entries.ensures ∙ vector_length k 2 c.args.v.now c.requires in
    let passed = subst (λ (es : List Entry). Passes (elements_in k es)) (sym c.as_slice-entries.ensures) (entries_pass k 2 c.args.v.now c.requires) in
    one_passes (element_in k) c.as_slice-entries.result.now 0 c.index-entries-0.result passed (omega (arith, count)) c.index-entries-0.is

pub bounds-entries-1 : goal.bounds-entries-1
bounds-entries-1 c =
    let count = ap (length {A = Entry}) c.as_slice-entries.ensures ∙ vector_length c.args.known.now 2 c.args.v.now c.requires in
    omega (arith, count)

pub element-requires-2 : goal.element-requires-2
element-requires-2 c =
    let k = c.args.known.now in
    let count = ap (length {A = Entry}) c.as_slice-entries.ensures ∙ vector_length k 2 c.args.v.now c.requires in
    let passed = subst (λ (es : List Entry). Passes (elements_in k es)) (sym c.as_slice-entries.ensures) (entries_pass k 2 c.args.v.now c.requires) in
    one_passes (element_in k) c.as_slice-entries.result.now 1 c.index-entries-1.result passed (omega (arith, count)) c.index-entries-1.is

pub returns : goal.returns
returns c =
    let k = c.args.known.now in
    let es = c.as_slice-entries.result.now in
    let count = ap (length {A = Entry}) c.as_slice-entries.ensures ∙ vector_length k 2 c.args.v.now c.requires in
    let first = c.element.ensures.value ∙ value_at k es 0 c.index-entries-0.result (omega (arith, count)) c.index-entries-0.is ∙ ap (λ (es : List Entry). slice_index (map (value_of k) es) 0) c.as_slice-entries.ensures in
    let second = c.element-2.ensures.value ∙ value_at k es 1 c.index-entries-1.result (omega (arith, count)) c.index-entries-1.is ∙ ap (λ (es : List Entry). slice_index (map (value_of k) es) 1) c.as_slice-entries.ensures in
    λ i. (first i, second i)
