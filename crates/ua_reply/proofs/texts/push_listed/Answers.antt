use Rattle.std.proofs.Common.{◌∷◌, ◌++◌, [], sym, ap, ◌∙◌, append_assoc}
use Rattle.ua_part.specs.Blocks.{more_numbers}
use Rattle.ua_reply.proofs.texts.push_listed.Goals as goal

pub returns : goal.returns
returns c =
    let old = c.args.out.now.items in
    let words = c.args.words.now in
    let numbers = more_numbers c.args.numbers.now in
    c.in_ok-push.ensures.items ∙ ap (λ z. z ++ 10 ∷ []) (c.in_ok-push_more.ensures ∙ ap (λ z. z ++ numbers) c.in_ok-extend_from_slice.ensures.items)
    ∙ append_assoc (old ++ words) numbers (10 ∷ []) ∙ append_assoc old words (numbers ++ 10 ∷ []) ∙ ap (λ z. old ++ z) (sym (append_assoc words numbers (10 ∷ [])))
