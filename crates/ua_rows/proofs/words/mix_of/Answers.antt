use Rattle.std.proofs.Common.{◌≡◌, ◌<◌, length, map, take, ap, sym, ◌∙◌, arith}
use Rattle.std.proofs.lemmas.Bool.{eqb-false}
use Rattle.std.specs.Prelude.{fold}
use Rattle.std.proofs.lemmas.List.{take_all}
use Rattle.ua_rows.specs.declared.words.TheConstants.{SEED}
use Rattle.ua_rows.specs.Words.{mixed, word_of}
use Rattle.ua_rows.proofs.WordLaws.{mix_of_rest}
use Rattle.ua_rows.proofs.words.mix_of.Goals as goal

pub returns : goal.returns
returns c =
    let full = c.as_chunks.result.0.now in
    let rest = c.as_chunks.result.1.now in
    let all : take c.loop-word.word-index full ≡ full = take_all c.loop-word.word-index full c.loop-word-test.false in
    let some : 0 < length rest = (let apart = eqb-false (length rest) 0 (sym c.is_empty.ensures ∙ c.if-is_empty.false) in omega (arith, apart)) in
    c.mixed.ensures
    ∙ ap (λ h. mixed h c.number_of-2.result) (c.loop-word.invariant ∙ ap (λ ws. fold mixed SEED (map word_of ws)) (all ∙ c.as_chunks.ensures.front))
    ∙ ap (mixed _) c.number_of-2.ensures.number
    ∙ sym (mix_of_rest c.args.v.now rest c.padded.result c.as_chunks.ensures.back some c.padded.ensures)
