use Rattle.std.proofs.Common.{◌≡◌, ◌/◌, ◌++◌, ℕ, List, [], ◌∷◌, take, drop, get_or, sym, ap, ◌∙◌, arith}
use Rattle.std.proofs.lemmas.List.{length-drop, take_all, take-append-drop}
use Rattle.std.specs.Prelude.{true}
use Rattle.std.specs.Simd.{first_chunks}
use Rattle.ua_rows.specs.Words.{is_slim, hash_with}
use Rattle.ua_rows.proofs.WordLaws.{slim_length}
use Rattle.ua_rows.proofs.words.hash_with.Goals as goal

pub returns : goal.returns
returns c =
    let cells = c.args.cells.now in
    let slim : is_slim cells ≡ true = sym c.is_slim.ensures ∙ c.if-not-is_slim.false in
    let pair : c.as_chunks.result.0.now ≡ take 4 cells ∷ take 4 (drop 4 cells) ∷ [] = c.as_chunks.ensures.front ∙ ap (λ n. first_chunks 4 (n / 4) cells) (slim_length cells slim) in
    let first = c.number_of.ensures.word ∙ ap (λ (ws : List (List ℕ)). get_or ws 0 []) pair in
    let second = c.number_of-2.ensures.word ∙ ap (λ (ws : List (List ℕ)). get_or ws 1 []) pair in
    let back : take 4 (drop 4 cells) ≡ drop 4 cells = take_all 4 (drop 4 cells) (let d = length-drop 4 cells in let l = slim_length cells slim in omega (arith, d, l)) in
    c.telling_hash.ensures c.args.mix
    ∙ (λ j. hash_with (first j ++ (second ∙ back) j) c.args.mix)
    ∙ ap (λ xs. hash_with xs c.args.mix) (take-append-drop 4 cells)
