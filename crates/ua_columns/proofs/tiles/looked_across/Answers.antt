use Rattle.std.proofs.Common.{ℕ, ◌<◌, List, [], ◌∷◌, length, map, get_or, sym, subst, ap, ◌∙◌, arith}
use Rattle.std.specs.List.{AllByRecursion}
use Rattle.std.proofs.lemmas.List.{length-map}
use Rattle.ua_rows.proofs.LineLaws.{all_or}
use Rattle.ua_columns.specs.inner.Tiles.{value_across}
use Rattle.ua_columns.proofs.ByteLaws.{places_low, values_across, values_small, of_four}
use Rattle.ua_columns.proofs.tiles.looked_across.Goals as goal

pub looked-requires-clause-column : goal.looked-requires-clause-column
looked-requires-clause-column c = places_low c.args.column.now (omega arith) c.requires.column

pub looked-requires-2-clause-column : goal.looked-requires-2-clause-column
looked-requires-2-clause-column c = places_low c.args.column.now (omega arith) c.requires.column

pub looked-requires-3-clause-column : goal.looked-requires-3-clause-column
looked-requires-3-clause-column c = places_low c.args.column.now (omega arith) c.requires.column

pub looked-requires-4-clause-column : goal.looked-requires-4-clause-column
looked-requires-4-clause-column c = places_low c.args.column.now (omega arith) c.requires.column

-- a line of a tile, also past the last
line_small : (lines : List (List (List ℕ))) (t c : ℕ) → AllByRecursion (AllByRecursion (AllByRecursion (λ x. x < 256))) lines → AllByRecursion (λ x. x < 256) (get_or (get_or lines t []) c [])
line_small lines t c small = all_or (AllByRecursion (λ x. x < 256)) (get_or lines t []) c [] tt (all_or (AllByRecursion (AllByRecursion (λ x. x < 256))) lines t [] tt small)

pub looked-requires-4-clause-line : goal.looked-requires-4-clause-line
looked-requires-4-clause-line c = line_small c.args.lines.now 2 c.args.c c.requires.lines

pub returns-clause-value : goal.returns-clause-value
returns-clause-value c =
    let lines = c.args.lines.now in
    let column = c.args.column.now in
    let line : ℕ → List ℕ = λ t. get_or (get_or lines t []) c.args.c [] in
    values_across (line 0) (line 1) (line 2) (line 3) column c.looked-2.result c.looked.result c.looked-4.result c.looked-3.result (omega arith) c.requires.column
    c.looked-2.ensures.value c.looked.ensures.value c.looked-4.ensures.value c.looked-3.ensures.value
    ∙ ap (λ ts. map (value_across ts) column) (sym (of_four (λ (tile : List (List ℕ)). get_or tile c.args.c []) lines [] c.requires.four))

pub returns-clause-bytes : goal.returns-clause-bytes
returns-clause-bytes c =
    let lines = c.args.lines.now in
    let column = c.args.column.now in
    let tables = map (λ (tile : List (List ℕ)). get_or tile c.args.c []) lines in
    let small : AllByRecursion (AllByRecursion (λ x. x < 256)) tables = lines_small lines c.args.c c.requires.lines in
    let is = returns-clause-value c in
    (ap length is ∙ length-map column (value_across tables) ∙ omega arith, subst (AllByRecursion (λ x. x < 256)) (sym is) (values_small tables column small))
  where
    lines_small : (lines : List (List (List ℕ))) (c : ℕ) → AllByRecursion (AllByRecursion (AllByRecursion (λ x. x < 256))) lines → AllByRecursion (AllByRecursion (λ x. x < 256)) (map (λ (tile : List (List ℕ)). get_or tile c []) lines)
    lines_small [] c small = tt
    lines_small (tile ∷ lines) c small = (all_or (AllByRecursion (λ x. x < 256)) tile c [] tt small.0, lines_small lines c small.1)
