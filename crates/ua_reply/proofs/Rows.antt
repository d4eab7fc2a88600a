-- The text of operations and of rows, one after another.
use Rattle.std.proofs.Common.{◌≡◌, ℕ, zero, suc, ◌+◌, ◌≤◌, List, [], ◌∷◌, ◌++◌, Some, length, map, take, refl, sym, ap, ◌∙◌, append_assoc, append-nil, add-one, arith}
use Rattle.std.specs.List.{slice_get, slice_index}
use Rattle.ua_table.specs.declared.origins.Origin.{Origin}
use Rattle.ua_table.specs.Algebras.{Vector, Operation}
use Rattle.ua_table.specs.Listings.{Row}
use Rattle.ua_part.specs.Blocks.{more_numbers}
use Rattle.ua_text.specs.declared.named.Block.{Block}
use Rattle.ua_reply.specs.Texts.{line, lines, name_of, row_text}

-- an operation that is not there has no text
pub no_application : (ops : List Operation) (f : ℕ) (places : List ℕ) → length ops ≤ f → name_of (slice_get ops f) ++ more_numbers (take (slice_index (map (λ (o : Operation). o.arity) ops) f) places) ≡ []
no_application [] f places h = refl
no_application (o ∷ ops) zero places h = absurd (omega arith)
no_application (o ∷ ops) (suc f) places h = no_application ops f places (omega arith)

pub application_at : (ops : List Operation) (f : ℕ) (o : Operation) (places : List ℕ) → slice_get ops f ≡ Some o
    → name_of (slice_get ops f) ++ more_numbers (take (slice_index (map (λ (o : Operation). o.arity) ops) f) places) ≡ o.name ++ more_numbers (take o.arity places)
application_at [] f o places e = cc
application_at (p ∷ ops) zero o places e = let same : p ≡ o = cc in ap (λ (q : Operation). q.name ++ more_numbers (take q.arity places)) same
application_at (p ∷ ops) (suc f) o places e = application_at ops f o places e

abbrev row_of : Vector → ℕ → Origin → Row
row_of v rank o = record { vector = v; rank = rank; origin = o }

same_row : (r : Row) (v : Vector) (rank : ℕ) (o : Origin) → r.vector ≡ v → r.rank ≡ rank → r.origin ≡ o → r ≡ row_of v rank o
same_row r v rank o e1 e2 e3 = ap (λ x. row_of x r.rank r.origin) e1 ∙ ap (λ x. row_of v x r.origin) e2 ∙ ap (λ x. row_of v rank x) e3

abbrev text_of_rows : Block → List Row → List ℕ
text_of_rows k rows = lines (row_text k) rows

abbrev line_of : Block → Row → List ℕ
line_of k r = line (row_text k r)

-- the rows up to a place, and the row there
rows_more : (k : Block) (rows : List Row) (i : ℕ) (v : Vector) (rank : ℕ) (o : Origin) → slice_get (map (λ (r : Row). r.vector) rows) i ≡ Some v
    → slice_get (map (λ (r : Row). r.rank) rows) i ≡ Some rank → slice_get (map (λ (r : Row). r.origin) rows) i ≡ Some o
    → text_of_rows k (take (suc i) rows) ≡ text_of_rows k (take i rows) ++ line_of k (row_of v rank o)
rows_more k [] i v rank o ev er eo = cc
rows_more k (r ∷ rows) zero v rank o ev er eo =
    let e1 : r.vector ≡ v = cc in
    let e2 : r.rank ≡ rank = cc in
    let e3 : r.origin ≡ o = cc in
    append-nil (line_of k r) ∙ ap (line_of k) (same_row r v rank o e1 e2 e3)
rows_more k (r ∷ rows) (suc i) v rank o ev er eo = ap (λ t. line_of k r ++ t) (rows_more k rows i v rank o ev er eo) ∙ sym (append_assoc (line_of k r) (text_of_rows k (take i rows)) (line_of k (row_of v rank o)))

-- the rows so far with one row more
pub rows_grow : (k : Block) (rows : List Row) (i : ℕ) (v : Vector) (rank : ℕ) (o : Origin) → slice_get (map (λ (r : Row). r.vector) rows) i ≡ Some v
    → slice_get (map (λ (r : Row). r.rank) rows) i ≡ Some rank → slice_get (map (λ (r : Row). r.origin) rows) i ≡ Some o
    → (start before after : List ℕ) → before ≡ start ++ text_of_rows k (take i rows) → after ≡ before ++ line_of k (row_of v rank o) → after ≡ start ++ text_of_rows k (take (i + 1) rows)
rows_grow k rows i v rank o ev er eo start before after e f =
    let more = rows_more k rows i v rank o ev er eo in
    f ∙ ap (λ t. t ++ line_of k (row_of v rank o)) e ∙ append_assoc start (text_of_rows k (take i rows)) (line_of k (row_of v rank o)) ∙ ap (λ t. start ++ t) (sym more) ∙ ap (λ n. start ++ text_of_rows k (take n rows)) (sym (add-one i))
