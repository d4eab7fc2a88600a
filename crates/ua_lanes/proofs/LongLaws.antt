-- Vectors of a product in words, and their lines, with more vectors.
use Rattle.std.proofs.Common.{◌≡◌, ℕ, ◌*◌, ◌<◌, ◌≤◌, List, ◌++◌, length, sym, ap, ◌∙◌, subst, arith}
use Rattle.std.specs.List.{AllByRecursion}
use Rattle.std.proofs.Math.Nat.{mul-le-mul_right}
use Rattle.std.proofs.lemmas.Grind.{div_ceil_times}
use Rattle.ua_table.specs.Algebras.{Vector, FiniteAlgebra, Product, IsVector}
use Rattle.ua_rows.specs.RowLists.{rows_at}
use Rattle.ua_rows.specs.Words.{words_for}
use Rattle.ua_lanes.specs.Lines.{line_value}
use Rattle.ua_columns.specs.Quads.{QuadVectors, AreLongLines}
use Rattle.ua_lanes.specs.LargeLanes.{AreQuadVectors, HasLongLines, IsLongWindow}
use Rattle.ua_lanes.specs.Windows.{tuple_of}
use Rattle.ua_lanes.specs.declared.long_windows.LongWindow.{LongWindow}
use Rattle.ua_table.proofs.Lists.{all_append}
use Rattle.ua_lanes.proofs.WindowLaws.{named_more, rows_more}

-- lines of all coordinates are within lines of all words
pub lines_whole : (width size : ℕ) → width * size ≤ 4 * size * words_for width
lines_whole width size =
    let d = (div_ceil_times width 4 (omega arith)).0 in
    let m : width * size ≤ (4 * words_for width) * size = mul-le-mul_right size (let w : width ≤ 4 * words_for width = omega (arith, d) in w) in
    let e : (4 * words_for width) * size ≡ 4 * size * words_for width = search arith in
    omega (arith, m, e)

-- the same lines, with more vectors
module _ (p : Product) (quads more : QuadVectors) (added : List Vector) (width : more.width ≡ quads.width) (size : more.size ≡ quads.size) (items : more.items ≡ quads.items ++ added) where
  lines_grown : (f : ℕ) (fixed : List ℕ) (free : ℕ) (lines : List ℕ) → HasLongLines p quads f fixed free lines → HasLongLines p more f fixed free lines
  lines_grown f fixed free lines h =
      let rows : rows_at more.items (tuple_of p f fixed) ≡ rows_at quads.items (tuple_of p f fixed) = ap (λ (vs : List Vector). rows_at vs (tuple_of p f fixed)) items ∙ rows_more quads.items added (tuple_of p f fixed) h.named in
      record {
        operation = h.operation;
        place = h.place;
        named = subst (λ (vs : List Vector). AllByRecursion (λ a. a < length vs) (tuple_of p f fixed)) (sym items) (named_more quads.items added (tuple_of p f fixed) h.named);
        lines_are = subst (λ (q : (ℕ × ℕ) × List Vector). AreLongLines q.0.0 q.0.1 (line_value p f q.1 free) lines) (λ i. ((sym size i, sym width i), sym rows i)) h.lines_are;
      }

  pub window_grown : (w : LongWindow) → IsLongWindow p quads w → IsLongWindow p more w
  window_grown w h = record {
    four = h.four;
    lines_long = h.lines_long ∙ (λ i. 4 * sym size i * words_for (sym width i));
    values_long = h.values_long ∙ ap (λ n. 16 * words_for n) (sym width);
    are_lined = λ t. lines_grown w.op w.fixed w.free w.lines.items (h.are_lined t);
  }

  pub vectors_grown : AreQuadVectors p quads → AllByRecursion (IsVector p) added → AreQuadVectors p more
  vectors_grown h new = record {
    product = h.product;
    sizes = subst (λ n. AllByRecursion (λ (a : FiniteAlgebra). a.size ≤ n) p) (sym size) h.sizes;
    size = (let s = h.size in omega (arith, s, size));
    width = width ∙ h.width;
    vectors = subst (AllByRecursion (IsVector p)) (sym items) (all_append (IsVector p) quads.items added h.vectors new);
  }
