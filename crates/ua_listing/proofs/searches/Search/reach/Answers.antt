use Rattle.std.proofs.Common.{◌≡◌, ◌<◌, ℕ, Bool, true, false, List, length, get_or, set, refl, sym, ◌∙◌, subst, arith, Result, Ok, Err}
use Rattle.std.specs.Prelude.{OnOk, slice_get, Some}
use Rattle.std.proofs.lemmas.Option.{slice_get_within}
use Rattle.std.proofs.lemmas.List.{get_or_default}
use Rattle.ua_table.specs.Algebras.{arities}
use Rattle.ua_table.specs.Origins.{origin_value}
use Rattle.ua_listing.specs.declared.searches.Search.{Search}
use Rattle.ua_listing.specs.declared.searches.Table.{Table}
use Rattle.ua_table.specs.declared.origins.Origin.{Origin}
use Rattle.ua_table.specs.declared.origins.Origin.TheVariants.{Gen}
use Rattle.ua_listing.specs.inner.Searches.{IsMarked, height_in, origin_in, IsBefore, IsRowTable, IsTop, IsSearchOf, MayVisitIn, HasReachedIn}
use Rattle.ua_listing.proofs.MarkLaws.{mark_is}
use Rattle.ua_listing.proofs.SearchLaws.{entered, improved, stays}
use Rattle.ua_listing.proofs.searches.Search.reach.Goals as goal
use Rattle.ua_listing.proofs.searches.Search.reach.Goals.{else-index-height-via-then-index-height+else-is_before, else-index-height-via-else-index-height}

on_four : {A E : Type 0} (r : Result A E) (P Q R S T : Type 0) → (P → Q → R → S → T) → OnOk r P → OnOk r Q → OnOk r R → OnOk r S → OnOk r T
on_four (Ok x) P Q R S T f a b c d = f a b c d
on_four (Err e) P Q R S T f a b c d = tt

pub returns-then-not-index : goal.returns-then-not-index
returns-then-not-index c =
    let t = c.args.table.now in
    let s = c.args.self.now in
    let p = t.operations in
    let gens = t.gens.now.items in
    let vs = t.rows.items in
    let low = slice_get_within vs c.args.q (origin_value p gens vs c.args.origin) c.requires.row in
    let mark = mark_is s.reached.items c.args.q c.index.result.now (let n = c.requires.search.marks_count in omega (arith, low, n)) c.index.ensures in
    on_four c.enter.result _ _ _ _ _
    (entered p gens vs c.requires.table.different s c.args.q c.args.height c.args.origin c.requires.search c.requires.top c.requires.origin
    c.requires.row c.enter.new.self (λ m. let bad : true ≡ false = sym m ∙ mark ∙ c.if-not-index.true in cc))
    c.enter.ensures.order c.enter.ensures.reached c.enter.ensures.heights c.enter.ensures.origins

pub index-requires-2 : goal.index-requires-2
index-requires-2 c = let low = slice_get_within _ c.args.q _ c.requires.row in let n = c.requires.search.heights_count in omega (arith, low, n)

pub index-requires-then-index-height : goal.index-requires-then-index-height
index-requires-then-index-height c = let low = slice_get_within _ c.args.q _ c.requires.row in let n = c.requires.search.origins_count in omega (arith, low, n)

pub index_mut-requires : goal.index_mut-requires
index_mut-requires c = let low = slice_get_within _ c.args.q _ c.requires.row in let n = c.requires.search.origins_count in omega (arith, low, n)

-- what was read
height_read : (s : Search) (q x : ℕ) → q < length s.heights.items → x ≡ get_or s.heights.items q x → height_in s q ≡ x
height_read s q x h e = get_or_default s.heights.items q 0 x h ∙ sym e

origin_read : (s : Search) (q : ℕ) (o : Origin) → q < length s.origins.items → o ≡ get_or s.origins.items q o → origin_in s q ≡ o
origin_read s q o h e = get_or_default s.origins.items q (Gen 0) o h ∙ sym e

module _ (t : Table) (s : Search) (q h : ℕ) (o : Origin) (table : IsRowTable t) (is : IsSearchOf t s) (top : IsTop s h) (may : MayVisitIn t s h o)
    (row : slice_get t.rows.items q ≡ Some (origin_value t.operations t.gens.now.items t.rows.items o))
    (index : Bool) (index_is : index ≡ get_or s.reached.items q index) (marked : index ≡ true) where
  low : q < length t.rows.items
  low = slice_get_within t.rows.items q (origin_value t.operations t.gens.now.items t.rows.items o) row

  mark : IsMarked s.reached.items q
  mark = mark_is s.reached.items q index (let n = is.marks_count in let l = low in omega (arith, l, n)) index_is ∙ marked

  height_at : (x : ℕ) → x ≡ get_or s.heights.items q x → height_in s q ≡ x
  height_at x e = height_read s q x (let n = is.heights_count in let l = low in omega (arith, l, n)) e

  origin_at : (x : Origin) → x ≡ get_or s.origins.items q x → origin_in s q ≡ x
  origin_at x e = origin_read s q x (let n = is.origins_count in let l = low in omega (arith, l, n)) e

  same_order : (x y : Origin) → x ≡ y → IsBefore t.shape o y → IsBefore (arities t.operations) o x
  same_order x y e b = subst (λ (z : List ℕ × Origin). IsBefore z.0 o z.1) (λ i. (table.shape i, sym e i)) b

  same_order_back : (x y : Origin) → x ≡ y → IsBefore (arities t.operations) o x → IsBefore t.shape o y
  same_order_back x y e b = subst (λ (z : List ℕ × Origin). IsBefore z.0 o z.1) (λ i. (sym table.shape i, e i)) b

  better : (x : ℕ) (y : Origin) (new : Search) → x ≡ get_or s.heights.items q x → y ≡ get_or s.origins.items q y → x ≡ h → IsBefore t.shape o y
      → new.order.items ≡ s.order.items → new.reached.items ≡ s.reached.items → new.heights.items ≡ s.heights.items → new.origins.items ≡ set s.origins.items q o → HasReachedIn t s new h o
  better x y new xs ys at before = improved t.operations t.gens.now.items t.rows.items table.different s q h o is top may row mark new (height_at x xs ∙ at) (same_order (origin_in s q) y (origin_at y ys) before)

  as_before : ((height_in s q ≡ h) → IsBefore (arities t.operations) o (origin_in s q) → ⊥) → HasReachedIn t s s h o
  as_before later = stays t.operations t.gens.now.items t.rows.items table.different s q h o is top may row mark later

pub returns-then-is_before : goal.returns-then-is_before
returns-then-is_before c =
    better c.args.table.now c.args.self.now c.args.q c.args.height c.args.origin c.requires.table c.requires.search c.requires.top c.requires.origin c.requires.row c.index.result.now c.index.ensures c.if-not-index.false
    c.index-2.result.now c.index-then-index-height.result.now _ c.index-2.ensures c.index-then-index-height.ensures c.if-index-height.true (c.is_before.ensures.0 c.if-is_before.true)
    refl refl refl refl

pub returns-else-index-height : goal.returns-else-index-height
returns-else-index-height c =
    let s = c.args.self.now in
    let t = c.args.table.now in
    let stay = as_before t s c.args.q c.args.height c.args.origin c.requires.table c.requires.search c.requires.top c.requires.origin c.requires.row c.index.result.now c.index.ensures c.if-not-index.false in
    elim c.else-index-height.branch [
      | else-index-height-via-then-index-height+else-is_before w ↦
          stay (λ e b.
          let back = same_order_back t s c.args.q c.args.height c.args.origin c.requires.table c.requires.search c.requires.top c.requires.origin
          c.requires.row c.index.result.now c.index.ensures c.if-not-index.false (origin_in s c.args.q) w.index-then-index-height.result.now
          (origin_at t s c.args.q c.args.height c.args.origin c.requires.table c.requires.search c.requires.top c.requires.origin c.requires.row
          c.index.result.now c.index.ensures c.if-not-index.false w.index-then-index-height.result.now w.index-then-index-height.ensures)
          b in
          let bad : true ≡ false = sym (w.is_before.ensures.1 back) ∙ w.if-is_before.false in cc)
      | else-index-height-via-else-index-height w ↦
          stay
          (λ e b.
          w.if-index-height.false
          (sym
          (height_at t s c.args.q c.args.height c.args.origin c.requires.table c.requires.search c.requires.top c.requires.origin
          c.requires.row c.index.result.now c.index.ensures c.if-not-index.false c.index-2.result.now c.index-2.ensures)
          ∙ e))
    ]
