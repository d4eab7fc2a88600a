-- What a `make` makes is an algebra within the limits.
use Rattle.std.proofs.Common.{◌≡◌, ℕ, ◌*◌, ◌<◌, List, [], ◌∷◌, length, map, Option, Some, None, Result, Ok, Err, refl, sym, subst, arith}
use Rattle.std.specs.Option.{MatchOption}
use Rattle.std.specs.List.{AllByRecursion}
use Rattle.std.proofs.lemmas.List.{length-map}
use Rattle.ua_table.specs.Algebras.{FiniteAlgebra, IsAlgebra, arities_of}
use Rattle.ua_table.specs.Tables.{IsAlgebraTable}
use Rattle.ua_table.proofs.Lists.{all_append}
use Rattle.ua_part.specs.Partitions.{Partition}
use Rattle.ua_part.specs.Blocks.{leaders}
use Rattle.ua_prod.specs.declared.errors.ProdError.{ProdError}
use Rattle.ua_prod.specs.Congruences.{IsCongruence}
use Rattle.ua_prod.specs.Constructions.{blocks_below}
use Rattle.ua_prod.specs.Permitted.{MayProduct, MayQuotient}
use Rattle.ua_prod.proofs.BlockNumbers.{blocks_few, all_numbers}
use Rattle.ua_prod.proofs.EscapeLaws.{set_few, places_below}
use Rattle.ua_prod.proofs.ProductLaws.{product-IsAlgebraTable}
use Rattle.ua_prod.proofs.ReductLaws.{reduct-IsAlgebraTable}
use Rattle.ua_prod.proofs.RenumberingLaws.{among-IsAlgebraTable}
use Rattle.ua_prod.proofs.SizeLaws.{within_limits}
use Rattle.ua_sub.specs.Members.{AreMembers}
use Rattle.ua_text.specs.declared.tokens.Place.{Place}
use Rattle.ua_text.specs.declared.named.Block.{Block}
use Rattle.ua_text.specs.Blocks.{unnamed}
use Rattle.ua_operands.specs.declared.written.Word.{Word}
use Rattle.ua_script.specs.declared.script.MakeForm.{MakeForm}
use Rattle.ua_script.specs.declared.script.MakeForm.TheVariants.{Product, Quotient, Sub, Reduct}
use Rattle.ua_reply.specs.declared.refusals.Refusal.{Refusal}
use Rattle.ua_reply.specs.Sessions.{AreAlgebras, lookup}
use Rattle.ua_reply.specs.Checks.{Passes, passed, all_in, shape_at, checks_in, first_error}
use Rattle.ua_reply.specs.Operands.{values_of, elements_in}
use Rattle.ua_reply.specs.Parts.{part_in}
use Rattle.ua_reply.specs.Refusals.{refusal_text}
use Rattle.ua_reply.proofs.CheckLaws.{parts_pass, each_passes}
use Rattle.ua_reply.proofs.OperandLaws.{values_below}
use Rattle.ua_reply.proofs.RepliesExist.{passes_from, known_table, known_passes}
use Rattle.ua_answer_algebras.specs.MakeCommand.{Of, MayMake, make_checks, operation_in, operations_in, repeated, numbers_of, with_made, Makes, MakeReply}
use Rattle.ua_answer_algebras.proofs.Reducts.{numbers_below, different}

-- ---- each construction

product_made : (name : List ℕ) (a b made : FiniteAlgebra) → IsAlgebraTable a → IsAlgebraTable b → MayProduct name a b (Ok made) → IsAlgebraTable made
product_made name a b made t u may =
    let limits = within_limits (a.size * b.size) (arities_of a) may.1 in
    subst IsAlgebraTable (sym may.2) (product-IsAlgebraTable name a b t u may.0 limits.0 limits.1)

-- what is below a bound shows that the bound is above 0
some_bound : (n : ℕ) (xs : List ℕ) → 0 < length xs → AllByRecursion (λ x. x < n) xs → 0 < n
some_bound n [] some h = absurd (omega (arith, some))
some_bound n (x ∷ xs) some h = let low = h.0 in omega (arith, low)

quotient_made : (name : List ℕ) (a : FiniteAlgebra) (p : Partition) (made : FiniteAlgebra) → IsAlgebraTable a → MayQuotient name a p (Ok made) → IsAlgebraTable made
quotient_made name a p made t may =
    let c : IsCongruence a p = may.0 in
    let numbers = all_numbers p c.partition in
    let count = length-map p (blocks_below p) in
    let some = some_bound (length (leaders p)) (map (blocks_below p) p) (let s = t.algebra.inhabited in let n = c.size in omega (arith, s, n, count)) numbers in
    let few = blocks_few p (length p) in
    subst IsAlgebraTable (sym may.1) (among-IsAlgebraTable (leaders p) (map (blocks_below p) p) some a.size (let n = c.size in omega (arith, few, n)) numbers name a t refl)

-- what elements generate are elements
abbrev pub AreBelow : Type 0
AreBelow = (a : FiniteAlgebra) (gens members : List ℕ) → IsAlgebra a → AllByRecursion (λ x. x < a.size) gens → AreMembers a gens members → AllByRecursion (λ x. x < a.size) members

-- ---- what is known of a name

of_at : (found : Option Block) (k : Block) (P : Block → Type 0) → found ≡ Some k → Of found P → P k
of_at found k P e h = subst (λ o. Of o P) e h

made_table : AreBelow → (s : List Block) (name : List ℕ) (what : MakeForm) (made : FiniteAlgebra) → AreAlgebras s → Passes (make_checks s what) → MayMake s name what (Ok made) → IsAlgebraTable made
made_table below s name (Product a b) made algebras passes may =
    let k = known_passes (lookup s a.name) a.place (λ k. checks_in (lookup s b.name) b.place (λ l. passed)) passes in
    let l = known_passes (lookup s b.name) b.place (λ l. passed) k.2 in
    let first = of_at (lookup s a.name) k.0 (λ k. Of (lookup s b.name) (λ l. MayProduct name k.algebra l.algebra (Ok made))) k.1 may in
    let both = of_at (lookup s b.name) l.0 (λ l. MayProduct name k.0.algebra l.algebra (Ok made)) l.1 first in
    product_made name k.0.algebra l.0.algebra made (known_table s a.name k.0 algebras k.1) (known_table s b.name l.0 algebras l.1) both
made_table below s name (Quotient a p) made algebras passes may =
    let k = known_passes (lookup s a.name) a.place (λ k. part_in k p) passes in
    let by = of_at (lookup s a.name) k.0 _ k.1 may in
    quotient_made name k.0.algebra by.partition made (known_table s a.name k.0 algebras k.1) by.permitted
made_table below s name (Sub a v) made algebras passes may =
    let k = known_passes (lookup s a.name) a.place (λ k. elements_in k v.values) passes in
    let by = of_at (lookup s a.name) k.0 _ k.1 may in
    let t = known_table s a.name k.0 algebras k.1 in
    let low = below k.0.algebra (values_of k.0 v) by.members t.algebra (values_below k.0 v.values k.2) by.generated in
    let few = set_few by.members k.0.algebra.size by.generated.ascending low in
    let numbers = places_below by.members k.0.algebra.size by.permitted.0 in
    subst IsAlgebraTable (sym by.permitted.2) (among-IsAlgebraTable by.members _ by.permitted.0 k.0.algebra.size few numbers name k.0.algebra t refl)
made_table below s name (Reduct a ops) made algebras passes may =
    let k = known_passes (lookup s a.name) a.place (λ k. operations_in k ops) passes in
    let is = of_at (lookup s a.name) k.0 _ k.1 may in
    let both = parts_pass (all_in (operation_in k.0) ops) (shape_at (repeated k.0 [] ops)) k.2 in
    let apart = (different k.0 [] ops both.1.shape).0 in
    let low = numbers_below k.0 ops (each_passes (operation_in k.0) ops both.0) in
    subst IsAlgebraTable (sym is) (reduct-IsAlgebraTable name k.0.algebra (numbers_of k.0 ops) (known_table s a.name k.0 algebras k.1) apart low)

-- ---- the session that is left

left_tables : AreBelow → (s : List Block) (name : List ℕ) (what : MakeForm) (answer : Result FiniteAlgebra ProdError) → AreAlgebras s → Passes (make_checks s what) → MayMake s name what answer → AreAlgebras (with_made s answer)
left_tables below s name what (Ok made) algebras passes may = all_append (λ (k : Block). IsAlgebraTable k.algebra) s (unnamed made ∷ []) algebras (made_table below s name what made algebras passes may, tt)
left_tables below s name what (Err error) algebras passes may = algebras

pub make_leaves : AreBelow → (s : List Block) (place : Place) (name : Word) (what : MakeForm) (bytes : List ℕ) (t : List Block) → AreAlgebras s → MakeReply s place name what bytes t → AreAlgebras t
make_leaves below s place name what bytes t algebras = by (first_error (make_checks s what)) refl
  where
    by : (e : Option Refusal) → first_error (make_checks s what) ≡ e → MatchOption e (Makes s name.name place what bytes t) (λ r. (bytes ≡ refusal_text r) × (t ≡ s)) → AreAlgebras t
    by None e h = subst AreAlgebras (sym h.left) (left_tables below s name.name what h.answer algebras (passes_from (make_checks s what) e) h.permitted)
    by (Some r) e h = subst AreAlgebras (sym h.1) algebras
