use Rattle.std.proofs.Common.{◌≡◌, ◌∷◌, [], ℕ, List, Ok, Err, sym, ◌∙◌, subst, arith}
use Rattle.std.specs.Prelude.{IfOk, Result}
use Rattle.std.specs.List.{AllByRecursion}
use Rattle.ua_table.specs.Listings.{IsClosedListing, IsExceedingListing}
use Rattle.ua_table.specs.Algebras.{Vector, Product, IsProduct, IsVector}
use Rattle.ua_table.specs.Tables.{IsAlgebraTable}
use Rattle.ua_table.proofs.FrameLaws.{IsShape-arities}
use Rattle.ua_close.specs.declared.close.Closure.{Closure}
use Rattle.ua_close.specs.Answers.{IsCause, IsWide}
use Rattle.ua_close.specs.Permitted.{MayClose}
use Rattle.ua_sub.specs.Members.{singles}
use Rattle.ua_sub.proofs.MemberLaws.{singles_admitted, one_entry, members_are, never_exceeds, never_wide}
use Rattle.ua_sub.proofs.members.sub.Goals as goal

mapped : {A E : Type 0} (r : Result A E) (P Q : A → Type 0) → ((x : A) → P x → Q x) → IfOk r P → IfOk r Q
mapped (Ok x) P Q f p = f x p
mapped (Err e) P Q f p = tt

pub close_set-requires-after_bounds : goal.close_set-requires-after_bounds
close_set-requires-after_bounds g c κs within =
    let same : c.in-Ok.line ≡ c.args.algebra.now ∷ [] = c.in-Ok.ensures.ok in
    subst (λ (x : Product × List Vector). AllByRecursion (IsVector x.0) x.1) (λ i. (sym same i, (sym c.in_ok-vectors.ensures i).items))
    (singles_admitted c.args.algebra.now c.args.gens.now c.requires.elements)

pub entries-requires : goal.entries-requires
entries-requires g c =
    let a = c.args.algebra.now in
    let gens = c.args.gens.now in
    let b = c.in-Some.run'.budget in
    let may = subst (λ (closure : Closure). MayClose c.in-Ok.line c.in_ok-vectors.vectors.items b c.in-Some.run'.workers (Ok closure)) c.in-Ok-Closed.field-0-is c.in-Ok-Closed.ensures.permitted in
    let product = subst IsProduct c.line.view_is c.line.invariant.product in
    one_entry a gens b c.in-Ok-Closed.rows
    (λ v s. c.kinds.ensures.vectors (a ∷ []) (singles gens) v (subst IsProduct c.in-Ok.ensures.ok product) (singles_admitted a gens c.requires.elements) s)
    (subst (λ (x : Product × List Vector). IsClosedListing x.0 x.1 b c.in-Ok-Closed.rows) (λ i. (c.in-Ok.ensures.ok i, (c.in_ok-vectors.ensures i).items)) may.1)

pub returns-in-Ok-Closed : goal.returns-in-Ok-Closed
returns-in-Ok-Closed g c =
    let a = c.args.algebra.now in
    let gens = c.args.gens.now in
    let b = c.in-Some.run'.budget in
    let may = subst (λ (closure : Closure). MayClose c.in-Ok.line c.in_ok-vectors.vectors.items b c.in-Some.run'.workers (Ok closure)) c.in-Ok-Closed.field-0-is c.in-Ok-Closed.ensures.permitted in
    mapped c.entries.result _ _ (λ members same. members_are a gens members.items b c.in-Ok-Closed.rows
    (subst (λ (x : Product × List Vector). IsClosedListing x.0 x.1 b c.in-Ok-Closed.rows) (λ i. (c.in-Ok.ensures.ok i, (c.in_ok-vectors.ensures i).items)) may.1) same) c.entries.ensures

pub unreachable-requires-in-Ok-Exceeds : goal.unreachable-requires-in-Ok-Exceeds
unreachable-requires-in-Ok-Exceeds g c =
    let a = c.args.algebra.now in
    let gens = c.args.gens.now in
    let b = c.in-Some.run'.budget in
    let may = subst (λ (closure : Closure). MayClose c.in-Ok.line c.in_ok-vectors.vectors.items b c.in-Some.run'.workers (Ok closure)) c.in-Ok-Exceeds.field-0-is c.in-Ok-Exceeds.ensures.permitted in
    let product = subst IsProduct (c.line.view_is ∙ c.in-Ok.ensures.ok) c.line.invariant.product in
    let tables = subst (AllByRecursion IsAlgebraTable) (c.line.view_is ∙ c.in-Ok.ensures.ok) c.line.invariant.tables in
    never_exceeds a gens b c.in-Ok-Exceeds.field-0-0
    (c.kinds.ensures.few (a ∷ []) (singles gens) b product (singles_admitted a gens c.requires.elements))
    (let small = tables.0.small in let all = c.in-Some.ensures.budget in omega (arith, small, all))
    (subst (λ (x : Product × List Vector). IsExceedingListing x.0 x.1 b c.in-Ok-Exceeds.field-0-0) (λ i. (c.in-Ok.ensures.ok i, (c.in_ok-vectors.ensures i).items)) may.1)

pub unreachable-requires-in-Err-Wide : goal.unreachable-requires-in-Err-Wide
unreachable-requires-in-Err-Wide g c =
    let a = c.args.algebra.now in
    let gens = c.args.gens.now in
    let cause = subst (IsCause c.in-Ok.line c.in_ok-vectors.vectors.items c.in-Some.run'.budget) c.in-Err-Wide.field-0-is c.in-Err-Wide.ensures.permitted in
    let tables = subst (AllByRecursion IsAlgebraTable) (c.line.view_is ∙ c.in-Ok.ensures.ok) c.line.invariant.tables in
    never_wide a gens c.requires.few (IsShape-arities (a ∷ []) tables)
    (subst (λ (x : Product × List Vector × ℕ). IsWide x.0 x.1 x.2) (λ i. (c.in-Ok.ensures.ok i, (c.in_ok-vectors.ensures i).items, c.in-Some.ensures.budget i)) cause.0)
