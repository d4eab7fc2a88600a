use Rattle.std.proofs.Common.{◌≡◌, ◌<◌, ℕ, [], length, sym, subst, ◌∙◌, arith}
use Rattle.std.specs.Prelude.{slice_get, slice_index_or, Some}
use Rattle.std.proofs.lemmas.Option.{get_or_from_slice_get}
use Rattle.std.proofs.lemmas.Result.{IfOk-weaker}
use Rattle.std.proofs.lemmas.List.Elements.{All-from_recursion}
use Rattle.ua_table.specs.Algebras.{FiniteAlgebra}
use Rattle.ua_part.specs.Partitions.{Partition}
use Rattle.ua_prod.specs.Congruences.{IsCongruence}
use Rattle.ua_cong.specs.declared.known.Known.{Known}
use Rattle.ua_cong.specs.Extensions.{IsCgAbove}
use Rattle.ua_cong.specs.Known.{IsKnown}
use Rattle.ua_cong.specs.Principals.{IsPrincipalCongruence}
use Rattle.ua_cong.proofs.settling.row_above.Goals as goal

-- a known row is a congruence
known_congruence : (a : FiniteAlgebra) (known : Known) (place : ℕ) (row : Partition) → IsKnown a known → slice_get known.rows.items place ≡ Some row → place < length known.rows.items → IsCongruence a row
known_congruence a known place row h at w =
    let p = subst (IsPrincipalCongruence a) (get_or_from_slice_get known.rows.items place row [] at) (All-from_recursion (IsPrincipalCongruence a) known.rows.items h.rows place [] w) in
    p.principal.congruence

pub from_row-requires : goal.from_row-requires
from_row-requires c =
    let cp = known_congruence c.args.a.now c.args.known.now c.args.place c.row.result.now c.requires.known c.row.ensures.row c.requires.place in
    record { partition = cp.partition; few = (let n = cp.size in let s = c.size-size.ensures.algebra.small in omega (arith, n, s)) }

pub sets_above-requires-clause-congruence : goal.sets_above-requires-clause-congruence
sets_above-requires-clause-congruence c =
    subst (IsCongruence c.args.a.now) (sym c.in_ok-part.ensures) (known_congruence c.args.a.now c.args.known.now c.args.place c.row.result.now c.requires.known c.row.ensures.row c.requires.place)

pub row_of-requires : goal.row_of-requires
row_of-requires c = (let n = c.in_ok-sets.ensures.congruence.size in let s = c.size-size.ensures.algebra.small in omega (arith, n, s))

pub returns : goal.returns
returns c =
    let a = c.args.a.now in
    let row = c.row.result.now in
    let at = get_or_from_slice_get c.args.known.now.rows.items c.args.place row [] c.row.ensures.row in
    let above = subst (λ (p : Partition). IsCgAbove a p c.args.first c.args.second c.in_ok-sets.sets) (c.in_ok-part.ensures ∙ sym at) c.in_ok-sets.ensures in
    IfOk-weaker c.row_of.result _ _
    (λ made is. subst (IsCgAbove a (slice_index_or c.args.known.now.rows.items c.args.place []) c.args.first c.args.second) (sym is) above)
    c.row_of.ensures
