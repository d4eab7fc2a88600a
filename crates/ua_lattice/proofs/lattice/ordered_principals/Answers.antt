use Rattle.std.proofs.Common.{arith}
use Rattle.std.proofs.lemmas.Result.{IfOk-weaker}
use Rattle.ua_table.proofs.Lists.{all_weaker}
use Rattle.ua_part.specs.Partitions.{IsPart}
use Rattle.ua_prod.specs.Congruences.{IsCongruence}
use Rattle.ua_lattice.proofs.PrincipalLaws.{congruence_part, principal_congruences}
use Rattle.ua_lattice.proofs.WholeLaws.{arranged_length, arranged_principals, arranged_congruences}
use Rattle.ua_lattice.proofs.lattice.ordered_principals.Goals as goal

pub in_order-requires : goal.in_order-requires
in_order-requires g c =
    let a = c.args.a.now in
    let rows = c.in_ok-rows.rows.items in
    all_weaker (IsCongruence a) IsPart (λ p k. congruence_part a p c.size-size.ensures.algebra.small k) rows (principal_congruences a rows c.in_ok-rows.ensures.principals)

pub returns-clause-congruences : goal.returns-clause-congruences
returns-clause-congruences g c =
    let a = c.args.a.now in
    let rows = c.in_ok-rows.rows.items in
    IfOk-weaker c.in_order.result _ _ (λ parts w. arranged_congruences rows parts.items w a (principal_congruences a rows c.in_ok-rows.ensures.principals)) c.in_order.ensures

pub returns-clause-all : goal.returns-clause-all
returns-clause-all g c =
    let a = c.args.a.now in
    let rows = c.in_ok-rows.rows.items in
    IfOk-weaker c.in_order.result _ _ (λ parts w few. arranged_principals rows parts.items w a rows (c.in_ok-rows.ensures.all (let n = arranged_length rows parts.items w in omega (arith, n, few))) (λ p k. k)) c.in_order.ensures

pub returns-clause-in_order : goal.returns-clause-in_order
returns-clause-in_order g c = IfOk-weaker c.in_order.result _ _ (λ parts w. w.in_order) c.in_order.ensures
