use Rattle.std.proofs.Common.{ℕ, List, subst}
use Rattle.std.specs.Prelude.{Err}
use Rattle.std.proofs.lemmas.Result.{err_from_is_err_and}
use Rattle.ua_part.specs.Partitions.{Partition}
use Rattle.ua_lattice.specs.declared.lattice.Lattice.{Lattice}
use Rattle.ua_lattice.specs.Answers.{IsLatticeOf}
use Rattle.ua_type.specs.inner.Tables.{MayTable}
use Rattle.ua_type.proofs.CoverLaws.{types_refused}
use Rattle.ua_type.proofs.labelling.types.Goals as goal

pub returns-in_err-rows-in-Whole : goal.returns-in_err-rows-in-Whole
returns-in_err-rows-in-Whole g c =
    let a = c.args.a.now in
    let budget = c.args.run.now.budget in
    let list = c.in-Whole.list.items in
    let covers = c.in-Whole.covers.items in
    let e = c.in_err-rows-in-Whole.field-0.0 in
    let p = err_from_is_err_and c.from_residual-in_err-rows-in-Whole.result c.from_residual-in_err-rows-in-Whole.ensures.1 in
    let lattice = subst (λ (l : Lattice). IsLatticeOf a budget l) c.in-Whole.is c.in_ok-list.ensures in
    record {
      permitted = rw (p.1, p.2) (types_refused a budget list covers c.in-Whole.irreducibles.items lattice e
          (subst (λ (l : List Partition). MayTable a budget l covers (Err e)) c.as_slice.ensures.value
          (subst (λ (cs : List (ℕ × ℕ)). MayTable a budget c.as_slice.result.now cs (Err e)) c.as_slice-in-Whole.ensures.value c.in_err-rows-in-Whole.ensures)));
    }
