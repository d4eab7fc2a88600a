use Rattle.std.proofs.Common.{[], ◌∷◌, length, ap, sym, ◌∙◌, subst}
use Rattle.std.proofs.lemmas.List.FromFn.{length-map-range_with_len}
use Rattle.ua_table.specs.Algebras.{Product, IsProduct, IsVector, apply}
use Rattle.ua_table.proofs.ApplyLaws.{length-apply}
use Rattle.ua_rows.specs.RowLists.{rows_at}
use Rattle.ua_rows.specs.Kernels.{AreKernels}
use Rattle.ua_rows.proofs.OperationLaws.{Fine, fine_unary, applied_vector}
use Rattle.ua_rows.proofs.prepared.Operations.apply_unary.Goals as goal

-- what the kernel gives at the row
fine_here : (c : goal.After-read-arg-in-Some-1) → Fine c.args.self.now c.args.op c.in-Some.kernel.now c.args.rows.now.items (c.args.row ∷ []) (c.padded.result.now ∷ []) (length c.args.out.now)
fine_here c =
    fine_unary c.args.self.now c.args.op c.self.inside.kernels.items c.deref.result.now c.in-Some.kernel.now c.args.rows.now.items c.args.row
    c.padded.result.now (length c.args.out.now) (subst IsProduct c.self.view_is c.self.invariant.0)
    (subst (λ (p : Product). AreKernels p c.self.inside.kernels.items) c.self.view_is c.self.invariant.1)
    c.deref.ensures.value c.in-Some.ensures.lookup.3.0 c.in-Some.ensures.lookup.1 c.requires.operation c.requires.unary c.requires.rows c.requires.named c.padded.ensures c.requires.width

pub read-requires-clause-reads : goal.read-requires-clause-reads
read-requires-clause-reads c = (fine_here c).reads

pub read-requires-clause-rows : goal.read-requires-clause-rows
read-requires-clause-rows c = (fine_here c).lengths

pub read-requires-clause-below : goal.read-requires-clause-below
read-requires-clause-below c = (fine_here c).below

-- the same behind the call
fine_there : (c : goal.After-read) → Fine c.args.self.now c.args.op c.in-Some.kernel.now c.args.rows.now.items (c.args.row ∷ []) (c.padded.result.now ∷ []) (length c.args.out.now)
fine_there c =
    fine_unary c.args.self.now c.args.op c.self.inside.kernels.items c.deref.result.now c.in-Some.kernel.now c.args.rows.now.items c.args.row
    c.padded.result.now (length c.args.out.now) (subst IsProduct c.self.view_is c.self.invariant.0)
    (subst (λ (p : Product). AreKernels p c.self.inside.kernels.items) c.self.view_is c.self.invariant.1)
    c.deref.ensures.value c.in-Some.ensures.lookup.3.0 c.in-Some.ensures.lookup.1 c.requires.operation c.requires.unary c.requires.rows c.requires.named c.padded.ensures c.requires.width

pub returns-in-Some-clause-value : goal.returns-in-Some-clause-value
returns-in-Some-clause-value c = c.read.ensures ∙ (fine_there c).value

pub returns-in-Some-clause-vector : goal.returns-in-Some-clause-vector
returns-in-Some-clause-vector c = subst (IsVector c.args.self.now) (sym (c.read.ensures ∙ (fine_there c).value)) (fine_there c).vector

pub returns-in-Some-clause-width : goal.returns-in-Some-clause-width
returns-in-Some-clause-width c = ap length c.read.ensures ∙ length-map-range_with_len _ 0 (length c.args.out.now) ∙ c.requires.width

pub returns-in-None-clause-vector : goal.returns-in-None-clause-vector
returns-in-None-clause-vector c =
    applied_vector c.args.self.now c.args.op c.args.rows.now.items (c.args.row ∷ []) c.apply.new.self (subst IsProduct c.self.view_is c.self.invariant.0) c.requires.operation (sym c.requires.unary) c.requires.rows (c.requires.named, tt)
    (c.apply.ensures ∙ ap (λ (p : Product). apply p c.args.op (rows_at c.args.rows.now.items (c.args.row ∷ []))) c.self.view_is)

pub returns-in-None-clause-width : goal.returns-in-None-clause-width
returns-in-None-clause-width c =
    ap length (c.apply.ensures ∙ ap (λ (p : Product). apply p c.args.op (rows_at c.args.rows.now.items (c.args.row ∷ []))) c.self.view_is)
    ∙ length-apply c.args.self.now c.args.op (rows_at c.args.rows.now.items (c.args.row ∷ []))
