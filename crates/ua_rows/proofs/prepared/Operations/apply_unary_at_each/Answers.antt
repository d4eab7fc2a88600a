use Rattle.std.proofs.Common.{◌≡◌, ◌<◌, ℕ, List, [], ◌∷◌, length, get_or, ap, ◌∙◌, subst, arith}
use Rattle.std.specs.Prelude.{slice_index}
use Rattle.std.proofs.lemmas.List.{length-set}
use Rattle.ua_table.specs.Algebras.{Vector, Product, IsProduct, apply}
use Rattle.ua_table.proofs.ApplyLaws.{length-apply}
use Rattle.ua_table.proofs.Lists.{all_set, all_get_or}
use Rattle.ua_rows.specs.RowLists.{rows_at}
use Rattle.ua_rows.specs.Kernels.{AreKernels}
use Rattle.ua_rows.proofs.OperationLaws.{Fine, fine_unary}
use Rattle.ua_rows.proofs.AppliedLaws.{applied_more}
use Rattle.ua_rows.proofs.prepared.Operations.apply_unary_at_each.Goals as goal

pub loop-k-preserved : goal.loop-k-preserved
loop-k-preserved c =
    let p = c.args.self.now in
    let f = c.args.op in
    let rows = c.args.rows.now.items in
    let args = c.args.args.now in
    let k = c.loop-k.k in
    let row : List ℕ = slice_index args k ∷ [] in
    let v = c.apply.new.self in
    let before = c.loop-k.invariant in
    let value : v ≡ apply p f (rows_at rows row) = c.apply.ensures ∙ ap (λ (q : Product). apply q f (rows_at rows row)) c.self.view_is in
    let here : k < length c.loop-k.out = (let test = c.loop-k-test.true in let room = before.room in omega (arith, test, room)) in
    record {
      room = (let same = length-set c.loop-k.out k v in let room = before.room in omega (arith, same, room));
      widths = all_set (λ (w : Vector). length w ≡ length p) c.loop-k.out k v (ap length value ∙ length-apply p f (rows_at rows row)) before.widths;
      applied = applied_more p f rows args k c.loop-k.out v here before.applied value;
    }

-- what the kernel gives at the row that argument k names
fine_here : (c : goal.After-read-arg-1)
    → Fine c.args.self.now c.args.op c.in-Some.kernel.now c.args.rows.now.items (slice_index c.args.args.now c.loop-k-2.k ∷ [])
    (c.padded.result.now ∷ []) (length (get_or c.loop-k-2.out c.loop-k-2.k c.index-out-k-in-loop-k-2.result))
fine_here c =
    let p = c.args.self.now in
    let k = c.loop-k-2.k in
    let before = c.loop-k-2.invariant in
    let test = c.loop-k-2-test.true in
    let here : k < length c.loop-k-2.out = (let room = before.room in omega (arith, test, room)) in
    let named = all_get_or (λ a. a < length c.args.rows.now.items) c.args.args.now k 0 test c.requires.named in
    let wide = all_get_or (λ (w : Vector). length w ≡ length p) c.loop-k-2.out k c.index-out-k-in-loop-k-2.result here before.widths in
    fine_unary p c.args.op c.self.inside.kernels.items c.deref.result.now c.in-Some.kernel.now c.args.rows.now.items (slice_index c.args.args.now k)
    c.padded.result.now _ (subst IsProduct c.self.view_is c.self.invariant.0)
    (subst (λ (q : Product). AreKernels q c.self.inside.kernels.items) c.self.view_is c.self.invariant.1)
    c.deref.ensures.value c.in-Some.ensures.lookup.3.0 c.in-Some.ensures.lookup.1 c.requires.operation c.requires.unary c.requires.rows named c.padded.ensures wide

pub read-requires-clause-reads : goal.read-requires-clause-reads
read-requires-clause-reads c = (fine_here c).reads

pub read-requires-clause-rows : goal.read-requires-clause-rows
read-requires-clause-rows c = (fine_here c).lengths

pub read-requires-clause-below : goal.read-requires-clause-below
read-requires-clause-below c = (fine_here c).below

pub loop-k-2-preserved : goal.loop-k-2-preserved
loop-k-2-preserved c =
    let p = c.args.self.now in
    let f = c.args.op in
    let rows = c.args.rows.now.items in
    let args = c.args.args.now in
    let k = c.loop-k-2.k in
    let out = c.loop-k-2.out in
    let before = c.loop-k-2.invariant in
    let test = c.loop-k-2-test.true in
    let row : List ℕ = slice_index args k ∷ [] in
    let here : k < length out = (let room = before.room in omega (arith, test, room)) in
    let named = all_get_or (λ a. a < length rows) args k 0 test c.requires.named in
    let wide = all_get_or (λ (w : Vector). length w ≡ length p) out k c.index-out-k-in-loop-k-2.result here before.widths in
    let fine = fine_unary p f c.self.inside.kernels.items c.deref.result.now c.in-Some.kernel.now rows (slice_index args k) c.padded.result.now
    (length (get_or out k c.index-out-k-in-loop-k-2.result)) (subst IsProduct c.self.view_is c.self.invariant.0)
    (subst (λ (q : Product). AreKernels q c.self.inside.kernels.items) c.self.view_is c.self.invariant.1)
    c.deref.ensures.value c.in-Some.ensures.lookup.3.0 c.in-Some.ensures.lookup.1 c.requires.operation c.requires.unary c.requires.rows named c.padded.ensures wide in
    let v = c.read.new.self in
    let value : v ≡ apply p f (rows_at rows row) = c.read.ensures ∙ fine.value in
    record {
      room = (let same = length-set out k v in let room = before.room in omega (arith, same, room));
      widths = all_set (λ (w : Vector). length w ≡ length p) out k v (ap length value ∙ length-apply p f (rows_at rows row)) before.widths;
      applied = applied_more p f rows args k out v here before.applied value;
    }
