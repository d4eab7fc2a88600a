-- What the closure of a batch holds may be shared by threads.
use Rattle.std.proofs.Common.{List, [], ◌∷◌, codes}
use Rattle.std.proofs.Crossing.{crosses, sync}
use denote.Builtin.{One}
use denote.Hole.{as_row}
use denote.RattleType.{RattleType}
use denote.Param.{param}
use denote.Param.Send.{IsSync, sendable, shr_sync, shr_slice_sync}
use denote.Param.SendFields.{declared_sync, variants_sync, as_row_sync}
use denote.Ref.{NamedLft}
use denote.Struct.Field.{row_field, shr_ref_field, shr_slice_field}
use denote.Struct.Tuple.{type_at, TupleAt}
use Rattle.std.specs.contracts.alloc.Global as heap
use Rattle.ua_table.specs.contracts.runs.Run as run
use Rattle.ua_table.proofs.runs.Run.TheSendSync as run_shared
use Rattle.ua_script.proofs.Shared.{command_sync}
use Rattle.ua_reply.specs.contracts.session.Session as session
use Rattle.ua_reply.proofs.session.Session.TheSendSync as session_shared
use Rattle.ua_shell.specs.contracts.hearing.Heard as heard

heard_sync : (κ : NamedLft) → IsSync (heard.the_row κ)
heard_sync κ = variants_sync (heard.enum κ) ((search (sendable, as_row_sync, crosses), tt), ((search (sendable, as_row_sync, crosses), (search (command_sync, sendable, as_row_sync, crosses), tt)), tt))

ref_sync : (ℓ : NamedLft) (R : RattleType) (one : One R.mir) → IsSync R → IsSync (as_row (row_field (shr_ref_field ℓ R one).row))
ref_sync ℓ R one s = as_row_sync (row_field (shr_ref_field ℓ R one).row) (shr_sync ℓ.mir ℓ.lft R s)

slice_sync : (ℓ : NamedLft) (R : RattleType) (one : One R.mir) → IsSync R → IsSync (as_row (row_field (shr_slice_field ℓ R one).row))
slice_sync ℓ R one s = as_row_sync (row_field (shr_slice_field ℓ R one).row) (shr_slice_sync ℓ.mir ℓ.lft R s)

-- what the closure holds: the runtime, memory, what was heard, the run and the session
abbrev pub held : (R G : RattleType) (a b d e f h i j : NamedLft) → List RattleType
held R G a b d e f h i j =
    (shr_ref_field a (param 0 R) tt).row ∷ (shr_ref_field b heap.the_row tt).row ∷ (shr_slice_field d (heard.the_row e) tt).row ∷ (shr_ref_field f (run.the_row h (param 1 G)) tt).row ∷ (shr_ref_field i (session.the_row j) tt).row ∷ []

pub work_sync : (R G : RattleType) (a b d e f h i j : NamedLft) → IsSync (param 0 R) → IsSync (param 1 G) → IsSync (TupleAt (codes "ua_shell::batches::fn::replies_to::work+Self") (held R G a b d e f h i j))
work_sync R G a b d e f h i j r s =
    declared_sync (type_at (codes "ua_shell::batches::fn::replies_to::work+Self") (held R G a b d e f h i j)) (
      ref_sync a (param 0 R) tt r,
      (
        ref_sync b heap.the_row tt sync,
        (
          slice_sync d (heard.the_row e) tt (heard_sync e),
          (ref_sync f (run.the_row h (param 1 G)) tt (run_shared.the_sync h (param 1 G) s), (ref_sync i (session.the_row j) tt (session_shared.the_sync j), tt)),
        ),
      ),
    )
