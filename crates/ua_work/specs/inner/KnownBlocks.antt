-- The blocks of all operations.
use Rattle.std.specs.Prelude.{◌≡◌, ℕ, ◌+◌, ◌*◌, ◌<◌, false, [], ◌∷◌, length, slice_index_or, IsTrue}
use Rattle.ua_table.specs.declared.origins.Origin.TheVariants.{Op}
use Rattle.ua_table.specs.Algebras.{arities}
use Rattle.ua_work.specs.declared.known_blocks.KnownBlock.{KnownBlock}
use Rattle.ua_work.specs.declared.known_blocks.KnownBlocks.{KnownBlocks}
use Rattle.ua_work.specs.declared.replicas.Replica.{Replica}
use Rattle.ua_work.specs.inner.Replicas.{value_in, IsOriginIn}
use Rattle.ua_work.specs.inner.Workings.{IsSettled}

-- the values are those of a unary operation at the records of the block; where one was found, it is the value of a record
pub record IsKnownBlock (r : Replica) (f : ℕ) (b : KnownBlock) : Type 0 where
  pub width : b.values.width ≡ length r.operations
  pub origins : (i : ℕ) → i < length b.values.values → IsOriginIn r (Op f ((16 * b.block + i) ∷ 0 ∷ 0 ∷ 0 ∷ []))
  pub values : (i : ℕ) → i < length b.values.values → slice_index_or b.values.values i [] ≡ value_in r (Op f ((16 * b.block + i) ∷ 0 ∷ 0 ∷ 0 ∷ []))
  pub found : (i : ℕ) → IsTrue (slice_index_or b.values.found i false) → IsSettled r (Op f ((16 * b.block + i) ∷ 0 ∷ 0 ∷ 0 ∷ []))

-- a block for each operation
pub record AreKnownBlocks (r : Replica) (k : KnownBlocks) : Type 0 where
  pub count : length k.blocks.items ≡ length (arities r.operations)
  pub each : (f : ℕ) (b : KnownBlock) → f < length k.blocks.items → IsKnownBlock r f (slice_index_or k.blocks.items f b)
