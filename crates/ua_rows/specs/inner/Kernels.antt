-- The kernel of one operation.
use Rattle.std.specs.Prelude.{◌≡◌, length, take}
use Rattle.ua_table.specs.Algebras.{Operation}
use Rattle.ua_rows.specs.declared.kernels.Kernel.{Kernel}
use Rattle.ua_rows.specs.Kernels.{base_of, cells_of, Reads}

-- the kernel of an operation: it has its size as its base, its values, and a value for each tuple
pub record HasKernel (o : Operation) (kernel : Kernel) : Type 0 where
  pub base : base_of kernel ≡ o.size
  pub values : take (length o.values) (cells_of kernel) ≡ o.values
  pub reads : Reads kernel o.arity
