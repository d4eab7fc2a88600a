-- The command `close`: where its operands fail, and what it is answered.
use Rattle.std.specs.Prelude.{ℕ, List, Result, Ok}
use Rattle.ua_table.specs.Algebras.{Vector, Product}
use Rattle.ua_table.specs.Orders.{IsLeast}
use Rattle.ua_operands.specs.declared.written.Word.{Word}
use Rattle.ua_operands.specs.declared.written.Number.{Number}
use Rattle.ua_operands.specs.declared.written.Items.{Items}
use Rattle.ua_operands.specs.declared.written.Mode.{Mode}
use Rattle.ua_operands.specs.declared.written.Mode.TheVariants.{Plain, Least, Count}
use Rattle.ua_close.specs.declared.close.Closure.{Closure}
use Rattle.ua_close.specs.declared.close.Closure.TheVariants.{Closed}
use Rattle.ua_close.specs.declared.close.CloseError.{CloseError}
use Rattle.ua_close.specs.Answers.{IsWide}
use Rattle.ua_close.specs.Permitted.{MayClose, MayCount}
use Rattle.ua_text.specs.declared.named.Block.{Block}
use Rattle.ua_reply.specs.Sessions.{Bounds}
use Rattle.ua_reply.specs.Checks.{Checks, ◌and◌}
use Rattle.ua_reply.specs.Operands.{vectors_of, power_of, positive, vectors_in}
use Rattle.ua_reply.specs.Closures.{size_text, closure_text, told}
use Rattle.ua_reply.specs.Replies.{Says, AnsweredOn}

-- close NAME WIDTH [..] ..
abbrev pub close_checks : Block → Number → List Items → Checks
close_checks k width gens = positive width and vectors_in k width.value gens

-- the rows of a closed listing are the least
abbrev pub MayCloseLeast : Product → List Vector → ℕ → ℕ → Result Closure CloseError → Type 0
MayCloseLeast p gens budget workers (Ok (Closed rows)) = (¬ IsWide p gens budget) × IsLeast p gens budget rows
MayCloseLeast p gens budget workers answer = MayClose p gens budget workers answer

-- the rows, those of the least listing, or their number alone
abbrev pub ClosureAnswer : Block → Bounds → Product → List Vector → Mode → List ℕ → Type 0
ClosureAnswer k b p gens Plain bytes = Says (MayClose p gens b.budget b.workers) (told (closure_text k b.budget)) bytes
ClosureAnswer k b p gens Least bytes = Says (MayCloseLeast p gens b.budget b.workers) (told (closure_text k b.budget)) bytes
ClosureAnswer k b p gens Count bytes = Says (MayCount p gens b.budget b.workers) (told (size_text b.budget)) bytes

abbrev pub CloseReply : List Block → Bounds → Word → Number → List Items → Mode → List ℕ → Type 0
CloseReply s b w width gens m bytes = AnsweredOn s w (λ k. close_checks k width gens) (λ k. ClosureAnswer k b (power_of k width.value) (vectors_of k gens) m) bytes
