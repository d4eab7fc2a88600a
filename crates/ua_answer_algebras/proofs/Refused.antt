-- What is said where a closure is refused.
use Rattle.std.proofs.Common.{◌≡◌, ℕ, List, Some, Err}
use Rattle.ua_table.specs.Algebras.{Vector, Product}
use Rattle.ua_operands.specs.declared.written.Mode.{Mode}
use Rattle.ua_operands.specs.declared.written.Mode.TheVariants.{Plain, Least, Count}
use Rattle.ua_close.specs.declared.close.CloseError.{CloseError}
use Rattle.ua_close.specs.Answers.{IsCause}
use Rattle.ua_text.specs.declared.named.Block.{Block}
use Rattle.ua_reply.specs.Sessions.{Bounds}
use Rattle.ua_reply.specs.Closures.{cause_text}
use Rattle.ua_answer_algebras.specs.CloseCommand.{ClosureAnswer}

pub cause_answered : (k : Block) (b : Bounds) (p : Product) (gens : List Vector) (m : Mode) (e : CloseError) (bytes : List ℕ) → IsCause p gens b.budget e → cause_text e ≡ Some bytes → ClosureAnswer k b p gens m bytes
cause_answered k b p gens Plain e bytes cause text = record { answer = Err e; permitted = cause; told = text }
cause_answered k b p gens Least e bytes cause text = record { answer = Err e; permitted = cause; told = text }
cause_answered k b p gens Count e bytes cause text = record { answer = Err e; permitted = cause; told = text }
