-- What is said of closures, of their sizes, and of members.
use Rattle.std.specs.Prelude.{ℕ, List, ◌++◌, length, Option, None, Some, Result, Ok, Err, codes}
use Rattle.ua_close.specs.declared.close.Closure.{Closure}
use Rattle.ua_close.specs.declared.close.Closure.TheVariants as closures
use Rattle.ua_close.specs.declared.close.CloseError.{CloseError}
use Rattle.ua_close.specs.declared.close.CloseError.TheVariants as causes
use Rattle.ua_close.specs.declared.sizes.Size.{Size}
use Rattle.ua_close.specs.declared.sizes.Size.TheVariants as sizes
use Rattle.ua_close.specs.declared.memberships.Answer.{Answer}
use Rattle.ua_close.specs.declared.memberships.Answer.TheVariants as answers
use Rattle.ua_text.specs.declared.named.Block.{Block}
use Rattle.ua_reply.specs.declared.refusals.Refusal.TheVariants.{Wide}
use Rattle.ua_reply.specs.Refusals.{refusal_text}
use Rattle.ua_reply.specs.Texts.{line, lines, numbered, counted, origin_text, row_text}

-- how many members there are, or that there are more than the budget
abbrev pub size_text : ℕ → Size → List ℕ
size_text budget (sizes.Closed n) = line (counted (codes "closed") n)
size_text budget sizes.Exceeds = line (counted (codes "exceeds") budget)

-- the same, and the rows
abbrev pub closure_text : Block → ℕ → Closure → List ℕ
closure_text k budget (closures.Closed rows) = line (counted (codes "closed") (length rows)) ++ lines (row_text k) rows
closure_text k budget (closures.Exceeds rows) = line (counted (codes "exceeds") budget) ++ lines (row_text k) rows

-- the steps to a member, or the rows that lack the vector
abbrev pub member_text : Block → ℕ → Answer → List ℕ
member_text k budget (answers.Yes steps) = line (counted (codes "yes") (length steps.items)) ++ numbered (origin_text k) 0 steps.items
member_text k budget (answers.No rows) = line (counted (codes "no") (length rows)) ++ lines (row_text k) rows
member_text k budget (answers.Exceeds rows) = line (counted (codes "exceeds") budget) ++ lines (row_text k) rows

-- why nothing was closed: what is too wide is refused; want of memory has no text
abbrev pub cause_text : CloseError → Option (List ℕ)
cause_text (causes.Wide r c) = Some (refusal_text (Wide r c))
cause_text causes.OutOfMemory = None

-- the text of what a call answers, where it has one
abbrev pub told : {A : Type 0} → (A → List ℕ) → Result A CloseError → Option (List ℕ)
told text (Ok answer) = Some (text answer)
told text (Err cause) = cause_text cause
