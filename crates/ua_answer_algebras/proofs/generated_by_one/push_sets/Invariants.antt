use Rattle.std.proofs.Common.{◌≡◌, ◌++◌, drop}
use Rattle.ua_sub.specs.Members.{contents}
use Rattle.ua_answer_algebras.specs.OnesCommand.{sets_text}
use Rattle.ua_answer_algebras.proofs.generated_by_one.push_sets.Given as goal

-- the text so far, and that of the sets that are left
abbrev pub invariant-loop-x : goal.invariant-loop-x
invariant-loop-x l = l.out.items ++ sets_text l.known l.x (contents (drop l.x l.sets)) ≡ l.fn.out.items ++ sets_text l.known 0 (contents l.sets)
