use Rattle.std.proofs.Common.{◌≡◌, ◌++◌, drop}
use Rattle.ua_reply.specs.Texts.{numbered, origin_text}
use Rattle.ua_reply.proofs.texts.push_steps.Given as goal

-- the text so far, and that of the steps that are left
abbrev pub invariant-loop-i : goal.invariant-loop-i
invariant-loop-i l = l.out.items ++ numbered (origin_text l.known) l.i (drop l.i l.steps) ≡ l.fn.out.items ++ numbered (origin_text l.known) 0 l.steps
