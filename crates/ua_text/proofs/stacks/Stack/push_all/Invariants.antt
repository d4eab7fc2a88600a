use Rattle.std.proofs.Common.{◌≡◌, ◌++◌, drop}
use Rattle.ua_text.proofs.stacks.Stack.push_all.Given as goal

-- the symbols from here on are pushed
abbrev pub invariant-loop-i : goal.invariant-loop-i
invariant-loop-i l = l.self ≡ drop l.i l.symbols ++ l.initial.self
