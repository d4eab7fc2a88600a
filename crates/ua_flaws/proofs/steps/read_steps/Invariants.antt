use Rattle.std.proofs.Common.{◌≡◌, take, drop}
use Rattle.ua_flaws.specs.Firsts.{first_bad}
use Rattle.ua_flaws.specs.Steps.{is_step, origins_of}
use Rattle.ua_flaws.proofs.steps.read_steps.Given as goal

abbrev pub invariant-loop-i : goal.invariant-loop-i
invariant-loop-i l = record {
  rest : first_bad (is_step l.a l.gens) 0 l.list ≡ first_bad (is_step l.a l.gens) l.i (drop l.i l.list);
  read : l.origins.items ≡ origins_of l.a (take l.i l.list);
}
