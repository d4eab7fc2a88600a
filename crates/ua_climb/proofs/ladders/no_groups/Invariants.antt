use Rattle.std.proofs.Common.{◌≡◌, ℕ, length, map, get_or, [], Vec}
use Rattle.std.specs.declared.alloc.Global.{Global}
use Rattle.ua_climb.proofs.ladders.no_groups.Given as goal

abbrev pub invariant-loop : goal.invariant-loop
invariant-loop l = record {
  count : length (map (λ (v : Vec ℕ Global). v.items) l.groups.items) ≡ l.counter;
  empty : (c : ℕ) → get_or (map (λ (v : Vec ℕ Global). v.items) l.groups.items) c [] ≡ [];
}
