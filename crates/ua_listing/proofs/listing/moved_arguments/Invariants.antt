use Rattle.std.proofs.Common.{◌≡◌, length, map, take, drop, get_or}
use Rattle.ua_listing.proofs.listing.moved_arguments.Given as goal

abbrev pub invariant-loop-place : goal.invariant-loop-place
invariant-loop-place l = record {
  four : length l.moved ≡ 4;
  done : take l.place l.moved ≡ map (λ a. get_or l.positions a 0) (take l.place l.args);
  rest : drop l.place l.moved ≡ drop l.place l.args;
}
