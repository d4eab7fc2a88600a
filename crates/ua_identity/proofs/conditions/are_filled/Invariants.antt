use Rattle.std.proofs.Common.{◌≡◌, length, take}
use Rattle.std.specs.List.{AllByRecursion}
use Rattle.ua_identity.specs.Identities.{TermIdentity}
use Rattle.ua_identity.specs.Conditions.{IsIdentity}
use Rattle.ua_identity.proofs.conditions.are_filled.Given as goal

-- the identities so far
abbrev pub invariant-loop-identity : goal.invariant-loop-identity
invariant-loop-identity l = record {
  filled : AllByRecursion (λ (i : TermIdentity). length i.pattern.places ≡ l.arity) (take l.identity-index l.identities);
  identities : AllByRecursion IsIdentity (take l.identity-index l.identities);
}
