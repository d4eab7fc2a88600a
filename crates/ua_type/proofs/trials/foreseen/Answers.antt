use Rattle.std.proofs.Common.{Option, sym, ◌∙◌, subst}
use Rattle.std.specs.Prelude.{IfSome}
use Rattle.std.specs.HashSet.{contains}
use Rattle.ua_part.specs.Labels.{same_labels}
use Rattle.ua_type.specs.declared.known.SubtracePair.{SubtracePair}
use Rattle.ua_type.specs.Subtraces.{IsBefore}
use Rattle.ua_type.specs.Known.{AreSettled, IsMet}
use Rattle.ua_type.proofs.KnownLaws.{ahead, settled_vain}
use Rattle.ua_type.proofs.trials.foreseen.Goals as goal

pub returns-then-is_settled-clause-known : goal.returns-then-is_settled-clause-known
returns-then-is_settled-clause-known c b budget right differ =
    let least = c.in-Some.least in
    let pair = c.args.pair in
    let met = subst (λ (o : Option SubtracePair). IfSome o (IsMet b budget)) c.in-Some.is right.met in
    let order = subst (λ (o : Option SubtracePair). IfSome o (λ l. ¬ IsBefore l.low l.high pair.0 pair.1)) c.in-Some.is c.requires.before in
    let settled = subst (λ (o : Option SubtracePair). AreSettled b budget o (contains same_labels c.args.known.now.settled)) c.in-Some.is right.settled in (
      met.narrow,
      settled_vain b budget least pair.0 pair.1 differ
          (ahead least pair order (λ same. let t = c.is_same.ensures.1 same in let f = c.if-is_same.false in absurd (cc)))
          (settled pair (sym c.is_settled.ensures ∙ c.if-is_settled.true)),
    )
