use Rattle.std.proofs.Common.{◌≡◌, ◌∙◌, codes}
use Rattle.ua_prod.specs.Draws.{drawn_algebra}
use Rattle.ua_shell.specs.Generated.{arities, drawn_block}
use Rattle.ua_shell.proofs.generated.drawn_block.Goals as goal

pub returns-clause-block : goal.returns-clause-block
unfolding drawn_block
returns-clause-block c =
    let name : c.in_ok-name.field-0 ≡ codes "G" = c.in_ok-name.ensures in
    let algebra = c.in-Ok.ensures.1 ∙ (λ j. drawn_algebra (name j) 3 c.args.lcg.now arities) in
    let none = c.new-2.ensures ∙ c.new.ensures.items in
    λ j. record { algebra = algebra j; names = none j }
