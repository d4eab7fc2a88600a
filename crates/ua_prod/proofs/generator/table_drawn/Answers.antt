use Rattle.std.proofs.Common.{◌≡◌, ◌^◌, sym, ap, subst, ◌∙◌}
use Rattle.ua_table.specs.Tables.{IsTable}
use Rattle.ua_prod.specs.Draws.{draws}
use Rattle.ua_prod.proofs.DrawLaws.{drawn-IsTable}
use Rattle.ua_prod.proofs.RenumberingLaws.{refused}
use Rattle.ua_prod.proofs.generator.table_drawn.Goals as goal

pub unreachable-requires : goal.unreachable-requires
unreachable-requires c =
    let n = c.args.size in
    let s = c.args.lcg.now in
    let made = drawn-IsTable n s c.args.f c.args.arity c.requires.some c.requires.small c.requires.arity c.requires.values in
    let name = sym c.in_ok-name.ensures in
    let count : c.pow-count.result ≡ c.args.size ^ c.args.arity = c.pow-count.ensures ∙ ap (λ k. n ^ k) c.from.ensures in
    let values = sym (c.in_ok-values.ensures.values ∙ ap (draws n s) count) in
    let table = subst IsTable (λ j. record { name = name j; size = n; arity = c.args.arity; values = values j }) made in
    refused c.new.result _ c.in_default.is (c.new.ensures.made.1 table)
