use Rattle.std.proofs.Common.{ap, ◌∙◌}
use Rattle.std.proofs.lemmas.List.{map-append}
use Rattle.ua_climb.proofs.GroupLaws.{all_items}
use Rattle.ua_climb.proofs.SideLaws.{is_network, is_of_links}
use Rattle.ua_climb.proofs.ladders.network_of.Goals as goal

pub new-requires : goal.new-requires
new-requires c =
    let ge = c.in_ok-members.members.items in
    let go = c.in_ok-odd_members.odd_members.items in
    let joined = ap all_items c.in_ok-append.ensures.items ∙ map-append (λ v. v.items) ge go in
    is_network c.args.allowed.now c.args.even.now c.args.odd.now _ (all_items ge) (all_items go) _ c.in_ok-leads.ensures.even_links
    c.in_ok-leads.ensures.odd_links c.requires.even_rows c.requires.odd_rows c.requires.room c.in_ok-leads.ensures.leads c.in_ok-members.ensures
    c.in_ok-odd_members.ensures joined

pub returns-clause-network : goal.returns-clause-network
returns-clause-network c =
    let ge = c.in_ok-members.members.items in
    let go = c.in_ok-odd_members.odd_members.items in
    let joined = ap all_items c.in_ok-append.ensures.items ∙ map-append (λ v. v.items) ge go in
    is_of_links c.args.allowed.now c.args.even.now c.args.odd.now c.new.result _ (all_items ge) (all_items go) _ c.requires.even_rows
    c.requires.odd_rows c.in_ok-leads.ensures.leads c.in_ok-members.ensures c.in_ok-odd_members.ensures joined c.new.ensures.leads
    c.new.ensures.members
