use Rattle.ua_flaws.specs.Flaws.{not_member_flaw}
use Rattle.ua_flaws.proofs.ShapeLaws.{told_none}
use Rattle.ua_flaws.proofs.SoundLaws.{not_member_holds}
use Rattle.ua_flaws.proofs.members.not_member.Goals as goal

pub returns-clause-holds : goal.returns-clause-holds
returns-clause-holds c ok =
    not_member_holds c.args.a.now c.args.gens.now c.args.rows.now c.args.target.now c.args.width
    (told_none (not_member_flaw c.args.a.now c.args.gens.now c.args.rows.now c.args.target.now c.args.width) c.not_member_flaws.result c.not_member_flaws.ensures ok)
