use Rattle.ua_flaws.specs.Flaws.{member_flaw}
use Rattle.ua_flaws.proofs.ShapeLaws.{told_none}
use Rattle.ua_flaws.proofs.SoundLaws.{member_holds}
use Rattle.ua_flaws.proofs.members.member.Goals as goal

pub returns-clause-holds : goal.returns-clause-holds
returns-clause-holds c ok =
    member_holds c.args.a.now c.args.gens.now c.args.steps.now c.args.target.now c.args.width
    (told_none (member_flaw c.args.a.now c.args.gens.now c.args.steps.now c.args.target.now c.args.width) c.member_flaws.result c.member_flaws.ensures ok)
