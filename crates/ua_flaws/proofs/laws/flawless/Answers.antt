use Rattle.ua_flaws.proofs.FlawlessLaws.{flawless_member, flawless_not_member, flawless_listing}
use Rattle.ua_flaws.proofs.laws.flawless.Goals as goal

pub returns : goal.returns
returns c = record {
  member = λ a gens steps target width table wide admitted one are value. flawless_member a table gens steps target width wide.0 wide.1 admitted one are value;
  not_member = flawless_not_member;
  listing = λ a gens rows width table l. flawless_listing a table width gens rows l;
}
