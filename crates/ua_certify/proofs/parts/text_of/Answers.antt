use Rattle.std.proofs.Common.{subst, sym}
use Rattle.std.specs.Str.{IsUtf8}
use Rattle.ua_certify.proofs.Words.{name_utf8}
use Rattle.ua_certify.proofs.parts.text_of.Goals as goal

pub unreachable-requires : goal.unreachable-requires
unreachable-requires c =
    let utf8 : IsUtf8 c.in_ok-bytes.bytes.items = subst IsUtf8 (sym c.in_ok-bytes.ensures.items) (subst IsUtf8 (sym c.text.ensures.text) (name_utf8 c.args.name.now c.text.ensures.name)) in
    let bad = c.in_default.ensures.succeeds utf8 in
    cc
