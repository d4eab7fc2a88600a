use Rattle.std.proofs.Common.{◌≡◌, ℕ, Vec, Global, map, sym, ap, subst, ◌∙◌}
use Rattle.std.specs.Prelude.{IfOk, option_map, string_bytes}
use Rattle.serde_json.specs.View.{members_view}
use Rattle.std.proofs.lemmas.Simd.{map-map}
use Rattle.ua_cert.specs.Reading.{keys_of, first_unlike}
use Rattle.ua_cert.proofs.ReadLaws.{keys_view}
use Rattle.ua_cert.proofs.parsing.unlike_key.Goals as goal

pub returns : goal.returns
returns c =
    let keys = sym (map-map string_bytes (λ k. k.now) c.as_slice.result.now) ∙ ap (λ ks. map string_bytes (map (λ k. k.now) ks)) c.as_slice.ensures.value ∙ ap (map string_bytes) c.in_ok-keys.ensures ∙ keys_view c.args.object.now.entries in
    subst (λ ws. IfOk c.first_unlike.result (λ key. option_map (λ (k : Vec ℕ Global). k.items) key ≡ first_unlike ws (keys_of (members_view c.args.object.now.entries)))) c.keys_for.ensures
    (subst (λ ls. IfOk c.first_unlike.result (λ key. option_map (λ (k : Vec ℕ Global). k.items) key ≡ first_unlike (map (λ w. w.now) c.keys_for.result.now) ls)) keys c.first_unlike.ensures)
