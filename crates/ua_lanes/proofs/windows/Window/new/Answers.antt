use Rattle.std.proofs.Common.{◌≡◌, ◌/◌, ◌%◌, ◌^◌, ℕ, List, length, subst, sym, ap, ◌∙◌, arith, refl}
use Rattle.std.proofs.Math.Nat.{div-le_self}
use Rattle.std.specs.Prelude.{vec_len}
use Rattle.ua_columns.specs.Columns.{AreBelow}
use Rattle.ua_lanes.proofs.windows.Window.new.Goals as goal

-- no bit of 0 is set
none_set : (r : ℕ) → 0 / 2 ^ r % 2 ≡ 1 → ⊥
none_set r bit = let low = div-le_self 0 (2 ^ r) in omega (arith, low, bit)

pub returns : goal.returns
returns c p in_bytes is are = record {
  place = omega arith;
  four = refl;
  lines_long =
      (let n = c.in_ok-push_tiles.ensures.length in
      let z = ap (length {A = List (List ℕ)}) c.new-lines.ensures.items in
      let l = c.push_tiles.new.tiles.ok.0 in let e : vec_len c.push_tiles.new.tiles ≡ c.args.tiles = omega (arith, n, z, l) in e ∙ is);
  values_long = c.in_ok-vec.ensures.len ∙ are;
  bytes = c.push_tiles.ensures.low 256 (omega arith) (subst (AreBelow 256) (sym c.new-lines.ensures.items) tt);
  lined = λ t. absurd cc;
  told = λ r low bit. absurd (none_set r bit);
}
