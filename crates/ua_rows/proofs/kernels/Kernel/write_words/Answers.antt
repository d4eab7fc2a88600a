use Rattle.std.proofs.Common.{◌+◌, ◌-◌, ◌*◌, ◌/◌, ◌++◌, ℕ, List, take, refl, ap, ◌∙◌}
use Rattle.std.specs.Prelude.{replicate}
use Rattle.ua_rows.specs.inner.Gathered.{vectors_behind}
use Rattle.ua_rows.specs.Kernels.{base_of, cells_of, looked, looked_from}
use Rattle.ua_rows.proofs.WriteLaws.{written, written_mix, sealed}
use Rattle.ua_rows.proofs.kernels.Kernel.write_words.Goals as goal

pub returns-clause-values : goal.returns-clause-values
returns-clause-values c =
    let f = looked (cells_of c.args.self.now) (base_of c.args.self.now) (vectors_behind c.args.rows.now) in
    let full = (c.args.width - 1) / 4 in
    let cleared = 4 * (full + 1) - c.args.width in
    written f c.write_full-hash.new.out c.put.new.out c.args.width full cleared c.front_of-word.result c.requires.some refl (c.write_full-hash.auto.out ∙ c.requires.long) refl c.write_full-hash.ensures.values c.front_of-word.type_inv
    (c.front_of-word.ensures ∙ ap (λ (bs : List ℕ). take (4 - cleared) bs ++ replicate cleared 0) c.word.ensures) c.put.ensures

pub returns-clause-hash : goal.returns-clause-hash
returns-clause-hash c =
    let f = looked (cells_of c.args.self.now) (base_of c.args.self.now) (vectors_behind c.args.rows.now) in
    let full = (c.args.width - 1) / 4 in
    let cleared = 4 * (full + 1) - c.args.width in
    sealed (looked_from (cells_of c.args.self.now) (base_of c.args.self.now) (vectors_behind c.args.rows.now) 0 c.args.width) c.put.new.out c.mixed.result c.hash_with.result
    (written f c.write_full-hash.new.out c.put.new.out c.args.width full cleared c.front_of-word.result c.requires.some refl (c.write_full-hash.auto.out ∙ c.requires.long) refl c.write_full-hash.ensures.values c.front_of-word.type_inv
    (c.front_of-word.ensures ∙ ap (λ (bs : List ℕ). take (4 - cleared) bs ++ replicate cleared 0) c.word.ensures) c.put.ensures)
    (written_mix f c.write_full-hash.new.out c.put.new.out c.args.width full cleared c.front_of-word.result c.requires.some refl (c.write_full-hash.auto.out ∙ c.requires.long) refl c.write_full-hash.ensures.values c.front_of-word.type_inv
    (c.front_of-word.ensures ∙ ap (λ (bs : List ℕ). take (4 - cleared) bs ++ replicate cleared 0) c.word.ensures) c.put.ensures
    c.write_full-hash.result c.mixed.result c.mixed.ensures c.write_full-hash.ensures.hash)
    c.hash_with.ensures
