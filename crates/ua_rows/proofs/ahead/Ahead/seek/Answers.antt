use Rattle.std.proofs.Common.{◌≡◌, ◌<◌, ◌≤◌, ◌++◌, List, [], length, take, drop, get_or, ap, sym, ◌∙◌, subst, arith}
use Rattle.std.specs.Prelude.{Contains}
use Rattle.std.specs.List.{AllByRecursion}
use Rattle.std.proofs.lemmas.List.{length-take-le, get_or-take, take_at}
use Rattle.ua_table.specs.Algebras.{Vector}
use Rattle.ua_rows.specs.Applied.{SoughtValues}
use Rattle.ua_rows.proofs.AppliedLaws.{front_argument}
use Rattle.ua_rows.proofs.ahead.Ahead.seek.Goals as goal

-- so many vectors are written, of those that there are
long : (c : goal.After-self-3-1) → length c.seek_each-near.new.vectors ≡ c.self.inside.vectors.len
long c = c.seek_each-near.auto.vectors ∙ c.as_mut_slice-vectors.ensures.len

short : (c : goal.After-self-3-1) → c.min-count.result ≤ length c.seek_each-near.new.vectors
short c = (let all = long c in let e = c.min-count.ensures in let f = c.min.ensures in omega (arith, all, e, f))

few : (c : goal.After-self-3-1) → length (take c.min-count.result c.args.args.now) ≡ c.min-count.result
few c = length-take-le c.min-count.result c.args.args.now (let e = c.min-count.ensures in let f = c.min.ensures in omega (arith, e, f))

-- what is written back is what was written
written : (c : goal.After-self-3-1) → take c.self.inside.vectors.len (c.seek_each-near.new.vectors ++ drop (length c.seek_each-near.new.vectors) c.self.inside.vectors.items) ≡ c.seek_each-near.new.vectors
written c = take_at c.seek_each-near.new.vectors (drop (length c.seek_each-near.new.vectors) c.self.inside.vectors.items) c.self.inside.vectors.len (long c)

first : (c : goal.After-self-3-1) → length (take c.min-count.result c.seek_each-near.new.vectors) ≡ c.min-count.result
first c = length-take-le c.min-count.result c.seek_each-near.new.vectors (short c)

pub invariant_of-self : goal.invariant_of-self
invariant_of-self c = (
  (let e = ap length (written c) in let s = short c in omega (arith, e, s)),
  subst (AllByRecursion (λ (v : Vector). length v ≡ c.self.inside.width)) (sym (written c))
      (subst (λ m. AllByRecursion (λ (v : Vector). length v ≡ m) c.seek_each-near.new.vectors)
      (sym (ap (λ (s : SoughtValues). s.width) c.self.view_is ∙ c.requires.room)) c.seek_each-near.ensures.widths),
)

pub returns-clause-values : goal.returns-clause-values
returns-clause-values c i low =
    let new = c.seek_each-near.new.vectors in
    let n = c.min-count.result in
    let within : i < n = (let e = ap (λ (vs : List Vector). length (take n vs)) (written c) in let f = first c in omega (arith, low, e, f)) in
    let named : i < length (take n c.args.args.now) = (let e = few c in omega (arith, within, e)) in
    ap (λ (vs : List Vector). get_or (take n vs) i []) (written c) ∙ get_or-take n new i [] within ∙ c.seek_each-near.ensures.values i named ∙ front_argument c.args.operations.now c.args.op c.args.rows.now.items c.args.args.now n i within

pub returns-clause-found : goal.returns-clause-found
returns-clause-found c i t =
    let n = c.min-count.result in
    let told = c.seek_each-near.ensures.found i t in
    let within : i < n = (let low = told.0 in let e = few c in omega (arith, low, e)) in (
      (let e = ap (λ (vs : List Vector). length (take n vs)) (written c) in let f = first c in omega (arith, within, e, f)),
      subst (Contains c.args.rows.now.items) (front_argument c.args.operations.now c.args.op c.args.rows.now.items c.args.args.now n i within) told.1,
    )
