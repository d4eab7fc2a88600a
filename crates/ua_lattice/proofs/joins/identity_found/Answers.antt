use Rattle.std.proofs.Common.{◌≡◌, ◌∷◌, [], ◌++◌, ℕ, List, length, ap, sym, ◌∙◌, subst, arith}
use Rattle.std.proofs.lemmas.List.FromFn.{length-range_with_len}
use Rattle.ua_part.specs.Partitions.{Partition, identity_on}
use Rattle.ua_lattice.specs.inner.Joins.{IsSpannedLattice}
use Rattle.ua_lattice.proofs.FoundLaws.{identity_lattice}
use Rattle.ua_lattice.proofs.joins.identity_found.Goals as goal

-- the identity of so many elements has so many entries
entries : (n m : ℕ) (p : Partition) → p ≡ identity_on n → n ≡ m → length p ≡ m
entries n m p is same = ap length is ∙ length-range_with_len 0 n ∙ same

pub copy-requires-clause-size : goal.copy-requires-clause-size
copy-requires-clause-size c = entries c.size-2.result c.args.algebra.now.size c.in_ok-identity.field-0 c.in_ok-identity.ensures c.size-2.ensures.size ∙ sym c.requires

pub copy-requires-clause-few : goal.copy-requires-clause-few
copy-requires-clause-few c =
    let long = entries c.size-2.result c.args.algebra.now.size c.in_ok-identity.field-0 c.in_ok-identity.ensures c.size-2.ensures.size in
    omega (arith, long, c.size.ensures.algebra.small)

pub push-requires-clause-width : goal.push-requires-clause-width
push-requires-clause-width c =
    let long = entries c.size-2.result c.args.algebra.now.size c.in_ok-identity.field-0 c.in_ok-identity.ensures c.size-2.ensures.size in
    ap length (c.as_slice.ensures.value ∙ c.copy-2.ensures) ∙ long ∙ sym (c.new-rows.ensures.width ∙ c.size.ensures.size)

pub returns-in_err-push-clause-joiner : goal.returns-in_err-push-clause-joiner
returns-in_err-push-clause-joiner c =
    ap length c.copy-2.ensures ∙ entries c.size-2.result c.args.algebra.now.size c.in_ok-identity.field-0 c.in_ok-identity.ensures c.size-2.ensures.size ∙ sym c.requires

pub returns-clause-joiner : goal.returns-clause-joiner
returns-clause-joiner c =
    ap length c.copy-2.ensures ∙ entries c.size-2.result c.args.algebra.now.size c.in_ok-identity.field-0 c.in_ok-identity.ensures c.size-2.ensures.size ∙ sym c.requires

pub returns-clause-found : goal.returns-clause-found
returns-clause-found c =
    let a = c.args.algebra.now in
    let new = c.push.new.self.items in
    let row = c.as_slice.ensures.value ∙ c.copy-2.ensures ∙ c.in_ok-identity.ensures ∙ ap identity_on c.size-2.ensures.size in
    let is : new ≡ identity_on a.size ∷ [] = c.in_ok-push.ensures.ok ∙ (λ i. c.new-rows.ensures.empty i ++ row i ∷ []) in
    subst (λ (gens : List Partition). IsSpannedLattice a gens new) (sym c.new.ensures.items) (identity_lattice a new c.size.ensures.algebra.algebra is)
