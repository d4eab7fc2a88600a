-- The first tuple of an operation at which a map does not go with it.
use Rattle.std.proofs.Common.{◌≡◌, ◌≢◌, ⊎_elim, ℕ, ◌+◌, ◌-◌, ◌^◌, ◌<◌, ◌≤◌, List, [], ◌∷◌, ◌++◌, length, take, drop, set, replicate, get_or, Some, refl, sym, ap, ◌∙◌, subst, arith}
use Rattle.std.specs.Prelude.{◌↔◌, slice_index, slice_get}
use Rattle.std.specs.List.{AllByRecursion}
use Rattle.std.specs.Cmp.Lexicographic.{slice_cmp}
use Rattle.std.specs.Ordering.{nat_cmp, ordering_then}
use Rattle.std.specs.declared.cmp.Ordering.{Ordering}
use Rattle.std.specs.declared.cmp.Ordering.TheVariants.{Less, Equal, Greater}
use Rattle.std.proofs.lemmas.Bool.{cases_lt, cases_eq}
use Rattle.std.proofs.lemmas.List.{length-map, length-replicate, take-replicate, drop-replicate, take-append-drop, take_at, drop_at, take_more, take_more_set, map-append}
use Rattle.std.proofs.lemmas.List.Elements.{All-from_recursion}
use Rattle.std.proofs.lemmas.Option.{slice_get_within}
use Rattle.ua_table.specs.Algebras.{Operation, FiniteAlgebra, IsAlgebra, arities_of, value_at, numeral, signature}
use Rattle.ua_table.specs.Tables.{IsTable}
use Rattle.ua_table.proofs.ApplyLaws.{arities_at, numeral-below}
use Rattle.ua_table.proofs.Codes.{same_digits, numeral_zeros}
use Rattle.ua_table.proofs.Lists.{all_replicate}
use Rattle.ua_prod.proofs.ClashLaws.{arity_is, size_is, value_is}
use Rattle.ua_prod.proofs.Numerals.{digits_less, cmp-append, cmp_same}
use Rattle.ua_sub.specs.declared.flaws.HomFlaw.{HomFlaw}
use Rattle.ua_sub.specs.Flaws.{images_of, GoesWith, IsHom, arguments_in, IsFlaw}
use Rattle.ua_sub.specs.inner.Searches.{NoFlawOf, IsFirstOf}

abbrev zeros : ℕ → List ℕ
zeros k = replicate k 0

-- ---- an operation of two algebras of one signature

module _ (a b : FiniteAlgebra) (alg_a : IsAlgebra a) (alg_b : IsAlgebra b) (similar : signature b ≡ signature a) where
  pub arities_same : arities_of b ≡ arities_of a
  arities_same = arities_at (a ∷ b ∷ []) 1 b (record { wide = omega arith; algebras = (alg_a, (alg_b, tt)); similar = (refl, (similar, tt)) }) refl

-- the images of elements
pub images_below : (n : ℕ) (images args : List ℕ) → AllByRecursion (λ x. x < n) images → AllByRecursion (λ x. x < length images) args → AllByRecursion (λ x. x < n) (images_of images args)
images_below n images [] h k = tt
images_below n images (x ∷ xs) h k = (All-from_recursion (λ y. y < n) images h x 0 k.0, images_below n images xs h k.1)

pub images_more : (images args list : List ℕ) (i x : ℕ) → take i list ≡ images_of images (take i args) → i < length list → i < length args
    → x ≡ get_or args i 0 → take (i + 1) (set list i (slice_index images x)) ≡ images_of images (take (i + 1) args)
images_more images args list i x before low within is =
    take_more_set list i (slice_index images x) low
    ∙ (λ k. before k ++ slice_index images (is k) ∷ [])
    ∙ sym (map-append (slice_index images) (take i args) (get_or args i 0 ∷ []))
    ∙ ap (images_of images) (sym (take_more args i 0 within))

-- ---- flaws by the number of their arguments

-- the arguments are those of a number, and no flaw of the operation has arguments of a smaller one
pub record IsAtTuple (a b : FiniteAlgebra) (images : List ℕ) (f count index : ℕ) (args : List ℕ) : Type 0 where
  pub arity : slice_index (arities_of a) f ≡ count
  pub long : length (take count args) ≡ count
  pub unused : drop count args ≡ zeros (4 - count)
  pub below : AllByRecursion (λ x. x < a.size) (take count args)
  pub number : index < a.size ^ count → numeral a.size (take count args) ≡ index
  pub none : (other : HomFlaw) → IsFlaw a b images other → other.op ≡ f → numeral a.size (arguments_in a other) < index → ⊥

pub tuple_first : (a b : FiniteAlgebra) (images : List ℕ) (f count : ℕ) → 0 < a.size → count ≤ 4 → slice_index (arities_of a) f ≡ count → IsAtTuple a b images f count 0 (zeros 4)
tuple_first a b images f count some few arity =
    let front : take count (zeros 4) ≡ zeros count = take-replicate count 4 0 few in
    record {
      arity = arity;
      long = ap length front ∙ length-replicate count 0;
      unused = drop-replicate count 4 0;
      below = subst (AllByRecursion (λ x. x < a.size)) (sym front) (all_replicate (λ x. x < a.size) count 0 some);
      number = λ w. ap (numeral a.size) front ∙ numeral_zeros a.size count;
      none = λ other flaw op_is less. absurd (omega (arith, less));
    }

module _ (a b : FiniteAlgebra) (images : List ℕ) (f count : ℕ) (o : Operation) (alg : IsAlgebra a) (stands : slice_get a.operations f ≡ Some o) (table : IsTable o) where
  -- the arguments of a flaw, and their number
  arguments_are : (other : HomFlaw) → IsFlaw a b images other → other.op ≡ f → slice_index (arities_of a) f ≡ count → arguments_in a other ≡ take count other.args
  arguments_are other flaw op_is arity = ap (λ k. take k other.args) (ap (slice_index (arities_of a)) op_is ∙ arity)

  other_below : (other : HomFlaw) → IsFlaw a b images other → other.op ≡ f → numeral a.size (arguments_in a other) < length o.values
  other_below other flaw op_is =
      let bound = numeral-below a.size (arguments_in a other) flaw.application.earlier in
      let arity : slice_index (arities_of a) other.op ≡ o.arity = ap (slice_index (arities_of a)) op_is ∙ arity_is a f o stands in
      let power : a.size ^ length (arguments_in a other) ≡ o.size ^ o.arity = λ i. sym (size_is a f o alg stands) i ^ (flaw.application.count ∙ arity) i in
      omega (arith, bound, power, table.operation.total)

  -- the number of values of the operation
  pub values_count : slice_index (arities_of a) f ≡ count → length o.values ≡ a.size ^ count
  values_count arity = table.operation.total ∙ (λ i. size_is a f o alg stands i ^ (sym (arity_is a f o stands) ∙ arity) i)

  module _ (index : ℕ) (args : List ℕ) (h : IsAtTuple a b images f count index args) (within : index < length o.values) where
    number_is : numeral a.size (take count args) ≡ index
    number_is = h.number (let e = values_count h.arity in omega (arith, within, e))

    -- the value of the operation at the arguments
    pub value_here : value_at a f (take count args) ≡ slice_index o.values index
    value_here = value_is a f o stands (take count args) ∙ ap (slice_index o.values) number_is

    -- whether the map goes with the operation here is told by two values of the tables
    pub goes_here : (o' : Operation) → IsAlgebra b → slice_get b.operations f ≡ Some o' → (x y : ℕ) → x ≡ slice_index o.values index
        → y ≡ slice_index o'.values (numeral o'.size (images_of images (take count args)))
        → GoesWith a b images f (take count args) ↔ (slice_index images x ≡ y)
    goes_here o' alg_b stands_b x y x_is y_is =
        let left : slice_index images (value_at a f (take count args)) ≡ slice_index images x = ap (slice_index images) (value_here ∙ sym x_is) in
        let right : value_at b f (images_of images (take count args)) ≡ y =
        value_is b f o' stands_b (images_of images (take count args)) ∙ ap (λ n. slice_index o'.values (numeral n (images_of images (take count args)))) (sym (size_is b f o' alg_b stands_b)) ∙ sym y_is in
        (λ goes. sym left ∙ goes ∙ right, λ e. left ∙ e ∙ sym right)

    -- another flaw of the same number has the same arguments
    same_arguments : (other : HomFlaw) → IsFlaw a b images other → other.op ≡ f → numeral a.size (arguments_in a other) ≡ index → arguments_in a other ≡ take count args
    same_arguments other flaw op_is same =
        same_digits a.size (arguments_in a other) (take count args) flaw.application.earlier h.below (flaw.application.count ∙ ap (slice_index (arities_of a)) op_is ∙ h.arity ∙ sym h.long) (same ∙ sym number_is)

    -- where the map goes with the operation here, the next tuple is looked at
    pub tuple_more : (changed : List ℕ) → GoesWith a b images f (take count args) → length (take count changed) ≡ count → drop count changed ≡ drop count args → AllByRecursion (λ x. x < a.size) (take count changed)
        → (numeral a.size (take count args) + 1 < a.size ^ length (take count args) → numeral a.size (take count changed) ≡ numeral a.size (take count args) + 1) → IsAtTuple a b images f count (index + 1) changed
    tuple_more changed goes long rest below next = record {
      arity = h.arity;
      long = long;
      unused = rest ∙ h.unused;
      below = below;
      number = λ w. (let n = number_is in let p = ap (λ k. a.size ^ k) h.long in let e = next (omega (arith, n, w, p)) in omega (arith, e, n));
      none = λ other flaw op_is less. ⊎_elim
          (λ before. h.none other flaw op_is before)
          (λ after. flaw.apart (subst (λ (q : ℕ × List ℕ). GoesWith a b images q.0 q.1) (λ i. (sym op_is i, sym (same_arguments other flaw op_is (omega (arith, less, after))) i)) goes))
          (cases_lt (numeral a.size (arguments_in a other)) index);
    }

    -- where it does not, this is the first flaw
    pub first_here : ¬ GoesWith a b images f (take count args) → IsFirstOf a b images f (record { op = f; args = args })
    first_here apart = record {
      is_flaw = record {
        application = record {
          operation = (let w = slice_get_within a.operations f o stands in let l = length-map a.operations (λ (q : Operation). q.arity) in omega (arith, w, l));
          count = ap (λ k. length (take k args)) h.arity ∙ h.long ∙ sym h.arity;
          earlier = subst (λ k. AllByRecursion (λ x. x < a.size) (take k args)) (sym h.arity) h.below;
          unused = ap (λ k. drop k args) h.arity ∙ h.unused ∙ ap (λ k. zeros (4 - k)) (sym h.arity);
        };
        apart = λ goes. apart (subst (λ k. GoesWith a b images f (take k args)) h.arity goes);
      };
      op_is = refl;
      first = not_after;
    }
      where
        not_after : (other : HomFlaw) → IsFlaw a b images other → other.op ≡ f → slice_cmp nat_cmp args other.args ≢ Greater
        not_after other flaw op_is =
            let xs = take count args in
            let arity : slice_index (arities_of a) other.op ≡ count = ap (slice_index (arities_of a)) op_is ∙ h.arity in
            let ys_are : arguments_in a other ≡ take count other.args = ap (λ k. take k other.args) arity in
            let unused : drop count other.args ≡ zeros (4 - count) = ap (λ k. drop k other.args) (sym arity) ∙ flaw.application.unused ∙ ap (λ k. zeros (4 - k)) arity in
            let cut : args ≡ take count args ++ zeros (4 - count) = sym (take-append-drop count args) ∙ ap (λ (zs : List ℕ). take count args ++ zs) h.unused in
            let cut_other : other.args ≡ arguments_in a other ++ zeros (4 - count) = sym (take-append-drop count other.args) ∙ (λ i. sym ys_are i ++ unused i) in
            let lengths : length (take count args) ≡ length (arguments_in a other) = h.long ∙ sym (flaw.application.count ∙ arity) in
            let whole : slice_cmp nat_cmp args other.args ≡ ordering_then (slice_cmp nat_cmp (take count args) (arguments_in a other)) (slice_cmp nat_cmp (zeros (4 - count)) (zeros (4 - count))) =
            (λ i. slice_cmp nat_cmp (cut i) (cut_other i)) ∙ cmp-append (take count args) (arguments_in a other) (zeros (4 - count)) (zeros (4 - count)) lengths in
            ⊎_elim
            (λ before. absurd (h.none other flaw op_is before))
            (λ after. ⊎_elim
            (λ less.
            let l = digits_less a.size (take count args) (arguments_in a other) h.below flaw.application.earlier lengths (let n = number_is in omega (arith, n, less)) in
            λ g. (let e : Less ≡ Greater = sym (whole ∙ ap (λ (x : Ordering). ordering_then x (slice_cmp nat_cmp (zeros (4 - count)) (zeros (4 - count)))) l) ∙ g in cc))
            (λ equal.
            let same = same_arguments other flaw op_is (omega (arith, after, equal)) in
            let e1 : slice_cmp nat_cmp (take count args) (arguments_in a other) ≡ Equal = ap (λ (zs : List ℕ). slice_cmp nat_cmp zs (arguments_in a other)) (sym same) ∙ cmp_same (arguments_in a other) in
            λ g. (let e : Equal ≡ Greater = sym (whole ∙ ap (λ (x : Ordering). ordering_then x (slice_cmp nat_cmp (zeros (4 - count)) (zeros (4 - count)))) e1 ∙ cmp_same (zeros (4 - count))) ∙ g in cc))
            (cases_lt index (numeral a.size (arguments_in a other))))
            (cases_lt (numeral a.size (arguments_in a other)) index)

  -- where all tuples were looked at, the operation has no flaw
  pub none_at_end : (index : ℕ) (args : List ℕ) → IsAtTuple a b images f count index args → length o.values ≤ index → NoFlawOf a b images f
  none_at_end index args h all other flaw op_is = h.none other flaw op_is (let w = other_below other flaw op_is in omega (arith, w, all))

-- ---- operation by operation

-- a map without a flaw is a homomorphism
pub hom_without : (a b : FiniteAlgebra) (images : List ℕ) → ((f : ℕ) → f < length (arities_of a) → NoFlawOf a b images f) → IsHom a b images
hom_without a b images none f args within count below = ⊎_elim (λ e. e) (λ apart. absurd (none f within _ (flawed apart) refl)) (cases_eq (slice_index images (value_at a f args)) (value_at b f (images_of images args)))
  where
    padded : List ℕ
    padded = args ++ zeros (4 - slice_index (arities_of a) f)

    front : take (slice_index (arities_of a) f) padded ≡ args
    front = take_at args (zeros (4 - slice_index (arities_of a) f)) (slice_index (arities_of a) f) count

    flawed : ¬ GoesWith a b images f args → IsFlaw a b images (record { op = f; args = padded })
    flawed apart = record {
      application = record {
        operation = within;
        count = ap length front ∙ count;
        earlier = subst (AllByRecursion (λ x. x < a.size)) (sym front) below;
        unused = drop_at args (zeros (4 - slice_index (arities_of a) f)) (slice_index (arities_of a) f) count;
      };
      apart = λ goes. apart (subst (GoesWith a b images f) front goes);
    }
