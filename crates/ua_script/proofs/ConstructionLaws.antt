-- Constructions as they stand at the front of tokens.
use Rattle.ua_operands.proofs.Vocabulary.{same, Placed, Wanted, sign, Front, begins_item}
use Rattle.ua_script.proofs.Vocabulary.{Word, Items, PartText, Part, MakeForm, Product, Quotient, Sub, Reduct, Values, values_text, construction, IsShortConstruction, Standing}
use Rattle.std.proofs.Common.{◌≡◌, ℕ, true, false, List, [], ◌∷◌, ◌++◌, codes, refl, subst, append_assoc, append-nil}
use Rattle.std.proofs.lemmas.Bool.{false≢true, true≢false}
use Rattle.ua_text.specs.declared.symbols.Role.TheVariants as roles
use Rattle.ua_text.specs.declared.symbols.Part.TheVariants as parts

-- the word of a construction
abbrev pub first_of : MakeForm → List ℕ
first_of (Product a b) = codes "product"
first_of (Quotient a p) = codes "quotient"
first_of (Sub a v) = codes "sub"
first_of (Reduct a ops) = codes "reduct"

-- the parts behind it, and what stands for them
abbrev pub parts_in : MakeForm → List Part
parts_in (Product a b) = parts.Name ∷ parts.Name ∷ []
parts_in (Quotient a p) = parts.Name ∷ parts.Partition ∷ []
parts_in (Sub a v) = parts.Name ∷ parts.Vector ∷ []
parts_in (Reduct a ops) = parts.Name ∷ parts.Names ∷ []

abbrev pub values_in : (m : MakeForm) → Values (parts_in m)
values_in (Product a b) = (a, (b, tt))
values_in (Quotient a p) = (a, (p, tt))
values_in (Sub a v) = (a, (v, tt))
values_in (Reduct a ops) = (a, (ops, tt))

-- what is written for them
abbrev pub behind : MakeForm → List Wanted
behind m = values_text (parts_in m) (values_in m)

pub text_in : (m : MakeForm) → construction m ≡ sign roles.Exact (first_of m) ∷ behind m
text_in (Product a b) = refl
text_in m = simp (append_assoc, append-nil)

pub construction_front : (m : MakeForm) (ts : List Placed) (ws : List Wanted) → Front ts (construction m ++ ws) [] → Front ts (sign roles.Exact (first_of m) ∷ (behind m ++ ws)) []
construction_front m ts ws f = subst (λ z. Front ts (z ++ ws) []) (text_in m) f

-- they stand where the word was read
pub stands : (m : MakeForm) (ts : List Placed) (ws : List Wanted) → IsShortConstruction m → begins_item ws → Front ts (behind m ++ ws) [] → Standing (parts_in m) (values_in m) ts ws
stands (Product a b) ts ws s i f = record { short = (s.0, (s.1, tt)); end = refl; begins = i; front = f }
stands m ts ws s i f = record { short = (s.0, (s.1, tt)); end = refl; begins = i; front = f }

-- the construction whose word was read
module _ (G : MakeForm → Type 0) (t : List ℕ) where
  pub is_product : (m : MakeForm) → t ≡ first_of m → same t (codes "product") ≡ true → ((a b : Word) → G (Product a b)) → G m
  is_product (Product a b) e h k = k a b
  is_product m e h k = absurd (false≢true (subst (λ z. same z (codes "product") ≡ true) e h))

  pub is_quotient : (m : MakeForm) → t ≡ first_of m → same t (codes "quotient") ≡ true → ((a : Word) (p : PartText) → G (Quotient a p)) → G m
  is_quotient (Quotient a p) e h k = k a p
  is_quotient m e h k = absurd (false≢true (subst (λ z. same z (codes "quotient") ≡ true) e h))

  pub is_subalgebra : (m : MakeForm) → t ≡ first_of m → same t (codes "sub") ≡ true → ((a : Word) (v : Items) → G (Sub a v)) → G m
  is_subalgebra (Sub a v) e h k = k a v
  is_subalgebra m e h k = absurd (false≢true (subst (λ z. same z (codes "sub") ≡ true) e h))

  pub is_reduct : (m : MakeForm) → t ≡ first_of m → same t (codes "reduct") ≡ true → ((a : Word) (ops : List Word) → G (Reduct a ops)) → G m
  is_reduct (Reduct a ops) e h k = k a ops
  is_reduct m e h k = absurd (false≢true (subst (λ z. same z (codes "reduct") ≡ true) e h))

  -- one of the four words was read
  pub some_construction : {Q : Type 0} (m : MakeForm) → t ≡ first_of m → same t (codes "product") ≡ false → same t (codes "quotient") ≡ false → same t (codes "sub") ≡ false → same t (codes "reduct") ≡ false → Q
  some_construction (Product a b) e p q s r = absurd (true≢false (subst (λ z. same z (codes "product") ≡ false) e p))
  some_construction (Quotient a x) e p q s r = absurd (true≢false (subst (λ z. same z (codes "quotient") ≡ false) e q))
  some_construction (Sub a v) e p q s r = absurd (true≢false (subst (λ z. same z (codes "sub") ≡ false) e s))
  some_construction (Reduct a ops) e p q s r = absurd (true≢false (subst (λ z. same z (codes "reduct") ≡ false) e r))
