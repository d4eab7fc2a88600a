-- The members of the classes of a network.
use Rattle.std.proofs.Common.{◌≡◌, ℕ, ◌<◌, List, length, map, get_or, [], ◌∷◌, zero, suc, refl, sym, ap, ◌∙◌, subst, arith, Vec}
use Rattle.std.specs.declared.alloc.Global.{Global}
use Rattle.std.specs.List.{AllByRecursion}
use Rattle.std.proofs.lemmas.List.Elements.{All-from_recursion}
use Rattle.ua_climb.specs.Networks.{Network, IsNetwork}

get_or-map : {X Y : Type 0} (f : X → Y) (xs : List X) (i : ℕ) (d : X) → f (get_or xs i d) ≡ get_or (map f xs) i (f d)
get_or-map f [] i d = refl
get_or-map f (x ∷ xs) zero d = refl
get_or-map f (x ∷ xs) (suc i) d = get_or-map f xs i d

-- the members of a class are states
pub members_are_states : (leads : List ℕ) (vs : List (Vec ℕ Global)) (g : Network) (c : ℕ) (v : Vec ℕ Global) (ms : List ℕ)
    → IsNetwork leads (map (λ (w : Vec ℕ Global). w.items) vs) → leads ≡ g.leads → map (λ (w : Vec ℕ Global). w.items) vs ≡ g.members
    → c < length g.members → v ≡ get_or vs c v → ms ≡ v.items → AllByRecursion (λ t. t < length g.leads) ms
members_are_states leads vs g c v ms h same_leads same_members l e same =
    let items = λ (w : Vec ℕ Global). w.items in
    let within : c < length (map items vs) = omega (arith, ap length same_members) in
    let all = All-from_recursion (AllByRecursion (λ t. t < length leads)) (map items vs) h.states c v.items within in
    let here : get_or (map items vs) c v.items ≡ ms = sym (get_or-map items vs c v) ∙ ap items (sym e) ∙ sym same in
    subst (λ (ks : List ℕ). AllByRecursion (λ t. t < length ks) ms) same_leads (subst (AllByRecursion (λ t. t < length leads)) here all)
