-- At the front of tokens stands at most one block.
use Rattle.ua_operands.proofs.Vocabulary.{AllByRecursion, flat_map, is_name, Placed, same, Element, Wanted, IsSign, sign, numeral, element, may_spell, AreSpelled, Front, IsBlockAt}
use Rattle.ua_script.proofs.Vocabulary.{Block, operation, naming, body, IsBlockOperation, IsBlock, MayName}
use Rattle.std.specs.List.{IsDistinct}
use Rattle.std.proofs.Common.{◌≡◌, inl, inr, Bool, ℕ, ◌<◌, ◌≤◌, ◌^◌, true, false, List, [], ◌∷◌, ◌++◌, length, map, nat_eq, Some, codes, refl, sym, ap, ◌∙◌, subst, append_assoc, append-nil, arith}
use Rattle.std.specs.Cmp.Lexicographic.{pointwise}
use Rattle.std.proofs.lemmas.Bool.{false≢true}
use Rattle.ua_table.specs.Algebras.{Operation}
use Rattle.ua_text.specs.declared.symbols.Role.TheVariants as roles
use Rattle.ua_text.specs.inner.Reading.{AreLabels}
use Rattle.ua_text.proofs.BlocksRead.{limited}
use Rattle.ua_text.proofs.ReadLaws.{element_is, algebra_is, block_is, body_then}
use Rattle.ua_text.proofs.SpelledLaws.{spelled_left}
use Rattle.ua_text.proofs.WordLaws.{same-true}
use Rattle.ua_script.proofs.OperandReadings.{same_value}
use Rattle.ua_script.proofs.TokenReadings.{Left, Same, IsDetermined, Any, IsTold, NoMore, clash, closed, many}

-- ---- operations

same_element : (names : List (List ℕ)) (x y : ℕ) (t : List ℕ) → AreLabels names → x < 1000000000 → y < 1000000000 → IsSign (Element names x) t → IsSign (Element names y) t → x ≡ y
same_element names x y t labels k l s u =
    let e : Some x ≡ Some y = sym (element_is names x t labels k s) ∙ element_is names y t labels l u in cc

one_table : (names : List (List ℕ)) (n : ℕ) (xs ys : List ℕ) (ts : List Placed) (us vs : List Wanted) (l r : List Placed) → AreLabels names → n ≤ 1000 → length xs ≡ length ys
    → AllByRecursion (λ v. v < n) xs → AllByRecursion (λ v. v < n) ys → Front ts (map (element names) xs ++ us) l → Front ts (map (element names) ys ++ vs) r → Same xs ys us vs l r
one_table names n [] [] ts us vs l r labels m e p q f g = (refl, record { left = ts; first = f; second = g })
one_table names n [] (y ∷ ys) ts us vs l r labels m e p q f g = absurd (omega (arith, e))
one_table names n (x ∷ xs) [] ts us vs l r labels m e p q f g = absurd (omega (arith, e))
one_table names n (x ∷ xs) (y ∷ ys) [] us vs l r labels m e p q f g = absurd f
one_table names n (x ∷ xs) (y ∷ ys) (t ∷ ts) us vs l r labels m e p q f g =
    let k = p.0 in let j = q.0 in
    let same : x ≡ y = same_element names x y t.text labels (omega arith) (omega arith) f.1 g.1 in
    let rest = one_table names n xs ys ts us vs l r labels m (omega (arith, e)) p.1 q.1 f.3 g.3 in
    (ap (λ z. z ∷ xs) same ∙ ap (λ z. y ∷ z) rest.0, rest.1)

abbrev operation_of : List ℕ → ℕ → ℕ → List ℕ → Operation
operation_of name size arity values = record { name = name; size = size; arity = arity; values = values }

operation_is : {o : Operation} (name : List ℕ) (size arity : ℕ) (values : List ℕ) → name ≡ o.name → size ≡ o.size → arity ≡ o.arity → values ≡ o.values → operation_of name size arity values ≡ o
operation_is {o} name size arity values e f g h =
    ap (λ z. operation_of z size arity values) e ∙ ap (λ z. operation_of o.name z arity values) f ∙ ap (λ z. operation_of o.name o.size z values) g ∙ ap (λ z. operation_of o.name o.size o.arity z) h

few_places : {size : ℕ} (o : Operation) → IsBlockOperation size o → o.arity < 1000000000
few_places o h = let a = h.arity in omega arith

one_operation : (names : List (List ℕ)) (size : ℕ) (l r : List Placed) → AreLabels names → size ≤ 1000 → IsDetermined (operation names) (IsBlockOperation size) Any l r
one_operation names size l r labels m o q [] us vs h k a b f g = absurd f
one_operation names size l r labels m o q (t0 ∷ []) us vs h k a b f g = absurd f.3
one_operation names size l r labels m o q (t0 ∷ t1 ∷ []) us vs h k a b f g = absurd f.3.3
one_operation names size l r labels m o q (t0 ∷ t1 ∷ t2 ∷ []) us vs h k a b f g = absurd f.3.3.3
one_operation names size l r labels m o q (t0 ∷ t1 ∷ t2 ∷ t3 ∷ ts) us vs h k a b f g =
    let name : o.name ≡ q.name = sym f.3.1 ∙ g.3.1 in
    let on : o.size ≡ q.size = h.on ∙ sym k.on in
    let arity : o.arity ≡ q.arity = same_value o.arity q.arity t2.text (few_places o h) (few_places q k) f.3.3.1 g.3.3.1 in
    let count : length o.values ≡ length q.values = h.operation.total ∙ ap (λ z. z ^ o.arity) on ∙ ap (λ z. q.size ^ z) arity ∙ sym k.operation.total in
    let first : AllByRecursion (λ v. v < size) o.values = subst (λ z. AllByRecursion (λ v. v < z) o.values) h.on h.operation.below in
    let second : AllByRecursion (λ v. v < size) q.values = subst (λ z. AllByRecursion (λ v. v < z) q.values) k.on k.operation.below in
    let values = one_table names size o.values q.values ts us vs l r labels m count first second f.3.3.3.3 g.3.3.3.3 in
    (operation_is {o = q} o.name o.size o.arity o.values name on arity values.0, values.1)

-- what ends the operations
abbrev EndsOperations : List Wanted → Type 0
EndsOperations [] = ⊥
EndsOperations (w ∷ ws) = may_spell w.sign (codes "op") ≡ false

no_more_operations : (names : List (List ℕ)) (size : ℕ) (l r : List Placed) → NoMore (operation names) (IsBlockOperation size) EndsOperations l r
no_more_operations names size l r o ts us [] h e f g = e
no_more_operations names size l r o [] us (w ∷ vs) h e f g = f
no_more_operations names size l r o (t ∷ ts) us (w ∷ vs) h e f g = clash w t.text (codes "op") g.1 e f.1

-- ---- names

no_mark : (n : List ℕ) → is_name n ≡ true → may_spell (sign roles.Named n).sign (codes ")") ≡ false
no_mark n h = at (same n (codes ")")) refl
  where
    at : (b : Bool) → same n (codes ")") ≡ b → b ≡ false
    at false e = refl
    at true e = let f : n ≡ codes ")" = same-true n (codes ")") e in absurd (false≢true (subst (λ z. is_name z ≡ true) f h))

same_name : IsTold (sign roles.Named) (λ n. is_name n ≡ true)
same_name x y t k l s a u b = sym s ∙ u

-- what stands behind the names
abbrev behind_names : List (List ℕ) → List Operation → List Wanted → List Wanted
behind_names names os us = flat_map (operation names) os ++ sign roles.Line (codes "end") ∷ us

not_names : {G : Type 0} (names : List (List ℕ)) (os : List Operation) (t : Placed) (ts : List Placed) (us : List Wanted) (l : List Placed) → Front (t ∷ ts) (behind_names names os us) l → t.text ≡ codes "names" → G
not_names names [] t ts us l f e = clash (sign roles.Line (codes "end")) t.text (codes "names") f.1 refl e
not_names names (o ∷ os) t ts us l f e = clash (sign roles.Line (codes "op")) t.text (codes "names") f.1 refl e

listed : (n : List ℕ) (ns : List (List ℕ)) (ts : List Placed) (ws : List Wanted) (l : List Placed) → Front ts ((sign roles.Named n ∷ map (sign roles.Named) ns ++ sign roles.Closes (codes ")") ∷ []) ++ ws) l
    → Front ts (map (sign roles.Named) (n ∷ ns) ++ sign roles.Closes (codes ")") ∷ ws) l
listed n ns ts ws l f = subst (λ z. Front ts z l) (append_assoc (map (sign roles.Named) (n ∷ ns)) (sign roles.Closes (codes ")") ∷ []) ws) f

one_naming : (ns ms : List (List ℕ)) (os ps : List Operation) (ts : List Placed) (us vs : List Wanted) (l r : List Placed) → AllByRecursion (λ n. is_name n ≡ true) ns → AllByRecursion (λ n. is_name n ≡ true) ms
    → Front ts (naming ns ++ behind_names ns os us) l → Front ts (naming ms ++ behind_names ms ps vs) r → Same ns ms (behind_names ns os us) (behind_names ms ps vs) l r
one_naming [] [] os ps ts us vs l r p q f g = (refl, record { left = ts; first = f; second = g })
one_naming [] (m ∷ ms) os ps [] us vs l r p q f g = absurd g
one_naming [] (m ∷ ms) os ps (t ∷ ts) us vs l r p q f g = not_names [] os t ts us l f g.1
one_naming (n ∷ ns) ms os ps [] us vs l r p q f g = absurd f
one_naming (n ∷ ns) [] os ps (t ∷ ts) us vs l r p q f g = not_names [] ps t ts vs r g f.1
one_naming (n ∷ ns) (m ∷ ms) os ps (t ∷ []) us vs l r p q f g = absurd f.3
one_naming (n ∷ ns) (m ∷ ms) os ps (t ∷ s ∷ ts) us vs l r p q f g =
    let rest = behind_names (n ∷ ns) os us in
    let other = behind_names (m ∷ ms) ps vs in
    let names = closed (λ (x : List ℕ). is_name x ≡ true) (sign roles.Named) (sign roles.Closes (codes ")")) (codes ")") refl no_mark same_name rest other l r in
    names (n ∷ ns) (m ∷ ms) ts p q (listed n ns ts rest l f.3.3) (listed m ms ts other r g.3.3)

-- ---- a block

-- a block whose tokens are spelled as their roles say
abbrev pub IsSpelledBlock : ℕ → Block → Type 0
IsSpelledBlock v b = IsBlock v b × AreSpelled (body b)

each_name : (ns : List (List ℕ)) → AreSpelled (map (sign roles.Named) ns) → AllByRecursion (λ n. is_name n ≡ true) ns
each_name [] h = tt
each_name (n ∷ ns) h = (h.0, each_name ns h.1)

named : (ns : List (List ℕ)) (ws : List Wanted) → AreSpelled (naming ns ++ ws) → AllByRecursion (λ n. is_name n ≡ true) ns
named [] ws h = tt
named (n ∷ ns) ws h = each_name (n ∷ ns) (spelled_left (map (sign roles.Named) (n ∷ ns)) (sign roles.Closes (codes ")") ∷ []) (spelled_left (naming (n ∷ ns)) ws h).1.1)

labels : (v size : ℕ) (names : List (List ℕ)) → AllByRecursion (λ n. is_name n ≡ true) names → MayName v size names → AreLabels names
unfolding IsDistinct
labels v size names each m = record { words = each; distinct = apart names m }
  where
    apart : (names : List (List ℕ)) → MayName v size names → IsDistinct (pointwise nat_eq) names
    apart [] m = tt
    apart (n ∷ ns) (inl e) = cc
    apart (n ∷ ns) (inr m) = m.1.distinct

-- the operations, and the end
one_inside : (size : ℕ) (names : List (List ℕ)) (os ps : List Operation) (ts : List Placed) (us vs : List Wanted) (l r : List Placed) → AreLabels names → size ≤ 1000 → AllByRecursion (IsBlockOperation size) os
    → AllByRecursion (IsBlockOperation size) ps → Front ts (behind_names names os us) l → Front ts (behind_names names ps vs) r → Same os ps us vs l r
one_inside size names os ps ts us vs l r labels m p q f g =
    let the_end = sign roles.Line (codes "end") in
    let all = many (IsBlockOperation size) (operation names) EndsOperations Any l r (one_operation names size l r labels m) (λ xs us p e. tt) (no_more_operations names size l r) (no_more_operations names size r l) in
    let h = all os ps ts (the_end ∷ us) (the_end ∷ vs) p q refl refl f g in
    (h.0, behind h.1.left h.1.first h.1.second)
  where
    behind : (ts : List Placed) → Front ts (sign roles.Line (codes "end") ∷ us) l → Front ts (sign roles.Line (codes "end") ∷ vs) r → Left us vs l r
    behind [] f g = absurd f
    behind (t ∷ ts) f g = record { left = ts; first = f.3; second = g.3 }

pub one_body : (v : ℕ) (l r : List Placed) → IsDetermined body (IsSpelledBlock v) Any l r
one_body v l r b c ts us vs h k d e f g = at ts (body_then ts b us l f) (body_then ts c vs r g)
  where
    Then : Block → List Wanted → List Placed → List Placed → Type 0
    Then b us ts l = Front ts (sign roles.Named b.algebra.name ∷ sign roles.Exact (codes "size") ∷ numeral roles.Amount b.algebra.size ∷ (naming b.names ++ behind_names b.names b.algebra.operations us)) l

    words : (b : Block) → IsSpelledBlock v b → AllByRecursion (λ n. is_name n ≡ true) b.names
    words b h = named b.names (flat_map (operation b.names) b.algebra.operations ++ sign roles.Line (codes "end") ∷ []) h.1.1.1.1

    small : (b : Block) → IsSpelledBlock v b → b.algebra.size ≤ 1000
    small b h = limited v b.algebra.size h.0.algebra.small

    at : (ts : List Placed) → Then b us ts l → Then c vs ts r → Same b c us vs l r
    at [] f g = absurd f
    at (t0 ∷ []) f g = absurd f.3
    at (t0 ∷ t1 ∷ []) f g = absurd f.3.3
    at (t0 ∷ t1 ∷ t2 ∷ ts) f g =
        let few = small b h in let few_others = small c k in
        let name : b.algebra.name ≡ c.algebra.name = sym f.1 ∙ g.1 in
        let size : b.algebra.size ≡ c.algebra.size = same_value b.algebra.size c.algebra.size t2.text (omega arith) (omega arith) f.3.3.1 g.3.3.1 in
        let n = one_naming b.names c.names b.algebra.operations c.algebra.operations ts us vs l r (words b h) (words c k) f.3.3.3 g.3.3.3 in
        let second : Front n.1.left (behind_names b.names c.algebra.operations vs) r = subst (λ z. Front n.1.left (behind_names z c.algebra.operations vs) r) (sym n.0) n.1.second in
        let each : AllByRecursion (IsBlockOperation b.algebra.size) c.algebra.operations = subst (λ z. AllByRecursion (IsBlockOperation z) c.algebra.operations) (sym size) k.0.algebra.each in
        let known = labels v b.algebra.size b.names (words b h) h.0.names in
        let o = one_inside b.algebra.size b.names b.algebra.operations c.algebra.operations n.1.left us vs l r known few h.0.algebra.each each n.1.first second in
        (block_is b.algebra b.names c (algebra_is name size o.0) n.0, o.1)

-- nothing else is wanted
alone : (v : ℕ) (b : Block) (t : Placed) (ts rest : List Placed) → IsBlockAt v b (t ∷ ts) rest → Front ts (body b ++ []) rest
alone v b t ts rest h = subst (λ z. Front ts z rest) (sym (append-nil (body b))) h.front.3

pub one_block_at : (v : ℕ) (ts l r : List Placed) (b c : Block) → IsBlockAt v b ts l → IsBlockAt v c ts r → (b ≡ c) × (l ≡ r)
one_block_at v [] l r b c h k = absurd h.front
one_block_at v (t ∷ ts) l r b c h k =
    let e = one_body v l r b c ts [] [] (h.formed, h.spelled.1) (k.formed, k.spelled.1) tt tt (alone v b t ts l h) (alone v c t ts r k) in
    (e.0, sym e.1.first ∙ e.1.second)
