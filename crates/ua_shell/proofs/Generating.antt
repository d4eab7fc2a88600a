-- The generated script: what is drawn, one more, and that it is a script in the forms that are built.
use Rattle.std.proofs.Common.{◌≡◌, ℕ, ◌+◌, ◌*◌, ◌/◌, ◌^◌, ◌<◌, List, [], ◌∷◌, ◌++◌, map, codes, inl, refl, ap, ◌∙◌, arith, lit<, lit≤}
use Rattle.std.specs.Prelude.{nat_eq}
use Rattle.std.specs.List.{AllByRecursion, IsDistinct, flat_map, range_with_len}
use Rattle.std.specs.Cmp.Lexicographic.{pointwise}
use Rattle.std.proofs.Math.Nat.{mod-lt}
use Rattle.std.proofs.lemmas.List.{map-append}
use Rattle.std.proofs.lemmas.List.FromFn.{map-range_with_len_more}
use Rattle.ua_table.specs.Numbering.{IsShape}
use Rattle.ua_table.specs.Tables.{IsAlgebraTable}
use Rattle.ua_text.specs.declared.symbols.Role.TheVariants as roles
use Rattle.ua_text.specs.Signs.{Wanted, AreSpelled, sign}
use Rattle.ua_text.specs.Blocks.{block, operation, IsBlock}
use Rattle.ua_text.proofs.PrintedBlocks.{formed_block, spelled_operation}
use Rattle.ua_text.proofs.SpelledLaws.{spelled_both}
use Rattle.ua_prod.specs.Draws.{next_state, state_after, drawn, draws, drawn_algebra, drawn_operation}
use Rattle.ua_prod.proofs.DrawLaws.{draws_more, drawn-IsAlgebraTable, numbered-is_name, state_sum}
use Rattle.ua_operands.specs.Written.{entry as entry_sign, vector}
use Rattle.ua_script.specs.Operands.{AreVectors, IsEntry}
use Rattle.ua_script.specs.Grammar.{command, IsCommand, IsWellFormed}
use Rattle.ua_text.specs.declared.named.Block.{Block}
use Rattle.ua_script.specs.declared.script.Command.{Command}
use Rattle.ua_script.specs.declared.script.Item.{Item}
use Rattle.ua_script.specs.declared.script.Item.TheVariants as items
use Rattle.ua_shell.specs.inner.Outputs.{IsServed}
use Rattle.ua_shell.specs.Generated.{entry, arities, values_drawn, drawn_block, drawn_vector, drawn_vectors, closing, congruences, generated}

-- one entry more, one vector more
pub entries_more : (s i : ℕ) → map entry (draws 3 s (i + 1)) ≡ map entry (draws 3 s i) ++ entry (drawn 3 (state_after s i)) ∷ []
entries_more s i = ap (map entry) (draws_more 3 s i) ∙ map-append entry (draws 3 s i) (drawn 3 (state_after s i) ∷ [])

pub no_vectors : (s : ℕ) → drawn_vectors s 0 ≡ []
unfolding drawn_vectors
no_vectors s = refl

pub vectors_more : (s i : ℕ) → drawn_vectors s (i + 1) ≡ drawn_vectors s i ++ drawn_vector (state_after s (7 * i)) ∷ []
unfolding drawn_vectors
vectors_more s i = map-range_with_len_more (λ i. drawn_vector (state_after s (7 * i))) 0 i i (omega arith)

pub state_behind_vector : (s i : ℕ) → state_after (state_after s (7 * i)) 7 ≡ state_after s (7 * (i + 1))
state_behind_vector s i = let e : 7 * i + 7 ≡ 7 * (i + 1) = omega arith in state_sum s (7 * i) 7 ∙ ap (state_after s) e

-- the algebra is within the limits
shape : IsShape arities
shape = record { few = lit≤ tt; small = (lit≤ tt, (lit≤ tt, tt)) }

tables : (n : ℕ) → IsAlgebraTable (drawn_algebra (codes "G") 3 n arities)
tables n = drawn-IsAlgebraTable (codes "G") 3 n arities (lit< tt) (lit≤ tt) shape (lit≤ tt)

block_formed : (n : ℕ) → IsBlock 1 (drawn_block n)
unfolding drawn_block
block_formed n =
    let b = (formed_block (drawn_algebra (codes "G") 3 n arities) [] (tables n) (inl refl)).algebra in
    record { algebra = record { inhabited = b.inhabited; small = lit≤ tt; few = b.few; each = b.each; names = b.names }; names = inl refl }

block_spelled : (n : ℕ) → AreSpelled (block (drawn_block n))
unfolding drawn_block
block_spelled n =
    let t = (tables n).tables in
    let first = drawn_operation 3 n 0 2 in
    let second = drawn_operation 3 (state_after n 9) 1 1 in
    let the_end = sign roles.Line (codes "end") ∷ [] in
    let rest = spelled_both (operation [] second) the_end (spelled_operation [] second t.1.0 (numbered-is_name 1 (lit< tt))) (refl, tt) in
    let both = spelled_both (operation [] first) (operation [] second ++ the_end) (spelled_operation [] first t.0 (numbered-is_name 0 (lit< tt))) rest in
    (refl, (refl, (refl, (lit< tt, both))))

-- the vectors are numbers
entries_spelled : (s : ℕ) (is : List ℕ) (rest : List Wanted) → AreSpelled rest
    → AreSpelled (map entry_sign (map entry (map (λ i. drawn 3 (state_after s i)) is)) ++ sign roles.Closes (codes "]") ∷ rest)
entries_spelled s [] rest h = (refl, h)
entries_spelled s (i ∷ is) rest h =
    let low : drawn 3 (state_after s i) < 3 = mod-lt (next_state (state_after s i) / 2 ^ 16) (lit< tt) in
    (omega (arith, low), entries_spelled s is rest h)

vectors_spelled : (s : ℕ) (is : List ℕ) → AreSpelled (flat_map vector (map (λ i. drawn_vector (state_after s (7 * i))) is) ++ sign roles.Mode (codes "count") ∷ [])
unfolding drawn_vector
vectors_spelled s [] = (refl, tt)
vectors_spelled s (i ∷ is) = (refl, entries_spelled (state_after s (7 * i)) (range_with_len 0 7) _ (vectors_spelled s is))

closing_spelled : (s : ℕ) → AreSpelled (command (closing (drawn_vectors s 4)))
unfolding drawn_vectors
closing_spelled s = (refl, (refl, (lit< tt, vectors_spelled s (range_with_len 0 4))))

entries_formed : (vs : List ℕ) → AllByRecursion (IsEntry 1) (map entry vs)
entries_formed [] = tt
entries_formed (v ∷ vs) = (tt, entries_formed vs)

vectors_formed : (s : ℕ) (is : List ℕ) → AreVectors 1 (map (λ i. drawn_vector (state_after s (7 * i))) is)
unfolding drawn_vector
vectors_formed s [] = tt
vectors_formed s (i ∷ is) = (entries_formed (draws 3 (state_after s (7 * i)) 7), vectors_formed s is)

closing_formed : (s : ℕ) → IsCommand 1 (closing (drawn_vectors s 4))
unfolding drawn_vectors
closing_formed s = (tt, (tt, (tt, (vectors_formed s (range_with_len 0 4), (tt, tt)))))

named_apart : (n : ℕ) → IsDistinct (pointwise nat_eq) ((drawn_block n).algebra.name ∷ [])
unfolding drawn_block IsDistinct
named_apart n = (tt, tt)

pub generated_formed : (n : ℕ) → IsWellFormed (generated n)
unfolding generated
generated_formed n =
    let close = command (closing (drawn_vectors (state_after n values_drawn) 4)) in
    let behind = spelled_both close (command congruences) (closing_spelled (state_after n values_drawn)) (refl, (refl, tt)) in
    record {
      known = inl refl;
      spelled = spelled_both (block (drawn_block n)) (close ++ command congruences) (block_spelled n) behind;
      each = (block_formed n, (closing_formed (state_after n values_drawn), ((tt, (tt, tt)), tt)));
      names = named_apart n;
    }

-- it is served as any script that is read
pub generated_served : (n : ℕ) → AllByRecursion IsServed (generated n).items
unfolding generated drawn_block drawn_vectors
generated_served n = (tables n, ((tt, (tt, (tt, (lit≤ tt, (tt, tt))))), ((tt, (tt, tt)), tt)))

-- a script of these items
pub generated_from : (n : ℕ) (b : Block) (c d : Command) (is : List Item) → b ≡ drawn_block n → c ≡ closing (drawn_vectors (state_after n values_drawn) 4) → d ≡ congruences
    → is ≡ items.Block b ∷ items.Command c ∷ items.Command d ∷ [] → record { version = 1; items = is } ≡ generated n
unfolding generated
generated_from n b c d is block_is first second are = rw (are, block_is, first, second) refl
