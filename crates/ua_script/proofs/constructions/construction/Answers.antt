use Rattle.ua_operands.proofs.Vocabulary.{sign, Front, tokens_left}
use Rattle.ua_script.proofs.Vocabulary.{Product, Quotient, Sub, Reduct, Standing}
use Rattle.std.proofs.Common.{rules, ◌≡◌, [], ◌++◌, sym, ap}
use Rattle.ua_text.specs.declared.readers.Miss.TheVariants as misses
use Rattle.ua_text.specs.declared.symbols.Role.TheVariants as roles
use Rattle.ua_script.proofs.ConstructionLaws.{first_of, parts_in, values_in, behind, construction_front, stands, is_product, is_quotient, is_subalgebra, is_reduct, some_construction}
use Rattle.ua_script.proofs.constructions.construction.Goals as goal

pub returns-in_err-word-clause-only : goal.returns-in_err-word-clause-only
returns-in_err-word-clause-only c = λ m ws short i f.
    let e = c.in_err-word.ensures.only (sign roles.Exact (first_of m)) (behind m ++ ws) [] (construction_front m (tokens_left c.args.tokens.now) ws f) in search rules

pub returns-in_err-first-clause-only : goal.returns-in_err-first-clause-only
returns-in_err-first-clause-only c = λ m ws short i f.
    let h = c.in_ok-word.ensures.only (sign roles.Exact (first_of m)) (behind m ++ ws) [] (construction_front m (tokens_left c.args.tokens.now) ws f) in
    let e = is_product (λ z. Standing (parts_in z) (values_in z) (tokens_left c.next.new.tokens) ws → c.in_err-first.field-0.0 ≡ misses.OutOfMemory)
    c.in_ok-word.word.text.now m h.0 (sym c.if-is_word.ensures) (λ a b s. c.in_err-first.ensures.only (a, (b, tt)) ws s) (stands m _ ws short i h.2) in search rules

pub returns-then-is_word-clause-only : goal.returns-then-is_word-clause-only
returns-then-is_word-clause-only c = λ m ws short i f.
    let h = c.in_ok-word.ensures.only (sign roles.Exact (first_of m)) (behind m ++ ws) [] (construction_front m (tokens_left c.args.tokens.now) ws f) in
    is_product (λ z. Standing (parts_in z) (values_in z) (tokens_left c.next.new.tokens) ws
    → (Product c.in_ok-first.first c.in_ok-first.second ≡ z) × Front (tokens_left c.read_all.new.tokens) ws [])
    c.in_ok-word.word.text.now m h.0 (sym c.if-is_word.ensures)
    (λ a b s. let t = c.in_ok-first.ensures.only (a, (b, tt)) ws s in (ap (λ v. Product v.0 v.1.0) t.0, t.1)) (stands m _ ws short i h.2)

pub returns-in_err-algebra-clause-only : goal.returns-in_err-algebra-clause-only
returns-in_err-algebra-clause-only c = λ m ws short i f.
    let h = c.in_ok-word.ensures.only (sign roles.Exact (first_of m)) (behind m ++ ws) [] (construction_front m (tokens_left c.args.tokens.now) ws f) in
    let e = is_quotient (λ z. Standing (parts_in z) (values_in z) (tokens_left c.next.new.tokens) ws → c.in_err-algebra.field-0.0 ≡ misses.OutOfMemory)
    c.in_ok-word.word.text.now m h.0 (sym c.if-is_word-2.ensures) (λ a p s. c.in_err-algebra.ensures.only (a, (p, tt)) ws s) (stands m _ ws short i h.2) in search rules

pub returns-then-is_word-2-clause-only : goal.returns-then-is_word-2-clause-only
returns-then-is_word-2-clause-only c = λ m ws short i f.
    let h = c.in_ok-word.ensures.only (sign roles.Exact (first_of m)) (behind m ++ ws) [] (construction_front m (tokens_left c.args.tokens.now) ws f) in
    is_quotient (λ z. Standing (parts_in z) (values_in z) (tokens_left c.next.new.tokens) ws
    → (Quotient c.in_ok-algebra.algebra c.in_ok-algebra.part ≡ z) × Front (tokens_left c.read_all-then-is_word-2.new.tokens) ws [])
    c.in_ok-word.word.text.now m h.0 (sym c.if-is_word-2.ensures)
    (λ a p s. let t = c.in_ok-algebra.ensures.only (a, (p, tt)) ws s in (ap (λ v. Quotient v.0 v.1.0) t.0, t.1)) (stands m _ ws short i h.2)

pub returns-in_err-algebra-2-clause-only : goal.returns-in_err-algebra-2-clause-only
returns-in_err-algebra-2-clause-only c = λ m ws short i f.
    let h = c.in_ok-word.ensures.only (sign roles.Exact (first_of m)) (behind m ++ ws) [] (construction_front m (tokens_left c.args.tokens.now) ws f) in
    let e = is_subalgebra (λ z. Standing (parts_in z) (values_in z) (tokens_left c.next.new.tokens) ws → c.in_err-algebra-2.field-0.0 ≡ misses.OutOfMemory)
    c.in_ok-word.word.text.now m h.0 (sym c.if-is_word-3.ensures) (λ a v s. c.in_err-algebra-2.ensures.only (a, (v, tt)) ws s) (stands m _ ws short i h.2) in search rules

pub returns-then-is_word-3-clause-only : goal.returns-then-is_word-3-clause-only
returns-then-is_word-3-clause-only c = λ m ws short i f.
    let h = c.in_ok-word.ensures.only (sign roles.Exact (first_of m)) (behind m ++ ws) [] (construction_front m (tokens_left c.args.tokens.now) ws f) in
    is_subalgebra (λ z. Standing (parts_in z) (values_in z) (tokens_left c.next.new.tokens) ws
    → (Sub c.in_ok-algebra-2.algebra c.in_ok-algebra-2.set ≡ z) × Front (tokens_left c.read_all-then-is_word-3.new.tokens) ws [])
    c.in_ok-word.word.text.now m h.0 (sym c.if-is_word-3.ensures)
    (λ a v s. let t = c.in_ok-algebra-2.ensures.only (a, (v, tt)) ws s in (ap (λ v. Sub v.0 v.1.0) t.0, t.1)) (stands m _ ws short i h.2)

pub returns-in_err-algebra-3-clause-only : goal.returns-in_err-algebra-3-clause-only
returns-in_err-algebra-3-clause-only c = λ m ws short i f.
    let h = c.in_ok-word.ensures.only (sign roles.Exact (first_of m)) (behind m ++ ws) [] (construction_front m (tokens_left c.args.tokens.now) ws f) in
    let e = is_reduct (λ z. Standing (parts_in z) (values_in z) (tokens_left c.next.new.tokens) ws → c.in_err-algebra-3.field-0.0 ≡ misses.OutOfMemory)
    c.in_ok-word.word.text.now m h.0 (sym c.if-is_word-4.ensures) (λ a ops s. c.in_err-algebra-3.ensures.only (a, (ops, tt)) ws s) (stands m _ ws short i h.2) in search rules

pub returns-then-is_word-4-clause-only : goal.returns-then-is_word-4-clause-only
returns-then-is_word-4-clause-only c = λ m ws short i f.
    let h = c.in_ok-word.ensures.only (sign roles.Exact (first_of m)) (behind m ++ ws) [] (construction_front m (tokens_left c.args.tokens.now) ws f) in
    is_reduct (λ z. Standing (parts_in z) (values_in z) (tokens_left c.next.new.tokens) ws
    → (Reduct c.in_ok-algebra-3.algebra c.in_ok-algebra-3.ops ≡ z) × Front (tokens_left c.read_all-then-is_word-4.new.tokens) ws [])
    c.in_ok-word.word.text.now m h.0 (sym c.if-is_word-4.ensures)
    (λ a ops s. let t = c.in_ok-algebra-3.ensures.only (a, (ops, tt)) ws s in (ap (λ v. Reduct v.0 v.1.0) t.0, t.1)) (stands m _ ws short i h.2)

pub returns-clause-only : goal.returns-clause-only
returns-clause-only c = λ m ws short i f.
    let h = c.in_ok-word.ensures.only (sign roles.Exact (first_of m)) (behind m ++ ws) [] (construction_front m (tokens_left c.args.tokens.now) ws f) in
    some_construction (λ z. Unit {0}) c.in_ok-word.word.text.now m h.0 (sym c.if-is_word.ensures) (sym c.if-is_word-2.ensures) (sym c.if-is_word-3.ensures) (sym c.if-is_word-4.ensures)
