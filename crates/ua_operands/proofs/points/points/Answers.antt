use Rattle.ua_operands.proofs.Vocabulary.{sign, Front, tokens_left, Gives, ArePointsShort}
use Rattle.std.proofs.Common.{rules, ◌≡◌, [], sym}
use Rattle.ua_text.specs.declared.symbols.Role.TheVariants as roles
use Rattle.ua_operands.proofs.CloneLaws.{first_of, behind, points_front, is_total, is_partial, some_points}
use Rattle.ua_operands.proofs.points.points.Goals as goal

pub returns-in_err-first-clause-only : goal.returns-in_err-first-clause-only
returns-in_err-first-clause-only c = λ m ws short n f.
    let e = c.in_err-first.ensures.only (sign roles.Exact (first_of m)) (behind m ws) [] (points_front m (tokens_left c.args.tokens.now) ws f) in search rules

pub returns-then-is_word-clause-only : goal.returns-then-is_word-clause-only
returns-then-is_word-clause-only c = λ m ws short n f.
    let h = c.in_ok-first.ensures.only (sign roles.Exact (first_of m)) (behind m ws) [] (points_front m (tokens_left c.args.tokens.now) ws f) in
    is_total (λ z. ArePointsShort z → Front (tokens_left c.next.new.tokens) (behind z ws) [] → Gives c.total.result (λ x. (x ≡ z) × Front (tokens_left c.total.new.tokens) ws [])) c.in_ok-first.first.text.now m h.0 (sym c.if-is_word.ensures)
    (λ v s g. c.total.ensures.only v ws s g) short h.2

pub returns-then-is_word-2-clause-only : goal.returns-then-is_word-2-clause-only
returns-then-is_word-2-clause-only c = λ m ws short n f.
    let h = c.in_ok-first.ensures.only (sign roles.Exact (first_of m)) (behind m ws) [] (points_front m (tokens_left c.args.tokens.now) ws f) in
    is_partial
    (λ z.
    ArePointsShort z → Front (tokens_left c.next.new.tokens) (behind z ws) []
    → Gives c.partial.result (λ x. (x ≡ z) × Front (tokens_left c.partial.new.tokens) ws []))
    c.in_ok-first.first.text.now m h.0 (sym c.if-is_word-2.ensures)
    (λ v vs s g. c.partial.ensures.only v vs ws s.0 s.1 n g) short h.2

pub returns-clause-only : goal.returns-clause-only
returns-clause-only c = λ m ws short n f.
    let h = c.in_ok-first.ensures.only (sign roles.Exact (first_of m)) (behind m ws) [] (points_front m (tokens_left c.args.tokens.now) ws f) in
    some_points (λ z. Unit {0}) c.in_ok-first.first.text.now m h.0 (sym c.if-is_word.ensures) (sym c.if-is_word-2.ensures)
