use Rattle.std.proofs.Common.{◌≡◌, rules, ◌∷◌, ◌++◌, codes, refl, sym, ◌∙◌, arith}
use Rattle.std.specs.List.{flat_map}
use Rattle.std.proofs.lemmas.Bool.{true≢false, false≢true}
use Rattle.ua_text.specs.declared.symbols.Role.TheVariants as roles
use Rattle.ua_text.specs.Signs.{sign, Front}
use Rattle.ua_text.specs.Tokens.{tokens_left}
use Rattle.ua_text.specs.Blocks.{operation}
use Rattle.ua_text.proofs.ReadLaws.{more_next, more_read, op_first}
use Rattle.ua_text.proofs.blocks.tables.Goals as goal

pub returns-in_err-table-clause-only : goal.returns-in_err-table-clause-only
returns-in_err-table-clause-only c = λ os ws rest a n f.
    let e =
    more_next (operation c.args.labels.now) refl (λ o os. refl) (c.loop-alloc.invariant.only os ws rest a n f)
    (λ e g. absurd (true≢false (c.loop-alloc-test.ensures.no (sign roles.Line (codes "end")) ws rest refl g)))
    (λ o others w fit each g. c.in_err-table.ensures.only o (flat_map (operation c.args.labels.now) others ++ sign roles.Line (codes "end") ∷ ws) rest fit n g) in
    search rules

pub loop-alloc-preserved : goal.loop-alloc-preserved
loop-alloc-preserved c = record {
  only =
      λ os ws rest a n f.
      more_next (operation c.args.labels.now) refl (λ o os. refl) (c.loop-alloc.invariant.only os ws rest a n f)
      (λ e g. absurd (true≢false (c.loop-alloc-test.ensures.no (sign roles.Line (codes "end")) ws rest refl g)))
      (λ o others w fit each g. more_read _ o others w each (c.in_ok-table.ensures.only o (flat_map (operation c.args.labels.now) others ++ sign roles.Line (codes "end") ∷ ws) rest fit n g) c.in_ok-push.ensures.items);
  progress = let p = c.in_ok-table.ensures.progress in let q = c.loop-alloc.invariant.progress in omega arith;
  source = c.in_ok-table.ensures.source ∙ c.loop-alloc.invariant.source;
}

pub returns-in_err-exact-clause-only : goal.returns-in_err-exact-clause-only
returns-in_err-exact-clause-only c = λ os ws rest a n f.
    let m : (c.loop-alloc.operations.items ≡ os) × Front (tokens_left c.loop-alloc.tokens) (sign roles.Line (codes "end") ∷ ws) rest =
    more_next (operation c.args.labels.now) refl (λ o os. refl) (c.loop-alloc.invariant.only os ws rest a n f) (λ e g. (sym e, g))
    (λ o others w fit each g. op_first c.args.labels.now o (tokens_left c.loop-alloc.tokens) (flat_map (operation c.args.labels.now) others ++ sign roles.Line (codes "end") ∷ ws) rest g
    (λ us h. absurd (false≢true (c.loop-alloc-test.ensures.yes (sign roles.Line (codes "op")) us rest refl h)))) in
    let e = c.in_err-exact.ensures.only (sign roles.Line (codes "end")) ws rest refl m.1 in search rules

pub returns-clause-only : goal.returns-clause-only
returns-clause-only c = λ os ws rest a n f.
    let m : (c.loop-alloc.operations.items ≡ os) × Front (tokens_left c.loop-alloc.tokens) (sign roles.Line (codes "end") ∷ ws) rest =
    more_next (operation c.args.labels.now) refl (λ o os. refl) (c.loop-alloc.invariant.only os ws rest a n f) (λ e g. (sym e, g))
    (λ o others w fit each g. op_first c.args.labels.now o (tokens_left c.loop-alloc.tokens) (flat_map (operation c.args.labels.now) others ++ sign roles.Line (codes "end") ∷ ws) rest g
    (λ us h. absurd (false≢true (c.loop-alloc-test.ensures.yes (sign roles.Line (codes "op")) us rest refl h)))) in
    (m.0, c.in_ok-exact.ensures.only (sign roles.Line (codes "end")) ws rest refl m.1)
