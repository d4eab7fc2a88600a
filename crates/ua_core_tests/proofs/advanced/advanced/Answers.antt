use Rattle.ua_core_tests.proofs.advanced.advanced.Goals as goal

pub advance-progress-requires-clause-basis : goal.advance-progress-requires-clause-basis
advance-progress-requires-clause-basis c = c.new-basis.ensures.basis c.in_ok-operations.operations 0 c.args.rows.now.items
