use Rattle.ua_text_tests.proofs.scripts.put_migrated.Goals as goal

pub put_script-requires : goal.put_script-requires
put_script-requires c = c.migrate-later.ensures.formed c.in_ok-script.ensures
