use Rattle.ua_operands.proofs.Vocabulary.{flat_map, Shows, part_block}
use Rattle.std.proofs.Common.{take}
use Rattle.ua_text.specs.declared.symbols.Role.TheVariants as roles
use Rattle.ua_operands.proofs.printers.put_part_blocks.Given as goal

-- the blocks so far are printed
abbrev pub invariant-loop-block : goal.invariant-loop-block
invariant-loop-block l = Shows l.initial.printer l.printer (flat_map (part_block roles.More) (take l.block-index l.blocks))
