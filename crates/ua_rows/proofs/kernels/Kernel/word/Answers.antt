use Rattle.std.proofs.Common.{◌≡◌, ◌<◌, ◌^◌, [], length, map, get_or, sym, ap, subst, arith}
use Rattle.std.specs.List.{AllByRecursion, range_with_len}
use Rattle.ua_rows.specs.declared.kernels.Kernel.{Kernel}
use Rattle.ua_rows.specs.inner.Gathered.{vectors_behind}
use Rattle.ua_rows.specs.Kernels.{looked, base_of, cells_of, Reads}
use Rattle.ua_rows.specs.Words.{lanes_of}
use Rattle.ua_rows.proofs.LineLaws.{line_read, one_behind}
use Rattle.ua_rows.proofs.KernelLaws.{lanes_within, length_behind}
use Rattle.ua_rows.proofs.kernels.Kernel.word.Goals as goal

pub look-requires : goal.look-requires
look-requires c =
    let rows = c.args.rows.now in
    let reads = subst (λ (k : Kernel). Reads k (length rows)) c.in-Few.is c.requires.reads in
    let below = subst (λ (k : Kernel). AllByRecursion (AllByRecursion (λ x. x < base_of k)) (vectors_behind rows)) c.in-Few.is c.requires.below in
    let count = ap (λ m. c.in-Few.n ^ m) (length_behind rows) in
    let table = reads.2 in
    lanes_within c.in-Few.n c.args.i c.numbers.result (length c.in-Few.values.now) (vectors_behind rows) reads.0 (omega (arith, count, table)) below c.numbers.ensures

pub values_at-requires-clause-below : goal.values_at-requires-clause-below
values_at-requires-clause-below c = subst (λ (k : Kernel). AllByRecursion (AllByRecursion (λ x. x < base_of k)) (vectors_behind c.args.rows.now)) c.in-Many.is c.requires.below

pub returns-in-Line : goal.returns-in-Line
returns-in-Line c =
    let rows = c.args.rows.now in
    let is = c.in-Line.is in
    let reads = subst (λ (k : Kernel). Reads k (length rows)) is c.requires.reads in
    let below = subst (λ (k : Kernel). AllByRecursion (AllByRecursion (λ x. x < base_of k)) (vectors_behind rows)) is c.requires.below in
    let read =
    line_read c.in-Line.line c.in-Line.values.now (vectors_behind rows) (get_or rows 0 (record { ref_ptr = (0, 0); now = [] })).now
    c.word_at.result c.look_in_line.result.0 c.args.i (one_behind rows reads.2) reads.0 reads.3 below c.word_at.ensures
    c.look_in_line.ensures.first in
    subst (λ (k : Kernel). lanes_of c.look_in_line.result.0 ≡ map (looked (cells_of k) (base_of k) (vectors_behind rows)) (range_with_len c.args.i 4)) (sym is) read
