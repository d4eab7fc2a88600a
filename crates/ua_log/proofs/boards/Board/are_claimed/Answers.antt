use Rattle.std.proofs.Common.{⊎_elim, inl, inr, true, false, refl, arith}
use Rattle.std.proofs.lemmas.Bool.{leb-true, le-leb, false≢true}
use Rattle.ua_log.specs.Moves.{knows}
use Rattle.ua_log.proofs.Calls.{at_board, know_requires, saw_free, saw_halt, knows_seat, bound_out, view_after}
use Rattle.ua_log.proofs.boards.Board.are_claimed.Goals as goal

pub load-found-requires : goal.load-found-requires
load-found-requires c = let a = at_board c.seat.view_is c.requires c.self.view_is c.seat.invariant c.self.invariant in know_requires a _

pub invariant_of-seat : goal.invariant_of-seat
invariant_of-seat c =
    let a = at_board c.seat.view_is c.requires c.self.view_is c.seat.invariant c.self.invariant in
    let l = c.load-found.ensures in
    let k = saw_halt a c.load-found.new.seat.me c.load-found.result l.2 c.if-found-ge-HALT.true in
    knows_seat a c.load-found.new.seat.me k.0 true l.2.slots k.1

pub returns-then-found-ge-HALT : goal.returns-then-found-ge-HALT
returns-then-found-ge-HALT c =
    let a = at_board c.seat.view_is c.requires c.self.view_is c.seat.invariant c.self.invariant in
    let l = c.load-found.ensures in
    let m = c.load-found.new.seat in
    let k = saw_halt a m.me c.load-found.result l.2 c.if-found-ge-HALT.true in
    record {
      claims = k.0;
      halted = true;
      known = k.1.known;
      ends_where = (λ _. inl refl, λ _. refl);
      seat = view_after a (λ w. knows w k.0 true) m.me m.table_id l.0 k.1.view;
    }

pub returns : goal.returns
returns c =
    let a = at_board c.seat.view_is c.requires c.self.view_is c.seat.invariant c.self.invariant in
    let l = c.load-found.ensures in
    let m = c.load-found.new.seat in
    let n = c.load-found.result in
    let k = saw_free a m.me n l.2 c.if-found-ge-HALT.false in
    let out = bound_out a in
    record {
      claims = n;
      halted = false;
      known = k.known;
      ends_where = (λ e. inr (let low = leb-true c.seat.inside.bound n e in omega (arith, low, out)), λ s. ⊎_elim (λ x. absurd (false≢true x)) (λ low. le-leb c.seat.inside.bound n (omega (arith, low, out))) s);
      seat = view_after a (λ w. knows w n false) m.me m.table_id l.0 k.view;
    }
