use Rattle.std.proofs.Common.{arith}
use Rattle.ua_clone.proofs.PointLaws.{count_total}
use Rattle.ua_clone.proofs.points.Points.len.Goals as goal

pub returns-in-Total : goal.returns-in-Total
returns-in-Total c = λ n k h.
    let count = count_total n k c.args.self.now h c.in-Total.values c.in-Total.is in
    let filled = c.in-Total.values.ok.0 in
    let len = c.len.ensures in
    omega (arith, count, filled, len)
