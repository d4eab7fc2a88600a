use Rattle.std.proofs.Common.{[], sym, ◌∙◌}
use Rattle.std.proofs.lemmas.List.{append-nil}
use Rattle.ua_lanes.proofs.LongLaws.{window_grown, vectors_grown}
use Rattle.ua_lanes.proofs.large_lanes.LargeLanes.reserve.Goals as goal

pub invariant_of-self : goal.invariant_of-self
invariant_of-self c =
    let here = c.self.inside in
    let e = c.reserve.ensures in
    let h = c.self.invariant in
    let items = e.items ∙ sym (append-nil here.quads.items) in
    record {
      vectors = vectors_grown here.frame.now here.quads c.reserve.new.self [] e.width e.size items h.vectors tt;
      window = window_grown here.frame.now here.quads c.reserve.new.self [] e.width e.size items here.window h.window;
    }
