-- Closings that go on.
use Rattle.ua_cong.specs.declared.closing.Problem.{Problem}
use Rattle.ua_cong.specs.declared.closing.Closing.{Closing}
use Rattle.ua_cong.specs.inner.States.{IsState, GoesOn}
use Rattle.ua_cong.proofs.ClosingLaws.{grown_none, grown_through}

pub goes_on_alike : (problem : Problem) (c : Closing) → IsState problem c → GoesOn problem c c
goes_on_alike problem c h = record { closing = h; grown = grown_none c.sets c.work.items }

pub goes_on_through : (problem : Problem) (old now new : Closing) → GoesOn problem old now → GoesOn problem now new → GoesOn problem old new
goes_on_through problem old now new g h = record {
  closing = h.closing;
  grown = grown_through old.sets now.sets new.sets old.work.items now.work.items new.work.items g.grown h.grown;
}
