use Rattle.std.proofs.Common.{◌≡◌, length, take}
use Rattle.ua_sub.specs.Flaws.{images_of}
use Rattle.ua_sub.proofs.flaws.value_at_images.Given as goal

abbrev pub invariant-loop-place : goal.invariant-loop-place
invariant-loop-place l = record {
  long : length l.list ≡ 4;
  images : take l.place l.list ≡ images_of l.images (take l.place l.args);
}
