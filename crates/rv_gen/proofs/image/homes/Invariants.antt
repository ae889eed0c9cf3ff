use Rattle.std.proofs.Common.{◌≡◌, length}
use Rattle.rv_gen.specs.Generating.{HaveHomes}
use Rattle.rv_gen.proofs.image.homes.Given as goal

abbrev pub invariant-loop-f : goal.invariant-loop-f
invariant-loop-f l = record {
  count : length l.homes ≡ l.f;
  homes : HaveHomes l.ir l.homes;
}
