use Rattle.std.proofs.Common.{◌≡◌, map, take}
use Rattle.al_lower.specs.Alike.{own_class, AreFirsts}
use Rattle.al_lower.proofs.classes.classes_of.Given as goal

abbrev pub invariant-loop-f : goal.invariant-loop-f
invariant-loop-f l = record {
  classes : l.classes ≡ map (own_class l.p) (take l.f-index l.p.functions);
  number : l.number ≡ l.f-index;
  firsts : AreFirsts l.p.functions l.f-index l.firsts;
}
