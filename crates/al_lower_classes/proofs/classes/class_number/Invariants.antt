use Rattle.std.proofs.Common.{◌≡◌, drop}
use Rattle.al_lower_code.specs.Classes.{first_of_type}
use Rattle.al_lower_classes.proofs.classes.class_number.Given as goal

abbrev pub invariant-loop-f : goal.invariant-loop-f
invariant-loop-f l = first_of_type l.ty l.number (drop l.f-index l.p.functions) ≡ first_of_type l.ty 0 l.p.functions
