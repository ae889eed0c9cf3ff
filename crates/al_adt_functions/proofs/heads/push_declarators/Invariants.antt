use Rattle.std.proofs.Common.{◌≡◌, drop, fold}
use Rattle.al_adt_functions.specs.Heads.{with_declarator}
use Rattle.al_adt_functions.proofs.heads.push_declarators.Given as goal

abbrev pub invariant-loop-declarator : goal.invariant-loop-declarator
invariant-loop-declarator l = fold (with_declarator l.env l.list l.base) l.fn.faults l.declarators ≡ fold (with_declarator l.env l.list l.base) l.faults (drop l.declarator-index l.declarators)
