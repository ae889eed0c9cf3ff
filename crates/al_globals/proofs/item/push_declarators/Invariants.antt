use Rattle.std.proofs.Common.{◌≡◌, drop, fold}
use Rattle.al_globals.specs.Globals.{with_declarator}
use Rattle.al_globals.proofs.item.push_declarators.Given as goal

abbrev pub invariant-loop-d : goal.invariant-loop-d
invariant-loop-d l = fold (with_declarator l.env l.here l.ns l.is_private l.base) l.fn.w l.list ≡ fold (with_declarator l.env l.here l.ns l.is_private l.base) l.w (drop l.d-index l.list)
