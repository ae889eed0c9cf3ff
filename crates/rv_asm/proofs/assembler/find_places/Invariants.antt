use Rattle.std.proofs.Common.{◌≡◌, ℕ, ◌≤◌, nat_eq, drop}
use Rattle.std.specs.HashMap.{get}
use Rattle.rv_asm.specs.Asm.{place_from}
use Rattle.rv_asm.proofs.Places.{first_of}
use Rattle.rv_asm.proofs.assembler.find_places.Given as goal

-- what was found so far, and what the rest has
abbrev pub invariant-loop-line : goal.invariant-loop-line
invariant-loop-line l = record {
  told : (label : ℕ) → first_of (get nat_eq l.places label) (place_from l.here label (drop l.line-index l.lines)) ≡ place_from 0 label l.lines;
  near : l.here ≤ l.line-index;
}
