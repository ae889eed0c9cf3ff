use Rattle.std.proofs.Common.{◌≡◌, ◌≤◌, ◌++◌, drop, length, map}
use Rattle.al_meaning.specs.Evaluate.{saves}
use Rattle.al_control.specs.Models.{found_of, work_of}
use Rattle.al_walk_places.specs.Referred.{referred}
use Rattle.al_walk_places.proofs.targets.saves.Given as goal

abbrev pub invariant-loop-ty : goal.invariant-loop-ty
invariant-loop-ty l = record {
  so_far :
      map work_of l.works ++ saves l.p (referred (drop l.ty-index l.types)) (map found_of l.places) l.rest
      ≡ saves l.p (referred l.types) (map found_of l.fn.places) l.words;
  within : length l.rest ≤ length l.words;
}
