use Rattle.al_race.proofs.Found.{to_path, from_path}
use Rattle.al_race.proofs.laws.paths_are_found.Goals as goal

pub returns : goal.returns
returns c = λ run i j. (to_path run i j, from_path run i j)
