use Rattle.std.proofs.Common.{List, [], ◌∷◌, ap}
use Rattle.al_meaning.specs.Here.{does}
use Rattle.al_meaning.specs.Items as item
use Rattle.al_control.specs.Models.{here_of}
use Rattle.al_walk_loops.proofs.Goings.{goes_same}
use Rattle.al_walk_statements.proofs.iterators.begin_all.Goals as goal

pub returns : goal.returns
returns c =
    goes_same c.does.result _ _
    (ap (λ (l : List item.Bounds). does (here_of c.args.h) (item.Iterate 0 l c.args.e.now ∷ [])) c.in_ok-bounds.ensures) c.does.ensures
