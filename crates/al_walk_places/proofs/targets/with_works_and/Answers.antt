use Rattle.std.proofs.Common.{[], ◌∷◌, map}
use Rattle.al_meaning.specs.Items as item
use Rattle.al_control.specs.Models.{here_of, work_of}
use Rattle.al_walk_places.proofs.WorkLists.{put_before}
use Rattle.al_walk_places.proofs.targets.with_works_and.Goals as goal

pub returns : goal.returns
returns c =
    put_before c.with_works.result (map work_of c.args.works) (item.Give c.args.words ∷ []) (here_of c.args.h) (here_of c.in_ok-h.h) c.in_ok-h.ensures
    c.with_works.ensures
