use Rattle.std.proofs.Common.{refl}
use Rattle.std.proofs.lemmas.Result.{err_from_is_err_and}
use Rattle.al_show.proofs.Walked.{made_goes, refused_here, over_here, unmade_here}
use Rattle.al_show.proofs.walking.walk_one.Goals as goal

pub returns-in_err-stepped-clause-stop : goal.returns-in_err-stepped-clause-stop
returns-in_err-stepped-clause-stop c =
    let p = err_from_is_err_and c.from_residual.result c.from_residual.ensures.1 in
    rw p.1 (unmade_here c.args.source c.args.entry c.args.at _ p.0 p.2 c.in_err-stepped.ensures.why)

pub returns-in-Made-clause-goes : goal.returns-in-Made-clause-goes
returns-in-Made-clause-goes c = made_goes c.args.source c.args.entry _ c.in-Made.source c.in_ok-stepped.ensures.stepped c.in-Made.is c.in_ok-stepped.ensures.stands

pub returns-in-NotPermitted-clause-stop : goal.returns-in-NotPermitted-clause-stop
returns-in-NotPermitted-clause-stop c = (refl, refused_here c.args.source c.args.entry _ _ c.in_ok-stepped.ensures.stepped c.in-NotPermitted.is)

pub returns-clause-stop : goal.returns-clause-stop
returns-clause-stop c = (refl, over_here c.args.source c.args.entry _ _ c.in_ok-stepped.ensures.stepped c.in-Over.is)
