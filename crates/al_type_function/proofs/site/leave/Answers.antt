use Rattle.al_type_function.proofs.SitesAre.{left}
use Rattle.al_type_function.proofs.site.leave.Goals as goal

pub returns : goal.returns
returns c = λ outer vs n e. left c.args.site.now outer vs n _ _ c.go_out.ensures c.take_last-number.ensures.rest e
