use Rattle.al_trace.proofs.Unique.{told_only}
use Rattle.al_trace.proofs.reading.read.Goals as goal

pub returns-clause-only : goal.returns-clause-only
returns-clause-only g c = told_only c.read_all.result (g.H.Host.content c.args.host.now) (g.H.Host.content c.read_all.new.host) c.read_all.ensures.exact
