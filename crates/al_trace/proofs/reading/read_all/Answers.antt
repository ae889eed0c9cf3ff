use Rattle.al_trace.specs.Lines.{number_of}
use Rattle.al_trace.proofs.FromHost.{kept_count}
use Rattle.al_trace.proofs.reading.read_all.Goals as goal

pub returns-clause-faults : goal.returns-clause-faults
returns-clause-faults g c =
    kept_count c.finish.result (number_of c.read_lines.new.lines) (g.H.Host.faults c.args.host.now) (g.H.Host.faults c.read_lines.new.host) c.finish.ensures.stop c.in_ok-read_lines.ensures.faults
