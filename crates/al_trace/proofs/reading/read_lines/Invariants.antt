use Rattle.std.proofs.Common.{◌≡◌, ◌-◌, length}
use Rattle.al_host.specs.Outside.{WhereTold}
use Rattle.al_trace.specs.Lines.{IsPart, text_of}
use Rattle.al_trace.proofs.FromHost.{ReadsFront, most_bytes}
use Rattle.al_trace.proofs.reading.read_lines.Given as goal

abbrev pub invariant-loop-len : goal.invariant-loop-len
invariant-loop-len g l = record {
  part : IsPart l.lines;
  faults : g.H.Host.faults l.host ≡ g.H.Host.faults l.fn.host;
  told : WhereTold (ReadsFront (text_of l.fn.lines) (text_of l.lines)) (g.H.Host.content l.fn.host) (g.H.Host.content l.host);
}

abbrev pub decreases-loop-len : goal.decreases-loop-len
decreases-loop-len g l = most_bytes - length (text_of l.lines)
