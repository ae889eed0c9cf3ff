use Rattle.std.proofs.Common.{◌≡◌, ◌-◌, ◌≤◌, length}
use Rattle.al_host.specs.Outside.{WhereTold}
use Rattle.alef_texts.proofs.Loading.{SoFar}
use Rattle.alef_texts.proofs.load.read_on.Given as goal

abbrev pub invariant-loop-piece : goal.invariant-loop-piece
invariant-loop-piece g l = record {
  within : length l.bytes.items ≤ l.most;
  calm : g.H.Host.faults l.host ≡ g.H.Host.faults l.initial.host;
  so_far : WhereTold (SoFar l.initial.bytes.items l.bytes.items) (g.H.Host.content l.initial.host) (g.H.Host.content l.host);
}

abbrev pub decreases-loop-piece : goal.decreases-loop-piece
decreases-loop-piece g l = l.most - length l.bytes.items
