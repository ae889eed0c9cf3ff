use Rattle.std.proofs.Common.{◌≡◌, ◌-◌, ◌≤◌, length, take}
use Rattle.al_host.specs.Outside.{WhereTold}
use Rattle.al_trace.specs.Schedule.{schedule_text}
use Rattle.al_trace.specs.Sending.{GetsAll}
use Rattle.al_trace.proofs.writing.write.Given as goal

abbrev pub invariant-loop-done : goal.invariant-loop-done
invariant-loop-done g l = record {
  within : l.done ≤ length l.entries;
  faults : g.K.Sink.faults l.out ≡ g.K.Sink.faults l.fn.out;
  told : WhereTold (GetsAll (schedule_text (take l.done l.entries))) (g.K.Sink.got l.fn.out) (g.K.Sink.got l.out);
}

abbrev pub decreases-loop-done : goal.decreases-loop-done
decreases-loop-done g l = length l.entries - l.done
