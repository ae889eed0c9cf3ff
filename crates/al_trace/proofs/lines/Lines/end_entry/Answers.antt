use Rattle.al_trace.proofs.BadLines.{wrong_entry, entry_ended, entry_text}
use Rattle.al_trace.proofs.lines.Lines.end_entry.Goals as goal

pub returns-in-None-clause-stop : goal.returns-in-None-clause-stop
returns-in-None-clause-stop c = wrong_entry c.args.self.now c.bad_line.result c.requires.whole c.requires.started c.in-None.ensures.none c.bad_line.ensures

pub returns-in_ok-push-in-Some-clause-part : goal.returns-in_ok-push-in-Some-clause-part
returns-in_ok-push-in-Some-clause-part c =
    entry_ended c.args.self.now _ c.in-Some.entry c.requires.whole c.requires.started c.in-Some.ensures.found.0 c.in_ok-push-in-Some.ensures.ok

pub returns-in_ok-push-in-Some-clause-text : goal.returns-in_ok-push-in-Some-clause-text
returns-in_ok-push-in-Some-clause-text c =
    entry_text c.args.self.now _ c.in-Some.entry c.requires.started c.in-Some.ensures.found.1 c.in_ok-push-in-Some.ensures.ok
