use Rattle.std.proofs.Common.{refl, rules}
use Rattle.al_step.specs.Sources.{world_of}
use Rattle.al_step.proofs.Entries.{no_turn, turn_of, stepped_by}
use Rattle.al_step.proofs.Standing.{stepped_stands}
use Rattle.al_step.proofs.entry.step.Goals as goal

pub returns-in-None-clause-stepped : goal.returns-in-None-clause-stepped
returns-in-None-clause-stepped c =
    record {
      same = refl;
      not_over = search rules;
      refused = no_turn c.args.source.program.now (world_of c.args.source.program.now c.args.source) c.args.entry (c.in-None.ensures c.args.source.made);
    }

pub returns-in_ok-stepped-in-Some-clause-stepped : goal.returns-in_ok-stepped-in-Some-clause-stepped
returns-in_ok-stepped-in-Some-clause-stepped c =
    stepped_by c.args.source c.args.entry _ _ c.in_ok-stepped-in-Some.stepped
    (turn_of c.args.source.program.now (world_of c.args.source.program.now c.args.source) c.args.entry c.in-Some.task (c.in-Some.ensures c.args.source.made))
    c.in_ok-stepped-in-Some.ensures.stepped

pub returns-in_ok-stepped-in-Some-clause-stands : goal.returns-in_ok-stepped-in-Some-clause-stands
returns-in_ok-stepped-in-Some-clause-stands c =
    stepped_stands c.args.source c.args.entry c.in_ok-stepped-in-Some.stepped
    (stepped_by c.args.source c.args.entry _ _ c.in_ok-stepped-in-Some.stepped
    (turn_of c.args.source.program.now (world_of c.args.source.program.now c.args.source) c.args.entry c.in-Some.task (c.in-Some.ensures c.args.source.made))
    c.in_ok-stepped-in-Some.ensures.stepped)
