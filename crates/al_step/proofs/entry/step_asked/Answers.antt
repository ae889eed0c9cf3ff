use Rattle.std.proofs.Common.{◌≡◌, ◌∙◌, false, true, refl, sym}
use Rattle.al_walk.specs.Asks.{asked_of}
use Rattle.al_step.specs.Sources.{world_of}
use Rattle.al_step.proofs.Worlds.{refused}
use Rattle.al_step.proofs.Entries.{not_sized, no_room}
use Rattle.al_step.proofs.entry.step_asked.Goals as goal

pub returns-then-not-is_sized-clause-why : goal.returns-then-not-is_sized-clause-why
returns-then-not-is_sized-clause-why c = not_sized _ _ _ _ _ c.if-not-is_sized.ensures

pub returns-then-not-has_room-clause-why : goal.returns-then-not-has_room-clause-why
returns-then-not-has_room-clause-why c = no_room _ _ _ _ _ c.if-not-has_room.ensures

pub returns-clause-stepped : goal.returns-clause-stepped
returns-clause-stepped c =
    record {
      same = refl;
      not_over = c.requires.goes_on;
      refused = refused c.args.source.program.now (world_of c.args.source.program.now c.args.source) c.args.task c.args.entry.pick (asked_of c.args.asked) (λ below. let no : false ≡ true = sym c.if-has_pick.false ∙ c.in_ok-has_pick.ensures.1 below in cc);
    }
