use Rattle.std.proofs.Common.{◌≡◌, ◌<◌, length, Err, refl, sym, ap, ◌∙◌, map, Some, arith}
use Rattle.std.specs.List.{All}
use Rattle.std.proofs.lemmas.Result.{err_from_is_err_and}
use Rattle.al_world.specs.World.{TaskName, Told, Effect}
use Rattle.al_world.specs.Actions.{performs}
use Rattle.al_script.specs.Worlds.{shared_of, effect_of, message_of}
use Rattle.al_walk.specs.Asks.{asked_of}
use Rattle.al_step.specs.Sources.{world_of, ToldFits, EffectFits}
use Rattle.al_step.proofs.Worlds.{steps}
use Rattle.al_step.proofs.Entries.{tells_as, told_fits, procs_explain}
use Rattle.al_step.proofs.Whys.{why_else}
use Rattle.al_step.proofs.entry.makes.Goals as goal

pub returns-clause-made : goal.returns-clause-made
returns-clause-made c =
    let s = c.args.source in
    let p = c.args.source.program.now in
    let few : length c.in_ok-state.state.procs ≡ length c.in_ok-effect.effect.state.procs = ap length c.in_ok-state.ensures.procs in
    record {
      program = refl;
      sound = record {
        laid_out = c.requires.sound.laid_out;
        slots = c.requires.sound.slots;
        procs = omega (arith, few, c.if-len-gt4294967295.false, c.len.ensures);
      };
      entries = c.in_ok-push.ensures.ok;
      world =
          sym (steps p (world_of p s) c.args.task _ c.args.entry.pick (asked_of c.args.asked) (effect_of s.made c.in_ok-effect.effect) _ _ _ (ap (λ (t : TaskName). t.proc) c.task.view_is) refl c.in_ok-effect.ensures c.in_ok-state.ensures.shared
          (tells_as p c.args.task _ _ _ _ _ _ _ c.in_ok-goes_on.ensures.tasks c.as_slice.ensures.value c.in_ok-copy.ensures)
          c.in_ok-put_privates.ensures);
    }

pub returns-then-len-gt4294967295-clause-why : goal.returns-then-len-gt4294967295-clause-why
returns-then-len-gt4294967295-clause-why c =
    let many : 4294967295 < length c.in_ok-effect.effect.state.procs = omega (arith, c.if-len-gt4294967295.true, c.len.ensures) in
    procs_explain c.args.source.program.now _ (effect_of c.args.source.made c.in_ok-effect.effect) c.in_ok-effect.ensures many

pub returns-in_err-goes_on-clause-why : goal.returns-in_err-goes_on-clause-why
returns-in_err-goes_on-clause-why c =
    let s = c.args.source in
    let p = err_from_is_err_and c.from_residual-in_err-goes_on.result c.from_residual-in_err-goes_on.ensures.1 in
    why_else c.from_residual-in_err-goes_on.result c.in_err-goes_on.field-0.0 (All (λ (m : TaskName × Told). ToldFits s.program.now m.1) (map message_of c.as_slice.result.now)) ((f : Effect) → performs (shared_of s.made s.state) c.args.task c.args.asked.act c.args.entry.pick ≡ Some f → EffectFits s.program.now f)
    (p.1 ∙ ap Err p.2) (told_fits s.program.now s.made _ c.in_ok-effect.effect c.as_slice.result.now c.in_ok-effect.ensures c.as_slice.ensures.value) c.in_err-goes_on.ensures.why
