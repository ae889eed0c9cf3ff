use Rattle.std.proofs.Common.{ℕ, List, sym, subst}
use Rattle.al_show.specs.Walks.{IsShown}
use Rattle.alef_texts.proofs.Stepping.{show_stopped}
use Rattle.alef_texts.proofs.walk.show.Goals as goal

pub returns-in-Err : goal.returns-in-Err
returns-in-Err g c = show_stopped _ _ _ c.in-Err.stop _ _ _ c.in-Err.ensures.stop c.end_of_show.ensures

pub returns-in-Ok-write_all : goal.returns-in-Ok-write_all
returns-in-Ok-write_all g c =
    let P : List ℕ → Type 0 = IsShown c.args.program.now c.args.region c.args.entries.now in
    (c.as_slice.result.now, subst P (sym c.as_slice.ensures.value) c.in-Ok.ensures.shown, c.in-Ok-write_all.ensures.all, c.in-Ok-write_all.ensures.ok)

pub returns : goal.returns
returns g c =
    let P : List ℕ → Type 0 = IsShown c.args.program.now c.args.region c.args.entries.now in
    (c.as_slice.result.now, subst P (sym c.as_slice.ensures.value) c.in-Ok.ensures.shown, c.in-Err-write_all.ensures.part, c.in-Err-write_all.ensures.cause)
