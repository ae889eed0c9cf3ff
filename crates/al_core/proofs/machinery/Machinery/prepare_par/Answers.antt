use Rattle.std.proofs.Common.{length, sym, ap, refl, ◌∙◌}
use Rattle.al_world.specs.Procs.{is_full}
use Rattle.al_core.proofs.Prepared.{par_full}
use Rattle.al_core.proofs.machinery.Machinery.prepare_par.Goals as goal

pub returns-then-is_full : goal.returns-then-is_full
returns-then-is_full c = par_full _ _ _ (sym c.is_full.ensures ∙ c.if-is_full.true)

pub returns : goal.returns
returns c = record {
  table = refl;
  finishes = λ slot table same P. (refl, refl, record { starts = c.args.starts.now; is = refl; room = ap (λ l. is_full l (length c.args.starts.now)) same ∙ (sym c.is_full.ensures ∙ c.if-is_full.false); begin = c.in_ok-all.ensures });
}
