use Rattle.std.proofs.Common.{refl}
use Rattle.al_typed.proofs.CappedLemmas.{repeated_kept}
use Rattle.al_typed.proofs.layout.repeated.Goals as goal

pub returns-clause-value : goal.returns-clause-value
returns-clause-value c = λ l m. repeated_kept c.args.count c.args.element _ l m c.saturating_mul.ensures refl c.saturating_mul-2.ensures
