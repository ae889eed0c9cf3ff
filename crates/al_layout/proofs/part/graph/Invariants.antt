use Rattle.std.proofs.Common.{◌≡◌, take, map}
use Rattle.al_layout.specs.Types.{form_parts}
use Rattle.al_layout.proofs.part.graph.Given as goal

abbrev pub invariant-loop-form : goal.invariant-loop-form
invariant-loop-form l = l.graph ≡ map (form_parts l.forms) (take l.form-index l.forms.list)
