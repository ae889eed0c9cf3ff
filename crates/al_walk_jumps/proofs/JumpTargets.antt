-- Jumps to items that are known.
use Rattle.std.proofs.Common.{◌≡◌, List, [], Option, Some, Result, IfOk, ap, ◌∙◌}
use Rattle.std.specs.Prelude.{unwrap_or}
use Rattle.std.proofs.lemmas.Result.{IfOk-weaker}
use Rattle.al_world.specs.Turns.{Turns}
use Rattle.al_meaning.specs.Execute.{jumps}
use Rattle.al_meaning.specs.Here.{Here, control_at}
use Rattle.al_meaning.specs.Items.{Item}
use Rattle.al_control.specs.declared.control.Next.{Next}
use Rattle.al_control.specs.Models.{next_of}

pub jumps_same : (h : Here) (its : List Item) (o : Option (List Item)) → its ≡ unwrap_or o [] → jumps h (Some its) ≡ jumps h o
jumps_same h its o e = ap (λ (l : List Item). Turns h.line (control_at (record h { frame = record h.frame { items = l } })) h.privates) e

pub goes_there : {E : Type 0} (r : Result Next E) (h : Here) (its : List Item) (o : Option (List Item)) → its ≡ unwrap_or o []
    → IfOk r (λ n. next_of n ≡ jumps h (Some its)) → IfOk r (λ n. next_of n ≡ jumps h o)
goes_there r h its o e goes = IfOk-weaker r _ _ (λ n (is : next_of n ≡ jumps h (Some its)). is ∙ jumps_same h its o e) goes
