-- A step that goes on with other items.
use Rattle.std.proofs.Common.{◌≡◌, List, map, Result, IfOk, ap, ◌∙◌}
use Rattle.std.proofs.lemmas.Result.{IfOk-weaker}
use Rattle.al_meaning.specs.Here.{moves}
use Rattle.al_meaning.specs.Items as item
use Rattle.al_control.specs.declared.control.Here.{Here}
use Rattle.al_control.specs.declared.control.Item.{Item}
use Rattle.al_control.specs.declared.control.Next.{Next}
use Rattle.al_control.specs.Models.{here_of, item_of, next_of}
use Rattle.al_walk_statements.specs.Forms.{with_rest}

pub rest_put : (h : Here) (items : List Item) (its : List item.Item) → map item_of items ≡ its
    → here_of (record h { frame = record h.frame { items = items } }) ≡ with_rest its (here_of h)
rest_put h items its e = ap (λ (l : List item.Item). with_rest l (here_of h)) e

pub goes_rest : {E : Type 0} (r : Result Next E) (h : Here) (items : List Item) (its : List item.Item) → map item_of items ≡ its
    → IfOk r (λ n. next_of n ≡ moves (here_of (record h { frame = record h.frame { items = items } })))
    → IfOk r (λ n. next_of n ≡ moves (with_rest its (here_of h)))
goes_rest r h items its e goes =
    IfOk-weaker r _ _ (λ n (is : next_of n ≡ moves (here_of (record h { frame = record h.frame { items = items } }))). is ∙ ap moves (rest_put h items its e)) goes
