use Rattle.std.proofs.Common.{refl, ◌∙◌, ap}
use Rattle.al_walk_calls.specs.Names.{of_type}
use Rattle.al_walk_calls.proofs.Onward.{numbered, unnumbered}
use Rattle.al_walk_calls.proofs.named.named_at.Goals as goal

pub returns-in_ok-found : goal.returns-in_ok-found
returns-in_ok-found c =
    c.in_ok-found.ensures
    ∙ ap (of_type c.args.ty.now c.args.number)
    (numbered c.as_slice-functions.result.now c.args.p.now.functions c.args.number c.index-functions-at.result c.as_slice-functions.ensures.value
    (c.if-is_numbered.ensures.0 refl) c.index-functions-at.is)

pub returns-else-is_numbered : goal.returns-else-is_numbered
returns-else-is_numbered c = ap (of_type c.args.ty.now c.args.number) (unnumbered c.args.p.now.functions c.args.number c.if-is_numbered.ensures.1)
