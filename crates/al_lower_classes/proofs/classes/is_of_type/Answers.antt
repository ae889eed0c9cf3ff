use Rattle.std.proofs.Common.{refl}
use Rattle.al_lower_classes.proofs.FunctionTypes.{no_branch_type, own_type}
use Rattle.al_lower_classes.proofs.classes.is_of_type.Goals as goal

pub returns-then-not-is_empty : goal.returns-then-not-is_empty
returns-then-not-is_empty c = no_branch_type c.args.ty.now c.args.f.now.around c.args.f.now c.if-not-is_empty.ensures.1

pub returns : goal.returns
returns c =
    own_type c.args.ty.now c.args.f.now.around c.args.f.now c.in_ok-own.own c.same.result (c.if-not-is_empty.ensures.0 refl) c.in_ok-own.ensures c.same.ensures
