use Rattle.std.proofs.Common.{sym}
use Rattle.al_walk_calls.proofs.FunctionNames.{named_by-function_address, unnamed}
use Rattle.al_walk_calls.proofs.Onward.{goes}
use Rattle.al_walk_calls.proofs.named.named_of_type.Goals as goal

pub returns-in-None : goal.returns-in-None
returns-in-None c = unnamed c.args.ty.now c.args.value c.args.p.now.functions c.in-None.ensures.none

pub returns-in-Some : goal.returns-in-Some
returns-in-Some c =
    goes c.named_at.result (λ n. n) _ _ (sym (named_by-function_address c.args.ty.now c.args.value c.in-Some.number c.args.p.now c.in-Some.ensures.at)) c.named_at.ensures
