use Rattle.std.proofs.Common.{ap, sym}
use Rattle.al_meaning.specs.Calls as calls
use Rattle.al_walk_calls.proofs.FunctionNames.{no_pointer, pointed_to}
use Rattle.al_walk_calls.proofs.Onward.{goes}
use Rattle.al_walk_calls.proofs.named.named_by.Goals as goal

pub returns-in-None : goal.returns-in-None
returns-in-None c = no_pointer c.args.pointer.now c.args.value c.args.p.now.functions c.in-None.ensures

pub returns-in-Some : goal.returns-in-Some
returns-in-Some c =
    goes c.named_of_type.result (λ n. n) _ _
    (ap (λ t. calls.named_by t c.args.value 0 c.args.p.now.functions) (sym (pointed_to c.args.pointer.now c.in-Some.to.now c.in-Some.ensures)))
    c.named_of_type.ensures
