use Rattle.std.proofs.Common.{◌≡◌, IfOk, sym, subst}
use Rattle.al_typed.specs.declared.expression.Passed.{Passed}
use Rattle.al_typed.specs.Typed.{type_of}
use Rattle.al_meaning.specs.Here.{member_type}
use Rattle.al_lower_code.specs.Actions.{object_in}
use Rattle.al_lower_code.specs.Expressions.{coded}
use Rattle.al_lower_base.specs.Spots.{spot_of}
use Rattle.al_lower_parts.proofs.Passing.{no_words}
use Rattle.al_lower_parts.proofs.members.value_object_words.Goals as goal

pub returns-in-Value : goal.returns-in-Value
returns-in-Value c =
    subst (λ (how : Passed). IfOk c.value_member_words.result (λ n. n ≡ (object_in (spot_of c.args.s) how (type_of c.args.e.now) (member_type c.args.s.program.now (type_of c.args.e.now) c.args.path.now) c.args.path.now (coded (spot_of c.args.s) c.args.e.now)).words))
    (sym c.in-Value.is) c.value_member_words.ensures

pub returns-in-Address : goal.returns-in-Address
returns-in-Address c =
    sym (no_words (spot_of c.args.s) c.args.how (type_of c.args.e.now) (member_type c.args.s.program.now (type_of c.args.e.now) c.args.path.now) c.args.path.now
    (coded (spot_of c.args.s) c.args.e.now) c.in-Address.is)
