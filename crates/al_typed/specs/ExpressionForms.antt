-- The forms of typed expressions with single parts, for definitions that go by cases: each hides the boxes.
use Rattle.std.specs.Prelude.{ℕ, List}
use Rattle.al_base.specs.declared.arith.Kind.{Kind}
use Rattle.al_typed.specs.declared.ty.Ty.{Ty}
use Rattle.al_typed.specs.declared.expression.UnaryOp.{UnaryOp}
use Rattle.al_typed.specs.declared.expression.BinaryOp.{BinaryOp}
use Rattle.al_typed.specs.declared.expression.Logic.{Logic}
use Rattle.al_typed.specs.declared.expression.Movement.{Movement}
use Rattle.al_typed.specs.declared.expression.StepOp.{StepOp}
use Rattle.al_typed.specs.declared.expression.Change.{Change}
use Rattle.al_typed.specs.declared.expression.Passed.{Passed}
use Rattle.al_typed.specs.declared.expression.TExpr.{TExpr, Load', Decay', Address', SizeofPlace', SizeofValue', Unary', Not', Binary', Logical', Move', Difference', Assign', Update', Step', Zerox', Terminate', Receive', Send', CanReceive', CanSend', MemberOf', Cast', Convert', end_of-TExpr, more_of-TExpr, end_of-TPlace, more_of-TPlace, end_of-TTarget, more_of-TTarget}
use Rattle.al_typed.specs.declared.expression.TPlace.{TPlace, Pointed', Element', Member', PointedMember'}
use Rattle.al_typed.specs.declared.expression.TTarget.{TTarget, Into'}
use Rattle.al_typed.specs.declared.expression.TReceiver.{TReceiver, Place', Value', Pointer'}

pattern abbrev pub pointed : Ty → TExpr → TPlace
pointed ty pointer = Pointed' ty tt (more_of-TExpr pointer end_of-TExpr)

pattern abbrev pub element : Ty → TExpr → TExpr → TPlace
element ty base index = Element' ty tt (more_of-TExpr base end_of-TExpr) tt (more_of-TExpr index end_of-TExpr)

pattern abbrev pub member_in : Ty → TPlace → List ℕ → TPlace
member_in ty of path = Member' ty tt (more_of-TPlace of end_of-TPlace) path

pattern abbrev pub pointed_member : Ty → TExpr → List ℕ → TPlace
pointed_member ty pointer path = PointedMember' ty tt (more_of-TExpr pointer end_of-TExpr) path

pattern abbrev pub into : TPlace → TTarget
into place = Into' tt (more_of-TPlace place end_of-TPlace)

pattern abbrev pub place_before : TPlace → List ℕ → Passed → TReceiver
place_before place path passed = Place' tt (more_of-TPlace place end_of-TPlace) path passed

pattern abbrev pub value_before : TExpr → List ℕ → Passed → TReceiver
value_before value path passed = Value' tt (more_of-TExpr value end_of-TExpr) path passed

pattern abbrev pub pointer_before : TExpr → List ℕ → Passed → TReceiver
pointer_before pointer path passed = Pointer' tt (more_of-TExpr pointer end_of-TExpr) path passed

pattern abbrev pub load : Ty → TPlace → TExpr
load ty place = Load' ty tt (more_of-TPlace place end_of-TPlace)

pattern abbrev pub decay : Ty → TPlace → TExpr
decay ty place = Decay' ty tt (more_of-TPlace place end_of-TPlace)

pattern abbrev pub address : Ty → TPlace → TExpr
address ty place = Address' ty tt (more_of-TPlace place end_of-TPlace)

pattern abbrev pub sizeof_place : Ty → TPlace → TExpr
sizeof_place ty place = SizeofPlace' ty tt (more_of-TPlace place end_of-TPlace)

pattern abbrev pub sizeof_value : Ty → TExpr → TExpr
sizeof_value ty value = SizeofValue' ty tt (more_of-TExpr value end_of-TExpr)

pattern abbrev pub unary : Ty → UnaryOp → TExpr → TExpr
unary ty op of = Unary' ty op tt (more_of-TExpr of end_of-TExpr)

pattern abbrev pub negation : Ty → TExpr → TExpr
negation ty of = Not' ty tt (more_of-TExpr of end_of-TExpr)

pattern abbrev pub binary : Ty → BinaryOp → Kind → TExpr → TExpr → TExpr
binary ty op kind left right = Binary' ty op kind tt (more_of-TExpr left end_of-TExpr) tt (more_of-TExpr right end_of-TExpr)

pattern abbrev pub logical : Ty → Logic → TExpr → TExpr → TExpr
logical ty op left right = Logical' ty op tt (more_of-TExpr left end_of-TExpr) tt (more_of-TExpr right end_of-TExpr)

pattern abbrev pub movement : Ty → Movement → TExpr → TExpr → TExpr
movement ty how pointer count = Move' ty how tt (more_of-TExpr pointer end_of-TExpr) tt (more_of-TExpr count end_of-TExpr)

pattern abbrev pub difference : Ty → TExpr → TExpr → TExpr
difference ty left right = Difference' ty tt (more_of-TExpr left end_of-TExpr) tt (more_of-TExpr right end_of-TExpr)

pattern abbrev pub assign : Ty → TTarget → TExpr → TExpr
assign ty target value = Assign' ty tt (more_of-TTarget target end_of-TTarget) tt (more_of-TExpr value end_of-TExpr)

pattern abbrev pub update : Ty → TPlace → Change → TExpr → TExpr
update ty place change value = Update' ty tt (more_of-TPlace place end_of-TPlace) change tt (more_of-TExpr value end_of-TExpr)

pattern abbrev pub stepped : Ty → StepOp → TPlace → TExpr
stepped ty op place = Step' ty op tt (more_of-TPlace place end_of-TPlace)

pattern abbrev pub zerox : Ty → TPlace → TExpr
zerox ty place = Zerox' ty tt (more_of-TPlace place end_of-TPlace)

pattern abbrev pub terminate : Ty → TExpr → TExpr
terminate ty status = Terminate' ty tt (more_of-TExpr status end_of-TExpr)

pattern abbrev pub receive : Ty → TExpr → TExpr
receive ty chan = Receive' ty tt (more_of-TExpr chan end_of-TExpr)

pattern abbrev pub send : Ty → TExpr → TExpr → TExpr
send ty chan value = Send' ty tt (more_of-TExpr chan end_of-TExpr) tt (more_of-TExpr value end_of-TExpr)

pattern abbrev pub can_receive : Ty → TExpr → TExpr
can_receive ty chan = CanReceive' ty tt (more_of-TExpr chan end_of-TExpr)

pattern abbrev pub can_send : Ty → TExpr → TExpr
can_send ty chan = CanSend' ty tt (more_of-TExpr chan end_of-TExpr)

pattern abbrev pub member_of : Ty → TExpr → List ℕ → TExpr
member_of ty value path = MemberOf' ty tt (more_of-TExpr value end_of-TExpr) path

pattern abbrev pub cast : Ty → TExpr → TExpr
cast ty of = Cast' ty tt (more_of-TExpr of end_of-TExpr)

pattern abbrev pub convert : Ty → TExpr → TExpr
convert ty of = Convert' ty tt (more_of-TExpr of end_of-TExpr)
