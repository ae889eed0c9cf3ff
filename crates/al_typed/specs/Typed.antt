-- What stands in a typed program at a number, and the types of its expressions.
use Rattle.std.specs.Prelude.{ℕ, List, [], ◌∷◌, map, take, Option, Some, None}
use Rattle.al_typed.specs.declared.ty.Ty.{Ty}
use Rattle.al_typed.specs.declared.ty.Ty.TheVariants as ty
use Rattle.al_typed.specs.declared.program.Function.{Function as FunctionRow}
use Rattle.al_typed.specs.declared.program.Local.{Local}
use Rattle.al_typed.specs.declared.expression.TExpr.{TExpr, Constant, Text, Nil, Function, Load', Decay', Address', SizeofType, SizeofPlace', SizeofValue', Unary', Not', Binary', Logical', Move', Difference', Assign', Update', Step', Zerox', Tuple', Call', CallPointer', Print', Terminate', Receive', Send', CanReceive', CanSend', MemberOf', Cast', Convert', Sequence', Iterator, Row_of-TExpr, end_of-TExpr, more_of-TExpr}
use Rattle.al_typed.specs.declared.expression.TPlace.{TPlace, Local as Local_, Outer, Global, Pointed', Element', Member', PointedMember'}
use Rattle.al_typed.specs.declared.expression.TTarget.{TTarget, Dropped, Parts', Row_of-TTarget, end_of-TTarget, more_of-TTarget}
use Rattle.al_typed.specs.ExpressionForms as form

abbrev pub type_of : TExpr → Ty
type_of (Constant t _) = t
type_of (Text t _) = t
type_of (Nil t) = t
type_of (Function t _) = t
type_of (Load' t _ _) = t
type_of (Decay' t _ _) = t
type_of (Address' t _ _) = t
type_of (SizeofType t _) = t
type_of (SizeofPlace' t _ _) = t
type_of (SizeofValue' t _ _) = t
type_of (Unary' t _ _ _) = t
type_of (Not' t _ _) = t
type_of (Binary' t _ _ _ _ _ _) = t
type_of (Logical' t _ _ _ _ _) = t
type_of (Move' t _ _ _ _ _) = t
type_of (Difference' t _ _ _ _) = t
type_of (Assign' t _ _ _ _) = t
type_of (Update' t _ _ _ _ _) = t
type_of (Step' t _ _ _) = t
type_of (Zerox' t _ _) = t
type_of (Tuple' t _ _) = t
type_of (Call' t _ _ _ _) = t
type_of (CallPointer' t _ _ _ _) = t
type_of (Print' t _ _ _) = t
type_of (Terminate' t _ _) = t
type_of (Receive' t _ _) = t
type_of (Send' t _ _ _ _) = t
type_of (CanReceive' t _ _) = t
type_of (CanSend' t _ _) = t
type_of (MemberOf' t _ _ _) = t
type_of (Cast' t _ _) = t
type_of (Convert' t _ _) = t
type_of (Sequence' t _ _ _ _) = t
type_of (Iterator t _) = t

abbrev pub place_type : TPlace → Ty
place_type (Local_ t _) = t
place_type (Outer t _ _) = t
place_type (Global t _) = t
place_type (Pointed' t _ _) = t
place_type (Element' t _ _ _ _) = t
place_type (Member' t _ _ _) = t
place_type (PointedMember' t _ _ _) = t

abbrev pub target_type : TTarget → Ty
target_type (form.into place) = place_type place
target_type (Dropped t) = t
target_type (Parts' t _ _) = t

-- the types of expressions, and of targets, in a row
abbrev pub row_types : {m : _} → Row_of-TExpr m → List Ty
row_types end_of-TExpr = []
row_types (more_of-TExpr e rest) = type_of e ∷ row_types rest

abbrev pub target_types : {m : _} → Row_of-TTarget m → List Ty
target_types end_of-TTarget = []
target_types (more_of-TTarget target rest) = target_type target ∷ target_types rest

-- the number of the function that an expression calls by its name
abbrev pub callee_of : TExpr → Option ℕ
callee_of (Call' _ function _ _ _) = Some function
callee_of _ = None

-- ---- functions

abbrev pub local_types : List Local → List Ty
local_types = map (λ (l : Local). l.ty)

abbrev pub parameter_types : FunctionRow → List Ty
parameter_types f = local_types (take f.parameters f.locals)

-- the type of a function as a value points to
abbrev pub function_type : FunctionRow → Ty
function_type f = ty.Function f.returns (parameter_types f)
