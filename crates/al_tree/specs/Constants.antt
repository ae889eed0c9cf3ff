-- The values of enum constants and bounds (typing rule 22).
--
-- An enum value is constant where it is made of integers, enum constants, casts between integers, and operators on them
-- without division by 0, also in a part that does not decide an `&&` or `||`. A name in it or in a bound is that of the
-- latest earlier enum constant of that name. An enum constant without a value is one more than the one before, the first
-- 0. Enum constants are ints.
use Rattle.std.specs.Prelude.{ℕ, ◌==◌, nat_lt, Bool, ◌&&◌, ◌||◌, if◌then◌else◌, List, [], ◌∷◌, ◌++◌, fold, find, reverse, Option, Some, None, option_map, option_and_then}
use Rattle.al_base.specs.declared.place.Place.{Place}
use Rattle.al_base.specs.declared.arith.Kind.{Kind}
use Rattle.al_base.specs.declared.arith.Kind.TheVariants as kind
use Rattle.al_base.specs.declared.arith.Op.TheVariants as op
use Rattle.al_lex.specs.Values.{kind_of_value}
use Rattle.al_tree.specs.declared.type_tree.BasicType.{BasicType}
use Rattle.al_tree.specs.declared.type_tree.BasicType.TheVariants as basic
use Rattle.al_tree.specs.declared.type_tree.BoundOp.{BoundOp}
use Rattle.al_tree.specs.declared.type_tree.BoundOp.TheVariants as bo
use Rattle.al_tree.specs.declared.type_tree.TypeTree.{TypeTree, out-TypeTree}
use Rattle.al_tree.specs.declared.type_tree.TypeTree.TheOpen.{TypeTree-F}
use Rattle.al_tree.specs.declared.type_tree.Bound.{Bound, fold-Bound}
use Rattle.al_tree.specs.declared.type_tree.Bound.TheOpen.{Bound-F}
use Rattle.al_tree.specs.declared.type_tree.Dcl.{Dcl}
use Rattle.al_tree.specs.declared.expression.Name.{Name}
use Rattle.al_tree.specs.declared.expression.Expr.{Expr, fold-Expr}
use Rattle.al_tree.specs.declared.expression.Expr.TheOpen.{Expr-F}
use Rattle.al_tree.specs.declared.item.Constant.{Constant}
use Rattle.al_tree.specs.declared.item.Item.{Item}
use Rattle.al_tree.specs.declared.item.Item.TheVariants as item
use Rattle.al_tree.specs.declared.integer.Integer.{Integer}
use Rattle.al_tree.specs.declared.constants.EnumConstant.{EnumConstant}
use Rattle.al_tree.specs.declared.constants.NamedKind.{NamedKind}
use Rattle.al_tree.specs.declared.constants.Known.{Known}
use Rattle.al_tree.specs.Integers.{int, integer, in_kind, arithmetic, unary, binary, small}

-- ---- integer types

unfoldable pub basic_kind : BasicType → Option Kind
basic_kind basic.Byte = Some kind.Byte
basic_kind basic.Sint = Some kind.Sint
basic_kind basic.Usint = Some kind.Usint
basic_kind basic.Int = Some kind.Int
basic_kind basic.Uint = Some kind.Uint
basic_kind basic.Lint = Some kind.Lint
basic_kind basic.Ulint = Some kind.Ulint
basic_kind basic.Void = None

abbrev pub kind_named : Option NamedKind → Option Kind
kind_named None = None
kind_named (Some t) = t.kind

-- the latest type of that name
unfoldable pub latest_type : List NamedKind → ℕ → Option NamedKind
latest_type types name = find (λ t. t.name == name) (reverse types)

-- the integer kind that it stands for
abbrev pub latest_kind : List NamedKind → ℕ → Option Kind
latest_kind types name = kind_named (latest_type types name)

abbrev pub kind_at : List NamedKind → TypeTree-F TypeTree → Option Kind
kind_at types (TypeTree-F.Basic at b) = basic_kind b
kind_at types (TypeTree-F.Named at name []) = latest_kind types name
kind_at types _ = None

-- the integer kind that a type is
unfoldable pub kind_of : List NamedKind → TypeTree → Option Kind
kind_of types x = kind_at types (out-TypeTree x)

-- ---- expressions

abbrev pub value_of : Option EnumConstant → Option Integer
value_of None = None
value_of (Some c) = c.value

-- the latest constant of that name
unfoldable pub latest : List EnumConstant → ℕ → Option EnumConstant
latest constants name = find (λ c. c.name.name == name) (reverse constants)

abbrev pub cast : Option Kind → Option Integer → Option Integer
cast None i = None
cast (Some kind) i = option_map (in_kind kind) i

abbrev pub both : (Integer → Integer → Option Integer) → Option Integer → Option Integer → Option Integer
both f None b = None
both f (Some x) None = None
both f (Some x) (Some y) = f x y

abbrev pub Meaning : Type 0
Meaning = Known → Option Integer

abbrev pub step : Expr-F Meaning → Meaning
step (Expr-F.Number at n) known = Some (integer (kind_of_value n) n)
step (Expr-F.Char at n) known = Some (int n)
step (Expr-F.Name at name) known = value_of (latest known.constants name)
step (Expr-F.Unary at o a) known = option_and_then (unary o) (a known)
step (Expr-F.Cast at to a) known = cast (kind_of known.types to) (a known)
step (Expr-F.Binary at o a b) known = both (binary o) (a known) (b known)
step _ known = None

-- the value of an expression, where it is constant
unfoldable pub value : Expr → Known → Option Integer
value = fold-Expr Meaning step

-- ---- enums

abbrev pub nothing_known : Known
nothing_known = record { types = []; constants = [] }

abbrev pub named_kind : ℕ → Option Kind → NamedKind
named_kind name kind = record { name = name; kind = kind }

abbrev pub enum_constant : Name → Option Integer → EnumConstant
enum_constant name value = record { name = name; value = value }

-- the value as an int
abbrev pub as_int : Option Integer → Option Integer
as_int i = option_map (in_kind kind.Int) i

-- the value that a constant has, where `next` is one more than the one before
unfoldable pub given : Known → Option Integer → Option Expr → Option Integer
given known next None = next
given known next (Some e) = as_int (value e known)

unfoldable pub one_more : Option Integer → Option Integer
one_more i = option_and_then (λ a. arithmetic op.Add a (int 1)) i

-- what is known behind constants of one enum
unfoldable pub numbered : Option Integer → Known → List Constant → Known
numbered next known [] = known
numbered next known (c ∷ cs) =
    let v = given known next c.value in
    numbered (one_more v) (record { types = known.types; constants = known.constants ++ enum_constant c.name v ∷ [] }) cs

abbrev pub no_bounds : {A : Type 0} → List A → Bool
no_bounds [] = Rattle.std.specs.Prelude.true
no_bounds (x ∷ xs) = Rattle.std.specs.Prelude.false

-- the integer kind of a name that a typedef declares
unfoldable pub declared_kind : List NamedKind → TypeTree → Dcl → Option Kind
declared_kind types base dcl = if dcl.stars == 0 && no_bounds dcl.bounds then kind_of types base else None

abbrev pub with_type : Known → ℕ → Option Kind → Known
with_type known name kind = record { types = known.types ++ named_kind name kind ∷ []; constants = known.constants }

abbrev pub with_enum_name : Known → Option Name → Known
with_enum_name known None = known
with_enum_name known (Some n) = with_type known n.name (Some kind.Int)

-- what is known behind an item; an enum's name is a name for int, inside its braces too
unfoldable pub with_item : Known → Item → Known
with_item known (item.Typedef at base dcl) = with_type known dcl.name.name (declared_kind known.types base dcl)
with_item known (item.FunctionType at base stars name parameters) = with_type known name.name None
with_item known (item.Forward at kind name) = with_type known name.name None
with_item known (item.Aggregate at kind name members) = with_type known name.name None
with_item known (item.Adt at name parameters members) = with_type known name.name None
with_item known (item.Enum at name constants) = numbered (Some (int 0)) (with_enum_name known name) constants
with_item known (item.Declare at scope base declarators) = known
with_item known (item.Function at scope base head body) = known

-- the enum constants of a text in text order
unfoldable pub values : List Item → List EnumConstant
values items = (fold with_item nothing_known items).constants

-- ---- bounds

unfoldable pub is_before : Place → Place → Bool
is_before p q = nat_lt p.line q.line || (p.line == q.line && nat_lt p.col q.col)

-- the latest constant of that name before the place
unfoldable pub latest_before : List EnumConstant → ℕ → Place → Option EnumConstant
latest_before constants name at = find (λ c. c.name.name == name && is_before c.name.at at) (reverse constants)

unfoldable pub bound_operation : BoundOp → Integer → Integer → Option Integer
bound_operation bo.Plus a b = arithmetic op.Add a b
bound_operation bo.Minus a b = arithmetic op.Sub a b
bound_operation bo.Times a b = arithmetic op.Mul a b

abbrev pub BoundMeaning : Type 0
BoundMeaning = List EnumConstant → Place → Option Integer

abbrev pub bound_step : Bound-F BoundMeaning → BoundMeaning
bound_step (Bound-F.Number place n) constants at = Some (integer (kind_of_value n) n)
bound_step (Bound-F.Name place name) constants at = value_of (latest_before constants name at)
bound_step (Bound-F.Binary place o a b) constants at = both (bound_operation o) (a constants at) (b constants at)

-- the integer that a bound at that place is
unfoldable pub bound_integer : Bound → List EnumConstant → Place → Option Integer
bound_integer = fold-Bound BoundMeaning bound_step

-- the value of a bound at that place, where it is from 0 to 2^32 - 1
unfoldable pub bound_number : List EnumConstant → Bound → Place → Option ℕ
bound_number constants b at = option_and_then small (bound_integer b constants at)
