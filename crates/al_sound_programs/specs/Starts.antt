-- What globals start with: each value stands at a unit of its global, and fits in it.
use Rattle.std.specs.Prelude.{◌≡◌, ℕ, ◌<◌, true, All, Contains, List, [], ◌∷◌, length, Option, Some, None, slice_get}
use Rattle.std.specs.List.{flat_map}
use Rattle.al_tree.specs.declared.expression.Expr.{Expr}
use Rattle.al_tree.specs.declared.item.Initializer.{Initializer, fold-Initializer}
use Rattle.al_tree.specs.declared.item.Initializer.TheOpen.{Initializer-F}
use Rattle.al_tree.specs.declared.item.Declarator.{Declarator}
use Rattle.al_tree.specs.declared.item.Declarator.TheVariants as declarator
use Rattle.al_tree.specs.declared.item.Item.{Item}
use Rattle.al_tree.specs.declared.item.Item.TheVariants as item
use Rattle.al_tree.specs.declared.item.Tree.{Tree}
use Rattle.al_rules.specs.Outcome.{Good}
use Rattle.al_typed.specs.declared.ty.Ty.{Ty}
use Rattle.al_typed.specs.declared.program.Aggregate.{Aggregate}
use Rattle.al_typed.specs.declared.program.Program.{Program}
use Rattle.al_typed.specs.declared.program.StartValue.{StartValue}
use Rattle.al_typed.specs.declared.expression.TExpr.{TExpr}
use Rattle.al_typed.specs.Layout.{members_of, moved, unit_at, units_of}
use Rattle.al_typed.specs.WellTyped.{FitsIn, is_stored}
use Rattle.al_environment.specs.declared.environment.Environment.{Environment}
use Rattle.al_environment.specs.declared.environment.Here.{Here}
use Rattle.al_operands.specs.declared.operand.Operand.{Operand}
use Rattle.al_type_expr.specs.Nodes.{value_of}
use Rattle.al_initial.specs.Start.{text_of}
use Rattle.al_initial.specs.Whole.{gathered, numbered, outside}

-- a value at a unit of a part of that type, which stands so many bytes from the front of its global
abbrev pub StartsIn : Program → Ty → ℕ → StartValue → Type 0
StartsIn p t offset v = Contains (moved offset (units_of p.aggregates t)) (unit_at v.at v.size) × FitsIn p v.size v.word

abbrev pub AreStarts : Program → Ty → ℕ → List StartValue → Type 0
AreStarts p t offset = All (StartsIn p t offset)

-- a string constant that starts something is one of the program
abbrev pub TextIsThere : Program → TExpr → Type 0
TextIsThere p e = (n : ℕ) → text_of e ≡ Some n → n < length p.strings

-- ---- the values in initializers

abbrev pub values_step : Initializer-F (List Expr) → List Expr
values_step (Initializer-F.Value e) = e ∷ []
values_step (Initializer-F.Braces at parts) = flat_map (λ es. es) parts

unfoldable pub values_in : Initializer → List Expr
values_in = fold-Initializer (List Expr) values_step

abbrev pub values_if : Option Initializer → List Expr
values_if None = []
values_if (Some i) = values_in i

abbrev pub declared_values : Declarator → List Expr
declared_values (declarator.Global dcl value) = values_if value
declared_values (declarator.Function head) = []

abbrev pub item_values : Item → List Expr
item_values (item.Declare at scope base list) = flat_map declared_values list
item_values _ = []

-- string constants in these values are those of the program
abbrev pub TextsAreThere : Program → Environment → Here → List Expr → Type 0
TextsAreThere p env here es = All (λ (e : Expr). (x : Operand) → value_of env here e ≡ Good x → TextIsThere p x.value) es

-- ---- where they stand

-- members of aggregates have the types of values in storage
abbrev pub MembersAreStored : List Aggregate → Type 0
MembersAreStored rows = (k : ℕ) (a : Aggregate) → slice_get rows k ≡ Some a → All (λ t. is_stored rows t ≡ true) (members_of (Some a))

-- where string constants have the numbers that the initializers of a text give them
abbrev pub numbered_outside : Environment → Tree → Here
numbered_outside env tree = outside (numbered 0 (gathered env tree).texts)
