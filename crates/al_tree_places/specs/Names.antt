-- The places of names that stand for something, in the order in which these are resolved: those in expressions, and those of the
-- globals, functions outside of adts, enum constants, parameters and locals that are declared.
--
-- The name of an enum constant is resolved behind its value. Names of members, of types and in bounds are none of these.
use Rattle.std.specs.Prelude.{List, [], ◌∷◌, ◌++◌, Option, Some, None}
use Rattle.std.specs.List.{flat_map}
use Rattle.al_base.specs.declared.place.Place.{Place}
use Rattle.al_tree.specs.declared.expression.Name.{Name}
use Rattle.al_tree.specs.declared.statement.Variable.{Variable}
use Rattle.al_tree.specs.declared.statement.Stmt.{Stmt, fold-Stmt}
use Rattle.al_tree.specs.declared.statement.Stmt.TheOpen.{Stmt-F}
use Rattle.al_tree.specs.declared.item.Parameter.{Parameter}
use Rattle.al_tree.specs.declared.item.Parameter.TheVariants as parameter
use Rattle.al_tree.specs.declared.item.Owner.{Owner}
use Rattle.al_tree.specs.declared.item.Head.{Head}
use Rattle.al_tree.specs.declared.item.Initializer.{Initializer, fold-Initializer}
use Rattle.al_tree.specs.declared.item.Initializer.TheOpen.{Initializer-F}
use Rattle.al_tree.specs.declared.item.Declarator.{Declarator}
use Rattle.al_tree.specs.declared.item.Declarator.TheVariants as declarator
use Rattle.al_tree.specs.declared.item.Constant.{Constant}
use Rattle.al_tree.specs.declared.item.Item.{Item}
use Rattle.al_tree.specs.declared.item.Item.TheVariants as item
use Rattle.al_tree.specs.declared.item.Tree.{Tree}
use Rattle.al_tree_walks.specs.Expressions.{name_places, all_places}

abbrev pub optional : {A : Type 0} → (A → List Place) → Option A → List Place
optional f None = []
optional f (Some x) = f x

-- ---- statements

-- a local, and then its value
abbrev pub variable_places : Variable → List Place
variable_places v = v.dcl.name.at ∷ optional name_places v.value

abbrev pub statement_step : Stmt-F (List Place) → List Place
statement_step (Stmt-F.Block at body) = all_places body
statement_step (Stmt-F.Declare at base variables) = flat_map variable_places variables
statement_step (Stmt-F.Value at value) = name_places value
statement_step (Stmt-F.Label at name body) = body
statement_step (Stmt-F.If at condition met other) = name_places condition ++ (met ++ optional (λ ats. ats) other)
statement_step (Stmt-F.While at condition body) = name_places condition ++ body
statement_step (Stmt-F.Do at body condition) = body ++ name_places condition
statement_step (Stmt-F.For at start condition next body) = optional name_places start ++ (optional name_places condition ++ (optional name_places next ++ body))
statement_step (Stmt-F.Switch at value body) = name_places value ++ all_places body
statement_step (Stmt-F.Alt at body) = all_places body
statement_step (Stmt-F.Case at value) = name_places value
statement_step (Stmt-F.Par at branches) = all_places branches
statement_step (Stmt-F.Rescue at name body) = body
statement_step (Stmt-F.Return at value) = optional name_places value
statement_step (Stmt-F.Become at value) = name_places value
statement_step (Stmt-F.Alloc at places) = flat_map name_places places
statement_step (Stmt-F.Unalloc at values) = flat_map name_places values
statement_step (Stmt-F.Check at value text) = name_places value
statement_step (Stmt-F.Proc at calls) = flat_map name_places calls
statement_step (Stmt-F.Task at calls) = flat_map name_places calls
statement_step _ = []

-- those in a statement, and in the branches of pars in it
unfoldable pub statement_places : Stmt → List Place
statement_places = fold-Stmt (List Place) statement_step

-- ---- items

abbrev pub initializer_step : Initializer-F (List Place) → List Place
initializer_step (Initializer-F.Value e) = name_places e
initializer_step (Initializer-F.Braces at parts) = all_places parts

unfoldable pub initializer_places : Initializer → List Place
initializer_places = fold-Initializer (List Place) initializer_step

-- a function's own name, where it belongs to no adt
abbrev pub name_if : Option Owner → Name → List Place
name_if None name = name.at ∷ []
name_if (Some owner) name = []

abbrev pub head_places : Head → List Place
head_places h = name_if h.owner h.name

abbrev pub declarator_places : Declarator → List Place
declarator_places (declarator.Global dcl value) = dcl.name.at ∷ optional initializer_places value
declarator_places (declarator.Function h) = head_places h

abbrev pub constant_places : Constant → List Place
constant_places c = optional name_places c.value ++ c.name.at ∷ []

-- a parameter of a function with a body
abbrev pub parameter_places : Parameter → List Place
parameter_places (parameter.Plain at base stars name bounds) = optional (λ (n : Name). n.at ∷ []) name
parameter_places (parameter.OwnPointer at name) = []
parameter_places (parameter.OwnValue at name) = []

abbrev pub item_places : Item → List Place
item_places (item.Enum at name constants) = flat_map constant_places constants
item_places (item.Declare at scope base declarators) = flat_map declarator_places declarators
item_places (item.Function at scope base head body) = head_places head ++ flat_map parameter_places head.parameters ++ statement_places body
item_places _ = []

-- those of a text
abbrev pub resolved_places : Tree → List Place
resolved_places tree = flat_map item_places tree.items
