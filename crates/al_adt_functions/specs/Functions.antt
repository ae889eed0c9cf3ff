-- The functions that the types with members of a text have of their own, by typing rules 2 and 11.
use Rattle.std.specs.Prelude.{ℕ, ◌+◌, Bool, false, List, [], ◌∷◌, ◌++◌, fold, map, reverse, slice_get, slice_set, Option, Some, None}
use Rattle.al_tree.specs.declared.type_tree.TypeTree.{TypeTree}
use Rattle.al_tree.specs.declared.item.Head.{Head}
use Rattle.al_tree.specs.declared.item.Owner.{Owner}
use Rattle.al_tree.specs.declared.item.Item.{Item}
use Rattle.al_tree.specs.declared.item.Item.TheVariants as item
use Rattle.al_rules.specs.declared.fault.TypeFault.{TypeFault}
use Rattle.al_rules.specs.Outcome.{Outcome, ask, judge}
use Rattle.al_typed.specs.declared.program.Aggregate.{Aggregate}
use Rattle.al_environment.specs.declared.environment.Environment.{Environment}
use Rattle.al_form.specs.declared.form.Forms.{Forms}
use Rattle.al_declare.specs.declared.function.Defined.{Defined}
use Rattle.al_type_rules.specs.Types.{signature}
use Rattle.al_member_names.specs.declared.function.OwnFunction.{OwnFunction}
use Rattle.al_adt_functions.specs.Bodies.{number_of_body}
use Rattle.al_adt_functions.specs.Rules.{rule_2_body, rule_11_declared}
use Rattle.al_adt_functions.specs.Owned.{function_faults, adts}
use Rattle.al_adt_functions.specs.Searches.{adt_of, function_of}
use Rattle.al_adt_functions.specs.Heads.{with_heads}
use Rattle.al_adt_functions.specs.declared.owned.AdtFunctions.{AdtFunctions}
use Rattle.al_adt_functions.specs.declared.owned.Adts.{Adts}

-- ---- definitions

abbrev pub asked_declared : Environment → AdtFunctions → TypeTree → Head → List TypeFault
asked_declared env a base h = ask 11 h.name.at (rule_11_declared a.owned.aggregate (function_of a h.name.name) (signature env a.owned.here base h.stars h.parameters))

module _ (env : Environment) (items : List Item) (defined : List Defined) where
  -- a definition of a function of that adt
  unfoldable pub faults_in_adt : AdtFunctions → (k : ℕ) → TypeTree → Head → List TypeFault
  faults_in_adt a k base h =
      function_faults env a.owned.here base h.stars h.name h.parameters
      ++ (ask 2 h.name.at (rule_2_body (number_of_body items defined a.owned.name a.owned.instance h.name.name) k) ++ asked_declared env a base h)

  -- 11. of one whose adt has no body
  abbrev pub faults_with : Option AdtFunctions → (k : ℕ) → TypeTree → Head → List TypeFault
  faults_with None k base h = ask 11 h.name.at false
  faults_with (Some a) k base h = faults_in_adt a k base h

  abbrev pub faults_owned : List AdtFunctions → Option Owner → Option ℕ → (k : ℕ) → TypeTree → Head → List TypeFault
  faults_owned list None instance k base h = []
  faults_owned list (Some owner) instance k base h = faults_with (adt_of list owner.adt.name instance) k base h

  unfoldable pub faults_of_item : List AdtFunctions → Option ℕ → (k : ℕ) → Item → List TypeFault
  faults_of_item list instance k (item.Function at scope base head body) = faults_owned list head.owner instance k base head
  faults_of_item list instance k _ = []

  abbrev pub faults_at : List AdtFunctions → Option ℕ → (k : ℕ) → Option Item → List TypeFault
  faults_at list instance k None = []
  faults_at list instance k (Some i) = faults_of_item list instance k i

  -- those of the definitions from the one of the number `from` on
  unfoldable pub faults_of_definitions : List AdtFunctions → (from : ℕ) → List Defined → List TypeFault
  faults_of_definitions list from [] = []
  faults_of_definitions list from (d ∷ ds) = faults_at list d.instance from (slice_get items d.item) ++ faults_of_definitions list (from + 1) ds

-- ---- by the numbers of the types

abbrev pub with_functions : List (List OwnFunction) → AdtFunctions → List (List OwnFunction)
with_functions own a = slice_set own a.owned.aggregate a.functions

-- of several of one number the first counts
unfoldable pub placed : List (List OwnFunction) → List AdtFunctions → List (List OwnFunction)
placed own list = fold with_functions own (reverse list)

abbrev pub no_functions : Aggregate → List OwnFunction
no_functions row = []

abbrev pub own_functions : List Aggregate → List AdtFunctions → List (List OwnFunction)
own_functions rows list = placed (map no_functions rows) list

abbrev pub faults_of : Environment → List Item → List Defined → Adts → List TypeFault
faults_of env items defined w = with_heads env w.list (w.faults ++ faults_of_definitions env items defined w.list 0 defined) items

abbrev pub judged : List Aggregate → Adts → List TypeFault → Outcome (List (List OwnFunction))
judged rows w faults = judge faults (own_functions rows w.list)

-- the functions of each, with the numbers of their bodies
unfoldable pub functions : Environment → List Item → List Defined → Forms → List ℕ → Outcome (List (List OwnFunction))
functions env items defined fs ns =
    let w = adts env items defined fs ns in
    judged env.aggregates w (faults_of env items defined w)
