-- The globals and the functions outside of adts of a text, with the rules that are asked of what declares them, and of the
-- names and members of types.
use Rattle.std.specs.Prelude.{ℕ, nat_le, nat_lt, ◌==◌, Bool, true, false, ◌||◌, if◌then◌else◌, List, [], ◌∷◌, ◌++◌, codes, fold, length, position, slice_get, slice_set, Option, Some, None, is_some, bytes_eq}
use Rattle.std.specs.List.{flat_map}
use Rattle.al_base.specs.declared.place.Place.{Place}
use Rattle.al_tree.specs.declared.expression.Name.{Name}
use Rattle.al_tree.specs.declared.type_tree.TypeTree.{TypeTree}
use Rattle.al_tree.specs.declared.type_tree.Dcl.{Dcl}
use Rattle.al_tree.specs.declared.item.Scope.{Scope}
use Rattle.al_tree.specs.declared.item.Scope.TheVariants as scope
use Rattle.al_tree.specs.declared.item.Owner.{Owner}
use Rattle.al_tree.specs.declared.item.Head.{Head}
use Rattle.al_tree.specs.declared.item.Parameter.{Parameter}
use Rattle.al_tree.specs.declared.item.Member.{Member}
use Rattle.al_tree.specs.declared.item.Declarator.{Declarator}
use Rattle.al_tree.specs.declared.item.Declarator.TheVariants as declarator
use Rattle.al_tree.specs.declared.item.Item.{Item}
use Rattle.al_tree.specs.declared.item.Item.TheVariants as item
use Rattle.al_tree.specs.declared.item.Tree.{Tree}
use Rattle.al_rules.specs.declared.fault.TypeFault.{TypeFault}
use Rattle.al_rules.specs.Outcome.{Outcome, ask, judge}
use Rattle.al_typed.specs.declared.ty.Ty.{Ty}
use Rattle.al_scope.specs.declared.declaration.Declaration.{Declaration}
use Rattle.al_scope.specs.declared.declaration.Declaration.TheVariants as declaration
use Rattle.al_scope.specs.Firsts.{declaration_at}
use Rattle.al_environment.specs.declared.environment.Signature.{Signature}
use Rattle.al_environment.specs.declared.environment.Variable.{Variable}
use Rattle.al_environment.specs.declared.environment.Environment.{Environment}
use Rattle.al_environment.specs.declared.environment.Here.{Here}
use Rattle.al_environment.specs.Written.{written}
use Rattle.al_type_rules.specs.Written.{faults_in}
use Rattle.al_type_rules.specs.Types.{known, declared, variable_faults, typedef_faults, signature, signature_faults}
use Rattle.al_type_rules.specs.Members.{member_faults}
use Rattle.al_globals.specs.Rules.{rule_2_global, rule_2_6_function, rule_4_main, rule_19_private}
use Rattle.al_globals.specs.Numbers.{number_of}
use Rattle.al_globals.specs.declared.found.Found.{Found}

-- where no function is at hand
abbrev pub outside : Here
outside = record { own = None; locals = []; around = []; texts = []; iterators = [] }

-- ---- globals

abbrev pub is_private_word : Option Scope → Bool
is_private_word None = false
is_private_word (Some scope.Intern) = false
is_private_word (Some scope.Extern) = false
is_private_word (Some scope.Private) = true

-- the number among the globals of what stands at a place
abbrev pub global_in : Option Declaration → Option ℕ
global_in None = None
global_in (Some (declaration.Global n)) = Some n
global_in (Some (declaration.Function n)) = None
global_in (Some (declaration.Constant n)) = None
global_in (Some (declaration.Local n)) = None
global_in (Some (declaration.Outer around n)) = None
global_in (Some declaration.Print) = None
global_in (Some declaration.Terminate) = None

abbrev pub function_in : Option Declaration → Option ℕ
function_in None = None
function_in (Some (declaration.Global n)) = None
function_in (Some (declaration.Function n)) = Some n
function_in (Some (declaration.Constant n)) = None
function_in (Some (declaration.Local n)) = None
function_in (Some (declaration.Outer around n)) = None
function_in (Some declaration.Print) = None
function_in (Some declaration.Terminate) = None

-- numbers past 2^32 - 1 count as that
abbrev pub capped : ℕ → ℕ
capped n = if nat_le n 4294967295 then n else 4294967295

-- one that was declared so, or not yet, is private once it is declared again
abbrev pub is_private_with : Option Variable → Bool → Bool
is_private_with None is_private = is_private
is_private_with (Some old) is_private = is_private || old.is_private

-- the same of its having a value
abbrev pub has_value_with : Option Bool → Bool → Bool
has_value_with None has_value = has_value
has_value_with (Some old) has_value = has_value || old

abbrev pub variable : (n : ℕ) → Ty → Bool → Variable
variable n t is_private = record { number = capped n; ty = t; is_private = is_private }

-- one that is declared again keeps its type
abbrev pub again : Option Variable → (n : ℕ) → Ty → Bool → Variable
again None n t is_private = variable n t is_private
again (Some old) n t is_private = variable n old.ty is_private

-- in the list by its number, or behind those that are there
abbrev pub put : {A : Type 0} → List A → ℕ → A → List A
put xs n x = if nat_lt n (length xs) then slice_set xs n x else xs ++ x ∷ []

abbrev pub asked_global : Place → (is_same is_right : Bool) → List TypeFault
asked_global at is_same is_right = ask 2 at is_same ++ ask 19 at is_right

-- the global of that number has that type, and is private or has a value
unfoldable pub with_global : Found → Place → (n : ℕ) → Ty → (is_private has_value : Bool) → Found
with_global w at n t is_private has_value =
    let old = slice_get w.globals n in
    let private = is_private_with old is_private in
    let value = has_value_with (slice_get w.values n) has_value in
    record {
      globals = put w.globals n (again old n t private);
      values = put w.values n value;
      functions = w.functions;
      faults = w.faults ++ asked_global at (rule_2_global old t) (rule_19_private private value t);
    }

abbrev pub with_global_if : Found → Place → Option ℕ → Ty → (is_private has_value : Bool) → Found
with_global_if w at None t is_private has_value = w
with_global_if w at (Some n) t is_private has_value = with_global w at n t is_private has_value

-- ---- functions

abbrev pub first_signature : Option Signature → Signature → Signature
first_signature None s = s
first_signature (Some old) s = old

abbrev pub with_signature : Found → Place → (rule n : ℕ) → Signature → Found
with_signature w at rule n s =
    let old = slice_get w.functions n in
    record {
      globals = w.globals;
      values = w.values;
      functions = put w.functions n (first_signature old s);
      faults = w.faults ++ ask rule at (rule_2_6_function old s);
    }

abbrev pub with_signature_if : Found → Place → (rule : ℕ) → Option ℕ → Signature → Found
with_signature_if w at rule None s = w
with_signature_if w at rule (Some n) s = with_signature w at rule n s

-- the rule that the types of a function break
abbrev pub rule_of : (has_body : Bool) → ℕ
rule_of has_body = if has_body then 6 else 2

abbrev pub numbered : List (Option ℕ) → ℕ → Signature → Signature
numbered ns name s = record { number = number_of ns name; returns = s.returns; parameters = s.parameters }

abbrev pub with_faults : Found → List TypeFault → Found
with_faults w faults = record { globals = w.globals; values = w.values; functions = w.functions; faults = w.faults ++ faults }

-- a global of that base type
unfoldable pub with_dcl : Environment → Bool → Option Ty → Found → Dcl → (has_value : Bool) → Found
with_dcl env is_private base w dcl has_value =
    with_global_if (with_faults w (variable_faults env base dcl)) dcl.name.at (global_in (declaration_at env.scopes.names dcl.name.at)) (known (declared env base dcl)) is_private has_value

module _ (env : Environment) (here : Here) where
  abbrev pub with_type : Found → TypeTree → Found
  with_type w t = with_faults w (faults_in env here t)

  abbrev pub with_base_dcl : Bool → TypeTree → Found → Dcl → (has_value : Bool) → Found
  with_base_dcl is_private base w dcl has_value = with_dcl env is_private (written env here base) (with_type w base) dcl has_value

  abbrev pub with_typedef : Found → TypeTree → Dcl → Found
  with_typedef w base dcl = with_faults (with_type w base) (typedef_faults env (written env here base) dcl)

  abbrev pub with_function_type : Found → Place → TypeTree → ℕ → List Parameter → Found
  with_function_type w at base stars ps = with_faults (with_type w base) (signature_faults env here at base stars ps)

  abbrev pub with_members : Found → List Member → Found
  with_members w members = with_faults w (flat_map (member_faults env here) members)

module _ (env : Environment) (here : Here) (ns : List (Option ℕ)) where
  -- a head of a function outside of adts; those of adts are asked with these
  unfoldable pub with_plain_head : Bool → TypeTree → Found → Head → Found
  with_plain_head has_body base w h =
      with_signature_if (with_faults (with_type env here w base) (signature_faults env here h.name.at base h.stars h.parameters)) h.name.at (rule_of has_body)
      (function_in (declaration_at env.scopes.names h.name.at)) (numbered ns h.name.name (signature env here base h.stars h.parameters))

  abbrev pub with_owner : Option Owner → Bool → TypeTree → Found → Head → Found
  with_owner None has_body base w h = with_plain_head has_body base w h
  with_owner (Some owner) has_body base w h = w

  abbrev pub with_head : Bool → TypeTree → Found → Head → Found
  with_head has_body base w h = with_owner h.owner has_body base w h

  -- ---- items

  unfoldable pub with_declarator : Bool → TypeTree → Found → Declarator → Found
  with_declarator is_private base w (declarator.Global dcl value) = with_base_dcl env here is_private base w dcl (is_some value)
  with_declarator is_private base w (declarator.Function h) = with_head false base w h

  abbrev pub with_declare : Option Scope → TypeTree → Found → List Declarator → Found
  with_declare scope base w list = fold (with_declarator (is_private_word scope) base) w list

  unfoldable pub with_item : Found → Item → Found
  with_item w (item.Typedef at base dcl) = with_typedef env here w base dcl
  with_item w (item.FunctionType at base stars name ps) = with_function_type env here w at base stars ps
  with_item w (item.Aggregate at kind name members) = with_members env here w members
  with_item w (item.Declare at scope base list) = with_declare scope base w list
  with_item w (item.Function at scope base head body) = with_head true base w head
  with_item w _ = w

-- ---- a text

abbrev pub begun : Found
begun = record { globals = []; values = []; functions = []; faults = [] }

abbrev pub is_text : List ℕ → List ℕ → Bool
is_text text name = bytes_eq name text

abbrev pub is_name : Option ℕ → Name → Bool
is_name None n = false
is_name (Some name) n = n.name == name

unfoldable pub numbered_name : List ℕ → List (List ℕ) → Option ℕ
numbered_name text names = position (λ name. is_text text name) names

-- the number of main among the functions
unfoldable pub main_of : List (List ℕ) → List Name → Option ℕ
main_of names functions = position (is_name (numbered_name (codes "main") names)) functions

abbrev pub function_at : List Signature → Option ℕ → Option Signature
function_at functions None = None
function_at functions (Some n) = slice_get functions n

abbrev pub start : Place
start = record { line = 1; col = 1 }

-- 4. of the text
abbrev pub asked_main : Tree → Environment → Found → List TypeFault
asked_main tree env w = ask 4 start (rule_4_main (function_at w.functions (main_of tree.names env.scopes.functions)))

-- what is found, without faults
abbrev pub judged : Found → Outcome Found
judged w = judge w.faults (record { globals = w.globals; values = w.values; functions = w.functions; faults = [] })

abbrev pub with_main : Tree → Environment → Found → Found
with_main tree env w = with_faults w (asked_main tree env w)

unfoldable pub globals : Environment → Tree → List (Option ℕ) → Outcome Found
globals env tree ns = judged (with_main tree env (fold (with_item env outside ns) begun tree.items))
