-- The adts and instances of a text that have bodies, each with the functions that it declares.
use Rattle.std.specs.Prelude.{ℕ, ◌+◌, ◌==◌, Bool, true, false, if◌then◌else◌, List, [], ◌∷◌, ◌++◌, map, fold, Option, Some, None, option_and_then}
use Rattle.al_tree.specs.declared.expression.Name.{Name}
use Rattle.al_tree.specs.declared.type_tree.TypeTree.{TypeTree}
use Rattle.al_tree.specs.declared.item.Scope.{Scope}
use Rattle.al_tree.specs.declared.item.Scope.TheVariants as scope
use Rattle.al_tree.specs.declared.item.Parameter.{Parameter}
use Rattle.al_tree.specs.declared.item.Parameter.TheVariants as parameter
use Rattle.al_tree.specs.declared.item.AdtPart.{AdtPart}
use Rattle.al_tree.specs.declared.item.AdtPart.TheVariants as part
use Rattle.al_tree.specs.declared.item.AdtMember.{AdtMember}
use Rattle.al_tree.specs.declared.item.Item.{Item}
use Rattle.al_tree.specs.declared.item.Item.TheVariants as item
use Rattle.al_rules.specs.declared.fault.TypeFault.{TypeFault}
use Rattle.al_typed.specs.declared.expression.Passed.{Passed}
use Rattle.al_typed.specs.declared.expression.Passed.TheVariants as passed
use Rattle.al_environment.specs.declared.environment.Signature.{Signature}
use Rattle.al_environment.specs.declared.environment.InstanceType.{InstanceType}
use Rattle.al_environment.specs.declared.environment.OwnAdt.{OwnAdt}
use Rattle.al_environment.specs.declared.environment.Environment.{Environment}
use Rattle.al_environment.specs.declared.environment.Here.{Here}
use Rattle.al_environment.specs.Lookups.{plain_type}
use Rattle.al_form.specs.declared.form.InstanceForm.{InstanceForm}
use Rattle.al_form.specs.declared.form.Forms.{Forms}
use Rattle.al_layout.specs.Types.{within}
use Rattle.al_build_types.specs.Built.{instance}
use Rattle.al_declare.specs.declared.function.Defined.{Defined}
use Rattle.al_type_rules.specs.Written.{faults_in}
use Rattle.al_type_rules.specs.Types.{signature, signature_faults}
use Rattle.al_type_rules.specs.Members.{member_faults}
use Rattle.al_member_names.specs.declared.function.OwnFunction.{OwnFunction}
use Rattle.al_member_names.specs.Members.{aggregate_if}
use Rattle.al_adt_functions.specs.Bodies.{number_of_body}
use Rattle.al_adt_functions.specs.declared.owned.Owned.{Owned}
use Rattle.al_adt_functions.specs.declared.owned.Body.{Body}
use Rattle.al_adt_functions.specs.declared.owned.Adts.{Adts}

-- ---- what is at hand

-- where no function is at hand
abbrev pub here_in : Option OwnAdt → Here
here_in own = record { own = own; locals = []; around = []; texts = []; iterators = [] }

abbrev pub number_of : Name → ℕ
number_of n = n.name

-- an adt without parameters
abbrev pub plain_owned : (name aggregate : ℕ) → Owned
plain_owned name aggregate = record {
  name = name;
  instance = None;
  aggregate = aggregate;
  here = here_in (Some (record { name = name; aggregate = aggregate; parameters = []; arguments = [] }));
}

-- the instance of that number
abbrev pub instance_owned : ℕ → InstanceType → List Name → Owned
instance_owned k i parameters = record {
  name = i.adt;
  instance = Some k;
  aggregate = i.aggregate;
  here = here_in (Some (record { name = i.adt; aggregate = i.aggregate; parameters = map number_of parameters; arguments = i.arguments }));
}

-- ---- a function

-- functions are extern unless they are marked
abbrev pub is_intern : Option Scope → Bool
is_intern None = false
is_intern (Some scope.Intern) = true
is_intern (Some scope.Extern) = false
is_intern (Some scope.Private) = false

abbrev pub interns_of : (aggregate : ℕ) → Bool → List ℕ
interns_of aggregate is_intern = if is_intern then aggregate ∷ [] else []

-- what it gets of its object
abbrev pub passed_of : List Parameter → Passed
passed_of [] = passed.Nothing
passed_of (parameter.Plain at base stars name bounds ∷ ps) = passed.Nothing
passed_of (parameter.OwnPointer at name ∷ ps) = passed.Address
passed_of (parameter.OwnValue at name ∷ ps) = passed.Value

-- the parameters behind it
abbrev pub named_parameters : List Parameter → List Parameter
named_parameters [] = []
named_parameters (parameter.Plain at base stars name bounds ∷ ps) = parameter.Plain at base stars name bounds ∷ ps
named_parameters (parameter.OwnPointer at name ∷ ps) = ps
named_parameters (parameter.OwnValue at name ∷ ps) = ps

-- a program numbers functions by 32 bits
abbrev pub numbered : Option ℕ → Signature → Signature
numbered n s = record { number = option_and_then within n; returns = s.returns; parameters = s.parameters }

abbrev pub function_faults : Environment → Here → TypeTree → ℕ → Name → List Parameter → List TypeFault
function_faults env here base stars name ps = faults_in env here base ++ signature_faults env here name.at base stars ps

abbrev pub begun : Body
begun = record { functions = []; faults = [] }

abbrev pub closed : Owned → Adts → Body → Adts
closed o w b = record { list = w.list ++ (record { owned = o; functions = b.functions }) ∷ []; faults = w.faults ++ b.faults }

-- the number that an adt without parameters has as a type with members
abbrev pub aggregate_named : Environment → ℕ → Option ℕ
aggregate_named env name = aggregate_if (plain_type env (here_in None) name)

module _ (env : Environment) (items : List Item) (defined : List Defined) where
  abbrev pub own_signature : Owned → TypeTree → ℕ → Name → List Parameter → Signature
  own_signature o base stars name ps = numbered (number_of_body items defined o.name o.instance name.name) (signature env o.here base stars (named_parameters ps))

  unfoldable pub own_function : Owned → Option Scope → TypeTree → ℕ → Name → List Parameter → OwnFunction
  own_function o scope base stars name ps = record {
    at = name.at;
    function = record {
      name = name.name;
      path = [];
      interns = interns_of o.aggregate (is_intern scope);
      passed = passed_of ps;
      signature = own_signature o base stars name ps;
    };
  }

  -- ---- a body

  abbrev pub with_function : Owned → Option Scope → Body → TypeTree → ℕ → Name → List Parameter → Body
  with_function o scope w base stars name ps = record {
    functions = w.functions ++ own_function o scope base stars name ps ∷ [];
    faults = w.faults ++ function_faults env o.here base stars name ps;
  }

  unfoldable pub with_part : Owned → Option Scope → Body → AdtPart → Body
  with_part o scope w (part.Data m) = record { functions = w.functions; faults = w.faults ++ member_faults env o.here m }
  with_part o scope w (part.Function base stars name ps) = with_function o scope w base stars name ps

  abbrev pub with_member : Owned → Body → AdtMember → Body
  with_member o w m = with_part o m.scope w m.part

  -- ---- all of them

  unfoldable pub with_owned : Owned → Adts → List AdtMember → Adts
  with_owned o w members = closed o w (fold (with_member o) begun members)

  abbrev pub with_plain : (name : ℕ) → Option ℕ → Adts → List AdtMember → Adts
  with_plain name None w members = w
  with_plain name (Some aggregate) w members = with_owned (plain_owned name aggregate) w members

  abbrev pub with_closed : ℕ → List Name → Adts → List AdtMember → Adts
  with_closed name [] w members = with_plain name (aggregate_named env name) w members
  with_closed name (p ∷ ps) w members = w

  -- an adt without parameters, if the item is one
  unfoldable pub with_item : Adts → Item → Adts
  with_item w (item.Adt at name ps members) = with_closed name.name ps w members
  with_item w _ = w

  abbrev pub with_open : ℕ → InstanceType → (name : ℕ) → List Name → Adts → List AdtMember → Adts
  with_open k i name ps w members = if name == i.adt then with_owned (instance_owned k i ps) w members else w

  -- the body of an instance, if the item has it
  unfoldable pub with_instance_item : ℕ → InstanceType → Adts → Item → Adts
  with_instance_item k i w (item.Adt at name ps members) = with_open k i name.name ps w members
  with_instance_item k i w _ = w

  abbrev pub with_instance : ℕ → Adts → Option InstanceType → Adts
  with_instance k w None = w
  with_instance k w (Some i) = fold (with_instance_item k i) w items

  -- instances from the one of the number `from` on
  unfoldable pub with_instances : Forms → List ℕ → (from : ℕ) → List InstanceForm → Adts → Adts
  with_instances fs ns from [] w = w
  with_instances fs ns from (i ∷ is) w = with_instances fs ns (from + 1) is (with_instance from w (instance fs ns i))

  unfoldable pub adts : Forms → List ℕ → Adts
  adts fs ns = with_instances fs ns 0 fs.instances (fold with_item (record { list = []; faults = [] }) items)
