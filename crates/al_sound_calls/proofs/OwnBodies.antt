-- Definitions of functions of adts agree with what the adts declare.
use Rattle.std.proofs.Common.{◌≡◌, ℕ, zero, suc, ◌+◌, Bool, true, false, nat_eq, List, [], ◌∷◌, ◌++◌, fold, Option, Some, None, arith, refl, sym, ap, ◌∙◌, subst}
use Rattle.std.specs.Prelude.{find, if◌then◌else◌, option_and_then, slice_get}
use Rattle.std.proofs.lemmas.Bool.{eqb-true}
use Rattle.std.proofs.lemmas.List.Quantifiers.{position-Some}
use Rattle.std.proofs.lemmas.Option.{get_or_from_slice_get}
use Rattle.al_base.specs.declared.place.Place.{Place}
use Rattle.al_tree.specs.declared.statement.Stmt.{Stmt}
use Rattle.al_tree.specs.declared.type_tree.TypeTree.{TypeTree}
use Rattle.al_tree.specs.declared.item.Declarator.{Declarator}
use Rattle.al_tree.specs.declared.item.Declarator.TheVariants as declarator
use Rattle.al_tree.specs.declared.item.Head.{Head}
use Rattle.al_tree.specs.declared.item.Item.{Item}
use Rattle.al_tree.specs.declared.item.Item.TheVariants as item
use Rattle.al_tree.specs.declared.item.Owner.{Owner}
use Rattle.al_tree.specs.declared.item.Scope.{Scope}
use Rattle.al_rules.specs.declared.fault.TypeFault.{TypeFault}
use Rattle.al_rules.specs.Outcome.{ask}
use Rattle.al_environment.specs.declared.environment.Environment.{Environment}
use Rattle.al_declare.specs.declared.function.Defined.{Defined}
use Rattle.al_type_rules.specs.Written.{faults_in}
use Rattle.al_type_rules.specs.Types.{signature, signature_faults}
use Rattle.al_adt_functions.specs.Bodies.{head_at, head_in, is_body_of, is_head_of, is_owner, number_of_body, same_number}
use Rattle.al_adt_functions.specs.Functions.{asked_declared, faults_at, faults_in_adt, faults_of_definitions, faults_of_item, faults_owned, faults_with}
use Rattle.al_adt_functions.specs.Heads.{faults_again, is_bodiless, with_adt, with_bodiless, with_declarator, with_heads, with_item, with_owner}
use Rattle.al_adt_functions.specs.Owned.{function_faults, here_in}
use Rattle.al_adt_functions.specs.Rules.{rule_11_declared, rule_2_body}
use Rattle.al_adt_functions.specs.Searches.{adt_of, function_of, is_adt_of}
use Rattle.al_sound_environment.specs.Unnamed.{AdtFunctions}
use Rattle.al_sound_calls.proofs.Lists.{and_both, asked_true, none_in, some_is}
use Rattle.al_sound_calls.proofs.Declares.{nil_first}
use Rattle.al_sound_calls.proofs.FunctionMoves.{get_there}

-- ---- the body of a number

pub record IsBody (items : List Item) (ds : List Defined) (adt : ℕ) (instance : Option ℕ) (name number : ℕ) : Type 0 where
  pub defined : Defined
  pub numbered : slice_get ds number ≡ Some defined
  pub at : Place
  pub scope : Option Scope
  pub base : TypeTree
  pub head : Head
  pub body : Stmt
  pub stands : slice_get items defined.item ≡ Some (item.Function at scope base head body)
  pub owner : Owner
  pub owned : head.owner ≡ Some owner
  pub of : owner.adt.name ≡ adt
  pub named : head.name.name ≡ name
  pub same : defined.instance ≡ instance

pub number_is : (a b : Option ℕ) → same_number a b ≡ true → a ≡ b
number_is None None h = refl
number_is None (Some b) h = absurd (cc)
number_is (Some a) None h = absurd (cc)
number_is (Some a) (Some b) h = ap Some (eqb-true a b h)

owner_is : (o : Option Owner) (adt : ℕ) → is_owner o adt ≡ true → (owner : Owner) × (o ≡ Some owner) × (owner.adt.name ≡ adt)
owner_is None adt h = absurd (cc)
owner_is (Some owner) adt h = (owner, refl, eqb-true owner.adt.name adt h)

module _ (items : List Item) (ds : List Defined) (adt : ℕ) (instance : Option ℕ) (name number : ℕ) where
  body_item : (d : Defined) → slice_get ds number ≡ Some d → same_number d.instance instance ≡ true → (o : Option Item) → slice_get items d.item ≡ o
      → is_head_of adt name (option_and_then head_in o) ≡ true → IsBody items ds adt instance name number
  unfolding head_in
  body_item d at same None is h = absurd (cc)
  body_item d at same (Some (item.Function place scope base head body)) is h =
      let p = and_both (is_owner head.owner adt) (nat_eq head.name.name name) h in
      let o = owner_is head.owner adt p.0 in
      record {
        defined = d;
        numbered = at;
        at = place;
        scope = scope;
        base = base;
        head = head;
        body = body;
        stands = is;
        owner = o.0;
        owned = o.1;
        of = o.2;
        named = eqb-true head.name.name name p.1;
        same = number_is d.instance instance same;
      }
  body_item d at same (Some (item.Typedef place base dcl)) is h = absurd (cc)
  body_item d at same (Some (item.FunctionType place base stars n ps)) is h = absurd (cc)
  body_item d at same (Some (item.Forward place kind n)) is h = absurd (cc)
  body_item d at same (Some (item.Aggregate place kind n members)) is h = absurd (cc)
  body_item d at same (Some (item.Adt place n ps members)) is h = absurd (cc)
  body_item d at same (Some (item.Enum place n list)) is h = absurd (cc)
  body_item d at same (Some (item.Declare place scope base list)) is h = absurd (cc)

  pub body_is : number_of_body items ds adt instance name ≡ Some number → IsBody items ds adt instance name number
  unfolding number_of_body
  body_is h =
      let past : Defined = record { item = 0; instance = None } in
      let p = position-Some (is_body_of items adt instance name) ds number past h in
      let x = get_there ds number p.0 in
      let e = ap (is_body_of items adt instance name) (sym (get_or_from_slice_get ds number x.0 past x.1)) ∙ p.1 in
      let q = and_both (is_head_of adt name (head_at items x.0.item)) (same_number x.0.instance instance) e in
      body_item x.0 x.1 q.1 (slice_get items x.0.item) refl q.0

-- ---- what is asked of a definition

pub record IsAsked (env : Environment) (list : List AdtFunctions) (d : Defined) (base : TypeTree) (head : Head) (owner : Owner) : Type 0 where
  pub adt : AdtFunctions
  pub found : find (is_adt_of owner.adt.name d.instance) list ≡ Some adt
  pub faultless : signature_faults env adt.owned.here head.name.at base head.stars head.parameters ≡ []
  pub declared : rule_11_declared adt.owned.aggregate (function_of adt head.name.name) (signature env adt.owned.here base head.stars head.parameters) ≡ true

module _ (env : Environment) (items : List Item) (defined : List Defined) where
  definition_at : (list : List AdtFunctions) (from : ℕ) (ds : List Defined) (k : ℕ) (d : Defined) → faults_of_definitions env items defined list from ds ≡ [] → slice_get ds k ≡ Some d
      → faults_at env items defined list d.instance (from + k) (slice_get items d.item) ≡ []
  unfolding faults_of_definitions
  definition_at list from [] k d f h = absurd (cc)
  definition_at list from (x ∷ ds) zero d f h =
      let e = (none_in (faults_at env items defined list x.instance from (slice_get items x.item)) (faults_of_definitions env items defined list (from + 1) ds) f).0 in
      subst (λ (y : Defined). faults_at env items defined list y.instance (from + 0) (slice_get items y.item) ≡ []) (some_is h)
      (subst (λ n. faults_at env items defined list x.instance n (slice_get items x.item) ≡ []) (omega arith) e)
  definition_at list from (x ∷ ds) (suc k) d f h =
      let e = (none_in (faults_at env items defined list x.instance from (slice_get items x.item)) (faults_of_definitions env items defined list (from + 1) ds) f).1 in
      subst (λ n. faults_at env items defined list d.instance n (slice_get items d.item) ≡ []) (omega arith) (definition_at list (from + 1) ds k d e h)

  asked_is : (list : List AdtFunctions) (d : Defined) (k : ℕ) (base : TypeTree) (head : Head) (owner : Owner) (o : Option AdtFunctions) → adt_of list owner.adt.name d.instance ≡ o
      → faults_with env items defined o k base head ≡ [] → IsAsked env list d base head owner
  unfolding adt_of faults_in_adt
  asked_is list d k base head owner None is f = absurd (let g : ⊥ = cc in g)
  asked_is list d k base head owner (Some a) is f =
      let here = a.owned.here in
      let own = function_faults env here base head.stars head.name head.parameters in
      let second = ask 2 head.name.at (rule_2_body (number_of_body items defined a.owned.name a.owned.instance head.name.name) k) in
      let p = none_in own (second ++ asked_declared env a base head) f in
      let q = none_in second (asked_declared env a base head) p.1 in
      record {
        adt = a;
        found = is;
        faultless = (none_in (faults_in env here base) (signature_faults env here head.name.at base head.stars head.parameters) p.0).1;
        declared = asked_true 11 head.name.at (rule_11_declared a.owned.aggregate (function_of a head.name.name) (signature env here base head.stars head.parameters)) q.1;
      }

  pub definition_asked : (list : List AdtFunctions) → faults_of_definitions env items defined list 0 defined ≡ [] → (k : ℕ) (d : Defined) → slice_get defined k ≡ Some d
      → (at : Place) (scope : Option Scope) (base : TypeTree) (head : Head) (body : Stmt) → slice_get items d.item ≡ Some (item.Function at scope base head body)
      → (owner : Owner) → head.owner ≡ Some owner → IsAsked env list d base head owner
  unfolding faults_of_item
  definition_asked list f k d there at scope base head body stands owner owned =
      let e = definition_at list 0 defined k d f there in
      let g : faults_at env items defined list d.instance (0 + k) (Some (item.Function at scope base head body)) ≡ [] = ap (faults_at env items defined list d.instance (0 + k)) (sym stands) ∙ e in
      let h : faults_owned env items defined list (Some owner) d.instance (0 + k) base head ≡ [] = ap (λ o. faults_owned env items defined list o d.instance (0 + k) base head) (sym owned) ∙ g in
      asked_is list d (0 + k) base head owner (adt_of list owner.adt.name d.instance) refl h

-- ---- the faults of heads stand behind those of definitions

module _ (env : Environment) where
  adts_back : (adt : ℕ) (base : TypeTree) (h : Head) (w : List TypeFault) (list : List AdtFunctions) → fold (with_adt env adt base h) w list ≡ [] → w ≡ []
  unfolding with_adt
  adts_back adt base h w [] f = f
  adts_back adt base h w (a ∷ list) f = go (nat_eq a.owned.name adt) (adts_back adt base h (with_adt env adt base h w a) list f)
    where
      go : (b : Bool) → (if b then w ++ faults_again env a base h else w) ≡ [] → w ≡ []
      go true f = nil_first w (faults_again env a base h) f
      go false f = f

  module _ (list : List AdtFunctions) where
    bodiless_back : (o : Owner) (base : TypeTree) (h : Head) (w : List TypeFault) → with_bodiless env list o base h w ≡ [] → w ≡ []
    bodiless_back o base h w f = go (is_bodiless list o) f
      where
        go : (b : Bool) → (if b then w ++ function_faults env (here_in None) base h.stars h.name h.parameters else w) ≡ [] → w ≡ []
        go true f = nil_first w (function_faults env (here_in None) base h.stars h.name h.parameters) f
        go false f = f

    owner_back : (o : Option Owner) (base : TypeTree) (h : Head) (w : List TypeFault) → with_owner env list o base h w ≡ [] → w ≡ []
    owner_back None base h w f = f
    owner_back (Some o) base h w f = bodiless_back o base h w (adts_back o.adt.name base h (with_bodiless env list o base h w) list f)

    declarators_back : (base : TypeTree) (w : List TypeFault) (ds : List Declarator) → fold (with_declarator env list base) w ds ≡ [] → w ≡ []
    unfolding with_declarator
    declarators_back base w [] f = f
    declarators_back base w (declarator.Global dcl value ∷ ds) f = declarators_back base w ds f
    declarators_back base w (declarator.Function h ∷ ds) f = owner_back h.owner base h w (declarators_back base (with_owner env list h.owner base h w) ds f)

    item_back : (w : List TypeFault) (x : Item) → with_item env list w x ≡ [] → w ≡ []
    unfolding with_item
    item_back w (item.Declare at scope base ds) f = declarators_back base w ds f
    item_back w (item.Typedef at base dcl) f = f
    item_back w (item.FunctionType at base stars name ps) f = f
    item_back w (item.Forward at kind name) f = f
    item_back w (item.Aggregate at kind name members) f = f
    item_back w (item.Adt at name ps members) f = f
    item_back w (item.Enum at name constants) f = f
    item_back w (item.Function at scope base head body) f = f

    items_back : (w : List TypeFault) (xs : List Item) → fold (with_item env list) w xs ≡ [] → w ≡ []
    items_back w [] f = f
    items_back w (x ∷ xs) f = item_back w x (items_back (with_item env list w x) xs f)

    pub heads_back : (w : List TypeFault) (xs : List Item) → with_heads env list w xs ≡ [] → w ≡ []
    unfolding with_heads
    heads_back w xs f = items_back w xs f
