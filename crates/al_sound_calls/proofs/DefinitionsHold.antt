-- Definitions in adts have the parameters of the adts, adts are declared once, and no parameter of a definition is the adt itself.
use Rattle.std.proofs.Common.{◌≡◌, ℕ, Bool, true, false, ◌&&◌, ◌||◌, not, nat_eq, List, [], ◌∷◌, map, fold, Option, Some, None, refl, sym, ap, ◌∙◌}
use Rattle.std.specs.Prelude.{⊤}
use Rattle.std.specs.Map.{lookup}
use Rattle.std.proofs.lemmas.Bool.{eqb-true}
use Rattle.indexmap.specs.IndexMap.{insert_entry}
use Rattle.al_base.specs.declared.place.Place.{Place}
use Rattle.al_tree.specs.declared.expression.Name.{Name}
use Rattle.al_tree.specs.declared.statement.Stmt.{Stmt}
use Rattle.al_tree.specs.declared.item.AdtMember.{AdtMember}
use Rattle.al_tree.specs.declared.item.Constant.{Constant}
use Rattle.al_tree.specs.declared.item.Declarator.{Declarator}
use Rattle.al_tree.specs.declared.item.Declarator.TheVariants as declarator
use Rattle.al_tree.specs.declared.item.Head.{Head}
use Rattle.al_tree.specs.declared.item.Item.{Item}
use Rattle.al_tree.specs.declared.item.Item.TheVariants as item
use Rattle.al_tree.specs.declared.item.Owner.{Owner}
use Rattle.al_tree.specs.declared.item.Parameter.{Parameter}
use Rattle.al_tree.specs.declared.item.Parameter.TheVariants as parameter
use Rattle.al_rules.specs.Outcome.{ask}
use Rattle.al_declare.specs.Rules.{rule_2_again, rule_15_list}
use Rattle.al_declare.specs.Asking.{Adts, file_name, found, free_name, inner, number_of, together, with_adt}
use Rattle.al_declare.specs.Types.{Way, dcl_bounds, each, optional, type_tree}
use Rattle.al_declare.specs.Expressions.{expr}
use Rattle.al_declare.specs.Items.{adt_member, declarator_way, definition, enum_constant, enum_name, function_if, initializer, item_way, member, owner_of_definition, parameter_way, parameters, prototype, scope_of_definition}
use Rattle.al_sound_calls.proofs.Unnamed.{Asked, Declared, MaybeDeclared, Text}
use Rattle.al_sound_calls.proofs.Lists.{Every, and_both, asked_true, none_in, some_is}
use Rattle.al_sound_calls.proofs.Declares.{IsQuiet, adt_parameters_quiet, body_quiet, dcl_quiet, definition_quiet, each_quiet, expr_quiet, initializer_quiet, member_quiet, next, optional_quiet, owner_quiet, parameter_quiet, part_quiet, same, scope_quiet, type_quiet}
use Rattle.al_sound_calls.proofs.Joint.{put_is, put_other}
use Rattle.al_sound_calls.proofs.FunctionNames.{name_kept, name_told}

-- ---- what is whole stays so

abbrev is_whole : MaybeDeclared → Bool
is_whole None = false
is_whole (Some d) = d.is_whole

record Wholes (a b : Asked) : Type 0 where
  names : (q : ℕ) → is_whole (found a.names q) ≡ true → is_whole (found b.names q) ≡ true
  faults : b.faults ≡ [] → a.faults ≡ []

quietly : {a b : Asked} → IsQuiet a b → Wholes a b
quietly {a} {b} k = record { names = λ q h. ap (λ l. is_whole (found l q)) k.names ∙ h; faults = k.faults }

then : {a b d : Asked} → Wholes a b → Wholes b d → Wholes a d
then p q = record { names = λ n h. q.names n (p.names n h); faults = λ h. p.faults (q.faults h) }

either : (a b : Bool) → a ≡ true → (a || b) ≡ true
either true b h = refl
either false b h = absurd (let f : ⊥ = cc in f)

still_whole : (old : MaybeDeclared) (d : Declared) → is_whole old ≡ true → is_whole (Some (together old d)) ≡ true
still_whole None d h = absurd (let f : ⊥ = cc in f)
still_whole (Some o) d h = either o.is_whole d.is_whole h

now_whole : (old : MaybeDeclared) (d : Declared) → d.is_whole ≡ true → is_whole (Some (together old d)) ≡ true
now_whole None d h = h
now_whole (Some o) d h = go o.is_whole
  where
    go : (b : Bool) → (b || d.is_whole) ≡ true
    go true = refl
    go false = h

-- what is declared as a whole was none before
not_before : (old : MaybeDeclared) (d : Declared) → d.is_whole ≡ true → rule_2_again old d ≡ true → is_whole old ≡ false
not_before None d is h = refl
not_before (Some o) d is h = go o.is_whole d.is_whole is (and_both _ _ h).1
  where
    go : (a b : Bool) → b ≡ true → not (a && b) ≡ true → a ≡ false
    go true true is h = absurd (let f : ⊥ = cc in f)
    go true false is h = absurd (let f : ⊥ = cc in f)
    go false b is h = refl

module _ (text : Text) (n : Name) (d : Declared) (a : Asked) where
  named : Wholes a (file_name n d text a)
  unfolding file_name free_name
  named = record { names = λ q h. names q h (nat_eq q n.name) refl; faults = (name_kept text n d a).faults }
    where
      both : Declared
      both = together (found a.names n.name) d

      names : (q : ℕ) → is_whole (found a.names q) ≡ true → (c : Bool) → nat_eq q n.name ≡ c → is_whole (found (file_name n d text a).names q) ≡ true
      names q h true is =
          let e = eqb-true q n.name is in
          ap (λ k. is_whole (found (file_name n d text a).names k)) e ∙ ap is_whole (put_is a.names n.name both)
          ∙ still_whole (found a.names n.name) d (sym (ap (λ k. is_whole (found a.names k)) e) ∙ h)
      names q h false is = ap is_whole (put_other a.names n.name both q is) ∙ h

  is_named : d.is_whole ≡ true → is_whole (found (file_name n d text a).names n.name) ≡ true
  unfolding file_name free_name
  is_named is = ap is_whole (put_is a.names n.name (together (found a.names n.name) d)) ∙ now_whole (found a.names n.name) d is

  was_none : d.is_whole ≡ true → (file_name n d text a).faults ≡ [] → is_whole (found a.names n.name) ≡ false
  was_none is h = not_before (found a.names n.name) d is (name_told text n d a h)

-- no parameter that is the adt itself
abbrev pub IsPlain : Parameter → Type 0
IsPlain (parameter.Plain at base stars name bounds) = ⊤
IsPlain (parameter.OwnPointer at name) = ⊥
IsPlain (parameter.OwnValue at name) = ⊥

module _ (text : Text) where
  each_wholes : {A : Type 0} (f : A → Way) → ((x : A) (a : Asked) → Wholes a (f x text a)) → (xs : List A) (a : Asked) → Wholes a (each f xs text a)
  each_wholes f h [] a = quietly (same a)
  each_wholes f h (x ∷ xs) a = then (h x a) (each_wholes f h xs (f x text a))

  function_wholes : (b : Bool) (o : Option Owner) (n : Name) (a : Asked) → Wholes a (function_if b o n text a)
  unfolding function_if
  function_wholes b None n a = named text n _ a
  function_wholes b (Some owner) n a = quietly (same a)

  declarator_wholes : (x : Declarator) (a : Asked) → Wholes a (declarator_way x text a)
  unfolding declarator_way prototype
  declarator_wholes (declarator.Global dcl value) a =
      then (quietly (dcl_quiet text dcl a)) (then (named text dcl.name _ (dcl_bounds dcl text a)) (quietly (optional_quiet text initializer (initializer_quiet text) value _)))
  declarator_wholes (declarator.Function h) a = then (function_wholes false h.owner h.name a) (quietly (scope_quiet text None h.parameters _))

  constant_wholes : (x : Constant) (a : Asked) → Wholes a (enum_constant x text a)
  unfolding enum_constant
  constant_wholes x a = then (quietly (optional_quiet text expr (expr_quiet text) x.value a)) (named text x.name _ (optional expr x.value text a))

  enum_wholes : (o : Option Name) (a : Asked) → Wholes a (enum_name o text a)
  enum_wholes None a = quietly (same a)
  enum_wholes (Some name) a = named text name _ a

  item_wholes : (x : Item) (a : Asked) → Wholes a (item_way x text a)
  unfolding item_way definition
  item_wholes (item.Typedef at base dcl) a = then (quietly (next (type_quiet text base a) (dcl_quiet text dcl (type_tree base text a)))) (named text dcl.name _ _)
  item_wholes (item.FunctionType at base stars name ps) a = then (quietly (next (type_quiet text base a) (scope_quiet text None ps (type_tree base text a)))) (named text name _ _)
  item_wholes (item.Forward at kind name) a = named text name _ a
  item_wholes (item.Aggregate at kind name members) a = then (named text name _ a) (quietly (each_quiet text member (member_quiet text) members _))
  item_wholes (item.Adt at name ps members) a =
      then (named text name _ a) (quietly (next (adt_parameters_quiet text ps _) (each_quiet text (adt_member name.name) (λ m b. part_quiet text name.name m.part b) members _)))
  item_wholes (item.Enum at name list) a = then (enum_wholes name a) (each_wholes enum_constant constant_wholes list (enum_name name text a))
  item_wholes (item.Declare at scope base list) a = then (quietly (type_quiet text base a)) (each_wholes declarator_way declarator_wholes list (type_tree base text a))
  item_wholes (item.Function at scope base head block) a =
      then (quietly (type_quiet text base a)) (then (function_wholes true head.owner head.name (type_tree base text a))
      (quietly (next (owner_quiet text head.at head.owner _) (definition_quiet text head.parameters block _))))

  -- ---- adts

  -- the adts so far are declared
  abbrev AreDeclared : Asked → Adts → Type 0
  AreDeclared a adts = (q : ℕ) (ps : List ℕ) → lookup (nat_eq q) adts ≡ Some ps → is_whole (found a.names q) ≡ true

  abbrev pub AdtDone : Adts → Item → Type 0
  AdtDone adts (item.Adt at name ps members) = lookup (nat_eq name.name) adts ≡ Some (map number_of ps)
  AdtDone adts _ = ⊤

  abbrev Stay : Adts → Adts → Type 0
  Stay adts more = (q : ℕ) (ps : List ℕ) → lookup (nat_eq q) adts ≡ Some ps → lookup (nat_eq q) more ≡ Some ps

  abbrev Step : Item → Asked → Adts → Type 0
  Step x a adts = (item_way x text a).faults ≡ [] → AreDeclared a adts → AreDeclared (item_way x text a) (with_adt adts x) × (Stay adts (with_adt adts x) × AdtDone (with_adt adts x) x)

  unchanged : (x : Item) (a : Asked) (adts : Adts) → AreDeclared a adts → AreDeclared (item_way x text a) adts × Stay adts adts
  unchanged x a adts d = (λ q ps e. (item_wholes x a).names q (d q ps e), λ q ps e. e)

  adt_step : (at : Place) (name : Name) (ps : List Name) (members : List AdtMember) (a : Asked) (adts : Adts) → Step (item.Adt at name ps members) a adts
  unfolding item_way with_adt
  adt_step at name ps members a adts f d =
      let after = named text name _ a in
      let rest = quietly (next (adt_parameters_quiet text ps _) (each_quiet text (adt_member name.name) (λ m b. part_quiet text name.name m.part b) members _)) in
      let none = was_none text name _ a refl (rest.faults f) in (
        λ q qs e. declared_by q qs e (nat_eq q name.name) refl (then after rest) (rest.names name.name (is_named text name _ a refl)),
        (λ q qs e. stays_by q qs e (nat_eq q name.name) refl (d q qs e) none, put_is adts name.name (map number_of ps)),
      )
    where
      there : Adts
      there = insert_entry nat_eq adts name.name (map number_of ps)

      declared_by : {b : Asked} (q : ℕ) (qs : List ℕ) → lookup (nat_eq q) there ≡ Some qs → (c : Bool) → nat_eq q name.name ≡ c → Wholes a b
          → is_whole (found b.names name.name) ≡ true → is_whole (found b.names q) ≡ true
      declared_by {b} q qs e true is w k = ap (λ n. is_whole (found b.names n)) (eqb-true q name.name is) ∙ k
      declared_by q qs e false is w k = w.names q (d q qs (sym (put_other adts name.name (map number_of ps) q is) ∙ e))

      stays_by : (q : ℕ) (qs : List ℕ) → lookup (nat_eq q) adts ≡ Some qs → (c : Bool) → nat_eq q name.name ≡ c → is_whole (found a.names q) ≡ true
          → is_whole (found a.names name.name) ≡ false → lookup (nat_eq q) there ≡ Some qs
      stays_by q qs e true is w none =
          let k : true ≡ false = sym w ∙ ap (λ n. is_whole (found a.names n)) (eqb-true q name.name is) ∙ none in
          absurd (let f : ⊥ = cc in f)
      stays_by q qs e false is w none = put_other adts name.name (map number_of ps) q is ∙ e

  step_is : (x : Item) (a : Asked) (adts : Adts) → Step x a adts
  unfolding with_adt
  step_is (item.Adt at name ps members) a adts = adt_step at name ps members a adts
  step_is (item.Typedef at base dcl) a adts = λ f d. let u = unchanged (item.Typedef at base dcl) a adts d in (u.0, (u.1, tt))
  step_is (item.FunctionType at base stars name ps) a adts = λ f d. let u = unchanged (item.FunctionType at base stars name ps) a adts d in (u.0, (u.1, tt))
  step_is (item.Forward at kind name) a adts = λ f d. let u = unchanged (item.Forward at kind name) a adts d in (u.0, (u.1, tt))
  step_is (item.Aggregate at kind name members) a adts = λ f d. let u = unchanged (item.Aggregate at kind name members) a adts d in (u.0, (u.1, tt))
  step_is (item.Enum at name list) a adts = λ f d. let u = unchanged (item.Enum at name list) a adts d in (u.0, (u.1, tt))
  step_is (item.Declare at scope base list) a adts = λ f d. let u = unchanged (item.Declare at scope base list) a adts d in (u.0, (u.1, tt))
  step_is (item.Function at scope base head block) a adts = λ f d. let u = unchanged (item.Function at scope base head block) a adts d in (u.0, (u.1, tt))

  done_stays : (adts more : Adts) (x : Item) → Stay adts more → AdtDone adts x → AdtDone more x
  done_stays adts more (item.Adt at name ps members) s d = s name.name (map number_of ps) d
  done_stays adts more (item.Typedef at base dcl) s d = tt
  done_stays adts more (item.FunctionType at base stars name ps) s d = tt
  done_stays adts more (item.Forward at kind name) s d = tt
  done_stays adts more (item.Aggregate at kind name members) s d = tt
  done_stays adts more (item.Enum at name list) s d = tt
  done_stays adts more (item.Declare at scope base list) s d = tt
  done_stays adts more (item.Function at scope base head block) s d = tt

  pub adts_done : (xs : List Item) (a : Asked) (adts : Adts) → (each item_way xs text a).faults ≡ [] → AreDeclared a adts → Every (AdtDone (fold with_adt adts xs)) xs × Stay adts (fold with_adt adts xs)
  adts_done [] a adts f d = (tt, λ q ps e. e)
  adts_done (x ∷ xs) a adts f d =
      let s = step_is x a adts ((each_wholes item_way item_wholes xs (item_way x text a)).faults f) d in
      let r = adts_done xs (item_way x text a) (with_adt adts x) f s.0 in
      ((done_stays (with_adt adts x) (fold with_adt (with_adt adts x) xs) x r.1 s.1.1, r.0), λ q ps e. r.1 q ps (s.1.0 q ps e))

  -- ---- definitions

  plain_is : (p : Parameter) (a : Asked) → (parameter_way None p text a).faults ≡ [] → IsPlain p
  unfolding parameter_way
  plain_is (parameter.Plain at base stars name bounds) a f = tt
  plain_is (parameter.OwnPointer at name) a f = let e = (none_in a.faults (ask 12 at false) f).1 in let g : ⊥ = cc in g
  plain_is (parameter.OwnValue at name) a f = let e = (none_in a.faults (ask 12 at false) f).1 in let g : ⊥ = cc in g

  rest_plain : (ps : List Parameter) (a : Asked) → (each (parameter_way None) ps text a).faults ≡ [] → Every IsPlain ps
  rest_plain [] a f = tt
  rest_plain (p ∷ ps) a f = (
    plain_is p a ((each_quiet text (parameter_way None) (parameter_quiet text None) ps (parameter_way None p text a)).faults f),
    rest_plain ps (parameter_way None p text a) f,
  )

  all_plain : (ps : List Parameter) (a : Asked) → (parameters None ps text a).faults ≡ [] → Every IsPlain ps
  unfolding parameters
  all_plain [] a f = tt
  all_plain (p ∷ ps) a f = rest_plain (p ∷ ps) a f

  pub record IsFine (head : Head) : Type 0 where
    pub plain : Every IsPlain head.parameters
    pub owned : (owner : Owner) → head.owner ≡ Some owner → rule_15_list (lookup (nat_eq owner.adt.name) text.adts) owner.parameters ≡ true

  abbrev pub ItemFine : Item → Type 0
  ItemFine (item.Function at scope base head block) = IsFine head
  ItemFine _ = ⊤

  owner_told : (head : Head) (a : Asked) (o : Option Owner) → (owner_of_definition head.at o text a).faults ≡ [] → (owner : Owner) → o ≡ Some owner
      → rule_15_list (lookup (nat_eq owner.adt.name) text.adts) owner.parameters ≡ true
  unfolding owner_of_definition
  owner_told head a None f owner e = absurd (let g : ⊥ = cc in g)
  owner_told head a (Some other) f owner e =
      let r = asked_true 15 head.at (rule_15_list (lookup (nat_eq other.adt.name) text.adts) other.parameters)
      (none_in a.faults (ask 15 head.at (rule_15_list (lookup (nat_eq other.adt.name) text.adts) other.parameters)) f).1 in
      sym (ap (λ (x : Owner). rule_15_list (lookup (nat_eq x.adt.name) text.adts) x.parameters) (some_is e)) ∙ r

  head_fine : (head : Head) (block : Stmt) (a : Asked) → (definition head block text a).faults ≡ [] → IsFine head
  unfolding definition inner
  head_fine head block a f =
      let named_as = function_if true head.owner head.name text a in
      let owned_as = owner_of_definition head.at head.owner text named_as in
      record {
        plain = params owned_as f;
        owned = owner_told head named_as head.owner ((definition_quiet text head.parameters block owned_as).faults f);
      }
    where
      params : (b : Asked) → (scope_of_definition head.parameters block text b).faults ≡ [] → Every IsPlain head.parameters
      params b f =
          let start : Asked = record b { scope = [] } in
          all_plain head.parameters start ((body_quiet text block (parameters None head.parameters text start)).faults f)

  item_fine : (x : Item) (a : Asked) → (item_way x text a).faults ≡ [] → ItemFine x
  unfolding item_way
  item_fine (item.Function at scope base head block) a f = head_fine head block (type_tree base text a) f
  item_fine (item.Typedef at base dcl) a f = tt
  item_fine (item.FunctionType at base stars name ps) a f = tt
  item_fine (item.Forward at kind name) a f = tt
  item_fine (item.Aggregate at kind name members) a f = tt
  item_fine (item.Adt at name ps members) a f = tt
  item_fine (item.Enum at name list) a f = tt
  item_fine (item.Declare at scope base list) a f = tt

  pub items_fine : (xs : List Item) (a : Asked) → (each item_way xs text a).faults ≡ [] → Every ItemFine xs
  items_fine [] a f = tt
  items_fine (x ∷ xs) a f = (item_fine x a ((each_wholes item_way item_wholes xs (item_way x text a)).faults f), items_fine xs (item_way x text a) f)
