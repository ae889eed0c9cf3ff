-- An environment has no more globals than its text declares.
use Rattle.std.proofs.Common.{◌≡◌, ℕ, ◌+◌, ◌≤◌, nat_lt, Bool, true, false, if◌then◌else◌, List, [], ◌∷◌, ◌++◌, length, fold, sum_by, Option, Some, None, is_some, refl, sym, ap, arith, length-append, length-set, slice_set}
use Rattle.std.proofs.lemmas.List.Sums.{sum_by-cons}
use Rattle.al_tree.specs.declared.type_tree.TypeTree.{TypeTree}
use Rattle.al_tree.specs.declared.type_tree.Dcl.{Dcl}
use Rattle.al_tree.specs.declared.item.Owner.{Owner}
use Rattle.al_tree.specs.declared.item.Head.{Head}
use Rattle.al_tree.specs.declared.item.Declarator.{Declarator}
use Rattle.al_tree.specs.declared.item.Declarator.TheVariants as declarator
use Rattle.al_tree.specs.declared.item.Item.{Item}
use Rattle.al_tree.specs.declared.item.Item.TheVariants as item
use Rattle.al_tree.specs.declared.item.Tree.{Tree}
use Rattle.al_base.specs.declared.place.Place.{Place}
use Rattle.al_rules.specs.Outcome.{Good, and_then}
use Rattle.al_scope.specs.declared.declaration.Scopes.{Scopes}
use Rattle.al_scope.specs.Firsts.{declaration_at}
use Rattle.al_typed.specs.declared.ty.Ty.{Ty}
use Rattle.al_poly.specs.declared.instance.Instance.{Instance}
use Rattle.al_environment.specs.declared.environment.Environment.{Environment}
use Rattle.al_environment.specs.declared.environment.Here.{Here}
use Rattle.al_environment.specs.declared.environment.Signature.{Signature}
use Rattle.al_environment.specs.Written.{written}
use Rattle.al_type_rules.specs.Types.{known, declared, signature, signature_faults, variable_faults}
use Rattle.al_globals.specs.declared.found.Found.{Found}
use Rattle.al_globals.specs.Globals.{begun, function_in, global_in, globals, is_private_word, numbered, outside, put, rule_of, with_dcl, with_declarator, with_faults, with_global, with_global_if, with_item, with_main, with_owner, with_plain_head, with_signature_if, with_type}
use Rattle.al_globals.specs.Numbers.{numbers}
use Rattle.al_declare.specs.Functions.{functions}
use Rattle.al_form.specs.Forms.{forms}
use Rattle.al_layout.specs.Rows.{laid_out}
use Rattle.al_build_environment.specs.Whole.{checked, environment, globals_of, laid_whole, named, names_of, types_faults, types_of, whole, with_names}
use Rattle.al_tree_laws.specs.Texts.{declared_globals, item_globals}
use Rattle.al_short_programs.proofs.Outcomes.{and_then_good, judge_good}

put_length : {A : Type 0} (xs : List A) (n : ℕ) (x : A) → length (put xs n x) ≤ length xs + 1
put_length {A} xs n x = on (nat_lt n (length xs))
  where
    on : (b : Bool) → length (if b then slice_set xs n x else xs ++ x ∷ []) ≤ length xs + 1
    on true = omega (arith, length-set xs n x)
    on false = omega (arith, length-append xs (x ∷ []))

global_count : (w : Found) (at : Place) (n : ℕ) (t : Ty) (is_private has_value : Bool) → length (with_global w at n t is_private has_value).globals ≤ length w.globals + 1
unfolding with_global
global_count w at n t is_private has_value = put_length w.globals n _

global_if_count : (w : Found) (at : Place) (o : Option ℕ) (t : Ty) (is_private has_value : Bool) → length (with_global_if w at o t is_private has_value).globals ≤ length w.globals + 1
global_if_count w at None t is_private has_value = omega arith
global_if_count w at (Some n) t is_private has_value = global_count w at n t is_private has_value

signature_same : (w : Found) (at : Place) (rule : ℕ) (o : Option ℕ) (s : Signature) → (with_signature_if w at rule o s).globals ≡ w.globals
signature_same w at rule None s = refl
signature_same w at rule (Some n) s = refl

module _ (env : Environment) (here : Here) (ns : List (Option ℕ)) where
  dcl_count : (is_private : Bool) (base : Option Ty) (w : Found) (dcl : Dcl) (has_value : Bool) → length (with_dcl env is_private base w dcl has_value).globals ≤ length w.globals + 1
  unfolding with_dcl
  dcl_count is_private base w dcl has_value =
      global_if_count (with_faults w (variable_faults env base dcl)) dcl.name.at (global_in (declaration_at env.scopes.names dcl.name.at)) (known (declared env base dcl)) is_private has_value

  plain_same : (has_body : Bool) (base : TypeTree) (w : Found) (h : Head) → (with_plain_head env here ns has_body base w h).globals ≡ w.globals
  unfolding with_plain_head
  plain_same has_body base w h =
      signature_same (with_faults (with_type env here w base) (signature_faults env here h.name.at base h.stars h.parameters)) h.name.at (rule_of has_body)
      (function_in (declaration_at env.scopes.names h.name.at)) (numbered ns h.name.name (signature env here base h.stars h.parameters))

  owner_same : (o : Option Owner) (has_body : Bool) (base : TypeTree) (w : Found) (h : Head) → (with_owner env here ns o has_body base w h).globals ≡ w.globals
  owner_same None has_body base w h = plain_same has_body base w h
  owner_same (Some owner) has_body base w h = refl

  declarator_count : (is_private : Bool) (base : TypeTree) (w : Found) (d : Declarator) → length (with_declarator env here ns is_private base w d).globals ≤ length w.globals + declared_globals d
  unfolding with_declarator
  declarator_count is_private base w (declarator.Global dcl value) = dcl_count is_private (written env here base) (with_type env here w base) dcl (is_some value)
  declarator_count is_private base w (declarator.Function h) = omega (arith, ap length (owner_same h.owner false base w h))

  declarators_count : (is_private : Bool) (base : TypeTree) (w : Found) (ds : List Declarator)
      → length (fold (with_declarator env here ns is_private base) w ds).globals ≤ length w.globals + sum_by declared_globals ds
  declarators_count is_private base w [] = omega arith
  declarators_count is_private base w (d ∷ ds) =
      let more = with_declarator env here ns is_private base w d in
      let p : length (fold (with_declarator env here ns is_private base) w (d ∷ ds)).globals ≤ length more.globals + sum_by declared_globals ds = declarators_count is_private base more ds in
      let q : length more.globals ≤ length w.globals + declared_globals d = declarator_count is_private base w d in
      omega (arith, p, q, sum_by-cons declared_globals d ds)

  item_count : (w : Found) (i : Item) → length (with_item env here ns w i).globals ≤ length w.globals + item_globals i
  unfolding with_item
  item_count w (item.Typedef at base dcl) = omega arith
  item_count w (item.FunctionType at base stars name ps) = omega arith
  item_count w (item.Forward at kind name) = omega arith
  item_count w (item.Aggregate at kind name members) = omega arith
  item_count w (item.Adt at name ps members) = omega arith
  item_count w (item.Enum at name list) = omega arith
  item_count w (item.Declare at scope base list) = declarators_count (is_private_word scope) base w list
  item_count w (item.Function at scope base head body) = omega (arith, ap length (owner_same head.owner true base w head))

  items_count : (w : Found) (is : List Item) → length (fold (with_item env here ns) w is).globals ≤ length w.globals + sum_by item_globals is
  items_count w [] = omega arith
  items_count w (i ∷ is) =
      let more = with_item env here ns w i in
      let p : length (fold (with_item env here ns) w (i ∷ is)).globals ≤ length more.globals + sum_by item_globals is = items_count more is in
      let q : length more.globals ≤ length w.globals + item_globals i = item_count w i in
      omega (arith, p, q, sum_by-cons item_globals i is)

found_count : (env : Environment) (tree : Tree) (ns : List (Option ℕ)) (found : Found) → globals env tree ns ≡ Good found → length found.globals ≤ sum_by item_globals tree.items
unfolding globals
found_count env tree ns found h =
    let w = fold (with_item env outside ns) begun tree.items in
    let e = judge_good (with_main tree env w).faults _ found h in
    let p : length w.globals ≤ 0 + sum_by item_globals tree.items = items_count env outside ns begun tree.items in
    let q : length found.globals ≡ length w.globals = sym (ap (λ (f : Found). length f.globals) e) in
    omega (arith, p, q)

pub globals_count : (tree : Tree) (is : List Instance) (scopes : Scopes) (env : Environment) → environment tree is scopes ≡ Good env → length env.globals ≤ sum_by item_globals tree.items
unfolding environment whole checked
globals_count tree is scopes env h =
    let fs = forms tree is in
    let defined = functions tree.items is in
    let a = and_then_good (laid_out fs) (laid_whole tree scopes defined fs) env h in
    let first = types_of tree fs scopes a.0 in
    let b = and_then_good (names_of first tree defined fs a.0.forms a.0.numbers) (λ names. and_then (globals_of first tree defined) (named first names)) env a.2 in
    let c = and_then_good (globals_of first tree defined) (named first b.0) env b.2 in
    let built = with_names first b.0 c.0 in
    let e = judge_good (types_faults built) built env c.2 in
    let p : length c.0.globals ≤ sum_by item_globals tree.items = found_count first tree (numbers tree.names tree.items defined) c.0 c.1 in
    let q : length env.globals ≡ length c.0.globals = sym (ap (λ (v : Environment). length v.globals) e) in
    omega (arith, p, q)
