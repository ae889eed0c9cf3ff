-- The number of a function outside of adts is that of one of the definitions of a text.
use Rattle.std.proofs.Common.{◌≡◌, ℕ, ◌+◌, ◌<◌, Bool, true, false, List, [], ◌∷◌, map, fold, length, Option, Some, None, arith, refl, subst}
use Rattle.std.specs.Prelude.{if◌then◌else◌, is_some, nat_le, slice_get}
use Rattle.al_tree.specs.declared.item.Declarator.{Declarator}
use Rattle.al_tree.specs.declared.item.Declarator.TheVariants as declarator
use Rattle.al_tree.specs.declared.item.Head.{Head}
use Rattle.al_tree.specs.declared.item.Item.{Item}
use Rattle.al_tree.specs.declared.item.Item.TheVariants as item
use Rattle.al_tree.specs.declared.item.Owner.{Owner}
use Rattle.al_tree.specs.declared.item.Tree.{Tree}
use Rattle.al_tree.specs.declared.type_tree.Dcl.{Dcl}
use Rattle.al_tree.specs.declared.type_tree.TypeTree.{TypeTree}
use Rattle.al_base.specs.declared.place.Place.{Place}
use Rattle.al_rules.specs.Outcome.{Good}
use Rattle.al_scope.specs.Firsts.{declaration_at}
use Rattle.al_typed.specs.declared.ty.Ty.{Ty}
use Rattle.al_environment.specs.declared.environment.Environment.{Environment}
use Rattle.al_environment.specs.declared.environment.Signature.{Signature}
use Rattle.al_environment.specs.Written.{written}
use Rattle.al_declare.specs.declared.function.Defined.{Defined}
use Rattle.al_layout.specs.Types.{within}
use Rattle.al_type_rules.specs.Types.{declared, known, signature, signature_faults, variable_faults}
use Rattle.al_globals.specs.Numbers.{name_at, no_number, number_of, numbers, with_definitions, with_name}
use Rattle.al_globals.specs.declared.found.Found.{Found}
use Rattle.al_globals.specs.Globals.{asked_main, begun, first_signature, function_in, global_in, globals, is_private_word, numbered, outside, rule_of, with_base_dcl, with_dcl, with_declarator, with_faults, with_global, with_global_if, with_item, with_owner, with_plain_head, with_signature_if, with_type}
use Rattle.al_sound_environment.specs.Members.{Every}
use Rattle.al_sound_environment.proofs.Lists.{every_at, every_put, every_set, judged_good, some_is}

abbrev IsBelow : ℕ → Option ℕ → Type 0
IsBelow count o = (n : ℕ) → o ≡ Some n → n < count

within_is : (m n : ℕ) → within m ≡ Some n → m ≡ n
within_is m n h = go (nat_le m 4294967295) h
  where
    go : (b : Bool) → (if b then Some m else None) ≡ Some n → m ≡ n
    go true h = some_is h
    go false h = absurd (cc)

within_below : (count k : ℕ) → k < count → IsBelow count (within k)
within_below count k h n e = subst (λ m. m < count) (within_is k n e) h

name_below : (count k : ℕ) (ns : List (Option ℕ)) (o : Option ℕ) → k < count → Every (IsBelow count) ns → Every (IsBelow count) (with_name ns o k)
name_below count k ns None h all = all
name_below count k ns (Some name) h all = every_set (IsBelow count) ns name (within k) all (within_below count k h)

definitions_below : (items : List Item) (count from : ℕ) (ds : List Defined) (ns : List (Option ℕ)) → from + length ds ≡ count → Every (IsBelow count) ns
    → Every (IsBelow count) (with_definitions items from ds ns)
unfolding with_definitions
definitions_below items count from [] ns h all = all
definitions_below items count from (d ∷ ds) ns h all =
    definitions_below items count (from + 1) ds _ (omega (arith, h)) (name_below count from ns (name_at (slice_get items d.item)) (omega (arith, h)) all)

none_below : (count : ℕ) (names : List (List ℕ)) → Every (IsBelow count) (map no_number names)
none_below count [] = tt
none_below count (n ∷ names) = (λ m e. absurd (cc), none_below count names)

pub numbers_below : (names : List (List ℕ)) (items : List Item) (ds : List Defined) → Every (IsBelow (length ds)) (numbers names items ds)
unfolding numbers
numbers_below names items ds = definitions_below items (length ds) 0 ds (map no_number names) (omega arith) (none_below (length ds) names)

number_below : (count : ℕ) (ns : List (Option ℕ)) (name : ℕ) → Every (IsBelow count) ns → IsBelow count (number_of ns name)
number_below count ns name all = go (slice_get ns name) refl
  where
    there : Option (Option ℕ) → Option ℕ
    there None = None
    there (Some n) = n

    go : (o : Option (Option ℕ)) → slice_get ns name ≡ o → IsBelow count (there o)
    go None is n e = absurd (cc)
    go (Some x) is n e = every_at (IsBelow count) ns name x is all n e

-- ---- what is found

module _ (env : Environment) (ns : List (Option ℕ)) (count : ℕ) (all : Every (IsBelow count) ns) where
  abbrev IsNumbered : Signature → Type 0
  IsNumbered f = IsBelow count f.number

  abbrev AreNumbered : Found → Type 0
  AreNumbered w = Every IsNumbered w.functions

  global_numbered : (w : Found) (at : Place) (o : Option ℕ) (t : Ty) (p v : Bool) → AreNumbered w → AreNumbered (with_global_if w at o t p v)
  unfolding with_global
  global_numbered w at None t p v h = h
  global_numbered w at (Some n) t p v h = h

  dcl_numbered : (p : Bool) (base : TypeTree) (w : Found) (dcl : Dcl) (v : Bool) → AreNumbered w → AreNumbered (with_base_dcl env outside p base w dcl v)
  unfolding with_dcl
  dcl_numbered p base w dcl v h =
      global_numbered (with_faults (with_type env outside w base) (variable_faults env (written env outside base) dcl)) dcl.name.at
      (global_in (declaration_at env.scopes.names dcl.name.at)) (known (declared env (written env outside base) dcl)) p v h

  first_numbered : (o : Option Signature) (f : Signature) → IsNumbered f → ((g : Signature) → o ≡ Some g → IsNumbered g) → IsNumbered (first_signature o f)
  first_numbered None f is old = is
  first_numbered (Some g) f is old = old g refl

  signature_numbered : (w : Found) (at : Place) (rule : ℕ) (o : Option ℕ) (f : Signature) → IsNumbered f → AreNumbered w → AreNumbered (with_signature_if w at rule o f)
  signature_numbered w at rule None f is h = h
  signature_numbered w at rule (Some k) f is h =
      every_put IsNumbered w.functions k _ h (first_numbered (slice_get w.functions k) f is (λ g e. every_at IsNumbered w.functions k g e h))

  head_numbered : (has_body : Bool) (base : TypeTree) (w : Found) (h : Head) → AreNumbered w → AreNumbered (with_plain_head env outside ns has_body base w h)
  unfolding with_plain_head
  head_numbered has_body base w h r =
      signature_numbered (with_faults (with_type env outside w base) (signature_faults env outside h.name.at base h.stars h.parameters)) h.name.at (rule_of has_body)
      (function_in (declaration_at env.scopes.names h.name.at)) (numbered ns h.name.name (signature env outside base h.stars h.parameters))
      (number_below count ns h.name.name all) r

  owner_numbered : (o : Option Owner) (has_body : Bool) (base : TypeTree) (w : Found) (h : Head) → AreNumbered w → AreNumbered (with_owner env outside ns o has_body base w h)
  owner_numbered None has_body base w h r = head_numbered has_body base w h r
  owner_numbered (Some owner) has_body base w h r = r

  declarator_numbered : (p : Bool) (base : TypeTree) (w : Found) (d : Declarator) → AreNumbered w → AreNumbered (with_declarator env outside ns p base w d)
  unfolding with_declarator
  declarator_numbered p base w (declarator.Global dcl value) r = dcl_numbered p base w dcl (is_some value) r
  declarator_numbered p base w (declarator.Function head) r = owner_numbered head.owner false base w head r

  declarators_numbered : (p : Bool) (base : TypeTree) (w : Found) (ds : List Declarator) → AreNumbered w → AreNumbered (fold (with_declarator env outside ns p base) w ds)
  declarators_numbered p base w [] r = r
  declarators_numbered p base w (d ∷ ds) r = declarators_numbered p base (with_declarator env outside ns p base w d) ds (declarator_numbered p base w d r)

  item_numbered : (w : Found) (i : Item) → AreNumbered w → AreNumbered (with_item env outside ns w i)
  unfolding with_item
  item_numbered w (item.Declare at scope base list) r = declarators_numbered (is_private_word scope) base w list r
  item_numbered w (item.Function at scope base head body) r = owner_numbered head.owner true base w head r
  item_numbered w (item.Typedef at base dcl) r = r
  item_numbered w (item.FunctionType at base stars name ps) r = r
  item_numbered w (item.Aggregate at kind name members) r = r
  item_numbered w (item.Forward at kind name) r = r
  item_numbered w (item.Adt at name ps members) r = r
  item_numbered w (item.Enum at name list) r = r

  items_numbered : (w : Found) (is : List Item) → AreNumbered w → AreNumbered (fold (with_item env outside ns) w is)
  items_numbered w [] r = r
  items_numbered w (i ∷ is) r = items_numbered (with_item env outside ns w i) is (item_numbered w i r)

  pub found_numbered : (tree : Tree) (found : Found) → globals env tree ns ≡ Good found → AreNumbered found
  unfolding globals
  found_numbered tree found is =
      let w = fold (with_item env outside ns) begun tree.items in
      let ended = with_faults w (asked_main tree env w) in
      let j = judged_good ended.faults (record { globals = w.globals; values = w.values; functions = w.functions; faults = [] }) found is in
      subst AreNumbered j.1 (items_numbered begun tree.items tt)
