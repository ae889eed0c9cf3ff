-- Names, members and their uses.
use Rattle.std.proofs.Common.{◌≡◌, ℕ, ◌<◌, ◌^◌, Bool, true, false, ◌&&◌, List, [], ◌∷◌, Option, Some, None, refl, sym, ap, ◌∙◌, subst, inl, inr}
use Rattle.std.proofs.lemmas.List.Elements.{All-cons, All-head, All-nil, All-tail}
use Rattle.std.specs.Prelude.{◌⊎◌, ◌||◌, not, All, slice_get, option_and_then}
use Rattle.std.specs.Option.{unwrap_or}
use Rattle.al_base.specs.Arith.{width_of}
use Rattle.al_base.specs.declared.place.Place.{Place}
use Rattle.al_tree.specs.declared.integer.Integer.{Integer}
use Rattle.al_tree.specs.declared.constants.EnumConstant.{EnumConstant}
use Rattle.al_scope.specs.declared.declaration.Declaration.{Declaration}
use Rattle.al_scope.specs.declared.declaration.Declaration.TheVariants as declaration
use Rattle.al_typed.specs.declared.program.Aggregate.{Aggregate as AggregateRow}
use Rattle.al_typed.specs.declared.ty.Ty.{Ty, roll-Ty, Row_of-Ty, end_of-Ty, more_of-Ty, items-the_row-Ty, items_hidden-the_row-Ty-1}
use Rattle.al_typed.specs.declared.ty.Ty.TheVariants as ty
use Rattle.al_typed.specs.declared.ty.Ty.TheViews.{out-Ty, roll-out-Ty}
use Rattle.al_typed.specs.declared.ty.Ty.TheOpen.{Ty-F}
use Rattle.al_typed.specs.declared.ty.Ty.TheBlock.{hidden-the_row-Ty-0, hidden-the_row-Ty-1}
use denote.Hole.Carrier.{hidden}
use Rattle.al_typed.specs.declared.expression.TExpr.{TExpr}
use Rattle.al_typed.specs.declared.expression.TExpr.TheVariants as expr
use Rattle.al_typed.specs.declared.expression.TPlace.{TPlace}
use Rattle.al_typed.specs.declared.expression.TPlace.TheVariants as place
use Rattle.al_typed.specs.Types.{IsAggregate, is_array, is_complete, is_void, is_whole}
use Rattle.al_typed.specs.Typed.{place_type, type_of}
use Rattle.al_typed.specs.WellTyped.{HasAddress, LeadsTo, Scope, are_sound, is_sound, is_stored, rows}
use Rattle.al_typed.proofs.ValueRules.{IsPlace-Member, IsPlace-PointedMember, IsValue-Constant, IsValue-Function, IsValue-MemberOf}
use Rattle.al_convert.specs.Same.{pointed}
use Rattle.al_environment.specs.declared.environment.Environment.{Environment}
use Rattle.al_environment.specs.declared.environment.Here.{Here}
use Rattle.al_environment.specs.declared.environment.NamedFunction.{NamedFunction}
use Rattle.al_environment.specs.declared.environment.NamedMember.{NamedMember}
use Rattle.al_environment.specs.declared.environment.Round.{Round}
use Rattle.al_environment.specs.declared.environment.Signature.{Signature}
use Rattle.al_environment.specs.declared.environment.Variable.{Variable}
use Rattle.al_environment.specs.Lookups.{function, global, local, member_named, round}
use Rattle.al_operands.specs.declared.operand.Operand.{Operand}
use Rattle.al_operands.specs.Operands.{plain}
use Rattle.al_operators.specs.Operators.{used}
use Rattle.al_places.specs.Places.{address, loaded}
use Rattle.al_type_nodes.specs.declared.found.Found.{Found}
use Rattle.al_type_nodes.specs.declared.found.Found.TheVariants as found
use Rattle.al_type_nodes.specs.Rules.{rule_5_is_defined, rule_10_is_open, rule_19_is_shared, rule_58_is_read}
use Rattle.al_type_nodes.specs.Uses.{address_of, addressed, dropped, loaded_operand, operand, place_of, placed, sized, used_operand, value}
use Rattle.al_type_nodes.specs.Names.{constant_found, declared, declared_as, defined_function, function_found, function_value, global_found, integer_found, local_found, number_of, outer_found, round_found}
use Rattle.al_type_nodes.specs.Members.{aggregate_at, aggregate_of, arrow, arrow_value, dot, dot_operand, dot_place, dot_value, function_in, member_behind, member_in, member_of_place, member_of_value, place_dot, place_member, pointed_member, value_arrow, value_dot, value_member, whole}
use Rattle.al_sound_operators.specs.Typed.{IfGood, IsFoundValue, IsOperand, IsSoundPlace, IsTyped, IsUsable, has_type}
use Rattle.al_sound_nodes.specs.Nodes.{IsFound, IsFunctionOf, IsGlobalOf, IsLocalPlace, IsShared, NodesAreSound, Tells, is_passed, IsReached}
use Rattle.al_sound_operators.proofs.TypeForms.{pointer_is, some_is, there}
use Rattle.al_sound_operators.proofs.SameTypes.{and_both}
use Rattle.al_sound_operators.proofs.SoundTypes.{sound-Pointer, whole-Pointer}
use Rattle.al_sound_operators.proofs.Literals.{has_type-Other}
use Rattle.al_sound_operators.proofs.Outcomes.{after, also, asked, asked_twice}
use Rattle.al_sound_operators.proofs.OperandsAre.{plain_is, plain_usable}
use Rattle.al_sound_operators.proofs.OperatorKinds.{negated}
use Rattle.al_sound_operators.proofs.OperatorsAre.{integer_usable}
use Rattle.al_sound_operators.proofs.CastsAre.{size_of_value_is, used_is}
use Rattle.al_sound_operators.proofs.PlacesAre.{address_is, both_true, loaded_is, size_of_place_is}

-- ---- values

-- a value that is used may be void
pub usable_typed : (s : Scope) (e : TExpr) → IsUsable s e → IsTyped s e
usable_typed s e u = record { value = u.value; sound = u.sound; whole = rw u.whole (or_true (is_void (type_of e))) }
  where
    or_true : (b : Bool) → (b || true) ≡ true
    or_true true = refl
    or_true false = refl

pub value_found : (s : Scope) (e : TExpr) → IsTyped s e → IsFound s (value e)
value_found s e t = record { typed = t; written = has_type-Other (type_of e) }

pub usable_found : (s : Scope) (e : TExpr) → IsUsable s e → IsFound s (value e)
usable_found s e u = value_found s e (usable_typed s e u)

-- ---- uses

loaded_operand_is : (s : Scope) (at : Place) (p : TPlace) → IsSoundPlace s p → IfGood (loaded_operand (rows s) at p) (IsOperand s)
unfolding loaded_operand
loaded_operand_is s at p h =
    after (IsUsable s) (IsOperand s) (loaded (rows s) at p) _ (loaded_is s at p h) (λ e u. record { usable = u; written = has_type-Other (type_of e) })

used_operand_is : (s : Scope) (at : Place) (x : Operand) → IsFoundValue s x → IfGood (used_operand at x) (IsOperand s)
unfolding used_operand
used_operand_is s at x h =
    after (λ a. (a ≡ x.value) × IsUsable s a) (IsOperand s) (used at x.value) _ (used_is s at x.value h.typed)
    (λ e u. record { usable = u.1; written = ap (λ a. has_type x.written (type_of a)) u.0 ∙ h.written })

pub operand_is : (s : Scope) (at : Place) (f : Found) → IsFound s f → IfGood (operand (rows s) at f) (IsOperand s)
unfolding operand
operand_is s at (found.Place p is_private) h = loaded_operand_is s at p h.place
operand_is s at (found.Value x) h = used_operand_is s at x h

pub dropped_is : (s : Scope) (at : Place) (f : Found) → IsFound s f → IfGood (dropped (rows s) at f) (IsTyped s)
unfolding dropped
dropped_is s at (found.Place p is_private) h = also (IsUsable s) (IsTyped s) (loaded (rows s) at p) (loaded_is s at p h.place) (λ e u. usable_typed s e u)
dropped_is s at (found.Value x) h = also (λ e. e ≡ x.value) (IsTyped s) (plain x) (plain_is x) (λ e is. subst (IsTyped s) (sym is) h.typed)

pub sized_is : (s : Scope) (at : Place) (f : Found) → IsFound s f → IfGood (sized (rows s) at f) (IsUsable s)
unfolding sized
sized_is s at (found.Place p is_private) h = size_of_place_is s at p h.place
sized_is s at (found.Value x) h = size_of_value_is s at x h.typed

pub placed_is : (s : Scope) (at : Place) (f : Found) → IsFound s f → IfGood (placed at f) (IsSoundPlace s)
unfolding placed
placed_is s at (found.Place p is_private) h = h.place
placed_is s at (found.Value x) h = tt

open_is : (b : Bool) → rule_19_is_shared b ≡ true → b ≡ false
unfolding rule_19_is_shared
open_is b q = negated b q

pub addressed_is : (s : Scope) (at : Place) (f : Found) → IsFound s f → IsShared s f → IfGood (addressed at f) (IsUsable s)
unfolding addressed address_of
addressed_is s at (found.Place p is_private) h shared = asked (IsUsable s) 19 at (rule_19_is_shared is_private) (address p) (λ q. address_is s p h.place (here (h.open_to (open_is is_private q))))
  where
    here : HasAddress s p ⊎ IsLocalPlace p → HasAddress s p
    here (inl a) = a
    here (inr l) = shared p is_private refl l
addressed_is s at (found.Value x) h shared = tt

-- ---- names

-- a value's members and a pointer's need no address of their own
open_place : (s : Scope) (p : TPlace) → IsSoundPlace s p → HasAddress s p → IsFound s (place_of p)
open_place s p h a = record { place = h; open_to = λ q. inl a }

global_found_is : (s : Scope) (at : Place) (o : Option Variable) → ((v : Variable) → o ≡ Some v → IsGlobalOf s v) → IfGood (global_found at o) (IsFound s)
unfolding global_found
global_found_is s at None h = tt
global_found_is s at (Some v) h = let g = h v refl in record { place = g.sound; open_to = λ q. inl (g.open_to q) }

local_found_is : (s : Scope) (at : Place) (o : Option Variable) → ((v : Variable) → o ≡ Some v → IsSoundPlace s (place.Local v.ty v.number)) → IfGood (local_found at o) (IsFound s)
unfolding local_found
local_found_is s at None h = tt
local_found_is s at (Some v) h = record { place = h v refl; open_to = λ q. inr ((v.ty, v.number, refl)) }

outer_found_is : (s : Scope) (at : Place) (around : ℕ) (o : Option Variable) → ((v : Variable) → o ≡ Some v → IsSoundPlace s (place.Outer v.ty around v.number))
    → IfGood (outer_found at around o) (IsFound s)
unfolding outer_found
outer_found_is s at around None h = tt
outer_found_is s at around (Some v) h = open_place s (place.Outer v.ty around v.number) (h v refl) tt

round_found_is : (s : Scope) (at : Place) (o : Option Round) (n : ℕ)
    → ((r : Round) (v : Variable) → o ≡ Some r → slice_get r.locals n ≡ Some v → IsSoundPlace s (place.Outer v.ty r.number v.number))
    → IfGood (round_found at o n) (IsFound s)
unfolding round_found
round_found_is s at None n h = tt
round_found_is s at (Some r) n h = outer_found_is s at r.number (slice_get r.locals n) (λ v e. h r v refl e)

-- ---- functions as values

abbrev pub each_passed : List AggregateRow → List Ty → Bool
each_passed rows [] = true
each_passed rows (t ∷ ts) = is_sound rows t && is_whole rows t && each_passed rows ts

pub row_passed : (rows : List AggregateRow) {m : _} (r : Row_of-Ty m) → are_sound rows r ≡ each_passed rows (items-the_row-Ty m r)
row_passed rows end_of-Ty = refl
row_passed rows (more_of-Ty t r) = ap (λ b. is_sound rows t && is_whole rows t && b) (row_passed rows r)

pub parameters_passed : (rows : List AggregateRow) (ts : List Ty) → are_sound rows (hidden-the_row-Ty-1 ts) ≡ each_passed rows ts
parameters_passed rows ts = row_passed rows (hidden-the_row-Ty-1 ts) ∙ ap (each_passed rows) (items_hidden-the_row-Ty-1 ts)

each_are : (rows : List AggregateRow) (ts : List Ty) → All (λ t. is_passed rows t ≡ true) ts → each_passed rows ts ≡ true
each_are rows [] a = refl
each_are rows (t ∷ ts) a =
    both_true (is_passed rows t) (each_passed rows ts) (All-head (λ u. is_passed rows u ≡ true) t ts a) (each_are rows ts (All-tail (λ u. is_passed rows u ≡ true) t ts a))

all_are : (rows : List AggregateRow) (ts : List Ty) → each_passed rows ts ≡ true → All (λ t. is_passed rows t ≡ true) ts
all_are rows [] h = All-nil (λ t. is_passed rows t ≡ true)
all_are rows (t ∷ ts) h =
    let both = and_both (is_passed rows t) (each_passed rows ts) h in
    All-cons (λ u. is_passed rows u ≡ true) t ts both.0 (all_are rows ts both.1)

pub sound-Function : (rows : List AggregateRow) (t : Ty) (ts : List Ty) → is_sound rows t ≡ true → (is_void t || is_whole rows t) ≡ true → All (λ u. is_passed rows u ≡ true) ts
    → is_sound rows (ty.Function t ts) ≡ true
unfolding hidden-the_row-Ty-0 hidden
sound-Function rows t ts o w a =
    both_true (is_sound rows t && (is_void t || is_whole rows t)) (are_sound rows (hidden-the_row-Ty-1 ts)) (both_true (is_sound rows t) _ o w)
    (parameters_passed rows ts ∙ each_are rows ts a)

-- what a sound type of a function has
pub function_parts : (rows : List AggregateRow) (t : Ty) (ts : List Ty) → is_sound rows (ty.Function t ts) ≡ true
    → (is_sound rows t ≡ true) × ((is_void t || is_whole rows t) ≡ true) × All (λ u. is_passed rows u ≡ true) ts
unfolding hidden-the_row-Ty-0 hidden
function_parts rows t ts h =
    let both = and_both (is_sound rows t && (is_void t || is_whole rows t)) (are_sound rows (hidden-the_row-Ty-1 ts)) h in
    let first = and_both (is_sound rows t) (is_void t || is_whole rows t) both.0 in
    (first.0, first.1, all_are rows ts (sym (parameters_passed rows ts) ∙ both.1))

pub number_is : (f : Signature) (number : ℕ) → f.number ≡ Some number → number_of f ≡ number
number_is f number e = ap (λ o. unwrap_or o 0) e

function_value_is : (s : Scope) (f : Signature) (number : ℕ) → f.number ≡ Some number → IsFunctionOf s f number → IsFound s (function_value f)
function_value_is s f number e c =
    let t : Ty = ty.Pointer (ty.Function f.returns f.parameters) in
    usable_found s (expr.Function t (number_of f))
    (record {
      value = rw (IsValue-Function s t (number_of f)) (rw (number_is f number e) c.value);
      sound = sound-Pointer (rows s) (ty.Function f.returns f.parameters) ∙ sound-Function (rows s) f.returns f.parameters c.calls.sound c.calls.whole c.calls.passed;
      whole = whole-Pointer (rows s) (ty.Function f.returns f.parameters);
    })

function_found_is : (s : Scope) (at : Place) (o : Option Signature) → ((number : ℕ) (f : Signature) → o ≡ Some f → f.number ≡ Some number → IsFunctionOf s f number)
    → IfGood (function_found at o) (IsFound s)
unfolding function_found defined_function rule_5_is_defined
function_found_is s at None h = tt
function_found_is s at (Some f) h =
    asked (IsFound s) 5 at (rule_5_is_defined f) (function_value f)
    (λ q. let n = there f.number q in function_value_is s f n.0 n.1 (h n.0 f refl n.1))

-- ---- constants

constant_found_is : (s : Scope) (at : Place) (o : Option EnumConstant)
    → ((c : EnumConstant) (i : Integer) → o ≡ Some c → c.value ≡ Some i → i.bits < 2 ^ width_of i.kind)
    → IfGood (constant_found at o) (IsFound s)
unfolding constant_found
constant_found_is s at None h = tt
constant_found_is s at (Some c) h = on c.value refl
  where
    on : (o : Option Integer) → c.value ≡ o → IfGood (integer_found at o) (IsFound s)
    on None e = tt
    on (Some i) e = usable_found s (expr.Constant (ty.Integer i.kind) i.bits) (integer_usable s i.kind (expr.Constant (ty.Integer i.kind) i.bits) (rw (IsValue-Constant s (ty.Integer i.kind) i.bits) ((i.kind, (refl, h c i refl e)))) refl)

declared_as_is : (s : Scope) (env : Environment) (here : Here) → Tells s env here → (at : Place) (d : Declaration) → IsReached s here (Some d) → IfGood (declared_as env here at d) (IsFound s)
unfolding declared_as
declared_as_is s env here t at (declaration.Global n) h = global_found_is s at (global env n) (λ v e. t.globals n v e)
declared_as_is s env here t at (declaration.Function n) h = function_found_is s at (function env n) (λ number f e q. t.functions n number f e q)
declared_as_is s env here t at (declaration.Constant n) h = constant_found_is s at (slice_get env.scopes.constants.list n) (λ c i e q. t.constants n c i e q)
declared_as_is s env here t at (declaration.Local n) h = local_found_is s at (local here n) (λ v e. t.locals n v e)
declared_as_is s env here t at (declaration.Outer around n) h = round_found_is s at (round here around) n h
declared_as_is s env here t at declaration.Print h = tt
declared_as_is s env here t at declaration.Terminate h = tt

pub declared_is : (s : Scope) (env : Environment) (here : Here) → Tells s env here → (at : Place) (d : Option Declaration) → IsReached s here d → IfGood (declared env here at d) (IsFound s)
unfolding declared
declared_is s env here t at None h = tt
declared_is s env here t at (Some d) h = declared_as_is s env here t at d h

-- ---- members

pub aggregate_of_is : (t : Ty) (n : ℕ) → aggregate_of t ≡ Some n → t ≡ ty.Aggregate n
unfolding aggregate_of
aggregate_of_is t n h = sym (roll-out-Ty t) ∙ on (out-Ty t) h
  where
    on : (y : Ty-F Ty) → aggregate_at y ≡ Some n → roll-Ty y ≡ ty.Aggregate n
    on (Ty-F.Aggregate m) h = ty.rolls-Aggregate m ∙ ap ty.Aggregate (some_is h)
    on _ h = absurd (cc)

-- a member that a type has, which is an aggregate
member_is : (s : Scope) (env : Environment) (here : Here) → Tells s env here → (t : Ty) (name : ℕ) (m : NamedMember) → member_in env (Some t) name ≡ Some m
    → LeadsTo (rows s) m.path t m.ty × (is_stored (rows s) m.ty ≡ true) × IsAggregate t
member_is s env here tells t name m h = on (aggregate_of t) refl h
  where
    on : (o : Option ℕ) → aggregate_of t ≡ o → option_and_then (λ n. member_named env n name) o ≡ Some m → LeadsTo (rows s) m.path t m.ty × (is_stored (rows s) m.ty ≡ true) × IsAggregate t
    on None e h = absurd (cc)
    on (Some n) e h =
        let x = tells.members n name m h in
        (subst (λ u. LeadsTo (rows s) m.path u m.ty) (sym (aggregate_of_is t n e)) x.leads, x.stored, (n, aggregate_of_is t n e))

member_address : (s : Scope) (t : Ty) (p : TPlace) (path : List ℕ) → HasAddress s (place.Member t p path)
member_address s t p path = tt

behind_address : (s : Scope) (t : Ty) (e : TExpr) (path : List ℕ) → HasAddress s (place.PointedMember t e path)
behind_address s t e path = tt

stored_is : (rows : List AggregateRow) (t : Ty) → is_stored rows t ≡ true → (is_sound rows t ≡ true) × (is_complete rows t ≡ true)
stored_is rows t h = and_both (is_sound rows t) (is_complete rows t) h

read_whole : (e : TExpr) (t : Ty) → rule_58_is_read e t ≡ true → not (is_array t) ≡ true
unfolding rule_58_is_read
read_whole e t h = (and_both _ (not (is_array t)) h).1

place_dot_is : (s : Scope) (env : Environment) (here : Here) → Tells s env here → (at : Place) (name : ℕ) (p : TPlace) → IsSoundPlace s p → IfGood (dot_place env here at name p) (IsFound s)
unfolding place_dot member_of_place
place_dot_is s env here t at name p h = on (member_in env (Some (place_type p)) name) refl (function_in env (Some (place_type p)) name)
  where
    on : (o : Option NamedMember) → member_in env (Some (place_type p)) name ≡ o → (f : Option NamedFunction) → IfGood (place_dot here at p o f) (IsFound s)
    on None e f = tt
    on (Some m) e f =
        let x = member_is s env here t (place_type p) name m e in
        asked (IsFound s) 10 at (rule_10_is_open here m.interns) (place_of (place_member p m))
        (λ q. open_place s (place_member p m)
        (record { place = rw (IsPlace-Member s m.ty p m.path) ((h.place, (x.2, x.0))); sound = (stored_is (rows s) m.ty x.1).0 })
        (member_address s m.ty p m.path))

value_dot_is : (s : Scope) (env : Environment) (here : Here) → Tells s env here → (at : Place) (name : ℕ) (e : TExpr) → IsTyped s e → IfGood (dot_value env here at name e) (IsFound s)
unfolding value_dot member_of_value whole
value_dot_is s env here t at name e u = on (member_in env (Some (type_of e)) name) refl (function_in env (Some (type_of e)) name)
  where
    on : (o : Option NamedMember) → member_in env (Some (type_of e)) name ≡ o → (f : Option NamedFunction) → IfGood (value_dot here at e o f) (IsFound s)
    on None q f = tt
    on (Some m) q f =
        let x = member_is s env here t (type_of e) name m q in
        let o = stored_is (rows s) m.ty x.1 in
        after (λ a. (a ≡ e) × (is_whole (rows s) m.ty ≡ true)) (IsFound s) (whole here at e m) _
        (asked_twice (λ a. (a ≡ e) × (is_whole (rows s) m.ty ≡ true)) 10 58 at (rule_10_is_open here m.interns) (rule_58_is_read e m.ty) e
        (λ p k. (refl, both_true (is_complete (rows s) m.ty) (not (is_array m.ty)) o.1 (read_whole e m.ty k))))
        (λ a h. subst (λ d. IsFound s (value (value_member d m))) (sym h.0)
        (usable_found s (value_member e m) (record {
          value = rw (IsValue-MemberOf s m.ty e m.path) ((u.value, (x.0, h.1)));
          sound = o.0;
          whole = h.1;
        })))

dot_operand_is : (s : Scope) (env : Environment) (here : Here) → Tells s env here → (at : Place) (name : ℕ) (x : Operand) → IsFoundValue s x → IfGood (dot_operand env here at name x) (IsFound s)
unfolding dot_operand
dot_operand_is s env here t at name x h =
    after (λ e. e ≡ x.value) (IsFound s) (plain x) (dot_value env here at name) (plain_is x)
    (λ e q. value_dot_is s env here t at name e (subst (IsTyped s) (sym q) h.typed))

pub dot_is : (s : Scope) (env : Environment) (here : Here) → Tells s env here → (at : Place) (name : ℕ) (f : Found) → IsFound s f → IfGood (dot env here at name f) (IsFound s)
unfolding dot
dot_is s env here t at name (found.Place p is_private) h = place_dot_is s env here t at name p h.place
dot_is s env here t at name (found.Value x) h = dot_operand_is s env here t at name x h

-- through a pointer
arrow_value_is : (s : Scope) (env : Environment) (here : Here) → Tells s env here → (at : Place) (name : ℕ) (e : TExpr) → IsUsable s e → IfGood (arrow_value env here at name e) (IsFound s)
unfolding value_arrow member_behind
arrow_value_is s env here t at name e u = on (pointed (type_of e)) refl
  where
    on : (o : Option Ty) → pointed (type_of e) ≡ o → IfGood (value_arrow here at e (member_in env o name) (function_in env o name)) (IsFound s)
    on None q = tt
    on (Some v) q = more (member_in env (Some v) name) refl (function_in env (Some v) name)
      where
        more : (o : Option NamedMember) → member_in env (Some v) name ≡ o → (f : Option NamedFunction) → IfGood (value_arrow here at e o f) (IsFound s)
        more None k f = tt
        more (Some m) k f =
            let x = member_is s env here t v name m k in
            asked (IsFound s) 10 at (rule_10_is_open here m.interns) (place_of (pointed_member e m))
            (λ p. open_place s (pointed_member e m)
            (record { place = rw (IsPlace-PointedMember s m.ty e m.path) ((v, (u.value, (pointer_is (type_of e) v q, x.0)))); sound = (stored_is (rows s) m.ty x.1).0 })
            (behind_address s m.ty e m.path))

pub arrow_is : (s : Scope) (env : Environment) (here : Here) → Tells s env here → (at : Place) (name : ℕ) (x : Operand) → IsOperand s x → IfGood (arrow env here at name x) (IsFound s)
unfolding arrow
arrow_is s env here t at name x o =
    after (IsUsable s) (IsFound s) (plain x) (arrow_value env here at name) (plain_usable s x o) (λ e u. arrow_value_is s env here t at name e u)

pub nodes_are_sound : NodesAreSound
nodes_are_sound = record {
  operand = operand_is;
  dropped = dropped_is;
  sized = sized_is;
  placed = placed_is;
  addressed = addressed_is;
  declared = declared_is;
  dot = dot_is;
  arrow = arrow_is;
}
