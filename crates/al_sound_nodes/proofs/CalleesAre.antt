-- What is called.
use Rattle.std.proofs.Common.{◌≡◌, ℕ, true, List, [], Option, Some, None, refl, sym, ap, ◌∙◌, subst}
use Rattle.std.specs.Prelude.{option_and_then}
use Rattle.al_base.specs.declared.place.Place.{Place}
use Rattle.al_scope.specs.declared.declaration.Declaration.{Declaration}
use Rattle.al_scope.specs.declared.declaration.Declaration.TheVariants as declaration
use Rattle.al_typed.specs.declared.ty.Ty.{Ty}
use Rattle.al_typed.specs.declared.ty.Ty.TheVariants as ty
use Rattle.al_typed.specs.declared.expression.Passed.{Passed}
use Rattle.al_typed.specs.declared.expression.Passed.TheVariants as passed
use Rattle.al_typed.specs.declared.expression.TExpr.{TExpr}
use Rattle.al_typed.specs.declared.expression.TReceiver.{TReceiver}
use Rattle.al_typed.specs.declared.expression.TReceiver.TheVariants as receiver
use Rattle.al_typed.specs.Types.{IsAggregate}
use Rattle.al_typed.specs.Typed.{place_type, type_of}
use Rattle.al_typed.specs.WellTyped.{Gives, LeadsTo, Scope, is_sound, passes, rows}
use Rattle.al_typed.proofs.ValueRules.{Gives-Place, Gives-Pointer, Gives-Value-Nothing, Gives-Value-Value}
use Rattle.al_convert.specs.Same.{parameters_of, pointed, returns_of}
use Rattle.al_environment.specs.declared.environment.Environment.{Environment}
use Rattle.al_environment.specs.declared.environment.Here.{Here}
use Rattle.al_environment.specs.declared.environment.NamedFunction.{NamedFunction}
use Rattle.al_environment.specs.declared.environment.Signature.{Signature}
use Rattle.al_environment.specs.Lookups.{function, function_named}
use Rattle.al_operands.specs.declared.operand.Operand.{Operand}
use Rattle.al_operands.specs.Operands.{plain}
use Rattle.al_type_nodes.specs.declared.found.Found.{Found}
use Rattle.al_type_nodes.specs.declared.found.Found.TheVariants as found
use Rattle.al_type_nodes.specs.Rules.{rule_5_is_defined, rule_10_is_open, rule_57_has_place, rule_58_is_object}
use Rattle.al_type_nodes.specs.Uses.{operand}
use Rattle.al_type_nodes.specs.Names.{declared, number_of}
use Rattle.al_type_nodes.specs.Members.{aggregate_of, arrow, dot, function_in}
use Rattle.al_type_nodes.specs.Calls.{arrow_receiver, dot_receiver, object, operand_receiver, place_object, place_receiver, pointer_object, pointer_receiver, value_object, value_receiver}
use Rattle.al_type_calls.specs.Callees.{arrow_callee, arrow_member, arrow_method, arrowed, callee_as, declared_callee, defined_callee, dot_callee, dot_member, dot_method, dotted, found_callee, found_type, function_called, function_callee, method_callee, method_called, pointed_callee, pointer_callee, value_callee, variable_callee}
use Rattle.al_sound_operators.specs.Typed.{IfGood, IsOperand, IsTyped, IsUsable}
use Rattle.al_sound_nodes.specs.Nodes.{Calls, IsFound, IsFunctionOf, IsReached, Tells}
use Rattle.al_sound_nodes.specs.Callees.{CalleesAreSound, HasTypes, IsCallee, IsGivenBy, IsNamedCallee}
use Rattle.al_sound_operators.proofs.TypeForms.{function_is, pointer_is, there}
use Rattle.al_sound_operators.proofs.SoundTypes.{sound-Pointer}
use Rattle.al_sound_operators.proofs.Outcomes.{after, asked, asked_thrice}
use Rattle.al_sound_operators.proofs.OperandsAre.{plain_is, plain_usable}
use Rattle.al_sound_operators.proofs.OperatorKinds.{not_true}
use Rattle.al_sound_nodes.proofs.NodesAre.{aggregate_of_is, arrow_is, declared_is, dot_is, function_parts, number_is, operand_is}

-- ---- functions

types_are : (s : Scope) (f : Signature) (number : ℕ) (given : List Ty) → Calls s f number given → HasTypes s f.returns f.parameters
types_are s f number given c = record { sound = c.sound; whole = c.whole; passed = c.passed }

called_is : (s : Scope) (f : Signature) (number : ℕ) (r : Option TReceiver) (given : List Ty) → f.number ≡ Some number → Calls s f number given → IsGivenBy s r given
    → IsNamedCallee s f.returns (number_of f) r f.parameters
called_is s f number r given e c g = record {
  types = types_are s f number given c;
  given = given;
  is_given = g;
  takes = rw (number_is f number e) c.takes;
}

function_callee_is : (s : Scope) (at : Place) (o : Option Signature) → ((number : ℕ) (f : Signature) → o ≡ Some f → f.number ≡ Some number → IsFunctionOf s f number)
    → IfGood (function_callee at o) (IsCallee s)
unfolding function_callee defined_callee rule_5_is_defined
function_callee_is s at None h = tt
function_callee_is s at (Some f) h =
    asked (IsCallee s) 5 at (rule_5_is_defined f) (function_called f)
    (λ q. let n = there f.number q in called_is s f n.0 None [] n.1 (h n.0 f refl n.1).calls refl)

-- ---- pointers

value_callee_is : (s : Scope) (at : Place) (e : TExpr) → IsUsable s e → IfGood (value_callee at e) (IsCallee s)
unfolding pointed_callee
value_callee_is s at e u = on (pointed (type_of e)) refl
  where
    on : (o : Option Ty) → pointed (type_of e) ≡ o → IfGood (pointed_callee at e (option_and_then returns_of o) (option_and_then parameters_of o)) (IsCallee s)
    on None q = tt
    on (Some t) q = more (returns_of t) (parameters_of t) refl refl
      where
        more : (r : Option Ty) (ps : Option (List Ty)) → returns_of t ≡ r → parameters_of t ≡ ps → IfGood (pointed_callee at e r ps) (IsCallee s)
        more None ps h k = tt
        more (Some r) None h k = tt
        more (Some r) (Some ps) h k =
            let is : type_of e ≡ ty.Pointer (ty.Function r ps) = pointer_is (type_of e) t q ∙ ap ty.Pointer (function_is t r ps h k) in
            let parts = function_parts (rows s) r ps (sym (sound-Pointer (rows s) (ty.Function r ps)) ∙ sym (ap (is_sound (rows s)) is) ∙ u.sound) in
            record {
              types = record { sound = parts.0; whole = parts.1; passed = parts.2 };
              usable = u;
              is = is;
            }

pub pointer_callee_is : (s : Scope) (at : Place) (x : Operand) → IsOperand s x → IfGood (pointer_callee at x) (IsCallee s)
unfolding pointer_callee
pointer_callee_is s at x o = after (IsUsable s) (IsCallee s) (plain x) (value_callee at) (plain_usable s x o) (λ e u. value_callee_is s at e u)

found_callee_is : (s : Scope) (at : Place) (f : Found) → IsFound s f → IfGood (found_callee (rows s) at f) (IsCallee s)
unfolding found_callee
found_callee_is s at f h = after (IsOperand s) (IsCallee s) (operand (rows s) at f) (pointer_callee at) (operand_is s at f h) (λ x o. pointer_callee_is s at x o)

found_in_is : (s : Scope) (env : Environment) (here : Here) → Tells s env here → (at : Place) (f : Found) → IsFound s f → IfGood (found_callee env.aggregates at f) (IsCallee s)
found_in_is s env here t at f h = subst (λ rs. IfGood (found_callee rs at f) (IsCallee s)) (sym t.aggregates) (found_callee_is s at f h)

-- ---- bare names

variable_callee_is : (s : Scope) (env : Environment) (here : Here) → Tells s env here → (at : Place) (d : Declaration) → IsReached s here (Some d) → IfGood (variable_callee env here at d) (IsCallee s)
unfolding variable_callee
variable_callee_is s env here t at d h =
    after (IsFound s) (IsCallee s) (declared env here at (Some d)) (found_callee env.aggregates at) (declared_is s env here t at (Some d) h) (λ f k. found_in_is s env here t at f k)

callee_as_is : (s : Scope) (env : Environment) (here : Here) → Tells s env here → (at : Place) (d : Declaration) → IsReached s here (Some d) → IfGood (callee_as env here at d) (IsCallee s)
unfolding callee_as
callee_as_is s env here t at (declaration.Global n) h = variable_callee_is s env here t at (declaration.Global n) h
callee_as_is s env here t at (declaration.Function n) h = function_callee_is s at (function env n) (λ number f e q. t.functions n number f e q)
callee_as_is s env here t at (declaration.Constant n) h = variable_callee_is s env here t at (declaration.Constant n) h
callee_as_is s env here t at (declaration.Local n) h = variable_callee_is s env here t at (declaration.Local n) h
callee_as_is s env here t at (declaration.Outer around n) h = variable_callee_is s env here t at (declaration.Outer around n) h
callee_as_is s env here t at declaration.Print h = tt
callee_as_is s env here t at declaration.Terminate h = tt

pub declared_callee_is : (s : Scope) (env : Environment) (here : Here) → Tells s env here → (at : Place) (d : Option Declaration) → IsReached s here d → IfGood (declared_callee env here at d) (IsCallee s)
unfolding declared_callee
declared_callee_is s env here t at None h = tt
declared_callee_is s env here t at (Some d) h = callee_as_is s env here t at d h

-- ---- functions of adts

-- where a function of a type is, and has a body
method_is : (s : Scope) (env : Environment) (here : Here) → Tells s env here → (t : Ty) (name number : ℕ) (f : NamedFunction) → function_in env (Some t) name ≡ Some f
    → f.signature.number ≡ Some number → (object : Ty) × LeadsTo (rows s) f.path t object × Calls s f.signature number (passes f.passed object) × IsAggregate t
method_is s env here tells t name number f h e = on (aggregate_of t) refl h
  where
    on : (o : Option ℕ) → aggregate_of t ≡ o → option_and_then (λ n. function_named env n name) o ≡ Some f → (object : Ty) × LeadsTo (rows s) f.path t object × Calls s f.signature number (passes f.passed object) × IsAggregate t
    on None q h = absurd (cc)
    on (Some n) q h =
        let m = tells.methods n name number f h e in
        (m.object, subst (λ u. LeadsTo (rows s) f.path u m.object) (sym (aggregate_of_is t n q)) m.leads, m.calls, (n, aggregate_of_is t n q))

-- what a receiver gives, once the function has a body
abbrev GivesTo : Scope → Ty → NamedFunction → TReceiver → Type 0
GivesTo s t f r = IsAggregate t → (object : Ty) → LeadsTo (rows s) f.path t object → Gives s r (passes f.passed object)

method_callee_is : (s : Scope) (env : Environment) (here : Here) → Tells s env here → (at : Place) (t : Ty) (name : ℕ) (f : NamedFunction) → function_in env (Some t) name ≡ Some f
    → (r : TReceiver) → GivesTo s t f r → IfGood (method_callee at f r) (IsCallee s)
unfolding method_callee rule_5_is_defined
method_callee_is s env here tells at t name f h r g =
    asked (IsCallee s) 5 at (rule_5_is_defined f.signature) (method_called f r)
    (λ q.
    let n = there f.signature.number q in
    let m = method_is s env here tells t name n.0 f h n.1 in
    called_is s f.signature n.0 (Some r) (passes f.passed m.0) n.1 m.2 (g m.3 m.0 m.1))

value_gives : (s : Scope) (e : TExpr) (path : List ℕ) (how : Passed) (object : Ty) → IsTyped s e → rule_57_has_place how ≡ true → IsAggregate (type_of e)
    → LeadsTo (rows s) path (type_of e) object → Gives s (receiver.Value e path how) (passes how object)
unfolding rule_57_has_place
value_gives s e path passed.Address object u q a l = not_true q
value_gives s e path passed.Value object u q a l = rw (Gives-Value-Value s e path (passes passed.Value object)) ((object, (u.value, (a, (l, refl)))))
value_gives s e path passed.Nothing object u q a l = rw (Gives-Value-Nothing s e path (passes passed.Nothing object)) ((object, (u.value, (a, (l, refl)))))

value_receiver_is : (s : Scope) (here : Here) (at : Place) (e : TExpr) (g : NamedFunction) → IsTyped s e → IfGood (value_receiver here at e g) (GivesTo s (type_of e) g)
unfolding value_receiver object
value_receiver_is s here at e g u =
    after (λ a. (a ≡ e) × (rule_57_has_place g.passed ≡ true)) (GivesTo s (type_of e) g) (object here at e g) _
    (asked_thrice (λ a. (a ≡ e) × (rule_57_has_place g.passed ≡ true)) 10 57 58 at (rule_10_is_open here g.interns) (rule_57_has_place g.passed) (rule_58_is_object e) e (λ p q k. (refl, q)))
    (λ a h. subst (λ d. GivesTo s (type_of e) g (value_object d g)) (sym h.0) (λ a object l. value_gives s e g.path g.passed object u h.1 a l))

dot_receiver_is : (s : Scope) (here : Here) (at : Place) (f : Found) (g : NamedFunction) → IsFound s f → IfGood (dot_receiver here at f g) (GivesTo s (found_type f) g)
unfolding dot_receiver place_receiver operand_receiver
dot_receiver_is s here at (found.Place p is_private) g h =
    asked (GivesTo s (place_type p) g) 10 at (rule_10_is_open here g.interns) (place_object p g)
    (λ q a object l. rw (Gives-Place s p g.path g.passed (passes g.passed object)) ((object, (h.place.place, (a, (l, refl))))))
dot_receiver_is s here at (found.Value x) g h =
    after (λ e. e ≡ x.value) (GivesTo s (type_of x.value) g) (plain x) _ (plain_is x)
    (λ e q. subst (λ d. IfGood (value_receiver here at d g) (GivesTo s (type_of x.value) g)) (sym q) (value_receiver_is s here at x.value g h.typed))

pointer_receiver_is : (s : Scope) (here : Here) (at : Place) (e : TExpr) (g : NamedFunction) (t : Ty) → pointed (type_of e) ≡ Some t → IsUsable s e
    → IfGood (pointer_receiver here at e g) (GivesTo s t g)
unfolding pointer_receiver
pointer_receiver_is s here at e g t h u =
    asked (GivesTo s t g) 10 at (rule_10_is_open here g.interns) (pointer_object e g)
    (λ q a object l. rw (Gives-Pointer s e g.path g.passed (passes g.passed object)) ((t, (object, (u.value, (pointer_is (type_of e) t h, (l, refl)))))))

arrow_receiver_is : (s : Scope) (here : Here) (at : Place) (x : Operand) (g : NamedFunction) (t : Ty) → pointed (type_of x.value) ≡ Some t → IsOperand s x
    → IfGood (arrow_receiver here at x g) (GivesTo s t g)
unfolding arrow_receiver
arrow_receiver_is s here at x g t e o =
    after (λ e. e ≡ x.value) (GivesTo s t g) (plain x) _ (plain_is x)
    (λ a q. subst (λ d. IfGood (pointer_receiver here at d g) (GivesTo s t g)) (sym q) (pointer_receiver_is s here at x.value g t e o.usable))

-- ---- behind `.` and `->`

pub dot_callee_is : (s : Scope) (env : Environment) (here : Here) → Tells s env here → (at : Place) (name : ℕ) (f : Found) → IsFound s f → IfGood (dot_callee env here at name f) (IsCallee s)
unfolding dot_callee dotted dot_member dot_method
dot_callee_is s env here t at name f h = on (function_in env (Some (found_type f)) name) refl
  where
    on : (o : Option NamedFunction) → function_in env (Some (found_type f)) name ≡ o → IfGood (dotted env here at name f o) (IsCallee s)
    on None e = after (IsFound s) (IsCallee s) (dot env here at name f) (found_callee env.aggregates at) (dot_is s env here t at name f h) (λ g k. found_in_is s env here t at g k)
    on (Some g) e =
        after (GivesTo s (found_type f) g) (IsCallee s) (dot_receiver here at f g) (method_callee at g) (dot_receiver_is s here at f g h)
        (λ r k. method_callee_is s env here t at (found_type f) name g e r k)

pub arrow_callee_is : (s : Scope) (env : Environment) (here : Here) → Tells s env here → (at : Place) (name : ℕ) (x : Operand) → IsOperand s x → IfGood (arrow_callee env here at name x) (IsCallee s)
unfolding arrow_callee arrowed arrow_member arrow_method
arrow_callee_is s env here t at name x o = start (pointed (type_of x.value)) refl
  where
    member : IfGood (arrow_member env here at name x) (IsCallee s)
    member = after (IsFound s) (IsCallee s) (arrow env here at name x) (found_callee env.aggregates at) (arrow_is s env here t at name x o) (λ g k. found_in_is s env here t at g k)

    on : (v : Ty) → pointed (type_of x.value) ≡ Some v → (q : Option NamedFunction) → function_in env (Some v) name ≡ q → IfGood (arrowed env here at name x q) (IsCallee s)
    on v e None q = member
    on v e (Some g) q =
        after (GivesTo s v g) (IsCallee s) (arrow_receiver here at x g) (method_callee at g) (arrow_receiver_is s here at x g v e o)
        (λ r k. method_callee_is s env here t at v name g q r k)

    start : (p : Option Ty) → pointed (type_of x.value) ≡ p → IfGood (arrowed env here at name x (function_in env p name)) (IsCallee s)
    start None e = member
    start (Some v) e = on v e (function_in env (Some v) name) refl

pub callees_are_sound : CalleesAreSound
callees_are_sound = record {
  pointer_callee = pointer_callee_is;
  declared_callee = declared_callee_is;
  dot_callee = dot_callee_is;
  arrow_callee = arrow_callee_is;
}
