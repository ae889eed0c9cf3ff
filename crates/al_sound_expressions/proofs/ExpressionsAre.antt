-- What trees of expressions give.
use Rattle.std.proofs.Common.{◌≡◌, ℕ, Bool, true, false, ◌&&◌, List, [], ◌∷◌, map, Option, Some, None, refl, sym, ap, ◌∙◌, subst}
use Rattle.std.specs.Prelude.{not, All}
use Rattle.al_base.specs.declared.place.Place.{Place}
use Rattle.al_rules.specs.Outcome.{Outcome, Good, Bad, and_then, pair}
use Rattle.al_scope.specs.Firsts.{declaration_at}
use Rattle.al_tree.specs.declared.expression.UnaryOp.{UnaryOp as Prefix}
use Rattle.al_tree.specs.declared.expression.UnaryOp.TheVariants as prefix
use Rattle.al_tree.specs.declared.expression.AssignOp.{AssignOp}
use Rattle.al_tree.specs.declared.expression.AssignOp.TheVariants as assign
use Rattle.al_tree.specs.declared.expression.Expr.TheOpen.{Expr-F}
use Rattle.al_typed.specs.declared.ty.Ty.{Ty}
use Rattle.al_typed.specs.declared.ty.Ty.TheVariants as ty
use Rattle.al_typed.specs.declared.expression.TExpr.{items-the_row-TTarget, items_hidden-the_row-TTarget-5, Row_of-TTarget, end_of-TTarget, more_of-TTarget}
use Rattle.al_typed.specs.declared.expression.TExpr.TheBlock.{hidden-the_row-TPlace-0, hidden-the_row-TTarget-5}
use denote.Hole.Carrier.{hidden}
use Rattle.al_typed.specs.declared.expression.TExpr.TheVariants as expr
use Rattle.al_typed.specs.declared.expression.TPlace.{TPlace}
use Rattle.al_typed.specs.declared.expression.TReceiver.{TReceiver}
use Rattle.al_typed.specs.declared.expression.TTarget.{TTarget}
use Rattle.al_typed.specs.declared.expression.TTarget.TheVariants as target
use Rattle.al_typed.specs.Types.{is_array, is_complete, is_whole}
use Rattle.al_typed.specs.Typed.{place_type, target_type, type_of}
use Rattle.al_typed.specs.WellTyped.{Scope, is_sound, rows}
use Rattle.al_typed.proofs.ValueRules as value_rules
use Rattle.al_typed.proofs.ValueRules.{IsValue-Assign, IsValue-Call, IsValue-CallPointer, target_types_are}
use Rattle.al_convert.specs.Same.{parts_of}
use Rattle.al_environment.specs.declared.environment.Environment.{Environment}
use Rattle.al_environment.specs.declared.environment.Here.{Here}
use Rattle.al_environment.specs.Firsts.{number_at}
use Rattle.al_environment.specs.Written.{written}
use Rattle.al_operands.specs.declared.operand.Operand.{Operand}
use Rattle.al_operands.specs.Operands.{converted}
use Rattle.al_operands.specs.Rules.{rule_29_is_no_array, rule_33_converts}
use Rattle.al_operators.specs.Formats.{pieces}
use Rattle.al_operators.specs.Operators.{binary, printed, terminated}
use Rattle.al_places.specs.Places.{index, updated}
use Rattle.al_type_nodes.specs.declared.found.Found.{Found}
use Rattle.al_type_nodes.specs.declared.found.Found.TheVariants as found
use Rattle.al_type_nodes.specs.Uses.{dropped, operand, placed, sized}
use Rattle.al_type_nodes.specs.Names.{named}
use Rattle.al_type_calls.specs.declared.callee.Callee.{Callee}
use Rattle.al_type_calls.specs.declared.callee.Callee.TheVariants as callee
use Rattle.al_type_calls.specs.Callees.{pointer_callee}
use Rattle.al_type_expr.specs.Leaves.{assign_node, assigned_to, character, iterator_found, nil_found, number, place_target, text_found, whole_target}
use Rattle.al_type_expr.specs.Leaves as leaves
use Rattle.al_type_expr.specs.Lists.{arguments, columns, each, prints, rule_18_tuple, sequenced, small_tuple, target_types}
use Rattle.al_type_expr.specs.Parts.{cast_to, compound, gives, is_at, member_callee, member_found, postfix_found, type_sized, unary}
use Rattle.al_type_expr.specs.Nodes.{Node, aim, all_parts, assigned, assignment, called, dropped_of, format_call, nil_aim, operand_of, plain_node, print_call, small_target, step, target_rule, targets, terminate_call, tuple_aim, tuple_target}
use Rattle.al_sound_operators.specs.Typed.{IfGood, IsOperand, IsSoundPlace, IsTyped, IsUsable}
use Rattle.al_sound_operators.specs.Operands.{IsOf}
use Rattle.al_sound_operators.specs.Operators.{IsPrinted}
use Rattle.al_sound_operators.specs.Places.{IsOpenPlace}
use Rattle.al_sound_nodes.specs.Nodes.{IsFound, IsShared, Tells}
use Rattle.al_sound_nodes.specs.Callees.{IsCallee, IsGivenBy}
use Rattle.al_sound_expressions.specs.Expressions.{AreAimed, EachPart, Every, IsAimed, IsFit, IsNode}
use Rattle.al_sound_operators.proofs.TypeForms.{tuple_is}
use Rattle.al_sound_operators.proofs.SameTypes.{and_both}
use Rattle.al_sound_operators.proofs.Outcomes.{after, also, asked, paired, where_good}
use Rattle.al_sound_operators.proofs.OperandsAre.{converted_is, operand_converts}
use Rattle.al_sound_operators.proofs.OperatorKinds.{negated}
use Rattle.al_sound_operators.proofs.OperatorsAre.{binary_is}
use Rattle.al_sound_operators.proofs.CastsAre.{printed_is, sent_is, terminated_is}
use Rattle.al_sound_operators.proofs.PlacesAre.{both_true, index_is, updated_is}
use Rattle.al_sound_nodes.proofs.NodesAre.{declared_is, dropped_is, each_passed, operand_is, placed_is, sized_is, usable_typed}
use Rattle.al_sound_nodes.proofs.CalleesAre.{declared_callee_is, pointer_callee_is}
use Rattle.al_sound_expressions.proofs.TargetsAre.{aimed_is, tuple_parts}
use Rattle.al_sound_expressions.proofs.ExpressionLists.{AreArguments, AreColumns, arguments_are, both_hold, columns_are, each_is, prints_are, sequenced_is, small_tuple_is}
use Rattle.al_sound_expressions.proofs.NodesOf.{cast_to_is, character_is, gives_typed, gives_usable, is_at_is, iterator_is, member_callee_is, member_found_is, nil_is, number_is, postfix_is, text_is, type_sized_is, unary_is}

-- ---- as operands

operand_in : (s : Scope) (env : Environment) → env.aggregates ≡ rows s → (at : Place) (f : Found) → IsFound s f → IfGood (operand env.aggregates at f) (IsOperand s)
operand_in s env e at f h = subst (λ rs. IfGood (operand rs at f) (IsOperand s)) (sym e) (operand_is s at f h)

pub operand_of_is : (s : Scope) (env : Environment) → env.aggregates ≡ rows s → (n : Node) → IsNode s n → IfGood (operand_of env n) (IsOperand s)
operand_of_is s env e n h = after (IsFound s) (IsOperand s) n.found (operand env.aggregates n.at) h.found (λ f k. operand_in s env e n.at f k)

pub dropped_of_is : (s : Scope) (env : Environment) → env.aggregates ≡ rows s → (n : Node) → IsNode s n → IfGood (dropped_of env n) (IsTyped s)
dropped_of_is s env e n h =
    after (IsFound s) (IsTyped s) n.found (dropped env.aggregates n.at) h.found (λ f k. subst (λ rs. IfGood (dropped rs n.at f) (IsTyped s)) (sym e) (dropped_is s n.at f k))

operands_of : (s : Scope) (env : Environment) → env.aggregates ≡ rows s → (ns : List Node) → Every (IsNode s) ns → Every (λ x. IfGood x (IsOperand s)) (map (operand_of env) ns)
operands_of s env e [] h = tt
operands_of s env e (n ∷ ns) h = (operand_of_is s env e n h.0, operands_of s env e ns h.1)

dropped_each : (s : Scope) (env : Environment) → env.aggregates ≡ rows s → (ns : List Node) → Every (IsNode s) ns → Every (λ x. IfGood x (IsTyped s)) (map (dropped_of env) ns)
dropped_each s env e [] h = tt
dropped_each s env e (n ∷ ns) h = (dropped_of_is s env e n h.0, dropped_each s env e ns h.1)

-- ---- targets

into_aimed : (s : Scope) (p : TPlace) → IsSoundPlace s p → is_array (place_type p) ≡ false → IsAimed s (target.Into p)
unfolding hidden-the_row-TPlace-0 hidden
into_aimed s p h a = (h, a)

place_target_is : (s : Scope) (n : ℕ) (at : Place) (f : Found) → IsFound s f → IfGood (place_target n at f) (IsAimed s)
unfolding place_target whole_target rule_29_is_no_array
place_target_is s n at (found.Place p is_private) h =
    asked (IsAimed s) 29 at (rule_29_is_no_array (place_type p)) (target.Into p) (λ q. into_aimed s p h.place (negated (is_array (place_type p)) q))
place_target_is s n at (found.Value x) h = tt

aim_is : (s : Scope) (o : Outcome Found) → IfGood o (IsFound s) → (is_part : Bool) (at : Place) (t : Ty) → IfGood (aim o is_part at t) (IsAimed s)
aim_is s o h is_part at t = after (IsFound s) (IsAimed s) o (place_target (target_rule is_part) at) h (λ f k. place_target_is s (target_rule is_part) at f k)

nil_aim_is : (s : Scope) (is_part : Bool) (at : Place) (t : Ty) → is_sound (rows s) t ≡ true → is_whole (rows s) t ≡ true → IfGood (nil_aim is_part at t) (IsAimed s)
nil_aim_is s true at t o w =
    let both = and_both (is_complete (rows s) t) (not (is_array t)) w in
    (both_true (is_sound (rows s) t) (is_complete (rows s) t) o both.0, negated (is_array t) both.1)
nil_aim_is s false at t o w = tt

row_aimed : (s : Scope) {m : _} (r : Row_of-TTarget m) → Every (IsAimed s) (items-the_row-TTarget m r) → AreAimed s r
row_aimed s end_of-TTarget h = tt
row_aimed s (more_of-TTarget x r) h = (h.0, row_aimed s r h.1)

parts_aimed : (s : Scope) (xs : List TTarget) → rule_18_tuple (rows s) (target_types xs) ≡ true → Every (IsAimed s) xs → IsAimed s (all_parts xs)
parts_aimed s xs small h =
    (sym (ap ty.Tuple (target_types_are xs)), (small, row_aimed s (hidden-the_row-TTarget-5 xs) (subst (Every (IsAimed s)) (sym (items_hidden-the_row-TTarget-5 xs)) h)))

small_target_is : (s : Scope) (at : Place) (xs : List TTarget) → Every (IsAimed s) xs → IfGood (small_target (rows s) at xs) (IsAimed s)
unfolding small_target
small_target_is s at xs h = asked (IsAimed s) 18 at (rule_18_tuple (rows s) (target_types xs)) (all_parts xs) (λ q. parts_aimed s xs q h)

targets_of : (s : Scope) (at : Place) (ns : List Node) (ts : List Ty) → Every (IsNode s) ns → each_passed (rows s) ts ≡ true → IfGood (targets at ns ts) (Every (IsAimed s))
unfolding targets
targets_of s at [] [] h k = tt
targets_of s at [] (t ∷ ts) h k = tt
targets_of s at (n ∷ ns) [] h k = tt
targets_of s at (n ∷ ns) (t ∷ ts) h k =
    let both = and_both (is_sound (rows s) t && is_whole (rows s) t) (each_passed (rows s) ts) k in
    let here = and_both (is_sound (rows s) t) (is_whole (rows s) t) both.0 in
    both_hold (IsAimed s) (Every (IsAimed s)) (Every (IsAimed s)) (n.target true at t) (targets at ns ts) (λ x xs. Good (x ∷ xs))
    (h.0.target true at t here.0 here.1) (targets_of s at ns ts h.1 both.1) (λ x xs u v. (u, v))

tuple_aim_is : (s : Scope) (ns : List Node) → Every (IsNode s) ns → (is_part : Bool) (at : Place) (t : Ty) → is_sound (rows s) t ≡ true → IfGood (tuple_aim (rows s) ns is_part at t) (IsAimed s)
unfolding tuple_target
tuple_aim_is s ns h is_part at t o = on (parts_of t) refl
  where
    on : (p : Option (List Ty)) → parts_of t ≡ p → IfGood (tuple_target (rows s) at ns p) (IsAimed s)
    on None e = tt
    on (Some ts) e =
        after (Every (IsAimed s)) (IsAimed s) (targets at ns ts) (small_target (rows s) at)
        (targets_of s at ns ts h (tuple_parts (rows s) ts (sym (ap (is_sound (rows s)) (tuple_is t ts e)) ∙ o)))
        (λ xs k. small_target_is s at xs k)

-- ---- assignments

assigned_to_is : (s : Scope) (at : Place) (t : TTarget) (x : Operand) → IsAimed s t → IsOperand s x → IfGood (assigned_to at t x) (IsUsable s)
unfolding assigned_to
assigned_to_is s at t x a o =
    asked (IsUsable s) 33 at (rule_33_converts x (target_type t)) (leaves.assign t x.value)
    (λ q.
    let c = operand_converts s x (target_type t) o q in
    let r = aimed_is s t (type_of x.value) a c o.usable.sound o.usable.whole in
    let e = converted_is s (target_type t) x.value o.usable r.1 c in
    record {
      value = rw (IsValue-Assign s (target_type t) t (converted (target_type t) x.value)) ((e_whole s t x e, (r.0, (refl, (e.usable.value, e.is)))));
      sound = r.1;
      whole = e_whole s t x e;
    })
  where
    e_whole : (s : Scope) (t : TTarget) (x : Operand) → IsOf s (target_type t) (converted (target_type t) x.value) → is_whole (rows s) (target_type t) ≡ true
    e_whole s t x e = sym (ap (is_whole (rows s)) e.is) ∙ e.usable.whole

-- ---- calls

given_by : (s : Scope) (r : Option TReceiver) (given : List Ty) → IsGivenBy s r given → value_rules.IsGivenBy s r given
given_by s None given h = h
given_by s (Some r) given h = h

print_is : (s : Scope) (env : Environment) → env.aggregates ≡ rows s → (at : Place) (ns : List Node) → Every (IsNode s) ns → IfGood (print_call env at ns) (IsTyped s)
unfolding print_call format_call
print_is s env e at [] h = tt
print_is s env e at (n ∷ ns) h = on n.text
  where
    on : (o : Option (List ℕ)) → IfGood (format_call env at o ns) (IsTyped s)
    on None = tt
    on (Some bytes) =
        after (All (IsPrinted s)) (IsTyped s) (prints (map (operand_of env) ns)) (printed at (pieces bytes)) (prints_are s (map (operand_of env) ns) (operands_of s env e ns h.1))
        (λ es a. printed_is s at (pieces bytes) es a)

terminate_is : (s : Scope) (env : Environment) → env.aggregates ≡ rows s → (at : Place) (ns : List Node) → Every (IsNode s) ns → IfGood (terminate_call env at ns) (IsTyped s)
unfolding terminate_call
terminate_is s env e at [] h = tt
terminate_is s env e at (n ∷ []) h = after (IsOperand s) (IsTyped s) (operand_of env n) (terminated at) (operand_of_is s env e n h.0) (λ x o. terminated_is s at x o)
terminate_is s env e at (n ∷ (m ∷ ns)) h = tt

called_is : (s : Scope) (env : Environment) → env.aggregates ≡ rows s → (at : Place) (ns : List Node) (c : Callee) → Every (IsNode s) ns → IsCallee s c → IfGood (called env at ns c) (IsTyped s)
unfolding called
called_is s env e at ns callee.Print h c = print_is s env e at ns h
called_is s env e at ns callee.Terminate h c = terminate_is s env e at ns h
called_is s env e at ns (callee.Function returns number receiver parameters) h c =
    after (AreArguments s parameters) (IsTyped s) (arguments at parameters (map (operand_of env) ns)) (λ es. Good (expr.Call returns number receiver es))
    (arguments_are s at parameters (map (operand_of env) ns) c.types.passed (operands_of s env e ns h))
    (λ es a. record {
      value = rw (IsValue-Call s returns number receiver es)
          ((c.given, (given_by s receiver c.given c.is_given, (a.values, rw a.types c.takes))));
      sound = c.types.sound;
      whole = c.types.whole;
    })
called_is s env e at ns (callee.Pointer returns pointer parameters) h c =
    after (AreArguments s parameters) (IsTyped s) (arguments at parameters (map (operand_of env) ns)) (λ es. Good (expr.CallPointer returns pointer es))
    (arguments_are s at parameters (map (operand_of env) ns) c.types.passed (operands_of s env e ns h))
    (λ es a. record {
      value = rw (IsValue-CallPointer s returns pointer es) ((c.usable.value, (a.values, rw a.types c.is)));
      sound = c.types.sound;
      whole = c.types.whole;
    })

-- what holds by two laws
both_of : {A : Type 0} (P Q : A → Type 0) (o : Outcome A) → IfGood o P → IfGood o Q → IfGood o (λ a. P a × Q a)
both_of P Q (Good a) h k = (h, k)
both_of P Q (Bad fs) h k = tt

-- `op=`
compound_is : (s : Scope) (at : Place) (how : _) (f : Found) (x : Operand) → IsFound s f → IsOperand s x → IfGood (compound (rows s) at how f x) (IsTyped s)
unfolding compound
compound_is s at how f x h o =
    after (IsSoundPlace s) (IsTyped s) (placed at f) _ (placed_is s at f h)
    (λ p q. also (IsUsable s) (IsTyped s) (updated (rows s) at how p x) (updated_is s at how p x q o) (λ d u. usable_typed s d u))

-- ---- assignments of each form

assignment_is : (s : Scope) (env : Environment) → env.aggregates ≡ rows s → (at : Place) (op : AssignOp) (a b : Node) → IsNode s a → IsNode s b
    → IfGood (assignment env at op a b) (IsTyped s)
unfolding assignment assigned
assignment_is s env e at assign.Assign a b h k =
    after (IsOperand s) (IsTyped s) (operand_of env b) _ (operand_of_is s env e b k)
    (λ x o. after (IsAimed s) (IsTyped s) (a.target false at (type_of x.value)) _ (h.target false at (type_of x.value) o.usable.sound o.usable.whole)
    (λ t q. also (IsUsable s) (IsTyped s) (assigned_to at t x) (assigned_to_is s at t x q o) (λ d u. usable_typed s d u)))
assignment_is s env e at (assign.Compound how) a b h k =
    after (λ (p : Found × Operand). IsFound s p.0 × IsOperand s p.1) (IsTyped s) (pair a.found (operand_of env b)) _
    (paired (IsFound s) (IsOperand s) a.found (operand_of env b) h.found (operand_of_is s env e b k))
    (λ p q. subst (λ rs. IfGood (compound rs at how p.0 p.1) (IsTyped s)) (sym e) (compound_is s at how p.0 p.1 q.0 q.1))
assignment_is s env e at assign.Send a b h k =
    after (λ (p : Operand × Operand). IsOperand s p.0 × IsOperand s p.1) (IsTyped s) (pair (operand_of env a) (operand_of env b)) _
    (paired (IsOperand s) (IsOperand s) (operand_of env a) (operand_of env b) (operand_of_is s env e a h) (operand_of_is s env e b k))
    (λ p q. sent_is s at p.0 p.1 q.0 q.1)

-- ---- each node

-- a node that is neither a name, a member, a string, nil nor a tuple
plain_node_is : (s : Scope) (env : Environment) → env.aggregates ≡ rows s → (at : Place) (o : Outcome Found) → IfGood o (IsFound s) → IsNode s (plain_node env at o)
plain_node_is s env e at o h = record {
  found = h;
  target = λ is_part by t q w. aim_is s o h is_part by t;
  callee =
      after (IsOperand s) (IsCallee s) (and_then o (operand env.aggregates at)) (pointer_callee at)
      (after (IsFound s) (IsOperand s) o (operand env.aggregates at) h (λ f k. operand_in s env e at f k))
      (λ x k. pointer_callee_is s at x k);
}

-- where the address of what is found is taken
address_fit : (s : Scope) (env : Environment) (here : Here) (at : Place) (op : Prefix) (a : Node) → IsFit s env here (Expr-F.Unary at op a)
    → IfGood a.found (λ f. op ≡ prefix.Address → IsShared s f)
address_fit s env here at prefix.Address a k = also (IsShared s) (λ f. prefix.Address ≡ prefix.Address → IsShared s f) a.found k (λ f q e. q)
address_fit s env here at op a k = where_good (λ f. op ≡ prefix.Address → IsShared s f) a.found (λ f q e. absurd (cc))

pub step_is : (s : Scope) (env : Environment) (here : Here) → Tells s env here → (z : Expr-F Node) → EachPart (IsNode s) z → IsFit s env here z → IsNode s (step env here z)
step_is s env here t (Expr-F.Number at n) h k = plain_node_is s env t.aggregates at (Good (number n)) (number_is s n)
step_is s env here t (Expr-F.Char at n) h k = plain_node_is s env t.aggregates at (Good (character n)) (character_is s n)
step_is s env here t (Expr-F.Text at bytes) h k =
    let p = plain_node_is s env t.aggregates at (text_found at (number_at here.texts at)) (text_is s at (number_at here.texts at) k) in
    record { found = p.found; target = p.target; callee = p.callee }
step_is s env here t (Expr-F.Nil at) h k =
    let p = plain_node_is s env t.aggregates at (Good (nil_found at)) (nil_is s at) in
    record { found = p.found; target = λ is_part by u o w. nil_aim_is s is_part by u o w; callee = p.callee }
step_is s env here t (Expr-F.Name at name) h k =
    let p = plain_node_is s env t.aggregates at (named env here at) (declared_is s env here t at (declaration_at env.scopes.names at) k) in
    record { found = p.found; target = p.target; callee = declared_callee_is s env here t at (declaration_at env.scopes.names at) k }
step_is s env here t (Expr-F.Tuple at parts) h k =
    let p = plain_node_is s env t.aggregates at (and_then (columns (map (operand_of env) parts)) (small_tuple env.aggregates at))
    (after (AreColumns s) (IsFound s) (columns (map (operand_of env) parts)) _ (columns_are s (map (operand_of env) parts) (operands_of s env t.aggregates parts h))
    (λ c a. subst (λ rs. IfGood (small_tuple rs at c) (IsFound s)) (sym t.aggregates) (small_tuple_is s at c a))) in
    record {
      found = p.found;
      target = λ is_part by u o w. subst (λ rs. IfGood (tuple_aim rs parts is_part by u) (IsAimed s)) (sym t.aggregates) (tuple_aim_is s parts h is_part by u o);
      callee = p.callee;
    }
step_is s env here t (Expr-F.Unary at op a) h k =
    plain_node_is s env t.aggregates at (and_then a.found (unary env.aggregates at op a.at))
    (after (λ f. IsFound s f × (op ≡ prefix.Address → IsShared s f)) (IsFound s) a.found _ (both_of (IsFound s) _ a.found h.found (address_fit s env here at op a k))
    (λ f q. subst (λ rs. IfGood (unary rs at op a.at f) (IsFound s)) (sym t.aggregates) (unary_is s at op a.at f q.0 q.1)))
step_is s env here t (Expr-F.Cast at to a) h k =
    plain_node_is s env t.aggregates at (gives (and_then a.found (cast_to env.aggregates at (written env here to) a.at)))
    (gives_typed s _ (after (IsFound s) (IsTyped s) a.found _ h.found
    (λ f q. subst (λ rs. IfGood (cast_to rs at (written env here to) a.at f) (IsTyped s)) (sym t.aggregates) (cast_to_is s at (written env here to) a.at f q k))))
step_is s env here t (Expr-F.SizeofType at of) h k =
    plain_node_is s env t.aggregates at (gives (type_sized env.aggregates at (written env here of)))
    (gives_usable s _ (subst (λ rs. IfGood (type_sized rs at (written env here of)) (IsUsable s)) (sym t.aggregates) (type_sized_is s at (written env here of) k)))
step_is s env here t (Expr-F.SizeofValue at a) h k =
    plain_node_is s env t.aggregates at (gives (and_then a.found (sized env.aggregates at)))
    (gives_usable s _ (after (IsFound s) (IsUsable s) a.found _ h.found (λ f q. subst (λ rs. IfGood (sized rs at f) (IsUsable s)) (sym t.aggregates) (sized_is s at f q))))
step_is s env here t (Expr-F.Index at a b) h k =
    plain_node_is s env t.aggregates at (is_at (and_then (pair (operand_of env a) (operand_of env b)) (λ p. index env.aggregates at p.0 p.1)))
    (is_at_is s _ (after (λ (p : Operand × Operand). IsOperand s p.0 × IsOperand s p.1) (IsOpenPlace s) (pair (operand_of env a) (operand_of env b)) _
    (paired (IsOperand s) (IsOperand s) (operand_of env a) (operand_of env b) (operand_of_is s env t.aggregates a h.0) (operand_of_is s env t.aggregates b h.1))
    (λ p q. subst (λ rs. IfGood (index rs at p.0 p.1) (IsOpenPlace s)) (sym t.aggregates) (index_is s at p.0 p.1 q.0 q.1))))
step_is s env here t (Expr-F.Member at a how name) h k =
    let p = plain_node_is s env t.aggregates at (and_then a.found (member_found env here at how name.name a.at))
    (after (IsFound s) (IsFound s) a.found _ h.found (λ f q. member_found_is s env here t at how name.name a.at f q)) in
    record {
      found = p.found;
      target = p.target;
      callee = after (IsFound s) (IsCallee s) a.found (member_callee env here at how name.name a.at) h.found (λ f q. member_callee_is s env here t at how name.name a.at f q);
    }
step_is s env here t (Expr-F.Call at f ns) h k =
    plain_node_is s env t.aggregates at (gives (and_then f.callee (called env at ns)))
    (gives_typed s _ (after (IsCallee s) (IsTyped s) f.callee (called env at ns) h.0.callee (λ c q. called_is s env t.aggregates at ns c h.1 q)))
step_is s env here t (Expr-F.Postfix at op a) h k =
    plain_node_is s env t.aggregates at (and_then a.found (postfix_found env.aggregates at op a.at))
    (after (IsFound s) (IsFound s) a.found _ h.found (λ f q. subst (λ rs. IfGood (postfix_found rs at op a.at f) (IsFound s)) (sym t.aggregates) (postfix_is s at op a.at f q)))
step_is s env here t (Expr-F.Binary at op a b) h k =
    plain_node_is s env t.aggregates at (gives (and_then (pair (operand_of env a) (operand_of env b)) (λ p. binary env.aggregates at op p.0 p.1)))
    (gives_usable s _ (after (λ (p : Operand × Operand). IsOperand s p.0 × IsOperand s p.1) (IsUsable s) (pair (operand_of env a) (operand_of env b)) _
    (paired (IsOperand s) (IsOperand s) (operand_of env a) (operand_of env b) (operand_of_is s env t.aggregates a h.0) (operand_of_is s env t.aggregates b h.1))
    (λ p q. subst (λ rs. IfGood (binary rs at op p.0 p.1) (IsUsable s)) (sym t.aggregates) (binary_is op s at p.0 p.1 q.0 q.1))))
step_is s env here t (Expr-F.Iterator at a b) h k = plain_node_is s env t.aggregates at (iterator_found at (number_at here.iterators at)) (iterator_is s at (number_at here.iterators at) k)
step_is s env here t (Expr-F.Assign at op a b) h k =
    plain_node_is s env t.aggregates at (gives (assignment env at op a b)) (gives_typed s (assignment env at op a b) (assignment_is s env t.aggregates at op a b h.0 h.1))
step_is s env here t (Expr-F.Sequence at ns) h k =
    plain_node_is s env t.aggregates at (gives (and_then (each (map (dropped_of env) ns)) (sequenced at)))
    (gives_typed s _ (after (Every (IsTyped s)) (IsTyped s) (each (map (dropped_of env) ns)) (sequenced at) (each_is (IsTyped s) (map (dropped_of env) ns) (dropped_each s env t.aggregates ns h))
    (λ es q. sequenced_is s at es q)))
