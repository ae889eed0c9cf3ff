-- What the values of expressions and bounds are at each kind of node.
use Rattle.std.proofs.Common.{◌≡◌, ℕ, List, Some, None, option_and_then, ap, ◌∙◌, sym}
use Rattle.al_base.specs.declared.place.Place.{Place}
use Rattle.al_lex.specs.Values.{kind_of_value}
use Rattle.al_tree.specs.declared.type_tree.BoundOp.{BoundOp}
use Rattle.al_tree.specs.declared.type_tree.TypeTree.{TypeTree}
use Rattle.al_tree.specs.declared.type_tree.Bound.{Bound, fold-Bound, fold-roll-Bound}
use Rattle.al_tree.specs.declared.type_tree.Bound.TheVariants as b
use Rattle.al_tree.specs.declared.type_tree.Bound.TheOpen.{Bound-F}
use Rattle.al_tree.specs.declared.expression.Name.{Name}
use Rattle.al_tree.specs.declared.expression.UnaryOp.{UnaryOp}
use Rattle.al_tree.specs.declared.expression.PostfixOp.{PostfixOp}
use Rattle.al_tree.specs.declared.expression.BinaryOp.{BinaryOp}
use Rattle.al_tree.specs.declared.expression.AssignOp.{AssignOp}
use Rattle.al_tree.specs.declared.expression.Access.{Access}
use Rattle.al_tree.specs.declared.expression.Expr.{Expr, fold-Expr, fold-roll-Expr}
use Rattle.al_tree.specs.declared.expression.Expr.TheVariants as e
use Rattle.al_tree.specs.declared.expression.Expr.TheOpen.{Expr-F}
use Rattle.al_tree.specs.declared.constants.EnumConstant.{EnumConstant}
use Rattle.al_tree.specs.declared.constants.Known.{Known}
use Rattle.al_tree.specs.Integers.{int, integer, unary, binary}
use Rattle.al_tree.specs.Constants.{Meaning, step, value, value_of, latest, cast, kind_of, both, BoundMeaning, bound_step, bound_integer, latest_before, bound_operation}

pub value-Number : (at : Place) (n : ℕ) (known : Known) → value (e.Number at n) known ≡ Some (integer (kind_of_value n) n)
unfolding value
value-Number at n known = ap (λ n. fold-Expr Meaning step n known) (sym (e.rolls-Number at n)) ∙ ap (λ (f : Meaning). f known) (fold-roll-Expr Meaning step (Expr-F.Number at n))

pub value-Char : (at : Place) (n : ℕ) (known : Known) → value (e.Char at n) known ≡ Some (int n)
unfolding value
value-Char at n known = ap (λ n. fold-Expr Meaning step n known) (sym (e.rolls-Char at n)) ∙ ap (λ (f : Meaning). f known) (fold-roll-Expr Meaning step (Expr-F.Char at n))

pub value-Text : (at : Place) (bytes : List ℕ) (known : Known) → value (e.Text at bytes) known ≡ None
unfolding value
value-Text at bytes known = ap (λ n. fold-Expr Meaning step n known) (sym (e.rolls-Text at bytes)) ∙ ap (λ (f : Meaning). f known) (fold-roll-Expr Meaning step (Expr-F.Text at bytes))

pub value-Nil : (at : Place) (known : Known) → value (e.Nil at) known ≡ None
unfolding value
value-Nil at known = ap (λ n. fold-Expr Meaning step n known) (sym (e.rolls-Nil at)) ∙ ap (λ (f : Meaning). f known) (fold-roll-Expr Meaning step (Expr-F.Nil at))

pub value-Name : (at : Place) (name : ℕ) (known : Known) → value (e.Name at name) known ≡ value_of (latest known.constants name)
unfolding value
value-Name at name known = ap (λ n. fold-Expr Meaning step n known) (sym (e.rolls-Name at name)) ∙ ap (λ (f : Meaning). f known) (fold-roll-Expr Meaning step (Expr-F.Name at name))

pub value-Tuple : (at : Place) (parts : List Expr) (known : Known) → value (e.Tuple at parts) known ≡ None
unfolding value
value-Tuple at parts known = ap (λ n. fold-Expr Meaning step n known) (sym (e.rolls-Tuple at parts)) ∙ ap (λ (f : Meaning). f known) (fold-roll-Expr Meaning step (Expr-F.Tuple at parts))

pub value-Unary : (at : Place) (o : UnaryOp) (a : Expr) (known : Known) → value (e.Unary at o a) known ≡ option_and_then (unary o) (value a known)
unfolding value
value-Unary at o a known = ap (λ n. fold-Expr Meaning step n known) (sym (e.rolls-Unary at o a)) ∙ ap (λ (f : Meaning). f known) (fold-roll-Expr Meaning step (Expr-F.Unary at o a))

pub value-Cast : (at : Place) (to : TypeTree) (a : Expr) (known : Known) → value (e.Cast at to a) known ≡ cast (kind_of known.types to) (value a known)
unfolding value
value-Cast at to a known = ap (λ n. fold-Expr Meaning step n known) (sym (e.rolls-Cast at to a)) ∙ ap (λ (f : Meaning). f known) (fold-roll-Expr Meaning step (Expr-F.Cast at to a))

pub value-SizeofType : (at : Place) (to : TypeTree) (known : Known) → value (e.SizeofType at to) known ≡ None
unfolding value
value-SizeofType at to known = ap (λ n. fold-Expr Meaning step n known) (sym (e.rolls-SizeofType at to)) ∙ ap (λ (f : Meaning). f known) (fold-roll-Expr Meaning step (Expr-F.SizeofType at to))

pub value-SizeofValue : (at : Place) (a : Expr) (known : Known) → value (e.SizeofValue at a) known ≡ None
unfolding value
value-SizeofValue at a known = ap (λ n. fold-Expr Meaning step n known) (sym (e.rolls-SizeofValue at a)) ∙ ap (λ (f : Meaning). f known) (fold-roll-Expr Meaning step (Expr-F.SizeofValue at a))

pub value-Index : (at : Place) (a : Expr) (c : Expr) (known : Known) → value (e.Index at a c) known ≡ None
unfolding value
value-Index at a c known = ap (λ n. fold-Expr Meaning step n known) (sym (e.rolls-Index at a c)) ∙ ap (λ (f : Meaning). f known) (fold-roll-Expr Meaning step (Expr-F.Index at a c))

pub value-Member : (at : Place) (a : Expr) (by : Access) (name : Name) (known : Known) → value (e.Member at a by name) known ≡ None
unfolding value
value-Member at a by name known = ap (λ n. fold-Expr Meaning step n known) (sym (e.rolls-Member at a by name)) ∙ ap (λ (f : Meaning). f known) (fold-roll-Expr Meaning step (Expr-F.Member at a by name))

pub value-Call : (at : Place) (a : Expr) (parts : List Expr) (known : Known) → value (e.Call at a parts) known ≡ None
unfolding value
value-Call at a parts known = ap (λ n. fold-Expr Meaning step n known) (sym (e.rolls-Call at a parts)) ∙ ap (λ (f : Meaning). f known) (fold-roll-Expr Meaning step (Expr-F.Call at a parts))

pub value-Postfix : (at : Place) (o : PostfixOp) (a : Expr) (known : Known) → value (e.Postfix at o a) known ≡ None
unfolding value
value-Postfix at o a known = ap (λ n. fold-Expr Meaning step n known) (sym (e.rolls-Postfix at o a)) ∙ ap (λ (f : Meaning). f known) (fold-roll-Expr Meaning step (Expr-F.Postfix at o a))

pub value-Binary : (at : Place) (o : BinaryOp) (a : Expr) (c : Expr) (known : Known) → value (e.Binary at o a c) known ≡ both (binary o) (value a known) (value c known)
unfolding value
value-Binary at o a c known = ap (λ n. fold-Expr Meaning step n known) (sym (e.rolls-Binary at o a c)) ∙ ap (λ (f : Meaning). f known) (fold-roll-Expr Meaning step (Expr-F.Binary at o a c))

pub value-Iterator : (at : Place) (a : Expr) (c : Expr) (known : Known) → value (e.Iterator at a c) known ≡ None
unfolding value
value-Iterator at a c known = ap (λ n. fold-Expr Meaning step n known) (sym (e.rolls-Iterator at a c)) ∙ ap (λ (f : Meaning). f known) (fold-roll-Expr Meaning step (Expr-F.Iterator at a c))

pub value-Assign : (at : Place) (o : AssignOp) (a : Expr) (c : Expr) (known : Known) → value (e.Assign at o a c) known ≡ None
unfolding value
value-Assign at o a c known = ap (λ n. fold-Expr Meaning step n known) (sym (e.rolls-Assign at o a c)) ∙ ap (λ (f : Meaning). f known) (fold-roll-Expr Meaning step (Expr-F.Assign at o a c))

pub value-Sequence : (at : Place) (parts : List Expr) (known : Known) → value (e.Sequence at parts) known ≡ None
unfolding value
value-Sequence at parts known = ap (λ n. fold-Expr Meaning step n known) (sym (e.rolls-Sequence at parts)) ∙ ap (λ (f : Meaning). f known) (fold-roll-Expr Meaning step (Expr-F.Sequence at parts))

pub ruleset value_is = (value-Number, value-Char, value-Text, value-Nil, value-Name, value-Tuple, value-Unary, value-Cast, value-SizeofType, value-SizeofValue, value-Index, value-Member, value-Call, value-Postfix, value-Binary, value-Iterator, value-Assign, value-Sequence)

pub bound_integer-Number : (at : Place) (n : ℕ) (constants : List EnumConstant) (place : Place) → bound_integer (b.Number at n) constants place ≡ Some (integer (kind_of_value n) n)
unfolding bound_integer
bound_integer-Number at n constants place = ap (λ n. fold-Bound BoundMeaning bound_step n constants place) (sym (b.rolls-Number at n)) ∙ ap (λ (f : BoundMeaning). f constants place) (fold-roll-Bound BoundMeaning bound_step (Bound-F.Number at n))

pub bound_integer-Name : (at : Place) (name : ℕ) (constants : List EnumConstant) (place : Place) → bound_integer (b.Name at name) constants place ≡ value_of (latest_before constants name place)
unfolding bound_integer
bound_integer-Name at name constants place = ap (λ n. fold-Bound BoundMeaning bound_step n constants place) (sym (b.rolls-Name at name)) ∙ ap (λ (f : BoundMeaning). f constants place) (fold-roll-Bound BoundMeaning bound_step (Bound-F.Name at name))

pub bound_integer-Binary : (at : Place) (o : BoundOp) (x : Bound) (y : Bound) (constants : List EnumConstant) (place : Place) → bound_integer (b.Binary at o x y) constants place ≡ both (bound_operation o) (bound_integer x constants place) (bound_integer y constants place)
unfolding bound_integer
bound_integer-Binary at o x y constants place = ap (λ n. fold-Bound BoundMeaning bound_step n constants place) (sym (b.rolls-Binary at o x y)) ∙ ap (λ (f : BoundMeaning). f constants place) (fold-roll-Bound BoundMeaning bound_step (Bound-F.Binary at o x y))

pub ruleset bound_is = (bound_integer-Number, bound_integer-Name, bound_integer-Binary)
