-- What an expression of each kind does.
use Rattle.std.proofs.Common.{◌≡◌, ℕ, List, ap, ◌∙◌, sym}
use Rattle.al_base.specs.declared.place.Place.{Place}
use Rattle.al_declare.specs.declared.text.Text.{Text}
use Rattle.al_declare.specs.declared.asked.Asked.{Asked}
use Rattle.al_tree.specs.declared.type_tree.TypeTree.{TypeTree}
use Rattle.al_tree.specs.declared.expression.Name.{Name}
use Rattle.al_tree.specs.declared.expression.UnaryOp.{UnaryOp}
use Rattle.al_tree.specs.declared.expression.PostfixOp.{PostfixOp}
use Rattle.al_tree.specs.declared.expression.BinaryOp.{BinaryOp}
use Rattle.al_tree.specs.declared.expression.AssignOp.{AssignOp}
use Rattle.al_tree.specs.declared.expression.Access.{Access}
use Rattle.al_tree.specs.declared.expression.Expr.{Expr, fold-Expr, fold-roll-Expr}
use Rattle.al_tree.specs.declared.expression.Expr.TheVariants as n
use Rattle.al_tree.specs.declared.expression.Expr.TheOpen.{Expr-F}
use Rattle.al_declare.specs.Types.{Way, each, type_tree}
use Rattle.al_declare.specs.Expressions.{expr_step, expr}
use Rattle.al_declare.proofs.Each.{each_map}

pub expr-Number : (at : Place) (value : ℕ) (c : Text) (w : Asked) → expr (n.Number at value) c w ≡ w
unfolding expr
expr-Number at value c w = ap (λ n. fold-Expr Way expr_step n c w) (sym (n.rolls-Number at value)) ∙ ap (λ (a : Way). a c w) (fold-roll-Expr Way expr_step (Expr-F.Number at value))

pub expr-Char : (at : Place) (value : ℕ) (c : Text) (w : Asked) → expr (n.Char at value) c w ≡ w
unfolding expr
expr-Char at value c w = ap (λ n. fold-Expr Way expr_step n c w) (sym (n.rolls-Char at value)) ∙ ap (λ (a : Way). a c w) (fold-roll-Expr Way expr_step (Expr-F.Char at value))

pub expr-Text : (at : Place) (bytes : List ℕ) (c : Text) (w : Asked) → expr (n.Text at bytes) c w ≡ w
unfolding expr
expr-Text at bytes c w = ap (λ n. fold-Expr Way expr_step n c w) (sym (n.rolls-Text at bytes)) ∙ ap (λ (a : Way). a c w) (fold-roll-Expr Way expr_step (Expr-F.Text at bytes))

pub expr-Nil : (at : Place) (c : Text) (w : Asked) → expr (n.Nil at) c w ≡ w
unfolding expr
expr-Nil at c w = ap (λ n. fold-Expr Way expr_step n c w) (sym (n.rolls-Nil at)) ∙ ap (λ (a : Way). a c w) (fold-roll-Expr Way expr_step (Expr-F.Nil at))

pub expr-Name : (at : Place) (name : ℕ) (c : Text) (w : Asked) → expr (n.Name at name) c w ≡ w
unfolding expr
expr-Name at name c w = ap (λ n. fold-Expr Way expr_step n c w) (sym (n.rolls-Name at name)) ∙ ap (λ (a : Way). a c w) (fold-roll-Expr Way expr_step (Expr-F.Name at name))

pub expr-Tuple : (at : Place) (parts : List Expr) (c : Text) (w : Asked) → expr (n.Tuple at parts) c w ≡ each expr parts c w
unfolding expr
expr-Tuple at parts c w = ap (λ n. fold-Expr Way expr_step n c w) (sym (n.rolls-Tuple at parts)) ∙ ap (λ (a : Way). a c w) (fold-roll-Expr Way expr_step (Expr-F.Tuple at parts)) ∙ each_map (λ a. a) expr parts c w

pub expr-Unary : (at : Place) (op : UnaryOp) (a : Expr) (c : Text) (w : Asked) → expr (n.Unary at op a) c w ≡ expr a c w
unfolding expr
expr-Unary at op a c w = ap (λ n. fold-Expr Way expr_step n c w) (sym (n.rolls-Unary at op a)) ∙ ap (λ (a : Way). a c w) (fold-roll-Expr Way expr_step (Expr-F.Unary at op a))

pub expr-Cast : (at : Place) (to : TypeTree) (a : Expr) (c : Text) (w : Asked) → expr (n.Cast at to a) c w ≡ expr a c (type_tree to c w)
unfolding expr
expr-Cast at to a c w = ap (λ n. fold-Expr Way expr_step n c w) (sym (n.rolls-Cast at to a)) ∙ ap (λ (a : Way). a c w) (fold-roll-Expr Way expr_step (Expr-F.Cast at to a))

pub expr-SizeofType : (at : Place) (of : TypeTree) (c : Text) (w : Asked) → expr (n.SizeofType at of) c w ≡ type_tree of c w
unfolding expr
expr-SizeofType at of c w = ap (λ n. fold-Expr Way expr_step n c w) (sym (n.rolls-SizeofType at of)) ∙ ap (λ (a : Way). a c w) (fold-roll-Expr Way expr_step (Expr-F.SizeofType at of))

pub expr-SizeofValue : (at : Place) (a : Expr) (c : Text) (w : Asked) → expr (n.SizeofValue at a) c w ≡ expr a c w
unfolding expr
expr-SizeofValue at a c w = ap (λ n. fold-Expr Way expr_step n c w) (sym (n.rolls-SizeofValue at a)) ∙ ap (λ (a : Way). a c w) (fold-roll-Expr Way expr_step (Expr-F.SizeofValue at a))

pub expr-Index : (at : Place) (a : Expr) (b : Expr) (c : Text) (w : Asked) → expr (n.Index at a b) c w ≡ expr b c (expr a c w)
unfolding expr
expr-Index at a b c w = ap (λ n. fold-Expr Way expr_step n c w) (sym (n.rolls-Index at a b)) ∙ ap (λ (a : Way). a c w) (fold-roll-Expr Way expr_step (Expr-F.Index at a b))

pub expr-Member : (at : Place) (a : Expr) (access : Access) (name : Name) (c : Text) (w : Asked) → expr (n.Member at a access name) c w ≡ expr a c w
unfolding expr
expr-Member at a access name c w = ap (λ n. fold-Expr Way expr_step n c w) (sym (n.rolls-Member at a access name)) ∙ ap (λ (a : Way). a c w) (fold-roll-Expr Way expr_step (Expr-F.Member at a access name))

pub expr-Call : (at : Place) (a : Expr) (arguments : List Expr) (c : Text) (w : Asked) → expr (n.Call at a arguments) c w ≡ each expr arguments c (expr a c w)
unfolding expr
expr-Call at a arguments c w = ap (λ n. fold-Expr Way expr_step n c w) (sym (n.rolls-Call at a arguments)) ∙ ap (λ (a : Way). a c w) (fold-roll-Expr Way expr_step (Expr-F.Call at a arguments)) ∙ each_map (λ a. a) expr arguments c (expr a c w)

pub expr-Postfix : (at : Place) (op : PostfixOp) (a : Expr) (c : Text) (w : Asked) → expr (n.Postfix at op a) c w ≡ expr a c w
unfolding expr
expr-Postfix at op a c w = ap (λ n. fold-Expr Way expr_step n c w) (sym (n.rolls-Postfix at op a)) ∙ ap (λ (a : Way). a c w) (fold-roll-Expr Way expr_step (Expr-F.Postfix at op a))

pub expr-Binary : (at : Place) (op : BinaryOp) (a : Expr) (b : Expr) (c : Text) (w : Asked) → expr (n.Binary at op a b) c w ≡ expr b c (expr a c w)
unfolding expr
expr-Binary at op a b c w = ap (λ n. fold-Expr Way expr_step n c w) (sym (n.rolls-Binary at op a b)) ∙ ap (λ (a : Way). a c w) (fold-roll-Expr Way expr_step (Expr-F.Binary at op a b))

pub expr-Iterator : (at : Place) (a : Expr) (b : Expr) (c : Text) (w : Asked) → expr (n.Iterator at a b) c w ≡ expr b c (expr a c w)
unfolding expr
expr-Iterator at a b c w = ap (λ n. fold-Expr Way expr_step n c w) (sym (n.rolls-Iterator at a b)) ∙ ap (λ (a : Way). a c w) (fold-roll-Expr Way expr_step (Expr-F.Iterator at a b))

pub expr-Assign : (at : Place) (op : AssignOp) (a : Expr) (b : Expr) (c : Text) (w : Asked) → expr (n.Assign at op a b) c w ≡ expr b c (expr a c w)
unfolding expr
expr-Assign at op a b c w = ap (λ n. fold-Expr Way expr_step n c w) (sym (n.rolls-Assign at op a b)) ∙ ap (λ (a : Way). a c w) (fold-roll-Expr Way expr_step (Expr-F.Assign at op a b))

pub expr-Sequence : (at : Place) (parts : List Expr) (c : Text) (w : Asked) → expr (n.Sequence at parts) c w ≡ each expr parts c w
unfolding expr
expr-Sequence at parts c w = ap (λ n. fold-Expr Way expr_step n c w) (sym (n.rolls-Sequence at parts)) ∙ ap (λ (a : Way). a c w) (fold-roll-Expr Way expr_step (Expr-F.Sequence at parts)) ∙ each_map (λ a. a) expr parts c w

pub ruleset expr_is = (expr-Number, expr-Char, expr-Text, expr-Nil, expr-Name, expr-Tuple, expr-Unary, expr-Cast, expr-SizeofType, expr-SizeofValue, expr-Index, expr-Member, expr-Call, expr-Postfix, expr-Binary, expr-Iterator, expr-Assign, expr-Sequence)
