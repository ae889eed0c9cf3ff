-- The types that are written in each kind of node.
use Rattle.std.proofs.Common.{◌≡◌, ℕ, ◌+◌, ◌<◌, List, [], ◌∷◌, ◌++◌, map, take, length, get_or, Option, Some, None, option_map, refl, ap, ◌∙◌, sym, append_assoc}
use Rattle.std.specs.List.{flat_map}
use Rattle.std.proofs.lemmas.List.{take_more, append-nil}
use Rattle.std.proofs.lemmas.Grind.{flat_map-append}
use Rattle.al_base.specs.declared.place.Place.{Place}
use Rattle.al_tree.specs.declared.type_tree.TypeTree.{TypeTree}
use Rattle.al_tree.specs.declared.type_tree.Dcl.{Dcl}
use Rattle.al_tree.specs.declared.expression.Name.{Name}
use Rattle.al_tree.specs.declared.expression.UnaryOp.{UnaryOp}
use Rattle.al_tree.specs.declared.expression.PostfixOp.{PostfixOp}
use Rattle.al_tree.specs.declared.expression.BinaryOp.{BinaryOp}
use Rattle.al_tree.specs.declared.expression.AssignOp.{AssignOp}
use Rattle.al_tree.specs.declared.expression.Access.{Access}
use Rattle.al_tree.specs.declared.expression.Expr.{Expr, fold-Expr, fold-roll-Expr}
use Rattle.al_tree.specs.declared.expression.Expr.TheVariants as e
use Rattle.al_tree.specs.declared.expression.Expr.TheOpen.{Expr-F}
use Rattle.al_tree.specs.declared.statement.Variable.{Variable}
use Rattle.al_tree.specs.declared.statement.Stmt.{Stmt, fold-Stmt, fold-roll-Stmt}
use Rattle.al_tree.specs.declared.statement.Stmt.TheVariants as s
use Rattle.al_tree.specs.declared.statement.Stmt.TheOpen.{Stmt-F}
use Rattle.al_tree.specs.declared.item.AggregateKind.{AggregateKind}
use Rattle.al_tree.specs.declared.item.Initializer.{Initializer, fold-Initializer, fold-roll-Initializer}
use Rattle.al_tree.specs.declared.item.Initializer.TheVariants as i
use Rattle.al_tree.specs.declared.item.Initializer.TheOpen.{Initializer-F}
use Rattle.al_tree.specs.declared.item.Member.{Member, fold-Member, fold-roll-Member}
use Rattle.al_tree.specs.declared.item.Member.TheVariants as m
use Rattle.al_tree.specs.declared.item.Member.TheOpen.{Member-F}
use Rattle.al_poly.specs.Written.{Types, of_each, of_part, expr_step, in_expr, in_exprs, in_value, in_variable, stmt_step, in_stmt, initializer_step, in_initializer, member_step, in_member}

of_each-map : {A : Type 0} (f : A → Types) (xs : List A) → of_each (map f xs) ≡ flat_map f xs
of_each-map f [] = refl
of_each-map f (x ∷ xs) = ap (λ l. f x ++ l) (of_each-map f xs)

-- ---- lists

flat_map_one_more : {A B : Type 0} (f : A → List B) (xs : List A) (i : ℕ) (item : A) → i < length xs → item ≡ get_or xs i item
    → flat_map f (take (i + 1) xs) ≡ flat_map f (take i xs) ++ f item
flat_map_one_more f xs i item h is =
    ap (flat_map f) (take_more xs i item h) ∙ flat_map-append f (take i xs) (get_or xs i item ∷ [])
    ∙ ap (λ l. flat_map f (take i xs) ++ l) (append-nil (f (get_or xs i item)) ∙ ap f (sym is))

-- what is written in one more
pub types_more : {A : Type 0} (f : A → Types) (before : Types) (xs : List A) (i : ℕ) (item : A) (now new : Types) → i < length xs → item ≡ get_or xs i item
    → now ≡ before ++ flat_map f (take i xs) → new ≡ now ++ f item → new ≡ before ++ flat_map f (take (i + 1) xs)
types_more f before xs i item now new h is was step =
    step ∙ ap (λ l. l ++ f item) was ∙ append_assoc before (flat_map f (take i xs)) (f item)
    ∙ ap (λ l. before ++ l) (sym (flat_map_one_more f xs i item h is))

-- ---- expressions

in_expr_at-Number : (at : Place) (value : ℕ) → in_expr (e.Number at value) ≡ expr_step (Expr-F.Number at value)
unfolding in_expr
in_expr_at-Number at value = ap (fold-Expr Types expr_step) (sym (e.rolls-Number at value)) ∙ fold-roll-Expr Types expr_step (Expr-F.Number at value)

in_expr_at-Char : (at : Place) (value : ℕ) → in_expr (e.Char at value) ≡ expr_step (Expr-F.Char at value)
unfolding in_expr
in_expr_at-Char at value = ap (fold-Expr Types expr_step) (sym (e.rolls-Char at value)) ∙ fold-roll-Expr Types expr_step (Expr-F.Char at value)

in_expr_at-Text : (at : Place) (bytes : List ℕ) → in_expr (e.Text at bytes) ≡ expr_step (Expr-F.Text at bytes)
unfolding in_expr
in_expr_at-Text at bytes = ap (fold-Expr Types expr_step) (sym (e.rolls-Text at bytes)) ∙ fold-roll-Expr Types expr_step (Expr-F.Text at bytes)

in_expr_at-Nil : (at : Place) → in_expr (e.Nil at) ≡ expr_step (Expr-F.Nil at)
unfolding in_expr
in_expr_at-Nil at = ap (fold-Expr Types expr_step) (sym (e.rolls-Nil at)) ∙ fold-roll-Expr Types expr_step (Expr-F.Nil at)

in_expr_at-Name : (at : Place) (name : ℕ) → in_expr (e.Name at name) ≡ expr_step (Expr-F.Name at name)
unfolding in_expr
in_expr_at-Name at name = ap (fold-Expr Types expr_step) (sym (e.rolls-Name at name)) ∙ fold-roll-Expr Types expr_step (Expr-F.Name at name)

in_expr_at-Tuple : (at : Place) (parts : List Expr) → in_expr (e.Tuple at parts) ≡ expr_step (Expr-F.Tuple at (map in_expr parts))
unfolding in_expr
in_expr_at-Tuple at parts = ap (fold-Expr Types expr_step) (sym (e.rolls-Tuple at parts)) ∙ fold-roll-Expr Types expr_step (Expr-F.Tuple at parts)

in_expr_at-Unary : (at : Place) (op : UnaryOp) (x : Expr) → in_expr (e.Unary at op x) ≡ expr_step (Expr-F.Unary at op (in_expr x))
unfolding in_expr
in_expr_at-Unary at op x = ap (fold-Expr Types expr_step) (sym (e.rolls-Unary at op x)) ∙ fold-roll-Expr Types expr_step (Expr-F.Unary at op x)

in_expr_at-Cast : (at : Place) (to : TypeTree) (x : Expr) → in_expr (e.Cast at to x) ≡ expr_step (Expr-F.Cast at to (in_expr x))
unfolding in_expr
in_expr_at-Cast at to x = ap (fold-Expr Types expr_step) (sym (e.rolls-Cast at to x)) ∙ fold-roll-Expr Types expr_step (Expr-F.Cast at to x)

in_expr_at-SizeofType : (at : Place) (of : TypeTree) → in_expr (e.SizeofType at of) ≡ expr_step (Expr-F.SizeofType at of)
unfolding in_expr
in_expr_at-SizeofType at of = ap (fold-Expr Types expr_step) (sym (e.rolls-SizeofType at of)) ∙ fold-roll-Expr Types expr_step (Expr-F.SizeofType at of)

in_expr_at-SizeofValue : (at : Place) (x : Expr) → in_expr (e.SizeofValue at x) ≡ expr_step (Expr-F.SizeofValue at (in_expr x))
unfolding in_expr
in_expr_at-SizeofValue at x = ap (fold-Expr Types expr_step) (sym (e.rolls-SizeofValue at x)) ∙ fold-roll-Expr Types expr_step (Expr-F.SizeofValue at x)

in_expr_at-Index : (at : Place) (x : Expr) (y : Expr) → in_expr (e.Index at x y) ≡ expr_step (Expr-F.Index at (in_expr x) (in_expr y))
unfolding in_expr
in_expr_at-Index at x y = ap (fold-Expr Types expr_step) (sym (e.rolls-Index at x y)) ∙ fold-roll-Expr Types expr_step (Expr-F.Index at x y)

in_expr_at-Member : (at : Place) (x : Expr) (access : Access) (name : Name) → in_expr (e.Member at x access name) ≡ expr_step (Expr-F.Member at (in_expr x) access name)
unfolding in_expr
in_expr_at-Member at x access name = ap (fold-Expr Types expr_step) (sym (e.rolls-Member at x access name)) ∙ fold-roll-Expr Types expr_step (Expr-F.Member at x access name)

in_expr_at-Call : (at : Place) (x : Expr) (xs : List Expr) → in_expr (e.Call at x xs) ≡ expr_step (Expr-F.Call at (in_expr x) (map in_expr xs))
unfolding in_expr
in_expr_at-Call at x xs = ap (fold-Expr Types expr_step) (sym (e.rolls-Call at x xs)) ∙ fold-roll-Expr Types expr_step (Expr-F.Call at x xs)

in_expr_at-Postfix : (at : Place) (op : PostfixOp) (x : Expr) → in_expr (e.Postfix at op x) ≡ expr_step (Expr-F.Postfix at op (in_expr x))
unfolding in_expr
in_expr_at-Postfix at op x = ap (fold-Expr Types expr_step) (sym (e.rolls-Postfix at op x)) ∙ fold-roll-Expr Types expr_step (Expr-F.Postfix at op x)

in_expr_at-Binary : (at : Place) (op : BinaryOp) (x : Expr) (y : Expr) → in_expr (e.Binary at op x y) ≡ expr_step (Expr-F.Binary at op (in_expr x) (in_expr y))
unfolding in_expr
in_expr_at-Binary at op x y = ap (fold-Expr Types expr_step) (sym (e.rolls-Binary at op x y)) ∙ fold-roll-Expr Types expr_step (Expr-F.Binary at op x y)

in_expr_at-Iterator : (at : Place) (x : Expr) (y : Expr) → in_expr (e.Iterator at x y) ≡ expr_step (Expr-F.Iterator at (in_expr x) (in_expr y))
unfolding in_expr
in_expr_at-Iterator at x y = ap (fold-Expr Types expr_step) (sym (e.rolls-Iterator at x y)) ∙ fold-roll-Expr Types expr_step (Expr-F.Iterator at x y)

in_expr_at-Assign : (at : Place) (op : AssignOp) (x : Expr) (y : Expr) → in_expr (e.Assign at op x y) ≡ expr_step (Expr-F.Assign at op (in_expr x) (in_expr y))
unfolding in_expr
in_expr_at-Assign at op x y = ap (fold-Expr Types expr_step) (sym (e.rolls-Assign at op x y)) ∙ fold-roll-Expr Types expr_step (Expr-F.Assign at op x y)

in_expr_at-Sequence : (at : Place) (parts : List Expr) → in_expr (e.Sequence at parts) ≡ expr_step (Expr-F.Sequence at (map in_expr parts))
unfolding in_expr
in_expr_at-Sequence at parts = ap (fold-Expr Types expr_step) (sym (e.rolls-Sequence at parts)) ∙ fold-roll-Expr Types expr_step (Expr-F.Sequence at parts)

pub in_expr-Number : (at : Place) (value : ℕ) → in_expr (e.Number at value) ≡ []
in_expr-Number at value = in_expr_at-Number at value

pub in_expr-Char : (at : Place) (value : ℕ) → in_expr (e.Char at value) ≡ []
in_expr-Char at value = in_expr_at-Char at value

pub in_expr-Text : (at : Place) (bytes : List ℕ) → in_expr (e.Text at bytes) ≡ []
in_expr-Text at bytes = in_expr_at-Text at bytes

pub in_expr-Nil : (at : Place) → in_expr (e.Nil at) ≡ []
in_expr-Nil at = in_expr_at-Nil at

pub in_expr-Name : (at : Place) (name : ℕ) → in_expr (e.Name at name) ≡ []
in_expr-Name at name = in_expr_at-Name at name

pub in_expr-Tuple : (at : Place) (parts : List Expr) → in_expr (e.Tuple at parts) ≡ in_exprs parts
in_expr-Tuple at parts = in_expr_at-Tuple at parts ∙ of_each-map in_expr parts

pub in_expr-Unary : (at : Place) (op : UnaryOp) (x : Expr) → in_expr (e.Unary at op x) ≡ in_expr x
in_expr-Unary at op x = in_expr_at-Unary at op x

pub in_expr-Cast : (at : Place) (to : TypeTree) (x : Expr) → in_expr (e.Cast at to x) ≡ to ∷ in_expr x
in_expr-Cast at to x = in_expr_at-Cast at to x

pub in_expr-SizeofType : (at : Place) (of : TypeTree) → in_expr (e.SizeofType at of) ≡ of ∷ []
in_expr-SizeofType at of = in_expr_at-SizeofType at of

pub in_expr-SizeofValue : (at : Place) (x : Expr) → in_expr (e.SizeofValue at x) ≡ in_expr x
in_expr-SizeofValue at x = in_expr_at-SizeofValue at x

pub in_expr-Index : (at : Place) (x : Expr) (y : Expr) → in_expr (e.Index at x y) ≡ in_expr x ++ in_expr y
in_expr-Index at x y = in_expr_at-Index at x y

pub in_expr-Member : (at : Place) (x : Expr) (access : Access) (name : Name) → in_expr (e.Member at x access name) ≡ in_expr x
in_expr-Member at x access name = in_expr_at-Member at x access name

pub in_expr-Call : (at : Place) (x : Expr) (xs : List Expr) → in_expr (e.Call at x xs) ≡ in_expr x ++ in_exprs xs
in_expr-Call at x xs = in_expr_at-Call at x xs ∙ ap (λ l. in_expr x ++ l) (of_each-map in_expr xs)

pub in_expr-Postfix : (at : Place) (op : PostfixOp) (x : Expr) → in_expr (e.Postfix at op x) ≡ in_expr x
in_expr-Postfix at op x = in_expr_at-Postfix at op x

pub in_expr-Binary : (at : Place) (op : BinaryOp) (x : Expr) (y : Expr) → in_expr (e.Binary at op x y) ≡ in_expr x ++ in_expr y
in_expr-Binary at op x y = in_expr_at-Binary at op x y

pub in_expr-Iterator : (at : Place) (x : Expr) (y : Expr) → in_expr (e.Iterator at x y) ≡ in_expr x ++ in_expr y
in_expr-Iterator at x y = in_expr_at-Iterator at x y

pub in_expr-Assign : (at : Place) (op : AssignOp) (x : Expr) (y : Expr) → in_expr (e.Assign at op x y) ≡ in_expr x ++ in_expr y
in_expr-Assign at op x y = in_expr_at-Assign at op x y

pub in_expr-Sequence : (at : Place) (parts : List Expr) → in_expr (e.Sequence at parts) ≡ in_exprs parts
in_expr-Sequence at parts = in_expr_at-Sequence at parts ∙ of_each-map in_expr parts

pub ruleset in_expr_is = (in_expr-Number, in_expr-Char, in_expr-Text, in_expr-Nil, in_expr-Name, in_expr-Tuple, in_expr-Unary, in_expr-Cast, in_expr-SizeofType, in_expr-SizeofValue, in_expr-Index, in_expr-Member, in_expr-Call, in_expr-Postfix, in_expr-Binary, in_expr-Iterator, in_expr-Assign, in_expr-Sequence)

-- ---- statements

in_stmt_at-Empty : (at : Place) → in_stmt (s.Empty at) ≡ stmt_step (Stmt-F.Empty at)
unfolding in_stmt
in_stmt_at-Empty at = ap (fold-Stmt Types stmt_step) (sym (s.rolls-Empty at)) ∙ fold-roll-Stmt Types stmt_step (Stmt-F.Empty at)

in_stmt_at-Block : (at : Place) (body : List Stmt) → in_stmt (s.Block at body) ≡ stmt_step (Stmt-F.Block at (map in_stmt body))
unfolding in_stmt
in_stmt_at-Block at body = ap (fold-Stmt Types stmt_step) (sym (s.rolls-Block at body)) ∙ fold-roll-Stmt Types stmt_step (Stmt-F.Block at body)

in_stmt_at-Declare : (at : Place) (type : TypeTree) (variables : List Variable) → in_stmt (s.Declare at type variables) ≡ stmt_step (Stmt-F.Declare at type variables)
unfolding in_stmt
in_stmt_at-Declare at type variables = ap (fold-Stmt Types stmt_step) (sym (s.rolls-Declare at type variables)) ∙ fold-roll-Stmt Types stmt_step (Stmt-F.Declare at type variables)

in_stmt_at-Value : (at : Place) (value : Expr) → in_stmt (s.Value at value) ≡ stmt_step (Stmt-F.Value at value)
unfolding in_stmt
in_stmt_at-Value at value = ap (fold-Stmt Types stmt_step) (sym (s.rolls-Value at value)) ∙ fold-roll-Stmt Types stmt_step (Stmt-F.Value at value)

in_stmt_at-Label : (at : Place) (name : ℕ) (body : Stmt) → in_stmt (s.Label at name body) ≡ stmt_step (Stmt-F.Label at name (in_stmt body))
unfolding in_stmt
in_stmt_at-Label at name body = ap (fold-Stmt Types stmt_step) (sym (s.rolls-Label at name body)) ∙ fold-roll-Stmt Types stmt_step (Stmt-F.Label at name body)

in_stmt_at-If : (at : Place) (condition : Expr) (met : Stmt) (other : Option Stmt) → in_stmt (s.If at condition met other) ≡ stmt_step (Stmt-F.If at condition (in_stmt met) (option_map in_stmt other))
unfolding in_stmt
in_stmt_at-If at condition met None = ap (fold-Stmt Types stmt_step) (sym (s.rolls-If at condition met None)) ∙ fold-roll-Stmt Types stmt_step (Stmt-F.If at condition met None)
in_stmt_at-If at condition met (Some other) = ap (fold-Stmt Types stmt_step) (sym (s.rolls-If at condition met (Some other))) ∙ fold-roll-Stmt Types stmt_step (Stmt-F.If at condition met (Some other))

in_stmt_at-While : (at : Place) (condition : Expr) (body : Stmt) → in_stmt (s.While at condition body) ≡ stmt_step (Stmt-F.While at condition (in_stmt body))
unfolding in_stmt
in_stmt_at-While at condition body = ap (fold-Stmt Types stmt_step) (sym (s.rolls-While at condition body)) ∙ fold-roll-Stmt Types stmt_step (Stmt-F.While at condition body)

in_stmt_at-Do : (at : Place) (body : Stmt) (condition : Expr) → in_stmt (s.Do at body condition) ≡ stmt_step (Stmt-F.Do at (in_stmt body) condition)
unfolding in_stmt
in_stmt_at-Do at body condition = ap (fold-Stmt Types stmt_step) (sym (s.rolls-Do at body condition)) ∙ fold-roll-Stmt Types stmt_step (Stmt-F.Do at body condition)

in_stmt_at-For : (at : Place) (start : Option Expr) (condition : Option Expr) (next : Option Expr) (body : Stmt) → in_stmt (s.For at start condition next body) ≡ stmt_step (Stmt-F.For at start condition next (in_stmt body))
unfolding in_stmt
in_stmt_at-For at start condition next body = ap (fold-Stmt Types stmt_step) (sym (s.rolls-For at start condition next body)) ∙ fold-roll-Stmt Types stmt_step (Stmt-F.For at start condition next body)

in_stmt_at-Switch : (at : Place) (value : Expr) (body : List Stmt) → in_stmt (s.Switch at value body) ≡ stmt_step (Stmt-F.Switch at value (map in_stmt body))
unfolding in_stmt
in_stmt_at-Switch at value body = ap (fold-Stmt Types stmt_step) (sym (s.rolls-Switch at value body)) ∙ fold-roll-Stmt Types stmt_step (Stmt-F.Switch at value body)

in_stmt_at-Alt : (at : Place) (body : List Stmt) → in_stmt (s.Alt at body) ≡ stmt_step (Stmt-F.Alt at (map in_stmt body))
unfolding in_stmt
in_stmt_at-Alt at body = ap (fold-Stmt Types stmt_step) (sym (s.rolls-Alt at body)) ∙ fold-roll-Stmt Types stmt_step (Stmt-F.Alt at body)

in_stmt_at-Case : (at : Place) (value : Expr) → in_stmt (s.Case at value) ≡ stmt_step (Stmt-F.Case at value)
unfolding in_stmt
in_stmt_at-Case at value = ap (fold-Stmt Types stmt_step) (sym (s.rolls-Case at value)) ∙ fold-roll-Stmt Types stmt_step (Stmt-F.Case at value)

in_stmt_at-Default : (at : Place) → in_stmt (s.Default at) ≡ stmt_step (Stmt-F.Default at)
unfolding in_stmt
in_stmt_at-Default at = ap (fold-Stmt Types stmt_step) (sym (s.rolls-Default at)) ∙ fold-roll-Stmt Types stmt_step (Stmt-F.Default at)

in_stmt_at-Par : (at : Place) (bodies : List Stmt) → in_stmt (s.Par at bodies) ≡ stmt_step (Stmt-F.Par at (map in_stmt bodies))
unfolding in_stmt
in_stmt_at-Par at bodies = ap (fold-Stmt Types stmt_step) (sym (s.rolls-Par at bodies)) ∙ fold-roll-Stmt Types stmt_step (Stmt-F.Par at bodies)

in_stmt_at-Rescue : (at : Place) (name : Option Name) (body : Stmt) → in_stmt (s.Rescue at name body) ≡ stmt_step (Stmt-F.Rescue at name (in_stmt body))
unfolding in_stmt
in_stmt_at-Rescue at name body = ap (fold-Stmt Types stmt_step) (sym (s.rolls-Rescue at name body)) ∙ fold-roll-Stmt Types stmt_step (Stmt-F.Rescue at name body)

in_stmt_at-Raise : (at : Place) (name : Option Name) → in_stmt (s.Raise at name) ≡ stmt_step (Stmt-F.Raise at name)
unfolding in_stmt
in_stmt_at-Raise at name = ap (fold-Stmt Types stmt_step) (sym (s.rolls-Raise at name)) ∙ fold-roll-Stmt Types stmt_step (Stmt-F.Raise at name)

in_stmt_at-Return : (at : Place) (value : Option Expr) → in_stmt (s.Return at value) ≡ stmt_step (Stmt-F.Return at value)
unfolding in_stmt
in_stmt_at-Return at value = ap (fold-Stmt Types stmt_step) (sym (s.rolls-Return at value)) ∙ fold-roll-Stmt Types stmt_step (Stmt-F.Return at value)

in_stmt_at-Become : (at : Place) (value : Expr) → in_stmt (s.Become at value) ≡ stmt_step (Stmt-F.Become at value)
unfolding in_stmt
in_stmt_at-Become at value = ap (fold-Stmt Types stmt_step) (sym (s.rolls-Become at value)) ∙ fold-roll-Stmt Types stmt_step (Stmt-F.Become at value)

in_stmt_at-Break : (at : Place) (count : Option ℕ) → in_stmt (s.Break at count) ≡ stmt_step (Stmt-F.Break at count)
unfolding in_stmt
in_stmt_at-Break at count = ap (fold-Stmt Types stmt_step) (sym (s.rolls-Break at count)) ∙ fold-roll-Stmt Types stmt_step (Stmt-F.Break at count)

in_stmt_at-Continue : (at : Place) (count : Option ℕ) → in_stmt (s.Continue at count) ≡ stmt_step (Stmt-F.Continue at count)
unfolding in_stmt
in_stmt_at-Continue at count = ap (fold-Stmt Types stmt_step) (sym (s.rolls-Continue at count)) ∙ fold-roll-Stmt Types stmt_step (Stmt-F.Continue at count)

in_stmt_at-Goto : (at : Place) (label : Name) → in_stmt (s.Goto at label) ≡ stmt_step (Stmt-F.Goto at label)
unfolding in_stmt
in_stmt_at-Goto at label = ap (fold-Stmt Types stmt_step) (sym (s.rolls-Goto at label)) ∙ fold-roll-Stmt Types stmt_step (Stmt-F.Goto at label)

in_stmt_at-Alloc : (at : Place) (places : List Expr) → in_stmt (s.Alloc at places) ≡ stmt_step (Stmt-F.Alloc at places)
unfolding in_stmt
in_stmt_at-Alloc at places = ap (fold-Stmt Types stmt_step) (sym (s.rolls-Alloc at places)) ∙ fold-roll-Stmt Types stmt_step (Stmt-F.Alloc at places)

in_stmt_at-Unalloc : (at : Place) (values : List Expr) → in_stmt (s.Unalloc at values) ≡ stmt_step (Stmt-F.Unalloc at values)
unfolding in_stmt
in_stmt_at-Unalloc at values = ap (fold-Stmt Types stmt_step) (sym (s.rolls-Unalloc at values)) ∙ fold-roll-Stmt Types stmt_step (Stmt-F.Unalloc at values)

in_stmt_at-Check : (at : Place) (value : Expr) (text : Option (List ℕ)) → in_stmt (s.Check at value text) ≡ stmt_step (Stmt-F.Check at value text)
unfolding in_stmt
in_stmt_at-Check at value text = ap (fold-Stmt Types stmt_step) (sym (s.rolls-Check at value text)) ∙ fold-roll-Stmt Types stmt_step (Stmt-F.Check at value text)

in_stmt_at-Proc : (at : Place) (calls : List Expr) → in_stmt (s.Proc at calls) ≡ stmt_step (Stmt-F.Proc at calls)
unfolding in_stmt
in_stmt_at-Proc at calls = ap (fold-Stmt Types stmt_step) (sym (s.rolls-Proc at calls)) ∙ fold-roll-Stmt Types stmt_step (Stmt-F.Proc at calls)

in_stmt_at-Task : (at : Place) (calls : List Expr) → in_stmt (s.Task at calls) ≡ stmt_step (Stmt-F.Task at calls)
unfolding in_stmt
in_stmt_at-Task at calls = ap (fold-Stmt Types stmt_step) (sym (s.rolls-Task at calls)) ∙ fold-roll-Stmt Types stmt_step (Stmt-F.Task at calls)

pub in_stmt-Empty : (at : Place) → in_stmt (s.Empty at) ≡ []
in_stmt-Empty at = in_stmt_at-Empty at

pub in_stmt-Block : (at : Place) (body : List Stmt) → in_stmt (s.Block at body) ≡ flat_map in_stmt body
in_stmt-Block at body = in_stmt_at-Block at body ∙ of_each-map in_stmt body

pub in_stmt-Declare : (at : Place) (type : TypeTree) (variables : List Variable) → in_stmt (s.Declare at type variables) ≡ type ∷ flat_map in_variable variables
in_stmt-Declare at type variables = in_stmt_at-Declare at type variables

pub in_stmt-Value : (at : Place) (value : Expr) → in_stmt (s.Value at value) ≡ in_expr value
in_stmt-Value at value = in_stmt_at-Value at value

pub in_stmt-Label : (at : Place) (name : ℕ) (body : Stmt) → in_stmt (s.Label at name body) ≡ in_stmt body
in_stmt-Label at name body = in_stmt_at-Label at name body

pub in_stmt-If : (at : Place) (condition : Expr) (met : Stmt) (other : Option Stmt) → in_stmt (s.If at condition met other) ≡ in_expr condition ++ in_stmt met ++ of_part (option_map in_stmt other)
in_stmt-If at condition met None = in_stmt_at-If at condition met None
in_stmt-If at condition met (Some o) = in_stmt_at-If at condition met (Some o)

pub in_stmt-While : (at : Place) (condition : Expr) (body : Stmt) → in_stmt (s.While at condition body) ≡ in_expr condition ++ in_stmt body
in_stmt-While at condition body = in_stmt_at-While at condition body

pub in_stmt-Do : (at : Place) (body : Stmt) (condition : Expr) → in_stmt (s.Do at body condition) ≡ in_stmt body ++ in_expr condition
in_stmt-Do at body condition = in_stmt_at-Do at body condition

pub in_stmt-For : (at : Place) (start : Option Expr) (condition : Option Expr) (next : Option Expr) (body : Stmt) → in_stmt (s.For at start condition next body) ≡ in_value start ++ in_value condition ++ in_value next ++ in_stmt body
in_stmt-For at start condition next body = in_stmt_at-For at start condition next body

pub in_stmt-Switch : (at : Place) (value : Expr) (body : List Stmt) → in_stmt (s.Switch at value body) ≡ in_expr value ++ flat_map in_stmt body
in_stmt-Switch at value body = in_stmt_at-Switch at value body ∙ ap (λ l. in_expr value ++ l) (of_each-map in_stmt body)

pub in_stmt-Alt : (at : Place) (body : List Stmt) → in_stmt (s.Alt at body) ≡ flat_map in_stmt body
in_stmt-Alt at body = in_stmt_at-Alt at body ∙ of_each-map in_stmt body

pub in_stmt-Case : (at : Place) (value : Expr) → in_stmt (s.Case at value) ≡ in_expr value
in_stmt-Case at value = in_stmt_at-Case at value

pub in_stmt-Default : (at : Place) → in_stmt (s.Default at) ≡ []
in_stmt-Default at = in_stmt_at-Default at

pub in_stmt-Par : (at : Place) (bodies : List Stmt) → in_stmt (s.Par at bodies) ≡ flat_map in_stmt bodies
in_stmt-Par at bodies = in_stmt_at-Par at bodies ∙ of_each-map in_stmt bodies

pub in_stmt-Rescue : (at : Place) (name : Option Name) (body : Stmt) → in_stmt (s.Rescue at name body) ≡ in_stmt body
in_stmt-Rescue at name body = in_stmt_at-Rescue at name body

pub in_stmt-Raise : (at : Place) (name : Option Name) → in_stmt (s.Raise at name) ≡ []
in_stmt-Raise at name = in_stmt_at-Raise at name

pub in_stmt-Return : (at : Place) (value : Option Expr) → in_stmt (s.Return at value) ≡ in_value value
in_stmt-Return at value = in_stmt_at-Return at value

pub in_stmt-Become : (at : Place) (value : Expr) → in_stmt (s.Become at value) ≡ in_expr value
in_stmt-Become at value = in_stmt_at-Become at value

pub in_stmt-Break : (at : Place) (count : Option ℕ) → in_stmt (s.Break at count) ≡ []
in_stmt-Break at count = in_stmt_at-Break at count

pub in_stmt-Continue : (at : Place) (count : Option ℕ) → in_stmt (s.Continue at count) ≡ []
in_stmt-Continue at count = in_stmt_at-Continue at count

pub in_stmt-Goto : (at : Place) (label : Name) → in_stmt (s.Goto at label) ≡ []
in_stmt-Goto at label = in_stmt_at-Goto at label

pub in_stmt-Alloc : (at : Place) (places : List Expr) → in_stmt (s.Alloc at places) ≡ in_exprs places
in_stmt-Alloc at places = in_stmt_at-Alloc at places

pub in_stmt-Unalloc : (at : Place) (values : List Expr) → in_stmt (s.Unalloc at values) ≡ in_exprs values
in_stmt-Unalloc at values = in_stmt_at-Unalloc at values

pub in_stmt-Check : (at : Place) (value : Expr) (text : Option (List ℕ)) → in_stmt (s.Check at value text) ≡ in_expr value
in_stmt-Check at value text = in_stmt_at-Check at value text

pub in_stmt-Proc : (at : Place) (calls : List Expr) → in_stmt (s.Proc at calls) ≡ in_exprs calls
in_stmt-Proc at calls = in_stmt_at-Proc at calls

pub in_stmt-Task : (at : Place) (calls : List Expr) → in_stmt (s.Task at calls) ≡ in_exprs calls
in_stmt-Task at calls = in_stmt_at-Task at calls

pub ruleset in_stmt_is = (in_stmt-Empty, in_stmt-Block, in_stmt-Declare, in_stmt-Value, in_stmt-Label, in_stmt-If, in_stmt-While, in_stmt-Do, in_stmt-For, in_stmt-Switch, in_stmt-Alt, in_stmt-Case, in_stmt-Default, in_stmt-Par, in_stmt-Rescue, in_stmt-Raise, in_stmt-Return, in_stmt-Become, in_stmt-Break, in_stmt-Continue, in_stmt-Goto, in_stmt-Alloc, in_stmt-Unalloc, in_stmt-Check, in_stmt-Proc, in_stmt-Task)

-- ---- parts of items

in_initializer_at-Value : (value : Expr) → in_initializer (i.Value value) ≡ initializer_step (Initializer-F.Value value)
unfolding in_initializer
in_initializer_at-Value value = ap (fold-Initializer Types initializer_step) (sym (i.rolls-Value value)) ∙ fold-roll-Initializer Types initializer_step (Initializer-F.Value value)

in_initializer_at-Braces : (at : Place) (parts : List Initializer) → in_initializer (i.Braces at parts) ≡ initializer_step (Initializer-F.Braces at (map in_initializer parts))
unfolding in_initializer
in_initializer_at-Braces at parts = ap (fold-Initializer Types initializer_step) (sym (i.rolls-Braces at parts)) ∙ fold-roll-Initializer Types initializer_step (Initializer-F.Braces at parts)

pub in_initializer-Value : (value : Expr) → in_initializer (i.Value value) ≡ in_expr value
in_initializer-Value value = in_initializer_at-Value value

pub in_initializer-Braces : (at : Place) (parts : List Initializer) → in_initializer (i.Braces at parts) ≡ flat_map in_initializer parts
in_initializer-Braces at parts = in_initializer_at-Braces at parts ∙ of_each-map in_initializer parts

pub ruleset in_initializer_is = (in_initializer-Value, in_initializer-Braces)

in_member_at-Fields : (at : Place) (type : TypeTree) (fields : List Dcl) → in_member (m.Fields at type fields) ≡ member_step (Member-F.Fields at type fields)
unfolding in_member
in_member_at-Fields at type fields = ap (fold-Member Types member_step) (sym (m.rolls-Fields at type fields)) ∙ fold-roll-Member Types member_step (Member-F.Fields at type fields)

in_member_at-Unnamed : (at : Place) (of : TypeTree) → in_member (m.Unnamed at of) ≡ member_step (Member-F.Unnamed at of)
unfolding in_member
in_member_at-Unnamed at of = ap (fold-Member Types member_step) (sym (m.rolls-Unnamed at of)) ∙ fold-roll-Member Types member_step (Member-F.Unnamed at of)

in_member_at-Inner : (at : Place) (kind : AggregateKind) (members : List Member) → in_member (m.Inner at kind members) ≡ member_step (Member-F.Inner at kind (map in_member members))
unfolding in_member
in_member_at-Inner at kind members = ap (fold-Member Types member_step) (sym (m.rolls-Inner at kind members)) ∙ fold-roll-Member Types member_step (Member-F.Inner at kind members)

pub in_member-Fields : (at : Place) (type : TypeTree) (fields : List Dcl) → in_member (m.Fields at type fields) ≡ type ∷ []
in_member-Fields at type fields = in_member_at-Fields at type fields

pub in_member-Unnamed : (at : Place) (of : TypeTree) → in_member (m.Unnamed at of) ≡ of ∷ []
in_member-Unnamed at of = in_member_at-Unnamed at of

pub in_member-Inner : (at : Place) (kind : AggregateKind) (members : List Member) → in_member (m.Inner at kind members) ≡ flat_map in_member members
in_member-Inner at kind members = in_member_at-Inner at kind members ∙ of_each-map in_member members

pub ruleset in_member_is = (in_member-Fields, in_member-Unnamed, in_member-Inner)

pub ruleset fronts = (append-nil, append_assoc)
