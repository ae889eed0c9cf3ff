-- How most expressions are dropped, decide and lead on: by the slots where they stand.
use Rattle.std.proofs.Common.{◌≡◌, ℕ, Bool, true, false, not, ◌&&◌, if◌then◌else◌, List, [], ◌++◌, Option, Some, None, refl, sym, ap, ◌∙◌, subst}
use Rattle.std.proofs.lemmas.Bool.{true≢false}
use Rattle.al_base.specs.declared.arith.Kind.{Kind}
use Rattle.al_typed.specs.declared.ty.Ty.{Ty, Integer, Tuple'}
use Rattle.al_typed.specs.declared.expression.UnaryOp.{UnaryOp}
use Rattle.al_typed.specs.declared.expression.UnaryOp.TheVariants as unary
use Rattle.al_typed.specs.declared.expression.BinaryOp.{BinaryOp}
use Rattle.al_typed.specs.declared.expression.Logic.{Logic}
use Rattle.al_typed.specs.declared.expression.Movement.{Movement}
use Rattle.al_typed.specs.declared.expression.StepOp.{StepOp}
use Rattle.al_typed.specs.declared.expression.Change.{Change}
use Rattle.al_typed.specs.declared.expression.PrintPiece.{PrintPiece}
use Rattle.al_typed.specs.declared.expression.TExpr.{TExpr}
use Rattle.al_typed.specs.declared.expression.TExpr.TheVariants as expr
use Rattle.al_typed.specs.declared.expression.TPlace.{TPlace}
use Rattle.al_typed.specs.declared.expression.TTarget.{TTarget}
use Rattle.al_typed.specs.declared.expression.TReceiver.{TReceiver}
use Rattle.al_typed.specs.declared.expression.Logic.TheVariants as logic
use Rattle.al_typed.specs.declared.expression.Movement.TheVariants as movement
use Rattle.al_typed.specs.declared.expression.TExpr.TheBlock.{hidden-the_row-TPlace-0, hidden-the_row-TExpr-1, hidden-the_row-TTarget-2, hidden-the_row-TReceiver-4}
use denote.Hole.Carrier.{hidden}
use Rattle.al_typed.specs.Typed.{type_of}
use Rattle.al_meaning.specs.Shown.{kind_of}
use Rattle.al_ir.specs.declared.ir.Operation.{Operation}
use Rattle.al_lower_code.specs.Homes.{Spot, words}
use Rattle.al_lower_code.specs.Moving.{home_of}
use Rattle.al_lower_code.specs.Operators.{is_long, compares, keeps_bits, all_stay, stays, skip_if_zero}
use Rattle.al_lower_code.specs.Coded.{Coded, Placed, Aimed, operand_slot, operand_code, plain, valued, skips_known}
use Rattle.al_lower_code.specs.Values.{load_coded, unary_coded, binary_coded, logical_coded, movement_coded, converted_coded}
use Rattle.al_lower_code.specs.Actions.{assign_coded, stepped_coded, steps_variable, clears_variable, zerox_coded, gives_old}
use Rattle.al_lower_code.specs.Expressions.{coded, placed, aimed}
use Rattle.al_lower_operands.specs.Folded.{folded_bits}
use Rattle.al_lower_operands.proofs.Forms.{coded-Load, coded-Decay, coded-Address, coded-Move, coded-Difference, coded-Assign, coded-Update, coded-Step, coded-Zerox, coded-Tuple, coded-Call, coded-CallPointer, coded-Print, coded-Terminate, coded-Receive, coded-Send, coded-CanReceive, coded-CanSend, coded-MemberOf, coded-Sequence, coded-Iterator}
use Rattle.al_lower_operands.proofs.Folding.{folded-Constant, folded-Text, folded-Nil, folded-Function, folded-SizeofType, folded-SizeofPlace, folded-SizeofValue, constant_is, open-Unary, open-Not, open-Binary, open-Logical, open-Cast, open-Convert}
use Rattle.al_lower_forms.specs.Same.{is_plus, is_same}
use Rattle.al_lower_forms.proofs.SameParts.{same-Unary, same-Cast, same-Convert}
use Rattle.al_lower_expr.proofs.Computing.{either_way}
use Rattle.al_lower_expr.proofs.EveryForm.{every_form}

-- it is found, unless it stands in slots already, and dropped
abbrev pub Drops : Coded → Type 0
Drops c = (to : ℕ) → c.effect to ≡ operand_code c to

-- a value of so many words is found, and decides
abbrev pub Decides : Spot → ℕ → Coded → Type 0
Decides s n c = (to count : ℕ) → c.unless to count ≡ operand_code c to ++ skip_if_zero s n (operand_slot c to) to count

-- an address is found, and copied where it has to last
abbrev pub Points : Coded → Type 0
Points c = (lasting : Bool) (to : ℕ) → c.pointer lasting to ≡ (if lasting then c.value to to else operand_code c to)

pub either : (P : Coded → Type 0) (b : Bool) (x y : Coded) → P x → P y → P (if b then x else y)
either P true x y p q = p
either P false x y p q = q

-- the second of two, where the test fails
pub otherwise : (P : Coded → Type 0) (b : Bool) (x y : Coded) → b ≡ false → P y → P (if b then x else y)
otherwise P true x y h q = absurd (true≢false h)
otherwise P false x y h q = q

pub plain_decides : (s : Spot) (t : Ty) (stands : Option ℕ) (keeps is_truth : Bool) (value : (dest to : ℕ) → List Operation) → Decides s (words s t) (plain s t stands keeps is_truth value)
plain_decides s t (Some home) keeps is_truth value to count = refl
plain_decides s t None keeps is_truth value to count = refl

-- an operator that is not `+` gives a value
pub sign_is : (P : Coded → Type 0) (s : Spot) (t : Ty) (op : UnaryOp) (c : Coded) → is_plus op ≡ false
    → ((keeps : Bool) (value : (dest to : ℕ) → List Operation) → P (valued s t keeps value)) → P (unary_coded s t op c)
sign_is P s t unary.Plus c n given = absurd (true≢false n)
sign_is P s t unary.Minus c n given = given c.keeps _
sign_is P s t unary.Complement c n given = either P (is_long (kind_of t)) _ _ (given c.keeps _) (given c.keeps _)

-- so does a conversion that changes bits
pub change_is : (P : Coded → Type 0) (s : Spot) (from into : Ty) (c : Coded) → stays from into ≡ false
    → ((keeps : Bool) (value : (dest to : ℕ) → List Operation) → P (valued s into keeps value)) → P (converted_coded s from into c)
change_is P s (Integer k) (Integer j) c h given = otherwise P (keeps_bits k j) _ _ h (given c.keeps _)
change_is P s (Integer k) _ c h given = absurd (true≢false h)
change_is P s (Tuple' l ts) (Tuple' m us) c h given = otherwise P (all_stay ts us) _ _ h (given c.keeps _)
change_is P s (Tuple' l ts) _ c h given = absurd (true≢false h)
change_is P s _ _ c h given = absurd (true≢false h)

-- ---- drops

movement_drops : (s : Spot) (t : Ty) (how : Movement) (l r : Coded) → Drops (movement_coded s t how l r)
movement_drops s t movement.Forward l r = λ to. refl
movement_drops s t movement.CountFirst l r = λ to. refl
movement_drops s t movement.Back l r = λ to. refl

binary_drops : (s : Spot) (t : Ty) (op : BinaryOp) (k : Kind) (n : ℕ) (l r : Coded) → Drops (binary_coded s t op k n l r)
binary_drops s t op k n l r = either (Drops) (compares op && not (is_long k)) _ _ (λ to. refl) (λ to. refl)

logical_drops : (s : Spot) (t : Ty) (op : Logic) (n : ℕ) (l r : Coded) → Drops (logical_coded s t op n l r)
logical_drops s t logic.And n l r = λ to. refl
logical_drops s t logic.Or n l r = λ to. refl

-- ---- decides

movement_decides : (s : Spot) (t : Ty) (how : Movement) (l r : Coded) → Decides s (words s t) (movement_coded s t how l r)
movement_decides s t movement.Forward l r = λ to count. refl
movement_decides s t movement.CountFirst l r = λ to count. refl
movement_decides s t movement.Back l r = λ to count. refl

pub binary_decides : (s : Spot) (t : Ty) (op : BinaryOp) (k : Kind) (n : ℕ) (l r : Coded) → (compares op && not (is_long k)) ≡ false → Decides s (words s t) (binary_coded s t op k n l r)
binary_decides s t op k n l r h = otherwise (Decides s (words s t)) (compares op && not (is_long k)) _ _ h (λ to count. refl)

assign_by-decides : (s : Spot) (t : Ty) (x : Aimed) (c : Coded) (single : Option Placed) → Decides s (words s t) (assign_coded s t (record x { single = single }) c)
assign_by-decides s t x c (Some pl) = λ to count. refl
assign_by-decides s t x c None = λ to count. refl

assign_decides : (s : Spot) (t : Ty) (x : Aimed) (c : Coded) → Decides s (words s t) (assign_coded s t x c)
assign_decides s t x c = assign_by-decides s t x c x.single

steps_decides : (s : Spot) (t : Ty) (op : StepOp) (home : ℕ) → Decides s (words s t) (steps_variable s t op home)
steps_decides s t op home = either (Decides s (words s t)) (gives_old op) _ _ (λ to count. refl) (λ to count. refl)

stepped_by-decides : (s : Spot) (t : Ty) (op : StepOp) (home : Option ℕ) (other : Coded) → Decides s (words s t) other → Decides s (words s t) (elim home as (λ (_ : Option ℕ). Coded) [ Some h ↦ steps_variable s t op h | None ↦ other ])
stepped_by-decides s t op (Some h) other p = steps_decides s t op h
stepped_by-decides s t op None other p = p

stepped_decides : (s : Spot) (t : Ty) (op : StepOp) (pl : Placed) → Decides s (words s t) (stepped_coded s t op pl)
stepped_decides s t op pl = stepped_by-decides s t op (home_of (pl.at false 0)) _ (λ to count. refl)

clears_by-decides : (s : Spot) (t : Ty) (home : Option ℕ) (other : Coded) → Decides s (words s t) other → Decides s (words s t) (elim home as (λ (_ : Option ℕ). Coded) [ Some h ↦ clears_variable s t h | None ↦ other ])
clears_by-decides s t (Some h) other p = λ to count. refl
clears_by-decides s t None other p = p

zerox_decides : (s : Spot) (t : Ty) (pl : Placed) → Decides s (words s t) (zerox_coded s t pl)
zerox_decides s t pl = clears_by-decides s t (home_of (pl.at false 0)) _ (λ to count. refl)

-- ---- points

movement_points : (s : Spot) (t : Ty) (how : Movement) (l r : Coded) → Points (movement_coded s t how l r)
movement_points s t movement.Forward l r = λ lasting to. refl
movement_points s t movement.CountFirst l r = λ lasting to. refl
movement_points s t movement.Back l r = λ lasting to. refl

binary_points : (s : Spot) (t : Ty) (op : BinaryOp) (k : Kind) (n : ℕ) (l r : Coded) → Points (binary_coded s t op k n l r)
binary_points s t op k n l r = either (Points) (compares op && not (is_long k)) _ _ (λ lasting to. refl) (λ lasting to. refl)

logical_points : (s : Spot) (t : Ty) (op : Logic) (n : ℕ) (l r : Coded) → Points (logical_coded s t op n l r)
logical_points s t logic.And n l r = λ lasting to. refl
logical_points s t logic.Or n l r = λ lasting to. refl

assign_by-points : (s : Spot) (t : Ty) (x : Aimed) (c : Coded) (single : Option Placed) → Points (assign_coded s t (record x { single = single }) c)
assign_by-points s t x c (Some pl) = λ lasting to. refl
assign_by-points s t x c None = λ lasting to. refl

assign_points : (s : Spot) (t : Ty) (x : Aimed) (c : Coded) → Points (assign_coded s t x c)
assign_points s t x c = assign_by-points s t x c x.single

steps_points : (s : Spot) (t : Ty) (op : StepOp) (home : ℕ) → Points (steps_variable s t op home)
steps_points s t op home = either (Points) (gives_old op) _ _ (λ lasting to. refl) (λ lasting to. refl)

stepped_by-points : (s : Spot) (t : Ty) (op : StepOp) (home : Option ℕ) (other : Coded) → Points other → Points (elim home as (λ (_ : Option ℕ). Coded) [ Some h ↦ steps_variable s t op h | None ↦ other ])
stepped_by-points s t op (Some h) other p = steps_points s t op h
stepped_by-points s t op None other p = p

stepped_points : (s : Spot) (t : Ty) (op : StepOp) (pl : Placed) → Points (stepped_coded s t op pl)
stepped_points s t op pl = stepped_by-points s t op (home_of (pl.at false 0)) _ (λ lasting to. refl)

clears_by-points : (s : Spot) (t : Ty) (home : Option ℕ) (other : Coded) → Points other → Points (elim home as (λ (_ : Option ℕ). Coded) [ Some h ↦ clears_variable s t h | None ↦ other ])
clears_by-points s t (Some h) other p = λ lasting to. refl
clears_by-points s t None other p = p

zerox_points : (s : Spot) (t : Ty) (pl : Placed) → Points (zerox_coded s t pl)
zerox_points s t pl = clears_by-points s t (home_of (pl.at false 0)) _ (λ lasting to. refl)

-- ---- every expression that is no exception

pub some_none : (n : ℕ) (o : Option ℕ) → o ≡ Some n → o ≡ None → ⊥
some_none n o p q = cc

abbrev DropsRest : Spot → TExpr → Type 0
DropsRest s e = folded_bits s e ≡ None → is_same e ≡ false → ((t : Ty) (x : TTarget) (a : TExpr) → e ≡ expr.Assign t x a → ⊥) → ((t : Ty) (x : TPlace) (how : Change) (a : TExpr) → e ≡ expr.Update t x how a → ⊥) → ((t : Ty) (op : StepOp) (x : TPlace) → e ≡ expr.Step t op x → ⊥) → ((t : Ty) (x : TPlace) → e ≡ expr.Zerox t x → ⊥) → ((t : Ty) (number : ℕ) (r : Option TReceiver) (xs : List TExpr) → e ≡ expr.Call t number r xs → ⊥) → ((t : Ty) (a : TExpr) (xs : List TExpr) → e ≡ expr.CallPointer t a xs → ⊥) → ((t : Ty) (xs : List TExpr) (a : TExpr) → e ≡ expr.Sequence t xs a → ⊥) → Drops (coded s e)

drops-Constant : (s : Spot) (t : Ty) (bits : ℕ) → DropsRest s (expr.Constant t bits)
drops-Constant s t bits = λ h ch n3 n4 n5 n6 n7 n8 n9. absurd (some_none _ _ (folded-Constant s t bits) h)

drops-Text : (s : Spot) (t : Ty) (number : ℕ) → DropsRest s (expr.Text t number)
drops-Text s t number = λ h ch n3 n4 n5 n6 n7 n8 n9. absurd (some_none _ _ (folded-Text s t number) h)

drops-Nil : (s : Spot) (t : Ty) → DropsRest s (expr.Nil t)
drops-Nil s t = λ h ch n3 n4 n5 n6 n7 n8 n9. absurd (some_none _ _ (folded-Nil s t) h)

drops-Function : (s : Spot) (t : Ty) (number : ℕ) → DropsRest s (expr.Function t number)
drops-Function s t number = λ h ch n3 n4 n5 n6 n7 n8 n9. absurd (some_none _ _ (folded-Function s t number) h)

drops-Load : (s : Spot) (t : Ty) (x : TPlace) → DropsRest s (expr.Load t x)
drops-Load s t x = λ h ch n3 n4 n5 n6 n7 n8 n9. subst (Drops) (sym (coded-Load s t x)) (λ to. refl)

drops-Decay : (s : Spot) (t : Ty) (x : TPlace) → DropsRest s (expr.Decay t x)
drops-Decay s t x = λ h ch n3 n4 n5 n6 n7 n8 n9. subst (Drops) (sym (coded-Decay s t x)) (λ to. refl)

drops-Address : (s : Spot) (t : Ty) (x : TPlace) → DropsRest s (expr.Address t x)
drops-Address s t x = λ h ch n3 n4 n5 n6 n7 n8 n9. subst (Drops) (sym (coded-Address s t x)) (λ to. refl)

drops-SizeofType : (s : Spot) (t : Ty) (u : Ty) → DropsRest s (expr.SizeofType t u)
drops-SizeofType s t u = λ h ch n3 n4 n5 n6 n7 n8 n9. absurd (some_none _ _ (folded-SizeofType s t u) h)

drops-SizeofPlace : (s : Spot) (t : Ty) (x : TPlace) → DropsRest s (expr.SizeofPlace t x)
drops-SizeofPlace s t x = λ h ch n3 n4 n5 n6 n7 n8 n9. absurd (some_none _ _ (folded-SizeofPlace s t x) h)

drops-SizeofValue : (s : Spot) (t : Ty) (a : TExpr) → DropsRest s (expr.SizeofValue t a)
drops-SizeofValue s t a = λ h ch n3 n4 n5 n6 n7 n8 n9. absurd (some_none _ _ (folded-SizeofValue s t a) h)

drops-Unary : (s : Spot) (t : Ty) (op : UnaryOp) (a : TExpr) → DropsRest s (expr.Unary t op a)
drops-Unary s t op a = λ h ch n3 n4 n5 n6 n7 n8 n9. subst Drops (sym (open-Unary s t op a h)) (sign_is Drops s t op (coded s a) (sym (same-Unary t op a) ∙ ch) (λ keeps value to. refl))

drops-Not : (s : Spot) (t : Ty) (a : TExpr) → DropsRest s (expr.Not t a)
drops-Not s t a = λ h ch n3 n4 n5 n6 n7 n8 n9. subst (Drops) (sym (open-Not s t a h)) (λ to. refl)

drops-Binary : (s : Spot) (t : Ty) (op : BinaryOp) (k : Kind) (a : TExpr) (b : TExpr) → DropsRest s (expr.Binary t op k a b)
drops-Binary s t op k a b = λ h ch n3 n4 n5 n6 n7 n8 n9. subst (Drops) (sym (open-Binary s t op k a b h)) (binary_drops s t op k (words s (type_of a)) (coded s a) (coded s b))

drops-Logical : (s : Spot) (t : Ty) (op : Logic) (a : TExpr) (b : TExpr) → DropsRest s (expr.Logical t op a b)
drops-Logical s t op a b = λ h ch n3 n4 n5 n6 n7 n8 n9. subst (Drops) (sym (open-Logical s t op a b h)) (logical_drops s t op (words s (type_of b)) (coded s a) (coded s b))

drops-Move : (s : Spot) (t : Ty) (how : Movement) (a : TExpr) (b : TExpr) → DropsRest s (expr.Move t how a b)
drops-Move s t how a b = λ h ch n3 n4 n5 n6 n7 n8 n9. subst (Drops) (sym (coded-Move s t how a b)) (movement_drops s t how (coded s a) (coded s b))

drops-Difference : (s : Spot) (t : Ty) (a : TExpr) (b : TExpr) → DropsRest s (expr.Difference t a b)
drops-Difference s t a b = λ h ch n3 n4 n5 n6 n7 n8 n9. subst (Drops) (sym (coded-Difference s t a b)) (λ to. refl)

drops-Assign : (s : Spot) (t : Ty) (x : TTarget) (a : TExpr) → DropsRest s (expr.Assign t x a)
drops-Assign s t x a = λ h ch n3 n4 n5 n6 n7 n8 n9. absurd (n3 t x a refl)

drops-Update : (s : Spot) (t : Ty) (x : TPlace) (how : Change) (a : TExpr) → DropsRest s (expr.Update t x how a)
drops-Update s t x how a = λ h ch n3 n4 n5 n6 n7 n8 n9. absurd (n4 t x how a refl)

drops-Step : (s : Spot) (t : Ty) (op : StepOp) (x : TPlace) → DropsRest s (expr.Step t op x)
drops-Step s t op x = λ h ch n3 n4 n5 n6 n7 n8 n9. absurd (n5 t op x refl)

drops-Zerox : (s : Spot) (t : Ty) (x : TPlace) → DropsRest s (expr.Zerox t x)
drops-Zerox s t x = λ h ch n3 n4 n5 n6 n7 n8 n9. absurd (n6 t x refl)

drops-Tuple : (s : Spot) (t : Ty) (xs : List TExpr) → DropsRest s (expr.Tuple t xs)
drops-Tuple s t xs = λ h ch n3 n4 n5 n6 n7 n8 n9. subst (Drops) (sym (coded-Tuple s t xs)) (λ to. refl)

drops-Call : (s : Spot) (t : Ty) (number : ℕ) (r : Option TReceiver) (xs : List TExpr) → DropsRest s (expr.Call t number r xs)
drops-Call s t number r xs = λ h ch n3 n4 n5 n6 n7 n8 n9. absurd (n7 t number r xs refl)

drops-CallPointer : (s : Spot) (t : Ty) (a : TExpr) (xs : List TExpr) → DropsRest s (expr.CallPointer t a xs)
drops-CallPointer s t a xs = λ h ch n3 n4 n5 n6 n7 n8 n9. absurd (n8 t a xs refl)

drops-Print : (s : Spot) (t : Ty) (format : List PrintPiece) (xs : List TExpr) → DropsRest s (expr.Print t format xs)
drops-Print s t format xs = λ h ch n3 n4 n5 n6 n7 n8 n9. subst (Drops) (sym (coded-Print s t format xs)) (λ to. refl)

drops-Terminate : (s : Spot) (t : Ty) (a : TExpr) → DropsRest s (expr.Terminate t a)
drops-Terminate s t a = λ h ch n3 n4 n5 n6 n7 n8 n9. subst (Drops) (sym (coded-Terminate s t a)) (λ to. refl)

drops-Receive : (s : Spot) (t : Ty) (a : TExpr) → DropsRest s (expr.Receive t a)
drops-Receive s t a = λ h ch n3 n4 n5 n6 n7 n8 n9. subst (Drops) (sym (coded-Receive s t a)) (λ to. refl)

drops-Send : (s : Spot) (t : Ty) (a : TExpr) (b : TExpr) → DropsRest s (expr.Send t a b)
drops-Send s t a b = λ h ch n3 n4 n5 n6 n7 n8 n9. subst (Drops) (sym (coded-Send s t a b)) (λ to. refl)

drops-CanReceive : (s : Spot) (t : Ty) (a : TExpr) → DropsRest s (expr.CanReceive t a)
drops-CanReceive s t a = λ h ch n3 n4 n5 n6 n7 n8 n9. subst (Drops) (sym (coded-CanReceive s t a)) (λ to. refl)

drops-CanSend : (s : Spot) (t : Ty) (a : TExpr) → DropsRest s (expr.CanSend t a)
drops-CanSend s t a = λ h ch n3 n4 n5 n6 n7 n8 n9. subst (Drops) (sym (coded-CanSend s t a)) (λ to. refl)

drops-MemberOf : (s : Spot) (t : Ty) (a : TExpr) (path : List ℕ) → DropsRest s (expr.MemberOf t a path)
drops-MemberOf s t a path = λ h ch n3 n4 n5 n6 n7 n8 n9. subst (Drops) (sym (coded-MemberOf s t a path)) (λ to. refl)

drops-Cast : (s : Spot) (t : Ty) (a : TExpr) → DropsRest s (expr.Cast t a)
drops-Cast s t a = λ h ch n3 n4 n5 n6 n7 n8 n9. subst Drops (sym (open-Cast s t a h)) (change_is Drops s (type_of a) t (coded s a) (sym (same-Cast t a) ∙ ch) (λ keeps value to. refl))

drops-Convert : (s : Spot) (t : Ty) (a : TExpr) → DropsRest s (expr.Convert t a)
drops-Convert s t a = λ h ch n3 n4 n5 n6 n7 n8 n9. subst Drops (sym (open-Convert s t a h)) (change_is Drops s (type_of a) t (coded s a) (sym (same-Convert t a) ∙ ch) (λ keeps value to. refl))

drops-Sequence : (s : Spot) (t : Ty) (xs : List TExpr) (a : TExpr) → DropsRest s (expr.Sequence t xs a)
drops-Sequence s t xs a = λ h ch n3 n4 n5 n6 n7 n8 n9. absurd (n9 t xs a refl)

drops-Iterator : (s : Spot) (t : Ty) (number : ℕ) → DropsRest s (expr.Iterator t number)
drops-Iterator s t number = λ h ch n3 n4 n5 n6 n7 n8 n9. subst (Drops) (sym (coded-Iterator s t number)) (λ to. refl)

pub drops_rest : (s : Spot) (e : TExpr) → folded_bits s e ≡ None → is_same e ≡ false → ((t : Ty) (x : TTarget) (a : TExpr) → e ≡ expr.Assign t x a → ⊥) → ((t : Ty) (x : TPlace) (how : Change) (a : TExpr) → e ≡ expr.Update t x how a → ⊥) → ((t : Ty) (op : StepOp) (x : TPlace) → e ≡ expr.Step t op x → ⊥) → ((t : Ty) (x : TPlace) → e ≡ expr.Zerox t x → ⊥) → ((t : Ty) (number : ℕ) (r : Option TReceiver) (xs : List TExpr) → e ≡ expr.Call t number r xs → ⊥) → ((t : Ty) (a : TExpr) (xs : List TExpr) → e ≡ expr.CallPointer t a xs → ⊥) → ((t : Ty) (xs : List TExpr) (a : TExpr) → e ≡ expr.Sequence t xs a → ⊥) → Drops (coded s e)
drops_rest s = every_form (DropsRest s) (record { constant = drops-Constant s; text = drops-Text s; nil_of = drops-Nil s; function = drops-Function s; load = drops-Load s; decay = drops-Decay s; address = drops-Address s; sizeof_type = drops-SizeofType s; sizeof_place = drops-SizeofPlace s; sizeof_value = drops-SizeofValue s; unary = drops-Unary s; negated = drops-Not s; binary = drops-Binary s; logical = drops-Logical s; moved = drops-Move s; difference = drops-Difference s; assign = drops-Assign s; update = drops-Update s; step = drops-Step s; zerox = drops-Zerox s; tuple = drops-Tuple s; call = drops-Call s; call_pointer = drops-CallPointer s; print = drops-Print s; terminate = drops-Terminate s; receive = drops-Receive s; send = drops-Send s; can_receive = drops-CanReceive s; can_send = drops-CanSend s; member_of = drops-MemberOf s; cast = drops-Cast s; convert = drops-Convert s; sequence = drops-Sequence s; iterator = drops-Iterator s })

abbrev DecidesRest : Spot → TExpr → Type 0
DecidesRest s e = folded_bits s e ≡ None → is_same e ≡ false → ((t : Ty) (a : TExpr) → e ≡ expr.Not t a → ⊥) → ((t : Ty) (op : BinaryOp) (k : Kind) (a : TExpr) (b : TExpr) → e ≡ expr.Binary t op k a b → ⊥) → ((t : Ty) (op : Logic) (a : TExpr) (b : TExpr) → e ≡ expr.Logical t op a b → ⊥) → Decides s (words s (type_of e)) (coded s e)

decides-Constant : (s : Spot) (t : Ty) (bits : ℕ) → DecidesRest s (expr.Constant t bits)
unfolding hidden-the_row-TPlace-0 hidden-the_row-TExpr-1 hidden-the_row-TTarget-2 hidden-the_row-TReceiver-4 hidden
decides-Constant s t bits = λ h ch n3 n4 n5. absurd (some_none _ _ (folded-Constant s t bits) h)

decides-Text : (s : Spot) (t : Ty) (number : ℕ) → DecidesRest s (expr.Text t number)
unfolding hidden-the_row-TPlace-0 hidden-the_row-TExpr-1 hidden-the_row-TTarget-2 hidden-the_row-TReceiver-4 hidden
decides-Text s t number = λ h ch n3 n4 n5. absurd (some_none _ _ (folded-Text s t number) h)

decides-Nil : (s : Spot) (t : Ty) → DecidesRest s (expr.Nil t)
unfolding hidden-the_row-TPlace-0 hidden-the_row-TExpr-1 hidden-the_row-TTarget-2 hidden-the_row-TReceiver-4 hidden
decides-Nil s t = λ h ch n3 n4 n5. absurd (some_none _ _ (folded-Nil s t) h)

decides-Function : (s : Spot) (t : Ty) (number : ℕ) → DecidesRest s (expr.Function t number)
unfolding hidden-the_row-TPlace-0 hidden-the_row-TExpr-1 hidden-the_row-TTarget-2 hidden-the_row-TReceiver-4 hidden
decides-Function s t number = λ h ch n3 n4 n5. absurd (some_none _ _ (folded-Function s t number) h)

decides-Load : (s : Spot) (t : Ty) (x : TPlace) → DecidesRest s (expr.Load t x)
unfolding hidden-the_row-TPlace-0 hidden-the_row-TExpr-1 hidden-the_row-TTarget-2 hidden-the_row-TReceiver-4 hidden
decides-Load s t x = λ h ch n3 n4 n5. subst (Decides s (words s t)) (sym (coded-Load s t x)) (plain_decides s t (home_of ((placed s x).at false 0)) (placed s x).keeps false (load_coded s t (placed s x)).value)

decides-Decay : (s : Spot) (t : Ty) (x : TPlace) → DecidesRest s (expr.Decay t x)
unfolding hidden-the_row-TPlace-0 hidden-the_row-TExpr-1 hidden-the_row-TTarget-2 hidden-the_row-TReceiver-4 hidden
decides-Decay s t x = λ h ch n3 n4 n5. subst (Decides s (words s t)) (sym (coded-Decay s t x)) (λ to count. refl)

decides-Address : (s : Spot) (t : Ty) (x : TPlace) → DecidesRest s (expr.Address t x)
unfolding hidden-the_row-TPlace-0 hidden-the_row-TExpr-1 hidden-the_row-TTarget-2 hidden-the_row-TReceiver-4 hidden
decides-Address s t x = λ h ch n3 n4 n5. subst (Decides s (words s t)) (sym (coded-Address s t x)) (λ to count. refl)

decides-SizeofType : (s : Spot) (t : Ty) (u : Ty) → DecidesRest s (expr.SizeofType t u)
unfolding hidden-the_row-TPlace-0 hidden-the_row-TExpr-1 hidden-the_row-TTarget-2 hidden-the_row-TReceiver-4 hidden
decides-SizeofType s t u = λ h ch n3 n4 n5. absurd (some_none _ _ (folded-SizeofType s t u) h)

decides-SizeofPlace : (s : Spot) (t : Ty) (x : TPlace) → DecidesRest s (expr.SizeofPlace t x)
unfolding hidden-the_row-TPlace-0 hidden-the_row-TExpr-1 hidden-the_row-TTarget-2 hidden-the_row-TReceiver-4 hidden
decides-SizeofPlace s t x = λ h ch n3 n4 n5. absurd (some_none _ _ (folded-SizeofPlace s t x) h)

decides-SizeofValue : (s : Spot) (t : Ty) (a : TExpr) → DecidesRest s (expr.SizeofValue t a)
unfolding hidden-the_row-TPlace-0 hidden-the_row-TExpr-1 hidden-the_row-TTarget-2 hidden-the_row-TReceiver-4 hidden
decides-SizeofValue s t a = λ h ch n3 n4 n5. absurd (some_none _ _ (folded-SizeofValue s t a) h)

decides-Unary : (s : Spot) (t : Ty) (op : UnaryOp) (a : TExpr) → DecidesRest s (expr.Unary t op a)
unfolding hidden-the_row-TPlace-0 hidden-the_row-TExpr-1 hidden-the_row-TTarget-2 hidden-the_row-TReceiver-4 hidden
decides-Unary s t op a = λ h ch n3 n4 n5. subst (Decides s (words s t)) (sym (open-Unary s t op a h)) (sign_is (Decides s (words s t)) s t op (coded s a) (sym (same-Unary t op a) ∙ ch) (λ keeps value to count. refl))

decides-Not : (s : Spot) (t : Ty) (a : TExpr) → DecidesRest s (expr.Not t a)
unfolding hidden-the_row-TPlace-0 hidden-the_row-TExpr-1 hidden-the_row-TTarget-2 hidden-the_row-TReceiver-4 hidden
decides-Not s t a = λ h ch n3 n4 n5. absurd (n3 t a refl)

decides-Binary : (s : Spot) (t : Ty) (op : BinaryOp) (k : Kind) (a : TExpr) (b : TExpr) → DecidesRest s (expr.Binary t op k a b)
unfolding hidden-the_row-TPlace-0 hidden-the_row-TExpr-1 hidden-the_row-TTarget-2 hidden-the_row-TReceiver-4 hidden
decides-Binary s t op k a b = λ h ch n3 n4 n5. absurd (n4 t op k a b refl)

decides-Logical : (s : Spot) (t : Ty) (op : Logic) (a : TExpr) (b : TExpr) → DecidesRest s (expr.Logical t op a b)
unfolding hidden-the_row-TPlace-0 hidden-the_row-TExpr-1 hidden-the_row-TTarget-2 hidden-the_row-TReceiver-4 hidden
decides-Logical s t op a b = λ h ch n3 n4 n5. absurd (n5 t op a b refl)

decides-Move : (s : Spot) (t : Ty) (how : Movement) (a : TExpr) (b : TExpr) → DecidesRest s (expr.Move t how a b)
unfolding hidden-the_row-TPlace-0 hidden-the_row-TExpr-1 hidden-the_row-TTarget-2 hidden-the_row-TReceiver-4 hidden
decides-Move s t how a b = λ h ch n3 n4 n5. subst (Decides s (words s t)) (sym (coded-Move s t how a b)) (movement_decides s t how (coded s a) (coded s b))

decides-Difference : (s : Spot) (t : Ty) (a : TExpr) (b : TExpr) → DecidesRest s (expr.Difference t a b)
unfolding hidden-the_row-TPlace-0 hidden-the_row-TExpr-1 hidden-the_row-TTarget-2 hidden-the_row-TReceiver-4 hidden
decides-Difference s t a b = λ h ch n3 n4 n5. subst (Decides s (words s t)) (sym (coded-Difference s t a b)) (λ to count. refl)

decides-Assign : (s : Spot) (t : Ty) (x : TTarget) (a : TExpr) → DecidesRest s (expr.Assign t x a)
unfolding hidden-the_row-TPlace-0 hidden-the_row-TExpr-1 hidden-the_row-TTarget-2 hidden-the_row-TReceiver-4 hidden
decides-Assign s t x a = λ h ch n3 n4 n5. subst (Decides s (words s t)) (sym (coded-Assign s t x a)) (assign_decides s t (aimed s x) (coded s a))

decides-Update : (s : Spot) (t : Ty) (x : TPlace) (how : Change) (a : TExpr) → DecidesRest s (expr.Update t x how a)
unfolding hidden-the_row-TPlace-0 hidden-the_row-TExpr-1 hidden-the_row-TTarget-2 hidden-the_row-TReceiver-4 hidden
decides-Update s t x how a = λ h ch n3 n4 n5. subst (Decides s (words s t)) (sym (coded-Update s t x how a)) (λ to count. refl)

decides-Step : (s : Spot) (t : Ty) (op : StepOp) (x : TPlace) → DecidesRest s (expr.Step t op x)
unfolding hidden-the_row-TPlace-0 hidden-the_row-TExpr-1 hidden-the_row-TTarget-2 hidden-the_row-TReceiver-4 hidden
decides-Step s t op x = λ h ch n3 n4 n5. subst (Decides s (words s t)) (sym (coded-Step s t op x)) (stepped_decides s t op (placed s x))

decides-Zerox : (s : Spot) (t : Ty) (x : TPlace) → DecidesRest s (expr.Zerox t x)
unfolding hidden-the_row-TPlace-0 hidden-the_row-TExpr-1 hidden-the_row-TTarget-2 hidden-the_row-TReceiver-4 hidden
decides-Zerox s t x = λ h ch n3 n4 n5. subst (Decides s (words s t)) (sym (coded-Zerox s t x)) (zerox_decides s t (placed s x))

decides-Tuple : (s : Spot) (t : Ty) (xs : List TExpr) → DecidesRest s (expr.Tuple t xs)
unfolding hidden-the_row-TPlace-0 hidden-the_row-TExpr-1 hidden-the_row-TTarget-2 hidden-the_row-TReceiver-4 hidden
decides-Tuple s t xs = λ h ch n3 n4 n5. subst (Decides s (words s t)) (sym (coded-Tuple s t xs)) (λ to count. refl)

decides-Call : (s : Spot) (t : Ty) (number : ℕ) (r : Option TReceiver) (xs : List TExpr) → DecidesRest s (expr.Call t number r xs)
unfolding hidden-the_row-TPlace-0 hidden-the_row-TExpr-1 hidden-the_row-TTarget-2 hidden-the_row-TReceiver-4 hidden
decides-Call s t number r xs = λ h ch n3 n4 n5. subst (Decides s (words s t)) (sym (coded-Call s t number r xs)) (λ to count. refl)

decides-CallPointer : (s : Spot) (t : Ty) (a : TExpr) (xs : List TExpr) → DecidesRest s (expr.CallPointer t a xs)
unfolding hidden-the_row-TPlace-0 hidden-the_row-TExpr-1 hidden-the_row-TTarget-2 hidden-the_row-TReceiver-4 hidden
decides-CallPointer s t a xs = λ h ch n3 n4 n5. subst (Decides s (words s t)) (sym (coded-CallPointer s t a xs)) (λ to count. refl)

decides-Print : (s : Spot) (t : Ty) (format : List PrintPiece) (xs : List TExpr) → DecidesRest s (expr.Print t format xs)
unfolding hidden-the_row-TPlace-0 hidden-the_row-TExpr-1 hidden-the_row-TTarget-2 hidden-the_row-TReceiver-4 hidden
decides-Print s t format xs = λ h ch n3 n4 n5. subst (Decides s (words s t)) (sym (coded-Print s t format xs)) (λ to count. refl)

decides-Terminate : (s : Spot) (t : Ty) (a : TExpr) → DecidesRest s (expr.Terminate t a)
unfolding hidden-the_row-TPlace-0 hidden-the_row-TExpr-1 hidden-the_row-TTarget-2 hidden-the_row-TReceiver-4 hidden
decides-Terminate s t a = λ h ch n3 n4 n5. subst (Decides s (words s t)) (sym (coded-Terminate s t a)) (λ to count. refl)

decides-Receive : (s : Spot) (t : Ty) (a : TExpr) → DecidesRest s (expr.Receive t a)
unfolding hidden-the_row-TPlace-0 hidden-the_row-TExpr-1 hidden-the_row-TTarget-2 hidden-the_row-TReceiver-4 hidden
decides-Receive s t a = λ h ch n3 n4 n5. subst (Decides s (words s t)) (sym (coded-Receive s t a)) (λ to count. refl)

decides-Send : (s : Spot) (t : Ty) (a : TExpr) (b : TExpr) → DecidesRest s (expr.Send t a b)
unfolding hidden-the_row-TPlace-0 hidden-the_row-TExpr-1 hidden-the_row-TTarget-2 hidden-the_row-TReceiver-4 hidden
decides-Send s t a b = λ h ch n3 n4 n5. subst (Decides s (words s t)) (sym (coded-Send s t a b)) (λ to count. refl)

decides-CanReceive : (s : Spot) (t : Ty) (a : TExpr) → DecidesRest s (expr.CanReceive t a)
unfolding hidden-the_row-TPlace-0 hidden-the_row-TExpr-1 hidden-the_row-TTarget-2 hidden-the_row-TReceiver-4 hidden
decides-CanReceive s t a = λ h ch n3 n4 n5. subst (Decides s (words s t)) (sym (coded-CanReceive s t a)) (λ to count. refl)

decides-CanSend : (s : Spot) (t : Ty) (a : TExpr) → DecidesRest s (expr.CanSend t a)
unfolding hidden-the_row-TPlace-0 hidden-the_row-TExpr-1 hidden-the_row-TTarget-2 hidden-the_row-TReceiver-4 hidden
decides-CanSend s t a = λ h ch n3 n4 n5. subst (Decides s (words s t)) (sym (coded-CanSend s t a)) (λ to count. refl)

decides-MemberOf : (s : Spot) (t : Ty) (a : TExpr) (path : List ℕ) → DecidesRest s (expr.MemberOf t a path)
unfolding hidden-the_row-TPlace-0 hidden-the_row-TExpr-1 hidden-the_row-TTarget-2 hidden-the_row-TReceiver-4 hidden
decides-MemberOf s t a path = λ h ch n3 n4 n5. subst (Decides s (words s t)) (sym (coded-MemberOf s t a path)) (λ to count. refl)

decides-Cast : (s : Spot) (t : Ty) (a : TExpr) → DecidesRest s (expr.Cast t a)
unfolding hidden-the_row-TPlace-0 hidden-the_row-TExpr-1 hidden-the_row-TTarget-2 hidden-the_row-TReceiver-4 hidden
decides-Cast s t a = λ h ch n3 n4 n5. subst (Decides s (words s t)) (sym (open-Cast s t a h)) (change_is (Decides s (words s t)) s (type_of a) t (coded s a) (sym (same-Cast t a) ∙ ch) (λ keeps value to count. refl))

decides-Convert : (s : Spot) (t : Ty) (a : TExpr) → DecidesRest s (expr.Convert t a)
unfolding hidden-the_row-TPlace-0 hidden-the_row-TExpr-1 hidden-the_row-TTarget-2 hidden-the_row-TReceiver-4 hidden
decides-Convert s t a = λ h ch n3 n4 n5. subst (Decides s (words s t)) (sym (open-Convert s t a h)) (change_is (Decides s (words s t)) s (type_of a) t (coded s a) (sym (same-Convert t a) ∙ ch) (λ keeps value to count. refl))

decides-Sequence : (s : Spot) (t : Ty) (xs : List TExpr) (a : TExpr) → DecidesRest s (expr.Sequence t xs a)
unfolding hidden-the_row-TPlace-0 hidden-the_row-TExpr-1 hidden-the_row-TTarget-2 hidden-the_row-TReceiver-4 hidden
decides-Sequence s t xs a = λ h ch n3 n4 n5. subst (Decides s (words s t)) (sym (coded-Sequence s t xs a)) (λ to count. refl)

decides-Iterator : (s : Spot) (t : Ty) (number : ℕ) → DecidesRest s (expr.Iterator t number)
unfolding hidden-the_row-TPlace-0 hidden-the_row-TExpr-1 hidden-the_row-TTarget-2 hidden-the_row-TReceiver-4 hidden
decides-Iterator s t number = λ h ch n3 n4 n5. subst (Decides s (words s t)) (sym (coded-Iterator s t number)) (λ to count. refl)

pub decides_rest : (s : Spot) (e : TExpr) → folded_bits s e ≡ None → is_same e ≡ false → ((t : Ty) (a : TExpr) → e ≡ expr.Not t a → ⊥) → ((t : Ty) (op : BinaryOp) (k : Kind) (a : TExpr) (b : TExpr) → e ≡ expr.Binary t op k a b → ⊥) → ((t : Ty) (op : Logic) (a : TExpr) (b : TExpr) → e ≡ expr.Logical t op a b → ⊥) → Decides s (words s (type_of e)) (coded s e)
decides_rest s = every_form (DecidesRest s) (record { constant = decides-Constant s; text = decides-Text s; nil_of = decides-Nil s; function = decides-Function s; load = decides-Load s; decay = decides-Decay s; address = decides-Address s; sizeof_type = decides-SizeofType s; sizeof_place = decides-SizeofPlace s; sizeof_value = decides-SizeofValue s; unary = decides-Unary s; negated = decides-Not s; binary = decides-Binary s; logical = decides-Logical s; moved = decides-Move s; difference = decides-Difference s; assign = decides-Assign s; update = decides-Update s; step = decides-Step s; zerox = decides-Zerox s; tuple = decides-Tuple s; call = decides-Call s; call_pointer = decides-CallPointer s; print = decides-Print s; terminate = decides-Terminate s; receive = decides-Receive s; send = decides-Send s; can_receive = decides-CanReceive s; can_send = decides-CanSend s; member_of = decides-MemberOf s; cast = decides-Cast s; convert = decides-Convert s; sequence = decides-Sequence s; iterator = decides-Iterator s })

abbrev PointsRest : Spot → TExpr → Type 0
PointsRest s e = folded_bits s e ≡ None → is_same e ≡ false → ((t : Ty) (x : TPlace) → e ≡ expr.Decay t x → ⊥) → ((t : Ty) (x : TPlace) → e ≡ expr.Address t x → ⊥) → Points (coded s e)

points-Constant : (s : Spot) (t : Ty) (bits : ℕ) → PointsRest s (expr.Constant t bits)
points-Constant s t bits = λ h ch n0 n1. absurd (some_none _ _ (folded-Constant s t bits) h)

points-Text : (s : Spot) (t : Ty) (number : ℕ) → PointsRest s (expr.Text t number)
points-Text s t number = λ h ch n0 n1. absurd (some_none _ _ (folded-Text s t number) h)

points-Nil : (s : Spot) (t : Ty) → PointsRest s (expr.Nil t)
points-Nil s t = λ h ch n0 n1. absurd (some_none _ _ (folded-Nil s t) h)

points-Function : (s : Spot) (t : Ty) (number : ℕ) → PointsRest s (expr.Function t number)
points-Function s t number = λ h ch n0 n1. absurd (some_none _ _ (folded-Function s t number) h)

points-Load : (s : Spot) (t : Ty) (x : TPlace) → PointsRest s (expr.Load t x)
points-Load s t x = λ h ch n0 n1. subst (Points) (sym (coded-Load s t x)) (λ lasting to. refl)

points-Decay : (s : Spot) (t : Ty) (x : TPlace) → PointsRest s (expr.Decay t x)
points-Decay s t x = λ h ch n0 n1. absurd (n0 t x refl)

points-Address : (s : Spot) (t : Ty) (x : TPlace) → PointsRest s (expr.Address t x)
points-Address s t x = λ h ch n0 n1. absurd (n1 t x refl)

points-SizeofType : (s : Spot) (t : Ty) (u : Ty) → PointsRest s (expr.SizeofType t u)
points-SizeofType s t u = λ h ch n0 n1. absurd (some_none _ _ (folded-SizeofType s t u) h)

points-SizeofPlace : (s : Spot) (t : Ty) (x : TPlace) → PointsRest s (expr.SizeofPlace t x)
points-SizeofPlace s t x = λ h ch n0 n1. absurd (some_none _ _ (folded-SizeofPlace s t x) h)

points-SizeofValue : (s : Spot) (t : Ty) (a : TExpr) → PointsRest s (expr.SizeofValue t a)
points-SizeofValue s t a = λ h ch n0 n1. absurd (some_none _ _ (folded-SizeofValue s t a) h)

points-Unary : (s : Spot) (t : Ty) (op : UnaryOp) (a : TExpr) → PointsRest s (expr.Unary t op a)
points-Unary s t op a = λ h ch n0 n1. subst Points (sym (open-Unary s t op a h)) (sign_is Points s t op (coded s a) (sym (same-Unary t op a) ∙ ch) (λ keeps value lasting to. refl))

points-Not : (s : Spot) (t : Ty) (a : TExpr) → PointsRest s (expr.Not t a)
points-Not s t a = λ h ch n0 n1. subst (Points) (sym (open-Not s t a h)) (λ lasting to. refl)

points-Binary : (s : Spot) (t : Ty) (op : BinaryOp) (k : Kind) (a : TExpr) (b : TExpr) → PointsRest s (expr.Binary t op k a b)
points-Binary s t op k a b = λ h ch n0 n1. subst (Points) (sym (open-Binary s t op k a b h)) (binary_points s t op k (words s (type_of a)) (coded s a) (coded s b))

points-Logical : (s : Spot) (t : Ty) (op : Logic) (a : TExpr) (b : TExpr) → PointsRest s (expr.Logical t op a b)
points-Logical s t op a b = λ h ch n0 n1. subst (Points) (sym (open-Logical s t op a b h)) (logical_points s t op (words s (type_of b)) (coded s a) (coded s b))

points-Move : (s : Spot) (t : Ty) (how : Movement) (a : TExpr) (b : TExpr) → PointsRest s (expr.Move t how a b)
points-Move s t how a b = λ h ch n0 n1. subst (Points) (sym (coded-Move s t how a b)) (movement_points s t how (coded s a) (coded s b))

points-Difference : (s : Spot) (t : Ty) (a : TExpr) (b : TExpr) → PointsRest s (expr.Difference t a b)
points-Difference s t a b = λ h ch n0 n1. subst (Points) (sym (coded-Difference s t a b)) (λ lasting to. refl)

points-Assign : (s : Spot) (t : Ty) (x : TTarget) (a : TExpr) → PointsRest s (expr.Assign t x a)
points-Assign s t x a = λ h ch n0 n1. subst (Points) (sym (coded-Assign s t x a)) (assign_points s t (aimed s x) (coded s a))

points-Update : (s : Spot) (t : Ty) (x : TPlace) (how : Change) (a : TExpr) → PointsRest s (expr.Update t x how a)
points-Update s t x how a = λ h ch n0 n1. subst (Points) (sym (coded-Update s t x how a)) (λ lasting to. refl)

points-Step : (s : Spot) (t : Ty) (op : StepOp) (x : TPlace) → PointsRest s (expr.Step t op x)
points-Step s t op x = λ h ch n0 n1. subst (Points) (sym (coded-Step s t op x)) (stepped_points s t op (placed s x))

points-Zerox : (s : Spot) (t : Ty) (x : TPlace) → PointsRest s (expr.Zerox t x)
points-Zerox s t x = λ h ch n0 n1. subst (Points) (sym (coded-Zerox s t x)) (zerox_points s t (placed s x))

points-Tuple : (s : Spot) (t : Ty) (xs : List TExpr) → PointsRest s (expr.Tuple t xs)
points-Tuple s t xs = λ h ch n0 n1. subst (Points) (sym (coded-Tuple s t xs)) (λ lasting to. refl)

points-Call : (s : Spot) (t : Ty) (number : ℕ) (r : Option TReceiver) (xs : List TExpr) → PointsRest s (expr.Call t number r xs)
points-Call s t number r xs = λ h ch n0 n1. subst (Points) (sym (coded-Call s t number r xs)) (λ lasting to. refl)

points-CallPointer : (s : Spot) (t : Ty) (a : TExpr) (xs : List TExpr) → PointsRest s (expr.CallPointer t a xs)
points-CallPointer s t a xs = λ h ch n0 n1. subst (Points) (sym (coded-CallPointer s t a xs)) (λ lasting to. refl)

points-Print : (s : Spot) (t : Ty) (format : List PrintPiece) (xs : List TExpr) → PointsRest s (expr.Print t format xs)
points-Print s t format xs = λ h ch n0 n1. subst (Points) (sym (coded-Print s t format xs)) (λ lasting to. refl)

points-Terminate : (s : Spot) (t : Ty) (a : TExpr) → PointsRest s (expr.Terminate t a)
points-Terminate s t a = λ h ch n0 n1. subst (Points) (sym (coded-Terminate s t a)) (λ lasting to. refl)

points-Receive : (s : Spot) (t : Ty) (a : TExpr) → PointsRest s (expr.Receive t a)
points-Receive s t a = λ h ch n0 n1. subst (Points) (sym (coded-Receive s t a)) (λ lasting to. refl)

points-Send : (s : Spot) (t : Ty) (a : TExpr) (b : TExpr) → PointsRest s (expr.Send t a b)
points-Send s t a b = λ h ch n0 n1. subst (Points) (sym (coded-Send s t a b)) (λ lasting to. refl)

points-CanReceive : (s : Spot) (t : Ty) (a : TExpr) → PointsRest s (expr.CanReceive t a)
points-CanReceive s t a = λ h ch n0 n1. subst (Points) (sym (coded-CanReceive s t a)) (λ lasting to. refl)

points-CanSend : (s : Spot) (t : Ty) (a : TExpr) → PointsRest s (expr.CanSend t a)
points-CanSend s t a = λ h ch n0 n1. subst (Points) (sym (coded-CanSend s t a)) (λ lasting to. refl)

points-MemberOf : (s : Spot) (t : Ty) (a : TExpr) (path : List ℕ) → PointsRest s (expr.MemberOf t a path)
points-MemberOf s t a path = λ h ch n0 n1. subst (Points) (sym (coded-MemberOf s t a path)) (λ lasting to. refl)

points-Cast : (s : Spot) (t : Ty) (a : TExpr) → PointsRest s (expr.Cast t a)
points-Cast s t a = λ h ch n0 n1. subst Points (sym (open-Cast s t a h)) (change_is Points s (type_of a) t (coded s a) (sym (same-Cast t a) ∙ ch) (λ keeps value lasting to. refl))

points-Convert : (s : Spot) (t : Ty) (a : TExpr) → PointsRest s (expr.Convert t a)
points-Convert s t a = λ h ch n0 n1. subst Points (sym (open-Convert s t a h)) (change_is Points s (type_of a) t (coded s a) (sym (same-Convert t a) ∙ ch) (λ keeps value lasting to. refl))

points-Sequence : (s : Spot) (t : Ty) (xs : List TExpr) (a : TExpr) → PointsRest s (expr.Sequence t xs a)
points-Sequence s t xs a = λ h ch n0 n1. subst (Points) (sym (coded-Sequence s t xs a)) (λ lasting to. refl)

points-Iterator : (s : Spot) (t : Ty) (number : ℕ) → PointsRest s (expr.Iterator t number)
points-Iterator s t number = λ h ch n0 n1. subst (Points) (sym (coded-Iterator s t number)) (λ lasting to. refl)

pub points_rest : (s : Spot) (e : TExpr) → folded_bits s e ≡ None → is_same e ≡ false → ((t : Ty) (x : TPlace) → e ≡ expr.Decay t x → ⊥) → ((t : Ty) (x : TPlace) → e ≡ expr.Address t x → ⊥) → Points (coded s e)
points_rest s = every_form (PointsRest s) (record { constant = points-Constant s; text = points-Text s; nil_of = points-Nil s; function = points-Function s; load = points-Load s; decay = points-Decay s; address = points-Address s; sizeof_type = points-SizeofType s; sizeof_place = points-SizeofPlace s; sizeof_value = points-SizeofValue s; unary = points-Unary s; negated = points-Not s; binary = points-Binary s; logical = points-Logical s; moved = points-Move s; difference = points-Difference s; assign = points-Assign s; update = points-Update s; step = points-Step s; zerox = points-Zerox s; tuple = points-Tuple s; call = points-Call s; call_pointer = points-CallPointer s; print = points-Print s; terminate = points-Terminate s; receive = points-Receive s; send = points-Send s; can_receive = points-CanReceive s; can_send = points-CanSend s; member_of = points-MemberOf s; cast = points-Cast s; convert = points-Convert s; sequence = points-Sequence s; iterator = points-Iterator s })

-- ---- a comparison of pairs, and constants

pair_decides : (s : Spot) (t : Ty) (op : BinaryOp) (k : Kind) (a b : TExpr) → folded_bits s (expr.Binary t op k a b) ≡ None → (compares op && not (is_long k)) ≡ false
    → Decides s (words s (type_of (expr.Binary t op k a b))) (coded s (expr.Binary t op k a b))
unfolding hidden-the_row-TPlace-0 hidden-the_row-TExpr-1 hidden-the_row-TTarget-2 hidden-the_row-TReceiver-4 hidden
pair_decides s t op k a b h pair = subst (Decides s (words s t)) (sym (open-Binary s t op k a b h)) (binary_decides s t op k (words s (type_of a)) (coded s a) (coded s b) pair)

pub decides_pair : (s : Spot) (e : TExpr) (t : Ty) (op : BinaryOp) (k : Kind) (a b : TExpr) → e ≡ expr.Binary t op k a b → folded_bits s (expr.Binary t op k a b) ≡ None
    → (compares op && not (is_long k)) ≡ false → Decides s (words s (type_of e)) (coded s e)
decides_pair s e t op k a b is h pair = subst (λ (e : TExpr). Decides s (words s (type_of e)) (coded s e)) (sym is) (pair_decides s t op k a b h pair)

pub constant_points : (s : Spot) (e : TExpr) (bits : ℕ) (lasting : Bool) (to : ℕ) → folded_bits s e ≡ Some bits → (coded s e).pointer lasting to ≡ (coded s e).value to to
constant_points s e bits lasting to h = subst (λ (c : Coded). c.pointer lasting to ≡ c.value to to) (sym (constant_is s e bits h)) (either_way lasting _)

pub constant_drops : (s : Spot) (e : TExpr) (bits to : ℕ) → folded_bits s e ≡ Some bits → (coded s e).effect to ≡ []
constant_drops s e bits to h = ap (λ (c : Coded). c.effect to) (constant_is s e bits h)

pub constant_decides : (s : Spot) (e : TExpr) (bits to count : ℕ) → folded_bits s e ≡ Some bits → (coded s e).unless to count ≡ skips_known s bits count
constant_decides s e bits to count h = ap (λ (c : Coded). c.unless to count) (constant_is s e bits h)
