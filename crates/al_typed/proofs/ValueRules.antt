-- What the rules ask of each kind of expression, place, target and object.
use Rattle.std.proofs.Common.{◌≡◌, ℕ, ◌<◌, List, [], ◌∷◌, ◌++◌, map, true, false, Option, Some, None, refl, ap, ◌∙◌}
use Rattle.std.specs.Prelude.{⊤}
use Rattle.al_base.specs.declared.arith.Kind.{Kind}
use Rattle.al_typed.specs.declared.ty.Ty.{Ty}
use Rattle.al_typed.specs.declared.ty.Ty.TheVariants as ty
use Rattle.al_typed.specs.declared.expression.UnaryOp.{UnaryOp}
use Rattle.al_typed.specs.declared.expression.BinaryOp.{BinaryOp}
use Rattle.al_typed.specs.declared.expression.Logic.{Logic}
use Rattle.al_typed.specs.declared.expression.Movement.{Movement}
use Rattle.al_typed.specs.declared.expression.StepOp.{StepOp}
use Rattle.al_typed.specs.declared.expression.Change.{Change}
use Rattle.al_typed.specs.declared.expression.Passed.{Passed}
use Rattle.al_typed.specs.declared.expression.Passed.TheVariants as passed
use Rattle.al_typed.specs.declared.expression.PrintPiece.{PrintPiece}
use Rattle.al_typed.specs.declared.expression.TExpr.{TExpr, Row_of-TExpr, end_of-TExpr, more_of-TExpr, items-the_row-TExpr, items_hidden-the_row-TExpr-3, Row_of-TTarget, end_of-TTarget, more_of-TTarget, items-the_row-TTarget, items_hidden-the_row-TTarget-5}
use Rattle.al_typed.specs.declared.expression.TExpr.TheBlock.{hidden-the_row-TPlace-0, hidden-the_row-TExpr-1, hidden-the_row-TTarget-2, hidden-the_row-TExpr-3, hidden-the_row-TReceiver-4, hidden-the_row-TTarget-5}
use Rattle.al_typed.specs.declared.expression.TExpr.TheVariants as expr
use Rattle.al_typed.specs.declared.expression.TPlace.{TPlace}
use Rattle.al_typed.specs.declared.expression.TPlace.TheVariants as place
use Rattle.al_typed.specs.declared.expression.TTarget.{TTarget}
use Rattle.al_typed.specs.declared.expression.TTarget.TheVariants as target
use Rattle.al_typed.specs.declared.expression.TReceiver.{TReceiver}
use Rattle.al_typed.specs.declared.expression.TReceiver.TheVariants as receiver
use denote.Hole.Carrier.{hidden}
use Rattle.al_typed.specs.Types.{IsAggregate, int, byte_pointer, void_pointer, promoted, is_array, is_scalar, is_complete, is_whole, points_to_complete}
use Rattle.al_typed.specs.Typed.{type_of, place_type, target_type, row_types, target_types}
use Rattle.al_typed.specs.WellTyped.{AreBitsOf, AreTargets, AreValues, Changes, Gives, HasAddress, IsArrayOf, IsChannel, IsChannelOf, IsFunctionOfType, IsGiven, IsGlobalOfType, IsLocalOfType, IsOuterOfType, IsPlace, IsPromoted, IsTarget, IsValue, LeadsTo, Prints, Scope, Takes, converts, is_sound, is_stepped, is_stored, passes, result_kind, rows, strings_of}

-- ---- rows of parts as lists

abbrev pub EachValue : Scope → List TExpr → Type 0
EachValue s [] = ⊤
EachValue s (e ∷ es) = IsValue s e × EachValue s es

abbrev pub EachTarget : Scope → List TTarget → Type 0
EachTarget s [] = ⊤
EachTarget s (target ∷ rest) = IsTarget s target × EachTarget s rest

-- what the object before a function's name gives to it, where there is one
abbrev pub IsGivenBy : Scope → Option TReceiver → List Ty → Type 0
IsGivenBy s None given = given ≡ []
IsGivenBy s (Some r) given = Gives s r given

values_items : (s : Scope) {m : _} (row : Row_of-TExpr m) → AreValues s row ≡ EachValue s (items-the_row-TExpr m row)
unfolding AreValues
values_items s end_of-TExpr = refl
values_items s (more_of-TExpr e rest) = ap (λ (V : Type 0). IsValue s e × V) (values_items s rest)

pub values_are : (s : Scope) (xs : List TExpr) → AreValues s (hidden-the_row-TExpr-3 xs) ≡ EachValue s xs
values_are s xs = values_items s (hidden-the_row-TExpr-3 xs) ∙ ap (EachValue s) (items_hidden-the_row-TExpr-3 xs)

types_items : {m : _} (row : Row_of-TExpr m) → row_types row ≡ map type_of (items-the_row-TExpr m row)
types_items end_of-TExpr = refl
types_items (more_of-TExpr e rest) = ap (λ ts. type_of e ∷ ts) (types_items rest)

pub types_are : (xs : List TExpr) → row_types (hidden-the_row-TExpr-3 xs) ≡ map type_of xs
types_are xs = types_items (hidden-the_row-TExpr-3 xs) ∙ ap (map type_of) (items_hidden-the_row-TExpr-3 xs)

targets_items : (s : Scope) {m : _} (row : Row_of-TTarget m) → AreTargets s row ≡ EachTarget s (items-the_row-TTarget m row)
unfolding AreTargets
targets_items s end_of-TTarget = refl
targets_items s (more_of-TTarget x rest) = ap (λ (V : Type 0). IsTarget s x × V) (targets_items s rest)

pub targets_are : (s : Scope) (xs : List TTarget) → AreTargets s (hidden-the_row-TTarget-5 xs) ≡ EachTarget s xs
targets_are s xs = targets_items s (hidden-the_row-TTarget-5 xs) ∙ ap (EachTarget s) (items_hidden-the_row-TTarget-5 xs)

target_types_items : {m : _} (row : Row_of-TTarget m) → target_types row ≡ map target_type (items-the_row-TTarget m row)
target_types_items end_of-TTarget = refl
target_types_items (more_of-TTarget x rest) = ap (λ ts. target_type x ∷ ts) (target_types_items rest)

pub target_types_are : (xs : List TTarget) → target_types (hidden-the_row-TTarget-5 xs) ≡ map target_type xs
target_types_are xs = target_types_items (hidden-the_row-TTarget-5 xs) ∙ ap (map target_type) (items_hidden-the_row-TTarget-5 xs)

-- ---- one equation for each variant

pub IsValue-Constant : (s : Scope) (t : Ty) (bits : ℕ) →
    IsValue s (expr.Constant t bits)
    ≡ (AreBitsOf t bits)
unfolding IsValue hidden-the_row-TPlace-0 hidden-the_row-TExpr-1 hidden-the_row-TTarget-2 hidden-the_row-TReceiver-4 hidden
IsValue-Constant s t bits = refl

pub IsValue-Text : (s : Scope) (t : Ty) (number : ℕ) →
    IsValue s (expr.Text t number)
    ≡ ((t ≡ byte_pointer) × (number < strings_of s.names))
unfolding IsValue hidden-the_row-TPlace-0 hidden-the_row-TExpr-1 hidden-the_row-TTarget-2 hidden-the_row-TReceiver-4 hidden
IsValue-Text s t number = refl

pub IsValue-Nil : (s : Scope) (t : Ty) →
    IsValue s (expr.Nil t)
    ≡ (t ≡ void_pointer)
unfolding IsValue hidden-the_row-TPlace-0 hidden-the_row-TExpr-1 hidden-the_row-TTarget-2 hidden-the_row-TReceiver-4 hidden
IsValue-Nil s t = refl

pub IsValue-Function : (s : Scope) (t : Ty) (number : ℕ) →
    IsValue s (expr.Function t number)
    ≡ (IsFunctionOfType s.names number t)
unfolding IsValue hidden-the_row-TPlace-0 hidden-the_row-TExpr-1 hidden-the_row-TTarget-2 hidden-the_row-TReceiver-4 hidden
IsValue-Function s t number = refl

pub IsValue-Load : (s : Scope) (t : Ty) (x : TPlace) →
    IsValue s (expr.Load t x)
    ≡ (IsPlace s x × ((place_type x ≡ t) × (is_whole (rows s) t ≡ true)))
unfolding IsValue hidden-the_row-TPlace-0 hidden-the_row-TExpr-1 hidden-the_row-TTarget-2 hidden-the_row-TReceiver-4 hidden
IsValue-Load s t x = refl

pub IsValue-Decay : (s : Scope) (t : Ty) (x : TPlace) →
    IsValue s (expr.Decay t x)
    ≡ (IsPlace s x × ((element : Ty) × (IsArrayOf (place_type x) element × (t ≡ ty.Pointer element))))
unfolding IsValue hidden-the_row-TPlace-0 hidden-the_row-TExpr-1 hidden-the_row-TTarget-2 hidden-the_row-TReceiver-4 hidden
IsValue-Decay s t x = refl

pub IsValue-Address : (s : Scope) (t : Ty) (x : TPlace) →
    IsValue s (expr.Address t x)
    ≡ (IsPlace s x × (HasAddress s x × (t ≡ ty.Pointer (place_type x))))
unfolding IsValue hidden-the_row-TPlace-0 hidden-the_row-TExpr-1 hidden-the_row-TTarget-2 hidden-the_row-TReceiver-4 hidden
IsValue-Address s t x = refl

pub IsValue-SizeofType : (s : Scope) (t : Ty) (of : Ty) →
    IsValue s (expr.SizeofType t of)
    ≡ ((t ≡ int) × (is_stored (rows s) of ≡ true))
unfolding IsValue hidden-the_row-TPlace-0 hidden-the_row-TExpr-1 hidden-the_row-TTarget-2 hidden-the_row-TReceiver-4 hidden
IsValue-SizeofType s t of = refl

pub IsValue-SizeofPlace : (s : Scope) (t : Ty) (x : TPlace) →
    IsValue s (expr.SizeofPlace t x)
    ≡ ((t ≡ int) × (IsPlace s x × (is_stored (rows s) (place_type x) ≡ true)))
unfolding IsValue hidden-the_row-TPlace-0 hidden-the_row-TExpr-1 hidden-the_row-TTarget-2 hidden-the_row-TReceiver-4 hidden
IsValue-SizeofPlace s t x = refl

pub IsValue-SizeofValue : (s : Scope) (t : Ty) (a : TExpr) →
    IsValue s (expr.SizeofValue t a)
    ≡ ((t ≡ int) × (IsValue s a × (is_stored (rows s) (type_of a) ≡ true)))
unfolding IsValue hidden-the_row-TPlace-0 hidden-the_row-TExpr-1 hidden-the_row-TTarget-2 hidden-the_row-TReceiver-4 hidden
IsValue-SizeofValue s t a = refl

pub IsValue-Unary : (s : Scope) (t : Ty) (op : UnaryOp) (a : TExpr) →
    IsValue s (expr.Unary t op a)
    ≡ (IsPromoted t × (IsValue s a × (type_of a ≡ t)))
unfolding IsValue hidden-the_row-TPlace-0 hidden-the_row-TExpr-1 hidden-the_row-TTarget-2 hidden-the_row-TReceiver-4 hidden
IsValue-Unary s t op a = refl

pub IsValue-Not : (s : Scope) (t : Ty) (a : TExpr) →
    IsValue s (expr.Not t a)
    ≡ ((t ≡ int) × (IsValue s a × (is_scalar (type_of a) ≡ true)))
unfolding IsValue hidden-the_row-TPlace-0 hidden-the_row-TExpr-1 hidden-the_row-TTarget-2 hidden-the_row-TReceiver-4 hidden
IsValue-Not s t a = refl

pub IsValue-Binary : (s : Scope) (t : Ty) (op : BinaryOp) (k : Kind) (a : TExpr) (b : TExpr) →
    IsValue s (expr.Binary t op k a b)
    ≡ ((t ≡ ty.Integer (result_kind op k)) × ((promoted k ≡ k) × (IsValue s a × ((type_of a ≡ ty.Integer k) × (IsValue s b × (type_of b ≡ ty.Integer k))))))
unfolding IsValue hidden-the_row-TPlace-0 hidden-the_row-TExpr-1 hidden-the_row-TTarget-2 hidden-the_row-TReceiver-4 hidden
IsValue-Binary s t op k a b = refl

pub IsValue-Logical : (s : Scope) (t : Ty) (op : Logic) (a : TExpr) (b : TExpr) →
    IsValue s (expr.Logical t op a b)
    ≡ ((t ≡ int) × (IsValue s a × ((is_scalar (type_of a) ≡ true) × (IsValue s b × (is_scalar (type_of b) ≡ true)))))
unfolding IsValue hidden-the_row-TPlace-0 hidden-the_row-TExpr-1 hidden-the_row-TTarget-2 hidden-the_row-TReceiver-4 hidden
IsValue-Logical s t op a b = refl

pub IsValue-Move : (s : Scope) (t : Ty) (how : Movement) (a : TExpr) (b : TExpr) →
    IsValue s (expr.Move t how a b)
    ≡ ((points_to_complete (rows s) t ≡ true) × (IsValue s a × ((type_of a ≡ t) × (IsValue s b × (type_of b ≡ int)))))
unfolding IsValue hidden-the_row-TPlace-0 hidden-the_row-TExpr-1 hidden-the_row-TTarget-2 hidden-the_row-TReceiver-4 hidden
IsValue-Move s t how a b = refl

pub IsValue-Difference : (s : Scope) (t : Ty) (a : TExpr) (b : TExpr) →
    IsValue s (expr.Difference t a b)
    ≡ ((t ≡ int) × ((points_to_complete (rows s) (type_of a) ≡ true) × (IsValue s a × (IsValue s b × (type_of b ≡ type_of a)))))
unfolding IsValue hidden-the_row-TPlace-0 hidden-the_row-TExpr-1 hidden-the_row-TTarget-2 hidden-the_row-TReceiver-4 hidden
IsValue-Difference s t a b = refl

pub IsValue-Assign : (s : Scope) (t : Ty) (x : TTarget) (a : TExpr) →
    IsValue s (expr.Assign t x a)
    ≡ ((is_whole (rows s) t ≡ true) × (IsTarget s x × ((target_type x ≡ t) × (IsValue s a × (type_of a ≡ t)))))
unfolding IsValue hidden-the_row-TPlace-0 hidden-the_row-TExpr-1 hidden-the_row-TTarget-2 hidden-the_row-TReceiver-4 hidden
IsValue-Assign s t x a = refl

pub IsValue-Update : (s : Scope) (t : Ty) (x : TPlace) (how : Change) (a : TExpr) →
    IsValue s (expr.Update t x how a)
    ≡ (IsPlace s x × ((place_type x ≡ t) × (IsValue s a × Changes (rows s) how t (type_of a))))
unfolding IsValue hidden-the_row-TPlace-0 hidden-the_row-TExpr-1 hidden-the_row-TTarget-2 hidden-the_row-TReceiver-4 hidden
IsValue-Update s t x how a = refl

pub IsValue-Step : (s : Scope) (t : Ty) (op : StepOp) (x : TPlace) →
    IsValue s (expr.Step t op x)
    ≡ (IsPlace s x × ((place_type x ≡ t) × (is_stepped (rows s) t ≡ true)))
unfolding IsValue hidden-the_row-TPlace-0 hidden-the_row-TExpr-1 hidden-the_row-TTarget-2 hidden-the_row-TReceiver-4 hidden
IsValue-Step s t op x = refl

pub IsValue-Zerox : (s : Scope) (t : Ty) (x : TPlace) →
    IsValue s (expr.Zerox t x)
    ≡ (IsPlace s x × ((place_type x ≡ t) × (is_whole (rows s) t ≡ true)))
unfolding IsValue hidden-the_row-TPlace-0 hidden-the_row-TExpr-1 hidden-the_row-TTarget-2 hidden-the_row-TReceiver-4 hidden
IsValue-Zerox s t x = refl

pub IsValue-Terminate : (s : Scope) (t : Ty) (a : TExpr) →
    IsValue s (expr.Terminate t a)
    ≡ ((t ≡ ty.Void) × (IsValue s a × (type_of a ≡ int)))
unfolding IsValue hidden-the_row-TPlace-0 hidden-the_row-TExpr-1 hidden-the_row-TTarget-2 hidden-the_row-TReceiver-4 hidden
IsValue-Terminate s t a = refl

pub IsValue-Receive : (s : Scope) (t : Ty) (a : TExpr) →
    IsValue s (expr.Receive t a)
    ≡ (IsValue s a × IsChannelOf (type_of a) t)
unfolding IsValue hidden-the_row-TPlace-0 hidden-the_row-TExpr-1 hidden-the_row-TTarget-2 hidden-the_row-TReceiver-4 hidden
IsValue-Receive s t a = refl

pub IsValue-Send : (s : Scope) (t : Ty) (a : TExpr) (b : TExpr) →
    IsValue s (expr.Send t a b)
    ≡ ((t ≡ ty.Void) × (IsValue s a × (IsValue s b × IsChannelOf (type_of a) (type_of b))))
unfolding IsValue hidden-the_row-TPlace-0 hidden-the_row-TExpr-1 hidden-the_row-TTarget-2 hidden-the_row-TReceiver-4 hidden
IsValue-Send s t a b = refl

pub IsValue-CanReceive : (s : Scope) (t : Ty) (a : TExpr) →
    IsValue s (expr.CanReceive t a)
    ≡ ((t ≡ int) × (IsValue s a × IsChannel (type_of a)))
unfolding IsValue hidden-the_row-TPlace-0 hidden-the_row-TExpr-1 hidden-the_row-TTarget-2 hidden-the_row-TReceiver-4 hidden
IsValue-CanReceive s t a = refl

pub IsValue-CanSend : (s : Scope) (t : Ty) (a : TExpr) →
    IsValue s (expr.CanSend t a)
    ≡ ((t ≡ int) × (IsValue s a × IsChannel (type_of a)))
unfolding IsValue hidden-the_row-TPlace-0 hidden-the_row-TExpr-1 hidden-the_row-TTarget-2 hidden-the_row-TReceiver-4 hidden
IsValue-CanSend s t a = refl

pub IsValue-MemberOf : (s : Scope) (t : Ty) (a : TExpr) (path : List ℕ) →
    IsValue s (expr.MemberOf t a path)
    ≡ (IsValue s a × (LeadsTo (rows s) path (type_of a) t × (is_whole (rows s) t ≡ true)))
unfolding IsValue hidden-the_row-TPlace-0 hidden-the_row-TExpr-1 hidden-the_row-TTarget-2 hidden-the_row-TReceiver-4 hidden
IsValue-MemberOf s t a path = refl

pub IsValue-Cast : (s : Scope) (t : Ty) (a : TExpr) →
    IsValue s (expr.Cast t a)
    ≡ ((is_sound (rows s) t ≡ true) × (IsValue s a × (converts (type_of a) t ≡ true)))
unfolding IsValue hidden-the_row-TPlace-0 hidden-the_row-TExpr-1 hidden-the_row-TTarget-2 hidden-the_row-TReceiver-4 hidden
IsValue-Cast s t a = refl

pub IsValue-Convert : (s : Scope) (t : Ty) (a : TExpr) →
    IsValue s (expr.Convert t a)
    ≡ ((is_sound (rows s) t ≡ true) × (IsValue s a × (converts (type_of a) t ≡ true)))
unfolding IsValue hidden-the_row-TPlace-0 hidden-the_row-TExpr-1 hidden-the_row-TTarget-2 hidden-the_row-TReceiver-4 hidden
IsValue-Convert s t a = refl

pub IsValue-Iterator : (s : Scope) (t : Ty) (number : ℕ) →
    IsValue s (expr.Iterator t number)
    ≡ ((t ≡ int) × (number < s.iterators))
unfolding IsValue hidden-the_row-TPlace-0 hidden-the_row-TExpr-1 hidden-the_row-TTarget-2 hidden-the_row-TReceiver-4 hidden
IsValue-Iterator s t number = refl

pub IsPlace-Local : (s : Scope) (t : Ty) (number : ℕ) →
    IsPlace s (place.Local t number)
    ≡ (IsLocalOfType s.names number t)
unfolding IsPlace hidden-the_row-TPlace-0 hidden-the_row-TExpr-1 hidden-the_row-TTarget-2 hidden-the_row-TReceiver-4 hidden
IsPlace-Local s t number = refl

pub IsPlace-Outer : (s : Scope) (t : Ty) (around : ℕ) (number : ℕ) →
    IsPlace s (place.Outer t around number)
    ≡ (IsOuterOfType s.names around number t)
unfolding IsPlace hidden-the_row-TPlace-0 hidden-the_row-TExpr-1 hidden-the_row-TTarget-2 hidden-the_row-TReceiver-4 hidden
IsPlace-Outer s t around number = refl

pub IsPlace-Global : (s : Scope) (t : Ty) (number : ℕ) →
    IsPlace s (place.Global t number)
    ≡ (IsGlobalOfType s.names number t)
unfolding IsPlace hidden-the_row-TPlace-0 hidden-the_row-TExpr-1 hidden-the_row-TTarget-2 hidden-the_row-TReceiver-4 hidden
IsPlace-Global s t number = refl

pub IsPlace-Pointed : (s : Scope) (t : Ty) (a : TExpr) →
    IsPlace s (place.Pointed t a)
    ≡ (IsValue s a × (type_of a ≡ ty.Pointer t))
unfolding IsPlace hidden-the_row-TPlace-0 hidden-the_row-TExpr-1 hidden-the_row-TTarget-2 hidden-the_row-TReceiver-4 hidden
IsPlace-Pointed s t a = refl

pub IsPlace-Element : (s : Scope) (t : Ty) (a : TExpr) (b : TExpr) →
    IsPlace s (place.Element t a b)
    ≡ ((is_complete (rows s) t ≡ true) × (IsValue s a × ((type_of a ≡ ty.Pointer t) × (IsValue s b × (type_of b ≡ int)))))
unfolding IsPlace hidden-the_row-TPlace-0 hidden-the_row-TExpr-1 hidden-the_row-TTarget-2 hidden-the_row-TReceiver-4 hidden
IsPlace-Element s t a b = refl

pub IsPlace-Member : (s : Scope) (t : Ty) (x : TPlace) (path : List ℕ) →
    IsPlace s (place.Member t x path)
    ≡ (IsPlace s x × (IsAggregate (place_type x) × LeadsTo (rows s) path (place_type x) t))
unfolding IsPlace hidden-the_row-TPlace-0 hidden-the_row-TExpr-1 hidden-the_row-TTarget-2 hidden-the_row-TReceiver-4 hidden
IsPlace-Member s t x path = refl

pub IsPlace-PointedMember : (s : Scope) (t : Ty) (a : TExpr) (path : List ℕ) →
    IsPlace s (place.PointedMember t a path)
    ≡ ((u : Ty) × (IsValue s a × ((type_of a ≡ ty.Pointer u) × LeadsTo (rows s) path u t)))
unfolding IsPlace hidden-the_row-TPlace-0 hidden-the_row-TExpr-1 hidden-the_row-TTarget-2 hidden-the_row-TReceiver-4 hidden
IsPlace-PointedMember s t a path = refl

pub IsTarget-Into : (s : Scope) (x : TPlace) →
    IsTarget s (target.Into x)
    ≡ (IsPlace s x)
unfolding IsTarget hidden-the_row-TPlace-0 hidden-the_row-TExpr-1 hidden-the_row-TTarget-2 hidden-the_row-TReceiver-4 hidden
IsTarget-Into s x = refl

pub IsTarget-Dropped : (s : Scope) (t : Ty) →
    IsTarget s (target.Dropped t)
    ≡ ((is_stored (rows s) t ≡ true) × (is_array t ≡ false))
unfolding IsTarget hidden-the_row-TPlace-0 hidden-the_row-TExpr-1 hidden-the_row-TTarget-2 hidden-the_row-TReceiver-4 hidden
IsTarget-Dropped s t = refl

pub IsValue-Tuple : (s : Scope) (t : Ty) (xs : List TExpr) →
    IsValue s (expr.Tuple t xs)
    ≡ ((is_sound (rows s) t ≡ true) × (EachValue s xs × (t ≡ ty.Tuple (map type_of xs))))
unfolding IsValue hidden-the_row-TPlace-0 hidden-the_row-TExpr-1 hidden-the_row-TTarget-2 hidden-the_row-TReceiver-4 hidden
IsValue-Tuple s t xs =
    ap (λ (V : Type 0). (is_sound (rows s) t ≡ true) × (V × (t ≡ ty.Tuple (row_types (hidden-the_row-TExpr-3 xs))))) (values_are s xs) ∙ ap (λ (ts : List Ty). (is_sound (rows s) t ≡ true) × (EachValue s xs × (t ≡ ty.Tuple ts))) (types_are xs)

pub IsValue-CallPointer : (s : Scope) (t : Ty) (a : TExpr) (xs : List TExpr) →
    IsValue s (expr.CallPointer t a xs)
    ≡ (IsValue s a × (EachValue s xs × (type_of a ≡ ty.Pointer (ty.Function t (map type_of xs)))))
unfolding IsValue hidden-the_row-TPlace-0 hidden-the_row-TExpr-1 hidden-the_row-TTarget-2 hidden-the_row-TReceiver-4 hidden
IsValue-CallPointer s t a xs =
    ap (λ (V : Type 0). IsValue s a × (V × (type_of a ≡ ty.Pointer (ty.Function t (row_types (hidden-the_row-TExpr-3 xs)))))) (values_are s xs) ∙ ap (λ (ts : List Ty). IsValue s a × (EachValue s xs × (type_of a ≡ ty.Pointer (ty.Function t ts)))) (types_are xs)

pub IsValue-Print : (s : Scope) (t : Ty) (format : List PrintPiece) (xs : List TExpr) →
    IsValue s (expr.Print t format xs)
    ≡ ((t ≡ ty.Void) × (EachValue s xs × Prints format (map type_of xs)))
unfolding IsValue hidden-the_row-TPlace-0 hidden-the_row-TExpr-1 hidden-the_row-TTarget-2 hidden-the_row-TReceiver-4 hidden
IsValue-Print s t format xs =
    ap (λ (V : Type 0). (t ≡ ty.Void) × (V × Prints format (row_types (hidden-the_row-TExpr-3 xs)))) (values_are s xs) ∙ ap (λ (ts : List Ty). (t ≡ ty.Void) × (EachValue s xs × Prints format ts)) (types_are xs)

pub IsValue-Sequence : (s : Scope) (t : Ty) (xs : List TExpr) (a : TExpr) →
    IsValue s (expr.Sequence t xs a)
    ≡ (EachValue s xs × (IsValue s a × (type_of a ≡ t)))
unfolding IsValue hidden-the_row-TPlace-0 hidden-the_row-TExpr-1 hidden-the_row-TTarget-2 hidden-the_row-TReceiver-4 hidden
IsValue-Sequence s t xs a = ap (λ (V : Type 0). V × (IsValue s a × (type_of a ≡ t))) (values_are s xs)

pub IsValue-Call : (s : Scope) (t : Ty) (number : ℕ) (r : Option TReceiver) (xs : List TExpr) →
    IsValue s (expr.Call t number r xs)
    ≡ ((given : List Ty) × (IsGivenBy s r given × (EachValue s xs × Takes s.names number (given ++ (map type_of xs)) t)))
unfolding IsValue IsGiven hidden-the_row-TPlace-0 hidden-the_row-TExpr-1 hidden-the_row-TTarget-2 hidden-the_row-TReceiver-4 hidden
IsValue-Call s t number None xs =
    ap (λ (V : Type 0). (given : List Ty) × ((given ≡ []) × (V × Takes s.names number (given ++ (row_types (hidden-the_row-TExpr-3 xs))) t))) (values_are s xs) ∙ ap (λ (ts : List Ty). (given : List Ty) × ((given ≡ []) × (EachValue s xs × Takes s.names number (given ++ ts) t))) (types_are xs)
IsValue-Call s t number (Some r) xs =
    ap (λ (V : Type 0). (given : List Ty) × (Gives s r given × (V × Takes s.names number (given ++ (row_types (hidden-the_row-TExpr-3 xs))) t))) (values_are s xs) ∙ ap (λ (ts : List Ty). (given : List Ty) × (Gives s r given × (EachValue s xs × Takes s.names number (given ++ ts) t))) (types_are xs)

pub IsTarget-Parts : (s : Scope) (t : Ty) (xs : List TTarget) →
    IsTarget s (target.Parts t xs)
    ≡ ((is_sound (rows s) t ≡ true) × (EachTarget s xs × (t ≡ ty.Tuple (map target_type xs))))
unfolding IsTarget hidden-the_row-TPlace-0 hidden-the_row-TExpr-1 hidden-the_row-TTarget-2 hidden-the_row-TReceiver-4 hidden
IsTarget-Parts s t xs =
    ap (λ (V : Type 0). (is_sound (rows s) t ≡ true) × (V × (t ≡ ty.Tuple (target_types (hidden-the_row-TTarget-5 xs))))) (targets_are s xs) ∙ ap (λ (ts : List Ty). (is_sound (rows s) t ≡ true) × (EachTarget s xs × (t ≡ ty.Tuple ts))) (target_types_are xs)

pub Gives-Place : (s : Scope) (x : TPlace) (path : List ℕ) (how : Passed) (given : List Ty) →
    Gives s (receiver.Place x path how) given
    ≡ ((t : Ty) × (IsPlace s x × (IsAggregate (place_type x) × (LeadsTo (rows s) path (place_type x) t × (given ≡ passes how t)))))
unfolding Gives hidden-the_row-TPlace-0 hidden-the_row-TExpr-1 hidden-the_row-TTarget-2 hidden-the_row-TReceiver-4 hidden
Gives-Place s x path how given = refl

pub Gives-Value-Address : (s : Scope) (a : TExpr) (path : List ℕ) (given : List Ty) →
    Gives s (receiver.Value a path passed.Address) given
    ≡ (⊥)
unfolding Gives hidden-the_row-TPlace-0 hidden-the_row-TExpr-1 hidden-the_row-TTarget-2 hidden-the_row-TReceiver-4 hidden
Gives-Value-Address s a path given = refl

pub Gives-Value-Value : (s : Scope) (a : TExpr) (path : List ℕ) (given : List Ty) →
    Gives s (receiver.Value a path passed.Value) given
    ≡ ((t : Ty) × (IsValue s a × (IsAggregate (type_of a) × (LeadsTo (rows s) path (type_of a) t × (given ≡ passes passed.Value t)))))
unfolding Gives hidden-the_row-TPlace-0 hidden-the_row-TExpr-1 hidden-the_row-TTarget-2 hidden-the_row-TReceiver-4 hidden
Gives-Value-Value s a path given = refl

pub Gives-Value-Nothing : (s : Scope) (a : TExpr) (path : List ℕ) (given : List Ty) →
    Gives s (receiver.Value a path passed.Nothing) given
    ≡ ((t : Ty) × (IsValue s a × (IsAggregate (type_of a) × (LeadsTo (rows s) path (type_of a) t × (given ≡ passes passed.Nothing t)))))
unfolding Gives hidden-the_row-TPlace-0 hidden-the_row-TExpr-1 hidden-the_row-TTarget-2 hidden-the_row-TReceiver-4 hidden
Gives-Value-Nothing s a path given = refl

pub Gives-Pointer : (s : Scope) (a : TExpr) (path : List ℕ) (how : Passed) (given : List Ty) →
    Gives s (receiver.Pointer a path how) given
    ≡ ((u : Ty) × ((t : Ty) × (IsValue s a × ((type_of a ≡ ty.Pointer u) × (LeadsTo (rows s) path u t × (given ≡ passes how t))))))
unfolding Gives hidden-the_row-TPlace-0 hidden-the_row-TExpr-1 hidden-the_row-TTarget-2 hidden-the_row-TReceiver-4 hidden
Gives-Pointer s a path how given = refl

pub ruleset value_rules = (IsValue-Constant, IsValue-Text, IsValue-Nil, IsValue-Function, IsValue-Load, IsValue-Decay, IsValue-Address, IsValue-SizeofType, IsValue-SizeofPlace, IsValue-SizeofValue, IsValue-Unary, IsValue-Not, IsValue-Binary, IsValue-Logical, IsValue-Move, IsValue-Difference, IsValue-Assign, IsValue-Update, IsValue-Step, IsValue-Zerox, IsValue-Terminate, IsValue-Receive, IsValue-Send, IsValue-CanReceive, IsValue-CanSend, IsValue-MemberOf, IsValue-Cast, IsValue-Convert, IsValue-Iterator, IsPlace-Local, IsPlace-Outer, IsPlace-Global, IsPlace-Pointed, IsPlace-Element, IsPlace-Member, IsPlace-PointedMember, IsTarget-Into, IsTarget-Dropped, IsValue-Tuple, IsValue-CallPointer, IsValue-Print, IsValue-Sequence, IsValue-Call, IsTarget-Parts, Gives-Place, Gives-Value-Address, Gives-Value-Value, Gives-Value-Nothing, Gives-Pointer)
