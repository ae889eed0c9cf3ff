-- What the pieces of each kind of expression, place, target and object add to running sums.
use Rattle.std.proofs.Common.{◌≡◌, ℕ, List, ◌∷◌, ◌++◌, Bool, true, false, Option, Some, None, refl, ap, ◌∙◌}
use Rattle.std.specs.List.{flat_map}
use Rattle.std.proofs.lemmas.List.Sums.{fold-append}
use Rattle.al_base.specs.declared.arith.Kind.{Kind}
use Rattle.al_typed.specs.declared.ty.Ty.{Ty}
use Rattle.al_typed.specs.declared.tally.Tally.{Tally}
use Rattle.al_typed.specs.declared.piece.Piece.{Piece}
use Rattle.al_typed.specs.declared.piece.Piece.TheVariants as piece
use Rattle.al_typed.specs.declared.program.Program.{Program}
use Rattle.al_typed.specs.declared.expression.UnaryOp.{UnaryOp}
use Rattle.al_typed.specs.declared.expression.BinaryOp.{BinaryOp}
use Rattle.al_typed.specs.declared.expression.Logic.{Logic}
use Rattle.al_typed.specs.declared.expression.Movement.{Movement}
use Rattle.al_typed.specs.declared.expression.StepOp.{StepOp}
use Rattle.al_typed.specs.declared.expression.Change.{Change}
use Rattle.al_typed.specs.declared.expression.Passed.{Passed}
use Rattle.al_typed.specs.declared.expression.PrintPiece.{PrintPiece}
use Rattle.al_typed.specs.declared.expression.TExpr.{TExpr, Row_of-TExpr, end_of-TExpr, more_of-TExpr, items-the_row-TExpr, items_hidden-the_row-TExpr-3, Row_of-TTarget, end_of-TTarget, more_of-TTarget, items-the_row-TTarget, items_hidden-the_row-TTarget-5}
use Rattle.al_typed.specs.declared.expression.TExpr.TheBlock.{hidden-the_row-TPlace-0, hidden-the_row-TExpr-1, hidden-the_row-TTarget-2, hidden-the_row-TExpr-3, hidden-the_row-TReceiver-4, hidden-the_row-TTarget-5}
use Rattle.al_typed.specs.declared.expression.TExpr.TheVariants as expr
use Rattle.al_typed.specs.declared.expression.TPlace.{TPlace}
use Rattle.al_typed.specs.declared.expression.TPlace.TheVariants as place
use Rattle.al_typed.specs.declared.expression.TTarget.{TTarget}
use Rattle.al_typed.specs.declared.expression.TTarget.TheVariants as target
use Rattle.al_typed.specs.declared.expression.TReceiver.{TReceiver}
use Rattle.al_typed.specs.declared.expression.TReceiver.TheVariants as receiver
use denote.Hole.Carrier.{hidden}
use Rattle.al_typed.specs.Typed.{type_of}
use Rattle.al_typed.specs.Measures.{pieces, place_pieces, target_pieces, targets_pieces, receiver_pieces, object_pieces, row_pieces, copied_pieces, whole_pieces, argument_pieces, given_pieces, is_named, format_length, node, counted, tallied}

pub tallied-append : (p : Program) (s : Tally) (xs ys : List Piece) → tallied p s (xs ++ ys) ≡ tallied p (tallied p s xs) ys
unfolding tallied
tallied-append p s xs ys = fold-append (counted p) s xs ys

-- ---- rows of parts as lists

row_items : {m : _} (row : Row_of-TExpr m) → row_pieces row ≡ flat_map whole_pieces (items-the_row-TExpr m row)
unfolding row_pieces
row_items end_of-TExpr = refl
row_items (more_of-TExpr a rest) = ap (λ l. pieces false a ++ l) (row_items rest)

pub row_is : (xs : List TExpr) → row_pieces (hidden-the_row-TExpr-3 xs) ≡ flat_map whole_pieces xs
row_is xs = row_items (hidden-the_row-TExpr-3 xs) ∙ ap (flat_map whole_pieces) (items_hidden-the_row-TExpr-3 xs)

copied_items : {m : _} (row : Row_of-TExpr m) → copied_pieces row ≡ flat_map argument_pieces (items-the_row-TExpr m row)
unfolding copied_pieces
copied_items end_of-TExpr = refl
copied_items (more_of-TExpr a rest) = ap (λ l. (piece.Copied (type_of a) ∷ pieces false a) ++ l) (copied_items rest)

pub copied_is : (xs : List TExpr) → copied_pieces (hidden-the_row-TExpr-3 xs) ≡ flat_map argument_pieces xs
copied_is xs = copied_items (hidden-the_row-TExpr-3 xs) ∙ ap (flat_map argument_pieces) (items_hidden-the_row-TExpr-3 xs)

targets_items : {m : _} (row : Row_of-TTarget m) → targets_pieces row ≡ flat_map target_pieces (items-the_row-TTarget m row)
unfolding targets_pieces
targets_items end_of-TTarget = refl
targets_items (more_of-TTarget a rest) = ap (λ l. target_pieces a ++ l) (targets_items rest)

pub targets_is : (xs : List TTarget) → targets_pieces (hidden-the_row-TTarget-5 xs) ≡ flat_map target_pieces xs
targets_is xs = targets_items (hidden-the_row-TTarget-5 xs) ∙ ap (flat_map target_pieces) (items_hidden-the_row-TTarget-5 xs)

-- ---- one equation for each variant

pub tallied-Constant : (p : Program) (s : Tally) (named : Bool) (t : Ty) (bits : ℕ) →
    tallied p s (pieces named (expr.Constant t bits))
    ≡ counted p s (node named t)
unfolding tallied pieces hidden-the_row-TPlace-0 hidden-the_row-TExpr-1 hidden-the_row-TTarget-2 hidden-the_row-TReceiver-4 hidden
tallied-Constant p s named t bits = refl

pub tallied-Text : (p : Program) (s : Tally) (named : Bool) (t : Ty) (number : ℕ) →
    tallied p s (pieces named (expr.Text t number))
    ≡ counted p (counted p s (node named t)) (piece.Text number)
unfolding tallied pieces hidden-the_row-TPlace-0 hidden-the_row-TExpr-1 hidden-the_row-TTarget-2 hidden-the_row-TReceiver-4 hidden
tallied-Text p s named t number = refl

pub tallied-Nil : (p : Program) (s : Tally) (named : Bool) (t : Ty) →
    tallied p s (pieces named (expr.Nil t))
    ≡ counted p s (node named t)
unfolding tallied pieces hidden-the_row-TPlace-0 hidden-the_row-TExpr-1 hidden-the_row-TTarget-2 hidden-the_row-TReceiver-4 hidden
tallied-Nil p s named t = refl

pub tallied-Function : (p : Program) (s : Tally) (named : Bool) (t : Ty) (number : ℕ) →
    tallied p s (pieces named (expr.Function t number))
    ≡ counted p s (node named t)
unfolding tallied pieces hidden-the_row-TPlace-0 hidden-the_row-TExpr-1 hidden-the_row-TTarget-2 hidden-the_row-TReceiver-4 hidden
tallied-Function p s named t number = refl

pub tallied-Load : (p : Program) (s : Tally) (named : Bool) (t : Ty) (x : TPlace) →
    tallied p s (pieces named (expr.Load t x))
    ≡ tallied p s (place_pieces named x)
unfolding tallied pieces hidden-the_row-TPlace-0 hidden-the_row-TExpr-1 hidden-the_row-TTarget-2 hidden-the_row-TReceiver-4 hidden
tallied-Load p s named t x = refl

pub tallied-Decay : (p : Program) (s : Tally) (named : Bool) (t : Ty) (x : TPlace) →
    tallied p s (pieces named (expr.Decay t x))
    ≡ tallied p s (place_pieces named x)
unfolding tallied pieces hidden-the_row-TPlace-0 hidden-the_row-TExpr-1 hidden-the_row-TTarget-2 hidden-the_row-TReceiver-4 hidden
tallied-Decay p s named t x = refl

pub tallied-Address : (p : Program) (s : Tally) (named : Bool) (t : Ty) (x : TPlace) →
    tallied p s (pieces named (expr.Address t x))
    ≡ tallied p (counted p s (node named t)) (place_pieces true x)
unfolding tallied pieces hidden-the_row-TPlace-0 hidden-the_row-TExpr-1 hidden-the_row-TTarget-2 hidden-the_row-TReceiver-4 hidden
tallied-Address p s named t x = refl

pub tallied-SizeofType : (p : Program) (s : Tally) (named : Bool) (t : Ty) (of : Ty) →
    tallied p s (pieces named (expr.SizeofType t of))
    ≡ counted p s (node named t)
unfolding tallied pieces hidden-the_row-TPlace-0 hidden-the_row-TExpr-1 hidden-the_row-TTarget-2 hidden-the_row-TReceiver-4 hidden
tallied-SizeofType p s named t of = refl

pub tallied-SizeofPlace : (p : Program) (s : Tally) (named : Bool) (t : Ty) (x : TPlace) →
    tallied p s (pieces named (expr.SizeofPlace t x))
    ≡ tallied p (counted p s (node named t)) (place_pieces true x)
unfolding tallied pieces hidden-the_row-TPlace-0 hidden-the_row-TExpr-1 hidden-the_row-TTarget-2 hidden-the_row-TReceiver-4 hidden
tallied-SizeofPlace p s named t x = refl

pub tallied-SizeofValue : (p : Program) (s : Tally) (named : Bool) (t : Ty) (a : TExpr) →
    tallied p s (pieces named (expr.SizeofValue t a))
    ≡ tallied p (counted p s (node named t)) (pieces true a)
unfolding tallied pieces hidden-the_row-TPlace-0 hidden-the_row-TExpr-1 hidden-the_row-TTarget-2 hidden-the_row-TReceiver-4 hidden
tallied-SizeofValue p s named t a = refl

pub tallied-Unary : (p : Program) (s : Tally) (named : Bool) (t : Ty) (op : UnaryOp) (a : TExpr) →
    tallied p s (pieces named (expr.Unary t op a))
    ≡ tallied p (counted p s (node named t)) (pieces false a)
unfolding tallied pieces hidden-the_row-TPlace-0 hidden-the_row-TExpr-1 hidden-the_row-TTarget-2 hidden-the_row-TReceiver-4 hidden
tallied-Unary p s named t op a = refl

pub tallied-Not : (p : Program) (s : Tally) (named : Bool) (t : Ty) (a : TExpr) →
    tallied p s (pieces named (expr.Not t a))
    ≡ tallied p (counted p s (node named t)) (pieces false a)
unfolding tallied pieces hidden-the_row-TPlace-0 hidden-the_row-TExpr-1 hidden-the_row-TTarget-2 hidden-the_row-TReceiver-4 hidden
tallied-Not p s named t a = refl

pub tallied-Binary : (p : Program) (s : Tally) (named : Bool) (t : Ty) (op : BinaryOp) (k : Kind) (a : TExpr) (b : TExpr) →
    tallied p s (pieces named (expr.Binary t op k a b))
    ≡ tallied p (tallied p (counted p s (node named t)) (pieces false a)) (pieces false b)
unfolding tallied pieces hidden-the_row-TPlace-0 hidden-the_row-TExpr-1 hidden-the_row-TTarget-2 hidden-the_row-TReceiver-4 hidden
tallied-Binary p s named t op k a b = tallied-append p s ((node named t) ∷ (pieces false a)) (pieces false b)

pub tallied-Logical : (p : Program) (s : Tally) (named : Bool) (t : Ty) (op : Logic) (a : TExpr) (b : TExpr) →
    tallied p s (pieces named (expr.Logical t op a b))
    ≡ tallied p (tallied p (counted p s (node named t)) (pieces false a)) (pieces false b)
unfolding tallied pieces hidden-the_row-TPlace-0 hidden-the_row-TExpr-1 hidden-the_row-TTarget-2 hidden-the_row-TReceiver-4 hidden
tallied-Logical p s named t op a b = tallied-append p s ((node named t) ∷ (pieces false a)) (pieces false b)

pub tallied-Move : (p : Program) (s : Tally) (named : Bool) (t : Ty) (how : Movement) (a : TExpr) (b : TExpr) →
    tallied p s (pieces named (expr.Move t how a b))
    ≡ tallied p (tallied p (counted p s (node named t)) (pieces false a)) (pieces false b)
unfolding tallied pieces hidden-the_row-TPlace-0 hidden-the_row-TExpr-1 hidden-the_row-TTarget-2 hidden-the_row-TReceiver-4 hidden
tallied-Move p s named t how a b = tallied-append p s ((node named t) ∷ (pieces false a)) (pieces false b)

pub tallied-Difference : (p : Program) (s : Tally) (named : Bool) (t : Ty) (a : TExpr) (b : TExpr) →
    tallied p s (pieces named (expr.Difference t a b))
    ≡ tallied p (tallied p (counted p s (node named t)) (pieces false a)) (pieces false b)
unfolding tallied pieces hidden-the_row-TPlace-0 hidden-the_row-TExpr-1 hidden-the_row-TTarget-2 hidden-the_row-TReceiver-4 hidden
tallied-Difference p s named t a b = tallied-append p s ((node named t) ∷ (pieces false a)) (pieces false b)

pub tallied-Assign : (p : Program) (s : Tally) (named : Bool) (t : Ty) (x : TTarget) (a : TExpr) →
    tallied p s (pieces named (expr.Assign t x a))
    ≡ tallied p (tallied p (counted p (counted p s (node named t)) (piece.Copied t)) (target_pieces x)) (pieces false a)
unfolding tallied pieces hidden-the_row-TPlace-0 hidden-the_row-TExpr-1 hidden-the_row-TTarget-2 hidden-the_row-TReceiver-4 hidden
tallied-Assign p s named t x a = tallied-append p s ((node named t) ∷ (piece.Copied t) ∷ (target_pieces x)) (pieces false a)

pub tallied-Update : (p : Program) (s : Tally) (named : Bool) (t : Ty) (x : TPlace) (how : Change) (a : TExpr) →
    tallied p s (pieces named (expr.Update t x how a))
    ≡ tallied p (tallied p (counted p s (node named t)) (place_pieces false x)) (pieces false a)
unfolding tallied pieces hidden-the_row-TPlace-0 hidden-the_row-TExpr-1 hidden-the_row-TTarget-2 hidden-the_row-TReceiver-4 hidden
tallied-Update p s named t x how a = tallied-append p s ((node named t) ∷ (place_pieces false x)) (pieces false a)

pub tallied-Step : (p : Program) (s : Tally) (named : Bool) (t : Ty) (op : StepOp) (x : TPlace) →
    tallied p s (pieces named (expr.Step t op x))
    ≡ tallied p (counted p s (node named t)) (place_pieces false x)
unfolding tallied pieces hidden-the_row-TPlace-0 hidden-the_row-TExpr-1 hidden-the_row-TTarget-2 hidden-the_row-TReceiver-4 hidden
tallied-Step p s named t op x = refl

pub tallied-Zerox : (p : Program) (s : Tally) (named : Bool) (t : Ty) (x : TPlace) →
    tallied p s (pieces named (expr.Zerox t x))
    ≡ tallied p (counted p s (node named t)) (place_pieces false x)
unfolding tallied pieces hidden-the_row-TPlace-0 hidden-the_row-TExpr-1 hidden-the_row-TTarget-2 hidden-the_row-TReceiver-4 hidden
tallied-Zerox p s named t x = refl

pub tallied-Tuple : (p : Program) (s : Tally) (named : Bool) (t : Ty) (xs : List TExpr) →
    tallied p s (pieces named (expr.Tuple t xs))
    ≡ tallied p (counted p s (node named t)) (flat_map whole_pieces xs)
unfolding tallied pieces hidden-the_row-TPlace-0 hidden-the_row-TExpr-1 hidden-the_row-TTarget-2 hidden-the_row-TReceiver-4 hidden
tallied-Tuple p s named t xs = ap (λ l. tallied p (counted p s (node named t)) l) (row_is xs)

pub tallied-CallPointer : (p : Program) (s : Tally) (named : Bool) (t : Ty) (a : TExpr) (xs : List TExpr) →
    tallied p s (pieces named (expr.CallPointer t a xs))
    ≡ tallied p (tallied p (counted p (counted p s (node named t)) (piece.Copied t)) (pieces false a)) (flat_map argument_pieces xs)
unfolding tallied pieces hidden-the_row-TPlace-0 hidden-the_row-TExpr-1 hidden-the_row-TTarget-2 hidden-the_row-TReceiver-4 hidden
tallied-CallPointer p s named t a xs = tallied-append p s ((node named t) ∷ (piece.Copied t) ∷ (pieces false a)) (copied_pieces (hidden-the_row-TExpr-3 xs)) ∙ ap (λ l. tallied p (tallied p (counted p (counted p s (node named t)) (piece.Copied t)) (pieces false a)) l) (copied_is xs)

pub tallied-Print : (p : Program) (s : Tally) (named : Bool) (t : Ty) (format : List PrintPiece) (xs : List TExpr) →
    tallied p s (pieces named (expr.Print t format xs))
    ≡ tallied p (counted p (counted p (counted p s (node named t)) piece.Named) (piece.Format (format_length format))) (flat_map whole_pieces xs)
unfolding tallied pieces hidden-the_row-TPlace-0 hidden-the_row-TExpr-1 hidden-the_row-TTarget-2 hidden-the_row-TReceiver-4 hidden
tallied-Print p s named t format xs = ap (λ l. tallied p (counted p (counted p (counted p s (node named t)) piece.Named) (piece.Format (format_length format))) l) (row_is xs)

pub tallied-Terminate : (p : Program) (s : Tally) (named : Bool) (t : Ty) (a : TExpr) →
    tallied p s (pieces named (expr.Terminate t a))
    ≡ tallied p (counted p s (node named t)) (pieces false a)
unfolding tallied pieces hidden-the_row-TPlace-0 hidden-the_row-TExpr-1 hidden-the_row-TTarget-2 hidden-the_row-TReceiver-4 hidden
tallied-Terminate p s named t a = refl

pub tallied-Receive : (p : Program) (s : Tally) (named : Bool) (t : Ty) (a : TExpr) →
    tallied p s (pieces named (expr.Receive t a))
    ≡ tallied p (counted p (counted p (counted p s (node named t)) (piece.Talk t)) (piece.Copied t)) (pieces false a)
unfolding tallied pieces hidden-the_row-TPlace-0 hidden-the_row-TExpr-1 hidden-the_row-TTarget-2 hidden-the_row-TReceiver-4 hidden
tallied-Receive p s named t a = refl

pub tallied-Send : (p : Program) (s : Tally) (named : Bool) (t : Ty) (a : TExpr) (b : TExpr) →
    tallied p s (pieces named (expr.Send t a b))
    ≡ tallied p (tallied p (counted p (counted p (counted p s (node named t)) (piece.Talk (type_of b))) (piece.Copied (type_of b))) (pieces false a)) (pieces false b)
unfolding tallied pieces hidden-the_row-TPlace-0 hidden-the_row-TExpr-1 hidden-the_row-TTarget-2 hidden-the_row-TReceiver-4 hidden
tallied-Send p s named t a b = tallied-append p s ((node named t) ∷ (piece.Talk (type_of b)) ∷ (piece.Copied (type_of b)) ∷ (pieces false a)) (pieces false b)

pub tallied-CanReceive : (p : Program) (s : Tally) (named : Bool) (t : Ty) (a : TExpr) →
    tallied p s (pieces named (expr.CanReceive t a))
    ≡ tallied p (counted p s (node named t)) (pieces false a)
unfolding tallied pieces hidden-the_row-TPlace-0 hidden-the_row-TExpr-1 hidden-the_row-TTarget-2 hidden-the_row-TReceiver-4 hidden
tallied-CanReceive p s named t a = refl

pub tallied-CanSend : (p : Program) (s : Tally) (named : Bool) (t : Ty) (a : TExpr) →
    tallied p s (pieces named (expr.CanSend t a))
    ≡ tallied p (counted p s (node named t)) (pieces false a)
unfolding tallied pieces hidden-the_row-TPlace-0 hidden-the_row-TExpr-1 hidden-the_row-TTarget-2 hidden-the_row-TReceiver-4 hidden
tallied-CanSend p s named t a = refl

pub tallied-MemberOf : (p : Program) (s : Tally) (named : Bool) (t : Ty) (a : TExpr) (path : List ℕ) →
    tallied p s (pieces named (expr.MemberOf t a path))
    ≡ tallied p (counted p s (node named t)) (pieces false a)
unfolding tallied pieces hidden-the_row-TPlace-0 hidden-the_row-TExpr-1 hidden-the_row-TTarget-2 hidden-the_row-TReceiver-4 hidden
tallied-MemberOf p s named t a path = refl

pub tallied-Cast : (p : Program) (s : Tally) (named : Bool) (t : Ty) (a : TExpr) →
    tallied p s (pieces named (expr.Cast t a))
    ≡ tallied p (counted p s (node named t)) (pieces false a)
unfolding tallied pieces hidden-the_row-TPlace-0 hidden-the_row-TExpr-1 hidden-the_row-TTarget-2 hidden-the_row-TReceiver-4 hidden
tallied-Cast p s named t a = refl

pub tallied-Convert : (p : Program) (s : Tally) (named : Bool) (t : Ty) (a : TExpr) →
    tallied p s (pieces named (expr.Convert t a))
    ≡ tallied p s (pieces named a)
unfolding tallied pieces hidden-the_row-TPlace-0 hidden-the_row-TExpr-1 hidden-the_row-TTarget-2 hidden-the_row-TReceiver-4 hidden
tallied-Convert p s named t a = refl

pub tallied-Sequence : (p : Program) (s : Tally) (named : Bool) (t : Ty) (xs : List TExpr) (a : TExpr) →
    tallied p s (pieces named (expr.Sequence t xs a))
    ≡ tallied p (tallied p (counted p s (node named t)) (flat_map whole_pieces xs)) (pieces false a)
unfolding tallied pieces hidden-the_row-TPlace-0 hidden-the_row-TExpr-1 hidden-the_row-TTarget-2 hidden-the_row-TReceiver-4 hidden
tallied-Sequence p s named t xs a = tallied-append p s ((node named t) ∷ (row_pieces (hidden-the_row-TExpr-3 xs))) (pieces false a) ∙ ap (λ l. tallied p (tallied p (counted p s (node named t)) l) (pieces false a)) (row_is xs)

pub tallied-Iterator : (p : Program) (s : Tally) (named : Bool) (t : Ty) (number : ℕ) →
    tallied p s (pieces named (expr.Iterator t number))
    ≡ counted p (counted p s (node named t)) piece.Iterator
unfolding tallied pieces hidden-the_row-TPlace-0 hidden-the_row-TExpr-1 hidden-the_row-TTarget-2 hidden-the_row-TReceiver-4 hidden
tallied-Iterator p s named t number = refl

pub tallied-TPlace-Local : (p : Program) (s : Tally) (named : Bool) (t : Ty) (number : ℕ) →
    tallied p s (place_pieces named (place.Local t number))
    ≡ counted p s (node named t)
unfolding tallied place_pieces hidden-the_row-TPlace-0 hidden-the_row-TExpr-1 hidden-the_row-TTarget-2 hidden-the_row-TReceiver-4 hidden
tallied-TPlace-Local p s named t number = refl

pub tallied-TPlace-Outer : (p : Program) (s : Tally) (named : Bool) (t : Ty) (around : ℕ) (number : ℕ) →
    tallied p s (place_pieces named (place.Outer t around number))
    ≡ counted p s (node named t)
unfolding tallied place_pieces hidden-the_row-TPlace-0 hidden-the_row-TExpr-1 hidden-the_row-TTarget-2 hidden-the_row-TReceiver-4 hidden
tallied-TPlace-Outer p s named t around number = refl

pub tallied-TPlace-Global : (p : Program) (s : Tally) (named : Bool) (t : Ty) (number : ℕ) →
    tallied p s (place_pieces named (place.Global t number))
    ≡ counted p s (node named t)
unfolding tallied place_pieces hidden-the_row-TPlace-0 hidden-the_row-TExpr-1 hidden-the_row-TTarget-2 hidden-the_row-TReceiver-4 hidden
tallied-TPlace-Global p s named t number = refl

pub tallied-TPlace-Pointed : (p : Program) (s : Tally) (named : Bool) (t : Ty) (a : TExpr) →
    tallied p s (place_pieces named (place.Pointed t a))
    ≡ tallied p (counted p s (node named t)) (pieces false a)
unfolding tallied place_pieces hidden-the_row-TPlace-0 hidden-the_row-TExpr-1 hidden-the_row-TTarget-2 hidden-the_row-TReceiver-4 hidden
tallied-TPlace-Pointed p s named t a = refl

pub tallied-TPlace-Element : (p : Program) (s : Tally) (named : Bool) (t : Ty) (a : TExpr) (b : TExpr) →
    tallied p s (place_pieces named (place.Element t a b))
    ≡ tallied p (tallied p (counted p s (node named t)) (pieces false a)) (pieces false b)
unfolding tallied place_pieces hidden-the_row-TPlace-0 hidden-the_row-TExpr-1 hidden-the_row-TTarget-2 hidden-the_row-TReceiver-4 hidden
tallied-TPlace-Element p s named t a b = tallied-append p s ((node named t) ∷ (pieces false a)) (pieces false b)

pub tallied-TPlace-Member : (p : Program) (s : Tally) (named : Bool) (t : Ty) (x : TPlace) (path : List ℕ) →
    tallied p s (place_pieces named (place.Member t x path))
    ≡ tallied p (counted p s (node named t)) (place_pieces true x)
unfolding tallied place_pieces hidden-the_row-TPlace-0 hidden-the_row-TExpr-1 hidden-the_row-TTarget-2 hidden-the_row-TReceiver-4 hidden
tallied-TPlace-Member p s named t x path = refl

pub tallied-TPlace-PointedMember : (p : Program) (s : Tally) (named : Bool) (t : Ty) (a : TExpr) (path : List ℕ) →
    tallied p s (place_pieces named (place.PointedMember t a path))
    ≡ tallied p (counted p s (node named t)) (pieces false a)
unfolding tallied place_pieces hidden-the_row-TPlace-0 hidden-the_row-TExpr-1 hidden-the_row-TTarget-2 hidden-the_row-TReceiver-4 hidden
tallied-TPlace-PointedMember p s named t a path = refl

pub tallied-TTarget-Into : (p : Program) (s : Tally) (x : TPlace) →
    tallied p s (target_pieces (target.Into x))
    ≡ tallied p s (place_pieces false x)
unfolding tallied target_pieces hidden-the_row-TPlace-0 hidden-the_row-TExpr-1 hidden-the_row-TTarget-2 hidden-the_row-TReceiver-4 hidden
tallied-TTarget-Into p s x = refl

pub tallied-TTarget-Dropped : (p : Program) (s : Tally) (t : Ty) →
    tallied p s (target_pieces (target.Dropped t))
    ≡ counted p s (piece.Value t)
unfolding tallied target_pieces hidden-the_row-TPlace-0 hidden-the_row-TExpr-1 hidden-the_row-TTarget-2 hidden-the_row-TReceiver-4 hidden
tallied-TTarget-Dropped p s t = refl

pub tallied-TTarget-Parts : (p : Program) (s : Tally) (t : Ty) (xs : List TTarget) →
    tallied p s (target_pieces (target.Parts t xs))
    ≡ tallied p (counted p s (piece.Value t)) (flat_map target_pieces xs)
unfolding tallied target_pieces hidden-the_row-TPlace-0 hidden-the_row-TExpr-1 hidden-the_row-TTarget-2 hidden-the_row-TReceiver-4 hidden
tallied-TTarget-Parts p s t xs = ap (λ l. tallied p (counted p s (piece.Value t)) l) (targets_is xs)

pub tallied-TReceiver-Place : (p : Program) (s : Tally) (x : TPlace) (path : List ℕ) (how : Passed) →
    tallied p s (object_pieces (receiver.Place x path how))
    ≡ tallied p s (place_pieces (is_named how) x)
unfolding tallied object_pieces hidden-the_row-TPlace-0 hidden-the_row-TExpr-1 hidden-the_row-TTarget-2 hidden-the_row-TReceiver-4 hidden
tallied-TReceiver-Place p s x path how = refl

pub tallied-TReceiver-Value : (p : Program) (s : Tally) (a : TExpr) (path : List ℕ) (how : Passed) →
    tallied p s (object_pieces (receiver.Value a path how))
    ≡ tallied p s (pieces false a)
unfolding tallied object_pieces hidden-the_row-TPlace-0 hidden-the_row-TExpr-1 hidden-the_row-TTarget-2 hidden-the_row-TReceiver-4 hidden
tallied-TReceiver-Value p s a path how = refl

pub tallied-TReceiver-Pointer : (p : Program) (s : Tally) (a : TExpr) (path : List ℕ) (how : Passed) →
    tallied p s (object_pieces (receiver.Pointer a path how))
    ≡ tallied p s (pieces false a)
unfolding tallied object_pieces hidden-the_row-TPlace-0 hidden-the_row-TExpr-1 hidden-the_row-TTarget-2 hidden-the_row-TReceiver-4 hidden
tallied-TReceiver-Pointer p s a path how = refl

pub tallied-Call : (p : Program) (s : Tally) (named : Bool) (t : Ty) (number : ℕ) (r : Option TReceiver) (xs : List TExpr) →
    tallied p s (pieces named (expr.Call t number r xs))
    ≡ tallied p (tallied p (counted p s (node named t)) (given_pieces r)) (flat_map whole_pieces xs)
unfolding tallied pieces receiver_pieces hidden-the_row-TPlace-0 hidden-the_row-TExpr-1 hidden-the_row-TTarget-2 hidden-the_row-TReceiver-4 hidden
tallied-Call p s named t number None xs = ap (λ l. tallied p (counted p s (node named t)) l) (row_is xs)
tallied-Call p s named t number (Some r) xs =
    tallied-append p s (node named t ∷ object_pieces r) (row_pieces (hidden-the_row-TExpr-3 xs))
    ∙ ap (λ l. tallied p (tallied p (counted p s (node named t)) (object_pieces r)) l) (row_is xs)

pub ruleset expression_tallies = (tallied-Constant, tallied-Text, tallied-Nil, tallied-Function, tallied-Load, tallied-Decay, tallied-Address, tallied-SizeofType, tallied-SizeofPlace, tallied-SizeofValue, tallied-Unary, tallied-Not, tallied-Binary, tallied-Logical, tallied-Move, tallied-Difference, tallied-Assign, tallied-Update, tallied-Step, tallied-Zerox, tallied-Tuple, tallied-CallPointer, tallied-Print, tallied-Terminate, tallied-Receive, tallied-Send, tallied-CanReceive, tallied-CanSend, tallied-MemberOf, tallied-Cast, tallied-Convert, tallied-Sequence, tallied-Iterator, tallied-TPlace-Local, tallied-TPlace-Outer, tallied-TPlace-Global, tallied-TPlace-Pointed, tallied-TPlace-Element, tallied-TPlace-Member, tallied-TPlace-PointedMember, tallied-TTarget-Into, tallied-TTarget-Dropped, tallied-TTarget-Parts, tallied-TReceiver-Place, tallied-TReceiver-Value, tallied-TReceiver-Pointer, tallied-Call)
