-- What evaluating each kind of expression does.
use Rattle.std.proofs.Common.{◌≡◌, ℕ, List, [], ◌∷◌, ◌++◌, map, length, Bool, true, false, Option, Result, Ok, Err, IfOk, IfErr, refl, sym, ap, subst, ◌∙◌, ◌<◌, ◌^◌}
use Rattle.std.specs.Prelude.{slice_index}
use Rattle.std.specs.List.{flat_map}
use Rattle.al_base.specs.Arith.{width_of}
use Rattle.al_base.specs.declared.arith.Kind.{Kind}
use Rattle.al_typed.specs.declared.ty.Ty.{Ty}
use Rattle.al_typed.specs.declared.expression.UnaryOp.{UnaryOp}
use Rattle.al_typed.specs.declared.expression.BinaryOp.{BinaryOp}
use Rattle.al_typed.specs.declared.expression.Logic.{Logic}
use Rattle.al_typed.specs.declared.expression.Logic.TheVariants as logic
use Rattle.al_typed.specs.declared.expression.Movement.{Movement}
use Rattle.al_typed.specs.declared.expression.Movement.TheVariants as movement
use Rattle.al_typed.specs.declared.expression.PrintPiece.{PrintPiece}
use Rattle.al_typed.specs.declared.expression.TReceiver.{TReceiver}
use Rattle.al_typed.specs.declared.program.Program.{Program}
use Rattle.al_typed.specs.declared.expression.StepOp.{StepOp}
use Rattle.al_typed.specs.declared.expression.Change.{Change}
use Rattle.al_typed.specs.declared.expression.TExpr.{TExpr, Row_of-TExpr, end_of-TExpr, more_of-TExpr, items-the_row-TExpr, items_hidden-the_row-TExpr-3}
use Rattle.al_typed.specs.declared.expression.TExpr.TheBlock.{hidden-the_row-TPlace-0, hidden-the_row-TExpr-1, hidden-the_row-TTarget-2, hidden-the_row-TExpr-3}
use Rattle.al_typed.specs.declared.expression.TExpr.TheVariants as expr
use Rattle.al_typed.specs.declared.expression.TPlace.{TPlace}
use Rattle.al_typed.specs.declared.expression.TTarget.{TTarget}
use denote.Hole.Carrier.{hidden}
use Rattle.al_typed.specs.Typed.{type_of, place_type}
use Rattle.al_meaning.specs.Words.{integer_words}
use Rattle.al_meaning.specs.Places.{text_place, function_address}
use Rattle.al_meaning.specs.Shown.{kind_of}
use Rattle.al_meaning.specs.Items.{Work, Eval, Find, Aim, Unary, Negate, Binary, AndThen, OrElse, Advance, AdvanceCounted, Between, Convert, Part, AddressOf, Join, Read, Look, Assign, Update, Step, Clear, Invoke, InvokePointer, Terminates, Receives, Sends, CanReceives, CanSends}
use Rattle.al_meaning.specs.Parts.{exprs}
use Rattle.al_meaning.specs.Here.{Here, Next as NextStep, does, gives, pointee, size_in}
use Rattle.al_meaning.specs.Evaluate.{and_dropped, eval}
use Rattle.al_meaning.specs.Calls.{call_work, evaluated}
use Rattle.al_control_values.specs.Fits.{IsSmall}
use Rattle.al_control.specs.declared.control.Next.{Next}
use Rattle.al_control.specs.declared.unmade.Unmade.{Unmade}
use Rattle.al_control.specs.Fits.{Explains}
use Rattle.al_control.specs.Models.{gather_of, next_of}
use Rattle.al_walk_values.specs.Fits.{CallFits, Fits}

exprs_items : {m : _} (row : Row_of-TExpr m) → exprs row ≡ items-the_row-TExpr m row
exprs_items end_of-TExpr = refl
exprs_items (more_of-TExpr e rest) = ap (λ es. e ∷ es) (exprs_items rest)

pub exprs_are : (xs : List TExpr) → exprs (hidden-the_row-TExpr-3 xs) ≡ xs
exprs_are xs = exprs_items (hidden-the_row-TExpr-3 xs) ∙ items_hidden-the_row-TExpr-3 xs

pub eval-Constant : (t : Ty) (bits : ℕ) (h : Here) → eval (expr.Constant t bits) h ≡ gives h (integer_words (kind_of t) bits)
eval-Constant t bits h = refl

pub eval-Text : (t : Ty) (number : ℕ) (h : Here) → eval (expr.Text t number) h ≡ gives h (text_place h.program number ∷ [])
eval-Text t number h = refl

pub eval-Nil : (t : Ty) (h : Here) → eval (expr.Nil t) h ≡ gives h (0 ∷ [])
eval-Nil t h = refl

pub eval-Function : (t : Ty) (number : ℕ) (h : Here) → eval (expr.Function t number) h ≡ gives h (function_address number ∷ [])
eval-Function t number h = refl

pub eval-Load : (t : Ty) (place : TPlace) (h : Here) → eval (expr.Load t place) h ≡ does h (Find place ∷ Read t ∷ [])
unfolding hidden-the_row-TPlace-0 hidden
eval-Load t place h = refl

pub eval-Decay : (t : Ty) (place : TPlace) (h : Here) → eval (expr.Decay t place) h ≡ does h (Find place ∷ AddressOf ∷ [])
unfolding hidden-the_row-TPlace-0 hidden
eval-Decay t place h = refl

pub eval-Address : (t : Ty) (place : TPlace) (h : Here) → eval (expr.Address t place) h ≡ does h (Find place ∷ AddressOf ∷ [])
unfolding hidden-the_row-TPlace-0 hidden
eval-Address t place h = refl

pub eval-SizeofType : (t of : Ty) (h : Here) → eval (expr.SizeofType t of) h ≡ gives h (size_in h.program of ∷ [])
eval-SizeofType t of h = refl

pub eval-SizeofPlace : (t : Ty) (place : TPlace) (h : Here) →
    eval (expr.SizeofPlace t place) h ≡ gives h (size_in h.program (place_type place) ∷ [])
unfolding hidden-the_row-TPlace-0 hidden
eval-SizeofPlace t place h = refl

pub eval-SizeofValue : (t : Ty) (value : TExpr) (h : Here) →
    eval (expr.SizeofValue t value) h ≡ gives h (size_in h.program (type_of value) ∷ [])
unfolding hidden-the_row-TExpr-1 hidden
eval-SizeofValue t value h = refl

pub eval-Unary : (t : Ty) (op : UnaryOp) (of : TExpr) (h : Here) → eval (expr.Unary t op of) h ≡ does h (Eval of ∷ Unary op (kind_of t) ∷ [])
unfolding hidden-the_row-TExpr-1 hidden
eval-Unary t op of h = refl

pub eval-Not : (t : Ty) (of : TExpr) (h : Here) → eval (expr.Not t of) h ≡ does h (Eval of ∷ Negate ∷ [])
unfolding hidden-the_row-TExpr-1 hidden
eval-Not t of h = refl

pub eval-Binary : (t : Ty) (op : BinaryOp) (kind : Kind) (left right : TExpr) (h : Here) →
    eval (expr.Binary t op kind left right) h ≡ does h (Eval left ∷ Eval right ∷ Binary op kind ∷ [])
unfolding hidden-the_row-TExpr-1 hidden
eval-Binary t op kind left right h = refl

pub eval-And : (t : Ty) (left right : TExpr) (h : Here) →
    eval (expr.Logical t logic.And left right) h ≡ does h (Eval left ∷ AndThen right ∷ [])
unfolding hidden-the_row-TExpr-1 hidden
eval-And t left right h = refl

pub eval-Or : (t : Ty) (left right : TExpr) (h : Here) →
    eval (expr.Logical t logic.Or left right) h ≡ does h (Eval left ∷ OrElse right ∷ [])
unfolding hidden-the_row-TExpr-1 hidden
eval-Or t left right h = refl

pub eval-Forward : (t : Ty) (pointer count : TExpr) (h : Here) →
    eval (expr.Move t movement.Forward pointer count) h
    ≡ does h (Eval pointer ∷ Eval count ∷ Advance false (size_in h.program (pointee t)) ∷ [])
unfolding hidden-the_row-TExpr-1 hidden
eval-Forward t pointer count h = refl

pub eval-CountFirst : (t : Ty) (pointer count : TExpr) (h : Here) →
    eval (expr.Move t movement.CountFirst pointer count) h
    ≡ does h (Eval count ∷ Eval pointer ∷ AdvanceCounted (size_in h.program (pointee t)) ∷ [])
unfolding hidden-the_row-TExpr-1 hidden
eval-CountFirst t pointer count h = refl

pub eval-Back : (t : Ty) (pointer count : TExpr) (h : Here) →
    eval (expr.Move t movement.Back pointer count) h
    ≡ does h (Eval pointer ∷ Eval count ∷ Advance true (size_in h.program (pointee t)) ∷ [])
unfolding hidden-the_row-TExpr-1 hidden
eval-Back t pointer count h = refl

pub eval-Difference : (t : Ty) (left right : TExpr) (h : Here) →
    eval (expr.Difference t left right) h
    ≡ does h (Eval left ∷ Eval right ∷ Between (size_in h.program (pointee (type_of left))) ∷ [])
unfolding hidden-the_row-TExpr-1 hidden
eval-Difference t left right h = refl

pub eval-Assign : (t : Ty) (target : TTarget) (value : TExpr) (h : Here) →
    eval (expr.Assign t target value) h ≡ does h (Aim target ∷ Eval value ∷ Assign target ∷ [])
unfolding hidden-the_row-TTarget-2 hidden-the_row-TExpr-1 hidden
eval-Assign t target value h = refl

pub eval-Update : (t : Ty) (place : TPlace) (change : Change) (value : TExpr) (h : Here) →
    eval (expr.Update t place change value) h ≡ does h (Find place ∷ Look t ∷ Eval value ∷ Update t change ∷ [])
unfolding hidden-the_row-TPlace-0 hidden-the_row-TExpr-1 hidden
eval-Update t place change value h = refl

pub eval-Step : (t : Ty) (op : StepOp) (place : TPlace) (h : Here) →
    eval (expr.Step t op place) h ≡ does h (Find place ∷ Look t ∷ Step t op ∷ [])
unfolding hidden-the_row-TPlace-0 hidden
eval-Step t op place h = refl

pub eval-Zerox : (t : Ty) (place : TPlace) (h : Here) → eval (expr.Zerox t place) h ≡ does h (Find place ∷ Look t ∷ Clear t ∷ [])
unfolding hidden-the_row-TPlace-0 hidden
eval-Zerox t place h = refl

pub eval-Terminate : (t : Ty) (status : TExpr) (h : Here) → eval (expr.Terminate t status) h ≡ does h (Eval status ∷ Terminates ∷ [])
unfolding hidden-the_row-TExpr-1 hidden
eval-Terminate t status h = refl

pub eval-Receive : (t : Ty) (chan : TExpr) (h : Here) → eval (expr.Receive t chan) h ≡ does h (Eval chan ∷ Receives t ∷ [])
unfolding hidden-the_row-TExpr-1 hidden
eval-Receive t chan h = refl

pub eval-Send : (t : Ty) (chan value : TExpr) (h : Here) →
    eval (expr.Send t chan value) h ≡ does h (Eval chan ∷ Eval value ∷ Sends (type_of value) ∷ [])
unfolding hidden-the_row-TExpr-1 hidden
eval-Send t chan value h = refl

pub eval-CanReceive : (t : Ty) (chan : TExpr) (h : Here) → eval (expr.CanReceive t chan) h ≡ does h (Eval chan ∷ CanReceives ∷ [])
unfolding hidden-the_row-TExpr-1 hidden
eval-CanReceive t chan h = refl

pub eval-CanSend : (t : Ty) (chan : TExpr) (h : Here) → eval (expr.CanSend t chan) h ≡ does h (Eval chan ∷ CanSends ∷ [])
unfolding hidden-the_row-TExpr-1 hidden
eval-CanSend t chan h = refl

pub eval-MemberOf : (t : Ty) (value : TExpr) (path : List ℕ) (h : Here) →
    eval (expr.MemberOf t value path) h ≡ does h (Eval value ∷ Part (type_of value) path ∷ [])
unfolding hidden-the_row-TExpr-1 hidden
eval-MemberOf t value path h = refl

pub eval-Cast : (t : Ty) (of : TExpr) (h : Here) → eval (expr.Cast t of) h ≡ does h (Eval of ∷ Convert (type_of of) t ∷ [])
unfolding hidden-the_row-TExpr-1 hidden
eval-Cast t of h = refl

pub eval-Convert : (t : Ty) (of : TExpr) (h : Here) → eval (expr.Convert t of) h ≡ does h (Eval of ∷ Convert (type_of of) t ∷ [])
unfolding hidden-the_row-TExpr-1 hidden
eval-Convert t of h = refl

pub eval-Tuple : (t : Ty) (parts : List TExpr) (h : Here) → eval (expr.Tuple t parts) h ≡ does h (evaluated parts ++ Join (length parts) ∷ [])
eval-Tuple t parts h = ap (λ es. does h (evaluated es ++ Join (length es) ∷ [])) (exprs_are parts)

pub eval-Call : (t : Ty) (function : ℕ) (r : Option TReceiver) (arguments : List TExpr) (h : Here) →
    eval (expr.Call t function r arguments) h ≡ does h (call_work h.program (expr.Call t function r arguments) Invoke)
eval-Call t function r arguments h = refl

pub eval-CallPointer : (t : Ty) (pointer : TExpr) (arguments : List TExpr) (h : Here) →
    eval (expr.CallPointer t pointer arguments) h
    ≡ does h (Eval pointer ∷ evaluated arguments ++ InvokePointer (pointee (type_of pointer)) (length arguments) ∷ [])
unfolding hidden-the_row-TExpr-1 hidden
eval-CallPointer t pointer arguments h =
    ap (λ es. does h (Eval pointer ∷ evaluated es ++ InvokePointer (pointee (type_of pointer)) (length es) ∷ [])) (exprs_are arguments)

pub eval-Print : (t : Ty) (format : List PrintPiece) (arguments : List TExpr) (h : Here) →
    eval (expr.Print t format arguments) h ≡ does h (evaluated arguments ++ gather_of (expr.Print t format arguments) ∷ [])
eval-Print t format arguments h =
    ap (λ es. does h (evaluated es ++ gather_of (expr.Print t format arguments) ∷ [])) (exprs_are arguments)

pub eval-Sequence : (t : Ty) (first : List TExpr) (last : TExpr) (h : Here) →
    eval (expr.Sequence t first last) h ≡ does h (flat_map and_dropped first ++ Eval last ∷ [])
unfolding hidden-the_row-TExpr-1 hidden
eval-Sequence t first last h = ap (λ es. does h (flat_map and_dropped es ++ Eval last ∷ [])) (exprs_are first)

pub eval-Iterator : (t : Ty) (number : ℕ) (h : Here) → eval (expr.Iterator t number) h ≡ gives h (slice_index h.frame.turns number ∷ [])
eval-Iterator t number h = refl

-- an expression goes on as its kind does
pub becomes : (e v : TExpr) (h : Here) (n : NextStep) → e ≡ v → eval v h ≡ n → n ≡ eval e h
becomes e v h n is goes = sym (ap (λ (e : TExpr). eval e h) is ∙ goes)

pub becomes_itself : (e v : TExpr) (h : Here) → e ≡ v → eval v h ≡ eval e h
becomes_itself e v h is = ap (λ (e : TExpr). eval e h) (sym is)

pub becomes-Call : (e : TExpr) (t : Ty) (function : ℕ) (r : Option TReceiver) (arguments : List TExpr) (h : Here) → e ≡ expr.Call t function r arguments
    → does h (call_work h.program e Invoke) ≡ eval e h
becomes-Call e t function r arguments h is =
    ap (λ (e : TExpr). does h (call_work h.program e Invoke)) is
    ∙ becomes e (expr.Call t function r arguments) h (does h (call_work h.program (expr.Call t function r arguments) Invoke)) is
    (eval-Call t function r arguments h)

pub becomes-Print : (e : TExpr) (t : Ty) (format : List PrintPiece) (arguments : List TExpr) (h : Here) → e ≡ expr.Print t format arguments
    → does h (evaluated arguments ++ gather_of e ∷ []) ≡ eval e h
becomes-Print e t format arguments h is =
    ap (λ (e : TExpr). does h (evaluated arguments ++ gather_of e ∷ [])) is
    ∙ becomes e (expr.Print t format arguments) h (does h (evaluated arguments ++ gather_of (expr.Print t format arguments) ∷ [])) is
    (eval-Print t format arguments h)

pub evaluates : {E : Type 0} (r : Result Next E) (e : TExpr) (h : Here) (n : NextStep) → IfOk r (λ x. next_of x ≡ n) → n ≡ eval e h → IfOk r (λ x. next_of x ≡ eval e h)
evaluates (Ok x) e h n is same = is ∙ same
evaluates (Err x) e h n is same = tt

-- ---- logical operators and pointers that move

pub sides-And : {E : Type 0} (r : Result Next E) (t : Ty) (op : Logic) (left right : TExpr) (h : Here) → op ≡ logic.And
    → IfOk r (λ n. next_of n ≡ does h (Eval left ∷ AndThen right ∷ [])) → IfOk r (λ n. next_of n ≡ eval (expr.Logical t op left right) h)
sides-And r t op left right h is goes =
    subst (λ (s : NextStep). IfOk r (λ n. next_of n ≡ s)) (sym (ap (λ (op : Logic). eval (expr.Logical t op left right) h) is ∙ eval-And t left right h)) goes

pub sides-Or : {E : Type 0} (r : Result Next E) (t : Ty) (op : Logic) (left right : TExpr) (h : Here) → op ≡ logic.Or
    → IfOk r (λ n. next_of n ≡ does h (Eval left ∷ OrElse right ∷ [])) → IfOk r (λ n. next_of n ≡ eval (expr.Logical t op left right) h)
sides-Or r t op left right h is goes =
    subst (λ (s : NextStep). IfOk r (λ n. next_of n ≡ s)) (sym (ap (λ (op : Logic). eval (expr.Logical t op left right) h) is ∙ eval-Or t left right h)) goes

-- one that moves by elements of a size
moves_so : {E : Type 0} (r : Result Next E) (t : Ty) (how m : Movement) (size : ℕ) (pointer count : TExpr) (h : Here) (works : ℕ → List Work) → how ≡ m
    → size ≡ size_in h.program (pointee t) → eval (expr.Move t m pointer count) h ≡ does h (works (size_in h.program (pointee t)))
    → IfOk r (λ n. next_of n ≡ does h (works size)) → IfOk r (λ n. next_of n ≡ eval (expr.Move t how pointer count) h)
moves_so r t how m size pointer count h works is e goes_so goes =
    subst (λ (s : NextStep). IfOk r (λ n. next_of n ≡ s))
    (ap (λ (n : ℕ). does h (works n)) e ∙ sym (ap (λ (how : Movement). eval (expr.Move t how pointer count) h) is ∙ goes_so)) goes

pub moves-Forward : {E : Type 0} (r : Result Next E) (t : Ty) (how : Movement) (size : ℕ) (pointer count : TExpr) (h : Here) → how ≡ movement.Forward
    → size ≡ size_in h.program (pointee t) → IfOk r (λ n. next_of n ≡ does h (Eval pointer ∷ Eval count ∷ Advance false size ∷ []))
    → IfOk r (λ n. next_of n ≡ eval (expr.Move t how pointer count) h)
moves-Forward r t how size pointer count h is e goes =
    moves_so r t how movement.Forward size pointer count h (λ (n : ℕ). Eval pointer ∷ Eval count ∷ Advance false n ∷ []) is e (eval-Forward t pointer count h) goes

pub moves-CountFirst : {E : Type 0} (r : Result Next E) (t : Ty) (how : Movement) (size : ℕ) (pointer count : TExpr) (h : Here) → how ≡ movement.CountFirst
    → size ≡ size_in h.program (pointee t) → IfOk r (λ n. next_of n ≡ does h (Eval count ∷ Eval pointer ∷ AdvanceCounted size ∷ []))
    → IfOk r (λ n. next_of n ≡ eval (expr.Move t how pointer count) h)
moves-CountFirst r t how size pointer count h is e goes =
    moves_so r t how movement.CountFirst size pointer count h (λ (n : ℕ). Eval count ∷ Eval pointer ∷ AdvanceCounted n ∷ []) is e (eval-CountFirst t pointer count h) goes

pub moves-Back : {E : Type 0} (r : Result Next E) (t : Ty) (how : Movement) (size : ℕ) (pointer count : TExpr) (h : Here) → how ≡ movement.Back
    → size ≡ size_in h.program (pointee t) → IfOk r (λ n. next_of n ≡ does h (Eval pointer ∷ Eval count ∷ Advance true size ∷ []))
    → IfOk r (λ n. next_of n ≡ eval (expr.Move t how pointer count) h)
moves-Back r t how size pointer count h is e goes =
    moves_so r t how movement.Back size pointer count h (λ (n : ℕ). Eval pointer ∷ Eval count ∷ Advance true n ∷ []) is e (eval-Back t pointer count h) goes

-- ---- what it needs

why_is : {T : Type 0} (r : Result T Unmade) (p : Program) (e v : TExpr) → e ≡ v → IfErr r (λ x. Explains x (Fits p v)) → IfErr r (λ x. Explains x (Fits p e))
why_is r p e v is why = subst (λ (e : TExpr). IfErr r (λ x. Explains x (Fits p e))) (sym is) why

pub why-Constant : {T : Type 0} (r : Result T Unmade) (p : Program) (e : TExpr) (t : Ty) (bits : ℕ) → e ≡ expr.Constant t bits
    → IfErr r (λ x. Explains x (bits < 2 ^ width_of (kind_of t))) → IfErr r (λ x. Explains x (Fits p e))
why-Constant r p e t bits is why = why_is r p e (expr.Constant t bits) is why

pub why-Text : {T : Type 0} (r : Result T Unmade) (p : Program) (e : TExpr) (t : Ty) (number : ℕ) → e ≡ expr.Text t number
    → IfErr r (λ x. Explains x (text_place p number < 2 ^ 32)) → IfErr r (λ x. Explains x (Fits p e))
why-Text r p e t number is why = why_is r p e (expr.Text t number) is why

pub why-Function : {T : Type 0} (r : Result T Unmade) (p : Program) (e : TExpr) (t : Ty) (number : ℕ) → e ≡ expr.Function t number
    → IfErr r (λ x. Explains x (function_address number < 2 ^ 32)) → IfErr r (λ x. Explains x (Fits p e))
why-Function r p e t number is why = why_is r p e (expr.Function t number) is why

pub why-SizeofType : {T : Type 0} (r : Result T Unmade) (p : Program) (e : TExpr) (t of : Ty) → e ≡ expr.SizeofType t of
    → IfErr r (λ x. Explains x (IsSmall p of)) → IfErr r (λ x. Explains x (Fits p e))
why-SizeofType r p e t of is why = why_is r p e (expr.SizeofType t of) is why

pub why-SizeofPlace : {T : Type 0} (r : Result T Unmade) (p : Program) (e : TExpr) (t : Ty) (place : TPlace) → e ≡ expr.SizeofPlace t place
    → IfErr r (λ x. Explains x (IsSmall p (place_type place))) → IfErr r (λ x. Explains x (Fits p e))
unfolding hidden-the_row-TPlace-0 hidden
why-SizeofPlace r p e t place is why = why_is r p e (expr.SizeofPlace t place) is why

pub why-SizeofValue : {T : Type 0} (r : Result T Unmade) (p : Program) (e : TExpr) (t : Ty) (value : TExpr) → e ≡ expr.SizeofValue t value
    → IfErr r (λ x. Explains x (IsSmall p (type_of value))) → IfErr r (λ x. Explains x (Fits p e))
unfolding hidden-the_row-TExpr-1 hidden
why-SizeofValue r p e t value is why = why_is r p e (expr.SizeofValue t value) is why

pub why-Move : {T : Type 0} (r : Result T Unmade) (p : Program) (e : TExpr) (t : Ty) (how : Movement) (pointer count : TExpr) → e ≡ expr.Move t how pointer count
    → IfErr r (λ x. Explains x (IsSmall p (pointee t))) → IfErr r (λ x. Explains x (Fits p e))
unfolding hidden-the_row-TExpr-1 hidden
why-Move r p e t how pointer count is why = why_is r p e (expr.Move t how pointer count) is why

pub why-Difference : {T : Type 0} (r : Result T Unmade) (p : Program) (e : TExpr) (t : Ty) (left right : TExpr) → e ≡ expr.Difference t left right
    → IfErr r (λ x. Explains x (IsSmall p (pointee (type_of left)))) → IfErr r (λ x. Explains x (Fits p e))
unfolding hidden-the_row-TExpr-1 hidden
why-Difference r p e t left right is why = why_is r p e (expr.Difference t left right) is why

-- a call needs what its object needs
pub why-Call : {T : Type 0} (it : Result T Unmade) (p : Program) (e : TExpr) (t : Ty) (function : ℕ) (r : Option TReceiver) (arguments : List TExpr)
    → e ≡ expr.Call t function r arguments → IfErr it (λ x. Explains x (CallFits p e)) → IfErr it (λ x. Explains x (Fits p e))
why-Call it p e t function r arguments is why =
    why_is it p e (expr.Call t function r arguments) is (subst (λ (e : TExpr). IfErr it (λ x. Explains x (CallFits p e))) is why)
