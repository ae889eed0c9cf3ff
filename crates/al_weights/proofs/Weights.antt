-- What pieces, statements and functions weigh.
use Rattle.std.proofs.Common.{◌≡◌, ℕ, zero, suc, ◌+◌, ◌≤◌, Bool, true, false, List, [], ◌∷◌, ◌++◌, length, Some, refl, subst, arith}
use Rattle.std.specs.Prelude.{slice_get, sum_by}
use Rattle.std.specs.List.{AllByRecursion, flat_map}
use Rattle.std.proofs.lemmas.List.Elements.{recursion_from_All}
use Rattle.std.proofs.lemmas.List.Sums.{sum_by-append, sum_by-cons}
use Rattle.al_typed.specs.declared.ty.Ty.{Ty}
use Rattle.al_typed.specs.declared.piece.Piece.{Piece}
use Rattle.al_typed.specs.declared.piece.Piece.TheVariants as piece
use Rattle.al_typed.specs.declared.program.Function.{Function as FunctionRow}
use Rattle.al_typed.specs.declared.program.Program.{Program}
use Rattle.al_typed.specs.declared.expression.TExpr.{TExpr, Constant, Text, Nil, Function, SizeofType, Tuple', Call', CallPointer', Print', Sequence', Iterator, end_of-TExpr, more_of-TExpr}
use Rattle.al_typed.specs.declared.expression.TPlace.{TPlace, Local, Outer, Global}
use Rattle.al_typed.specs.declared.statement.TBounds.{TBounds}
use Rattle.al_typed.specs.declared.statement.TStmt.{TStmt, Declare, If', Case, Default, AltCase, end_of-TStmt, more_of-TStmt}
use Rattle.al_typed.specs.ExpressionForms as form
use Rattle.al_typed.specs.StatementForms as part
use Rattle.al_typed.specs.Measures.{IsWithin, bounds_pieces, function_weight, greatest_by, node, pieces, pieces_of, place_pieces, statement_pieces, weight, weight_of}
use Rattle.al_typed.specs.Sound.{HasSoundTypes, IsSoundFunction, outermost}
use Rattle.al_typed.specs.WellTyped.{IsStatement, Scope}

-- ---- sums

-- one is at most the sum, and at most the greatest
pub in_sum : {A : Type 0} (f : A → ℕ) (xs : List A) (k : ℕ) (x : A) → slice_get xs k ≡ Some x → f x ≤ sum_by f xs
in_sum f [] k x e = absurd (cc)
in_sum f (y ∷ xs) zero x e = let same : y ≡ x = cc in subst (λ x. f x ≤ sum_by f (y ∷ xs)) same (omega (arith, sum_by-cons f y xs))
in_sum f (y ∷ xs) (suc k) x e = omega (arith, sum_by-cons f y xs, in_sum f xs k x e)

pub in_greatest : {A : Type 0} (f : A → ℕ) (xs : List A) (k : ℕ) (x : A) → slice_get xs k ≡ Some x → f x ≤ greatest_by f xs
in_greatest f [] k x e = absurd (cc)
in_greatest f (y ∷ xs) zero x e = let same : y ≡ x = cc in subst (λ x. f x ≤ greatest_by f (y ∷ xs)) same (omega arith)
in_greatest f (y ∷ xs) (suc k) x e = omega (arith, in_greatest f xs k x e)

-- as many as the sum at most, where each counts
few : {A : Type 0} (f : A → ℕ) (xs : List A) → AllByRecursion (λ x. 1 ≤ f x) xs → length xs ≤ sum_by f xs
few f [] h = omega arith
few f (x ∷ xs) h = omega (arith, sum_by-cons f x xs, h.0, few f xs h.1)

module _ (p : Program) where
  -- what pieces weigh together
  unfoldable pub Weighs : List Piece → ℕ
  Weighs xs = sum_by (weight_of p) xs

  pub weighs-none : Weighs [] ≡ 0
  unfolding Weighs
  weighs-none = refl

  pub weighs-cons : (x : Piece) (xs : List Piece) → Weighs (x ∷ xs) ≡ weight_of p x + Weighs xs
  unfolding Weighs
  weighs-cons x xs = sum_by-cons (weight_of p) x xs

  pub weighs-append : (xs ys : List Piece) → Weighs (xs ++ ys) ≡ Weighs xs + Weighs ys
  unfolding Weighs
  weighs-append xs ys = sum_by-append (weight_of p) xs ys

  pub behind : (n : ℕ) (x : Piece) (xs : List Piece) → Weighs (x ∷ xs) ≤ n → Weighs xs ≤ n
  behind n x xs le = omega (arith, weighs-cons x xs, le)

  pub left : (n : ℕ) (xs ys : List Piece) → Weighs (xs ++ ys) ≤ n → Weighs xs ≤ n
  left n xs ys le = omega (arith, weighs-append xs ys, le)

  pub right : (n : ℕ) (xs ys : List Piece) → Weighs (xs ++ ys) ≤ n → Weighs ys ≤ n
  right n xs ys le = omega (arith, weighs-append xs ys, le)

  -- ---- values

  node_weighs : (named : Bool) (t : Ty) → 1 ≤ weight_of p (node named t)
  unfolding weight_of
  node_weighs true t = omega arith
  node_weighs false t = omega arith

  first_weighs : (named : Bool) (t : Ty) (xs : List Piece) → 1 ≤ Weighs (node named t ∷ xs)
  first_weighs named t xs = omega (arith, weighs-cons (node named t) xs, node_weighs named t)

  place_weighs : (named : Bool) (place : TPlace) → 1 ≤ Weighs (place_pieces named place)
  unfolding place_pieces
  place_weighs named (Local t _) = first_weighs named t _
  place_weighs named (Outer t _ _) = first_weighs named t _
  place_weighs named (Global t _) = first_weighs named t _
  place_weighs named (form.pointed t pointer) = first_weighs named t _
  place_weighs named (form.element t base index) = first_weighs named t _
  place_weighs named (form.member_in t of path) = first_weighs named t _
  place_weighs named (form.pointed_member t pointer path) = first_weighs named t _

  value_weighs : (named : Bool) (e : TExpr) → 1 ≤ Weighs (pieces named e)
  unfolding pieces
  value_weighs named (Constant t _) = first_weighs named t _
  value_weighs named (Text t number) = first_weighs named t _
  value_weighs named (Nil t) = first_weighs named t _
  value_weighs named (Function t _) = first_weighs named t _
  value_weighs named (form.load t place) = place_weighs named place
  value_weighs named (form.decay t place) = place_weighs named place
  value_weighs named (form.address t place) = first_weighs named t _
  value_weighs named (SizeofType t _) = first_weighs named t _
  value_weighs named (form.sizeof_place t place) = first_weighs named t _
  value_weighs named (form.sizeof_value t value) = first_weighs named t _
  value_weighs named (form.unary t op of) = first_weighs named t _
  value_weighs named (form.negation t of) = first_weighs named t _
  value_weighs named (form.binary t op kind left right) = first_weighs named t _
  value_weighs named (form.logical t op left right) = first_weighs named t _
  value_weighs named (form.movement t how pointer count) = first_weighs named t _
  value_weighs named (form.difference t left right) = first_weighs named t _
  value_weighs named (form.assign t target value) = first_weighs named t _
  value_weighs named (form.update t place change value) = first_weighs named t _
  value_weighs named (form.stepped t op place) = first_weighs named t _
  value_weighs named (form.zerox t place) = first_weighs named t _
  value_weighs named (Tuple' t _ parts) = first_weighs named t _
  value_weighs named (Call' t function receiver _ arguments) = first_weighs named t _
  value_weighs named (CallPointer' t _ (more_of-TExpr pointer end_of-TExpr) _ arguments) = first_weighs named t _
  value_weighs named (Print' t format _ arguments) = first_weighs named t _
  value_weighs named (form.terminate t status) = first_weighs named t _
  value_weighs named (form.receive t chan) = first_weighs named t _
  value_weighs named (form.send t chan value) = first_weighs named t _
  value_weighs named (form.can_receive t chan) = first_weighs named t _
  value_weighs named (form.can_send t chan) = first_weighs named t _
  value_weighs named (form.member_of t value path) = first_weighs named t _
  value_weighs named (form.cast t of) = first_weighs named t _
  value_weighs named (form.convert t of) = value_weighs named of
  value_weighs named (Sequence' t _ first _ (more_of-TExpr last end_of-TExpr)) = first_weighs named t _
  value_weighs named (Iterator t _) = first_weighs named t _

  pub bounds_weigh : (bs : List TBounds) → length bs ≤ Weighs (flat_map bounds_pieces bs)
  bounds_weigh [] = omega arith
  bounds_weigh (b ∷ bs) =
      let all = weighs-append (bounds_pieces b) (flat_map bounds_pieces bs) in
      let both = weighs-append (pieces false b.from) (pieces false b.to) in
      omega (arith, value_weighs false b.from, bounds_weigh bs)

  -- ---- statements

  statement_weighs : (xs : List Piece) → 1 ≤ Weighs (piece.Statement ∷ xs)
  unfolding weight_of
  statement_weighs xs = omega (arith, weighs-cons piece.Statement xs)

  declaration_weighs : (xs : List Piece) → 1 ≤ Weighs (piece.Declaration ∷ xs)
  unfolding weight_of
  declaration_weighs xs = omega (arith, weighs-cons piece.Declaration xs)

  -- a statement that may be a body weighs something: it is no label of a case
  body_weighs : (scope : Scope) (s : TStmt) → IsStatement scope outermost s → 1 ≤ Weighs (statement_pieces s)
  unfolding IsStatement statement_pieces
  body_weighs scope (Case label bits) x = absurd x
  body_weighs scope Default x = absurd x
  body_weighs scope (AltCase communication) x = absurd x
  body_weighs scope (Declare _ initializers) x = declaration_weighs _
  body_weighs scope (part.label _ _ body) x = statement_weighs _
  body_weighs scope (If' _ condition _ (more_of-TStmt body end_of-TStmt) other) x = statement_weighs _
  body_weighs scope (part.while_loop _ condition body) x = statement_weighs _
  body_weighs scope (part.do_loop _ body condition) x = statement_weighs _
  body_weighs scope (part.for_loop _ start condition step body) x = statement_weighs _
  body_weighs scope (part.rescue _ _ body) x = statement_weighs _
  body_weighs scope _ x = statement_weighs _

  -- ---- programs

  functions_weigh : (fs : List FunctionRow) → AllByRecursion (IsSoundFunction p) fs → AllByRecursion (λ f. 1 ≤ function_weight p f) fs
  unfolding pieces_of Weighs
  functions_weigh [] h = tt
  functions_weigh (f ∷ fs) h = (body_weighs _ f.body h.0.body, functions_weigh fs h.1)

  module _ (M : IsWithin p) where
    pub few_functions : HasSoundTypes p → length p.functions ≤ 65536
    unfolding weight
    few_functions W = omega (arith, few (function_weight p) p.functions (functions_weigh p.functions (recursion_from_All (IsSoundFunction p) p.functions W.functions)), M.weight)
