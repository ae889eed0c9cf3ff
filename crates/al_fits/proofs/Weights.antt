-- A program within the measures has few iterators in a statement, and few words of parameters and of private globals.
use Rattle.std.proofs.Common.{◌≡◌, ℕ, zero, suc, ◌+◌, ◌<◌, ◌≤◌, Bool, true, false, List, [], ◌∷◌, ◌++◌, length, Some, refl, subst, arith}
use Rattle.std.specs.Prelude.{◌^◌, slice_get, sum_by}
use Rattle.std.specs.List.{AllByRecursion, flat_map}
use Rattle.std.proofs.lemmas.List.Elements.{recursion_from_All}
use Rattle.std.proofs.lemmas.List.Sums.{sum_by-append, sum_by-cons}
use Rattle.al_typed.specs.declared.ty.Ty.{Ty}
use Rattle.al_typed.specs.declared.piece.Piece.{Piece}
use Rattle.al_typed.specs.declared.piece.Piece.TheVariants as piece
use Rattle.al_typed.specs.declared.program.Function.{Function as FunctionRow}
use Rattle.al_typed.specs.declared.program.Program.{Program}
use Rattle.al_typed.specs.declared.expression.TExpr.{TExpr, Constant, Text, Nil, Function, SizeofType, Tuple', Call', CallPointer', Print', Sequence', Iterator, end_of-TExpr, more_of-TExpr}
use Rattle.al_typed.specs.declared.expression.TPlace.{TPlace, Local, Outer, Global}
use Rattle.al_typed.specs.declared.statement.TBounds.{TBounds}
use Rattle.al_typed.specs.declared.statement.TStmt.{TStmt, Empty, Block', Declare, Value, If', Switch', Case, Default, Alt', AltCase, Par, Raise, Goto, Return, Become, Break, Continue, Alloc, Unalloc, Check, Proc, Task, Held-TStmt-If-3, Row_of-TStmt, end_of-TStmt, more_of-TStmt}
use Rattle.al_typed.specs.declared.statement.TStmt as stmt
use Rattle.al_typed.specs.ExpressionForms as form
use Rattle.al_typed.specs.StatementForms as part
use Rattle.al_typed.specs.Typed.{parameter_types}
use Rattle.al_typed.specs.Measures.{IsWithin, body_pieces, bounds_pieces, function_slots, function_weight, greatest_by, node, other_pieces, pieces, pieces_of, place_pieces, private_words, slots, statement_pieces, weight, weight_of, words_in}
use Rattle.al_typed.specs.Sound.{HasSoundTypes, IsSoundFunction, outermost}
use Rattle.al_typed.specs.WellTyped.{IsStatement, Scope}
use Rattle.al_weights.proofs.Weights.{Weighs, behind, bounds_weigh, in_greatest, in_sum, left, right}
use Rattle.al_fits.specs.Controls.{HasFewIterators, HaveFewIterators, OtherHasFewIterators}

module _ (p : Program) where
  mutual
    unfolding statement_pieces other_pieces body_pieces

    statement_has_few : (n : ℕ) (s : TStmt) → n < 2 ^ 62 → Weighs p (statement_pieces s) ≤ n → HasFewIterators s
    statement_has_few n (Block' _ _ body) lt le = body_has_few n body lt (behind p n _ _ le)
    statement_has_few n (Value _ iterators value) lt le =
        omega (arith, lt, bounds_weigh p iterators, left p n (flat_map bounds_pieces iterators) (pieces false value) (behind p n _ _ le))
    statement_has_few n (part.label _ _ body) lt le = statement_has_few n body lt (behind p n _ _ le)
    statement_has_few n (If' _ condition _ (more_of-TStmt body end_of-TStmt) other) lt le =
        let rest = behind p n _ _ le in (
          statement_has_few n body lt (right p n (pieces false condition) (statement_pieces body) (left p n _ (other_pieces other) rest)),
          other_has_few n other lt (right p n _ (other_pieces other) rest),
        )
    statement_has_few n (part.while_loop _ condition body) lt le = statement_has_few n body lt (right p n _ (statement_pieces body) (behind p n _ _ le))
    statement_has_few n (part.do_loop _ body condition) lt le = statement_has_few n body lt (left p n (statement_pieces body) _ (behind p n _ _ le))
    statement_has_few n (part.for_loop _ start condition step body) lt le = statement_has_few n body lt (right p n _ (statement_pieces body) (behind p n _ _ le))
    statement_has_few n (Switch' _ value _ body) lt le = body_has_few n body lt (right p n _ (body_pieces body) (behind p n _ _ le))
    statement_has_few n (Alt' _ _ body) lt le = body_has_few n body lt (behind p n _ _ le)
    statement_has_few n (part.rescue _ _ body) lt le = statement_has_few n body lt (behind p n _ _ le)
    statement_has_few n _ lt le = tt

    other_has_few : (n : ℕ) (other : Held-TStmt-If-3) → n < 2 ^ 62 → Weighs p (other_pieces other) ≤ n → OtherHasFewIterators other
    other_has_few n stmt.None' lt le = tt
    other_has_few n (stmt.Some' _ (more_of-TStmt other end_of-TStmt)) lt le = statement_has_few n other lt le

    body_has_few : (n : ℕ) {m : _} (row : Row_of-TStmt m) → n < 2 ^ 62 → Weighs p (body_pieces row) ≤ n → HaveFewIterators row
    body_has_few n end_of-TStmt lt le = tt
    body_has_few n (more_of-TStmt s rest) lt le =
        (statement_has_few n s lt (left p n (statement_pieces s) (body_pieces rest) le), body_has_few n rest lt (right p n (statement_pieces s) (body_pieces rest) le))

  module _ (M : IsWithin p) where
    pub few_iterators : (number : ℕ) (f : FunctionRow) → slice_get p.functions number ≡ Some f → HasFewIterators f.body
    unfolding weight pieces_of Weighs
    few_iterators number f e = statement_has_few 65536 f.body (omega arith) (omega (arith, in_sum (function_weight p) p.functions number f e, M.weight))

    pub few_parameters : (number : ℕ) (f : FunctionRow) → slice_get p.functions number ≡ Some f → words_in p (parameter_types f) ≤ 16384
    unfolding slots
    few_parameters number f e = omega (arith, in_greatest (function_slots p) p.functions number f e, M.slots)

    pub few_private : private_words p ≤ 16384
    unfolding slots
    few_private = omega (arith, M.slots)
