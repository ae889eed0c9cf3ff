-- Arithmetic on words and pairs, conversions, truth values, and a trap.
use Rattle.std.specs.Prelude.{[], ◌∷◌, None, refl, codes, replicate}
use Rattle.std.specs.Fmt.{digits}
use Rattle.al_base.specs.declared.arith.Kind.TheVariants as kind
use Rattle.al_typed.specs.declared.expression.BinaryOp.TheVariants as op
use Rattle.al_typed.specs.declared.expression.UnaryOp.TheVariants as unary
use Rattle.al_typed.specs.declared.expression.Logic.TheVariants as logic
use Rattle.al_typed.specs.declared.expression.Change.TheVariants as change
use Rattle.al_typed.specs.declared.expression.StepOp.TheVariants as step
use Rattle.al_typed.specs.declared.expression.PrintPiece.TheVariants as print
use Rattle.al_typed.specs.declared.expression.TTarget.TheVariants as target
use Rattle.al_typed.specs.declared.expression.TExpr.TheVariants as expr
use Rattle.al_typed.specs.declared.expression.TExpr.TheBlock.{hidden-the_row-TPlace-0, hidden-the_row-TExpr-1, hidden-the_row-TTarget-2, hidden-the_row-TExpr-3, hidden-the_row-TTarget-5}
use Rattle.al_typed.specs.declared.expression.TPlace.TheVariants as place
use Rattle.al_typed.specs.declared.statement.TStmt.TheVariants as stmt
use Rattle.al_typed.specs.declared.statement.TStmt.TheBlock.{hidden-the_row-TStmt-0, hidden-the_row-TStmt-1}
use Rattle.al_typed.specs.declared.program.Program.{Program}
use Rattle.al_typed.specs.declared.ty.Ty.{Ty}
use Rattle.al_typed.specs.declared.ty.Ty.TheVariants as ty
use Rattle.al_typed.specs.declared.ty.Ty.TheViews.{out-Ty}
use Rattle.al_typed.specs.declared.ty.Ty.TheBlock.{hidden-the_row-Ty-0, hidden-the_row-Ty-1, shown-the_row-Ty-0, shown-the_row-Ty-1}
use denote.Hole.Carrier.{hidden, shown, out}
use Rattle.al_typed.specs.Types.{int, is_array, is_void}
use Rattle.al_typed.specs.Layout.{layout, layout_of, layouts_after, aggregate_layout, member, row_of, repeated, rounded, followed, in_order, over_each_other, words_of}
use Rattle.al_typed.specs.Measures.{slots_of, pieces, place_pieces, target_pieces, row_pieces, receiver_pieces, statement_pieces, body_pieces, other_pieces, pieces_of}
use Rattle.al_convert.specs.Kinds as kinds
use Rattle.al_constant.specs.Constants.{constant, operated, cast, negated, decided, operated_at, operated_once, size_constant}
use Rattle.al_meaning.specs.Shown.{kind_of}
use Rattle.al_meaning.specs.Here.{pointee}
use Rattle.al_meaning.specs.Weight.{own_weight, work_weight, control_weight}
use Rattle.al_lower_code.specs.Moving.{layout_number}
use Rattle.al_lower_code.specs.Operators.{step_code}
use Rattle.al_lower_code.specs.Simple.{new_code, give_back}
use Rattle.al_lower_code.specs.Functions.{is_tuple}
use Rattle.al_lower_examples.specs.Forms.{byte, lint, number, long, local, binary, sets_local, does, prints, shows, private, function, program, Writes}

-- ---- void main(){lint a; int z; byte c; a=7000000000; print("%d %u %x %c ", a/3, (uint)(z-1), a, 65); c=250; c+=10; print(c);
-- ---- print((1&&z)||!z); print(-z+~z); if(a>1) print("yes "); a=a/(lint)z;}

abbrev trapping : Program
trapping = program (function ty.Void (private lint ∷ private int ∷ private byte ∷ []) 0 (
    does (sets_local lint 0 (long 7000000000))
    ∷ does (expr.Print ty.Void (print.Signed ∷ print.Byte 32 ∷ print.Unsigned ∷ print.Byte 32 ∷ print.Hexadecimal ∷ print.Byte 32 ∷ print.Character ∷ print.Byte 32 ∷ []) (
    expr.Binary lint op.Divide kind.Lint (local lint 0) (long 3)
    ∷ expr.Cast (ty.Integer kind.Uint) (binary op.Subtract (local int 1) (number 1))
    ∷ local lint 0
    ∷ number 65
    ∷ []))
    ∷ does (sets_local byte 2 (expr.Convert byte (number 250)))
    ∷ does (expr.Update byte (place.Local byte 2) (change.Apply op.Add kind.Int) (number 10))
    ∷ shows (expr.Convert int (local byte 2))
    ∷ shows (expr.Logical int logic.Or (expr.Logical int logic.And (number 1) (local int 1)) (expr.Not int (local int 1)))
    ∷ shows (binary op.Add (expr.Unary int unary.Minus (local int 1)) (expr.Unary int unary.Complement (local int 1)))
    ∷ stmt.If 1 (expr.Binary int op.Greater kind.Lint (local lint 0) (long 1)) (prints (codes "yes ")) None
    ∷ does (sets_local lint 0 (expr.Binary lint op.Divide kind.Lint (local lint 0) (expr.Cast lint (local int 1))))
    ∷ []) ∷ []) 0

traps : Writes trapping (replicate 6 0) (codes "2333333333 4294967295 1a13b8600 A 4 1 -1 yes ")
unfolding digits constant operated operated_once operated_at cast negated decided size_constant kinds.kind_of layout_number step_code new_code give_back is_tuple kind_of pointee own_weight work_weight control_weight slots_of pieces_of pieces place_pieces target_pieces row_pieces receiver_pieces statement_pieces body_pieces other_pieces layout layout_of layouts_after aggregate_layout member row_of repeated rounded followed in_order over_each_other words_of is_array is_void hidden-the_row-Ty-0 hidden-the_row-Ty-1 shown-the_row-Ty-0 shown-the_row-Ty-1 shown hidden-the_row-TPlace-0 hidden-the_row-TExpr-1 hidden-the_row-TTarget-2 hidden-the_row-TExpr-3 hidden-the_row-TTarget-5 hidden-the_row-TStmt-0 hidden-the_row-TStmt-1 hidden out-Ty out
traps = (refl, refl)

-- ---- void main(){int a,b; a=1; b=2; (a,b)=(b,a); print(a); print(b++); print(zerox b); print(b);}

abbrev pair_type : Ty
pair_type = ty.Tuple (int ∷ int ∷ [])

abbrev swapping : Program
swapping = program (function ty.Void (private int ∷ private int ∷ []) 0 (
    does (sets_local int 0 (number 1))
    ∷ does (sets_local int 1 (number 2))
    ∷ does (expr.Assign pair_type (target.Parts pair_type (target.Into (place.Local int 0) ∷ target.Into (place.Local int 1) ∷ [])) (expr.Tuple pair_type (local int 1 ∷ local int 0 ∷ [])))
    ∷ shows (local int 0)
    ∷ shows (expr.Step int step.PostIncrement (place.Local int 1))
    ∷ shows (expr.Zerox int (place.Local int 1))
    ∷ shows (local int 1)
    ∷ []) ∷ []) 0

swaps : Writes swapping (replicate 5 0) (codes "2 1 2 0 ")
unfolding digits constant operated operated_once operated_at cast negated decided size_constant kinds.kind_of layout_number step_code new_code give_back is_tuple kind_of pointee own_weight work_weight control_weight slots_of pieces_of pieces place_pieces target_pieces row_pieces receiver_pieces statement_pieces body_pieces other_pieces layout layout_of layouts_after aggregate_layout member row_of repeated rounded followed in_order over_each_other words_of is_array is_void hidden-the_row-Ty-0 hidden-the_row-Ty-1 shown-the_row-Ty-0 shown-the_row-Ty-1 shown hidden-the_row-TPlace-0 hidden-the_row-TExpr-1 hidden-the_row-TTarget-2 hidden-the_row-TExpr-3 hidden-the_row-TTarget-5 hidden-the_row-TStmt-0 hidden-the_row-TStmt-1 hidden out-Ty out
swaps = (refl, refl)

-- ---- void main(){int a; tuple(int,lint) t; t=(3,4); (a,nil)=t; print(a);}

abbrev mixed_type : Ty
mixed_type = ty.Tuple (int ∷ lint ∷ [])

abbrev tuples : Program
tuples = program (function ty.Void (private int ∷ private mixed_type ∷ []) 0 (
    does (sets_local mixed_type 1 (expr.Convert mixed_type (expr.Tuple pair_type (number 3 ∷ number 4 ∷ []))))
    ∷ does (expr.Assign mixed_type (target.Parts mixed_type (target.Into (place.Local int 0) ∷ target.Dropped lint ∷ [])) (local mixed_type 1))
    ∷ shows (local int 0)
    ∷ []) ∷ []) 0

takes_part : Writes tuples (replicate 2 0) (codes "3 ")
unfolding digits constant operated operated_once operated_at cast negated decided size_constant kinds.kind_of layout_number step_code new_code give_back is_tuple kind_of pointee own_weight work_weight control_weight slots_of pieces_of pieces place_pieces target_pieces row_pieces receiver_pieces statement_pieces body_pieces other_pieces layout layout_of layouts_after aggregate_layout member row_of repeated rounded followed in_order over_each_other words_of is_array is_void hidden-the_row-Ty-0 hidden-the_row-Ty-1 shown-the_row-Ty-0 shown-the_row-Ty-1 shown hidden-the_row-TPlace-0 hidden-the_row-TExpr-1 hidden-the_row-TTarget-2 hidden-the_row-TExpr-3 hidden-the_row-TTarget-5 hidden-the_row-TStmt-0 hidden-the_row-TStmt-1 hidden out-Ty out
takes_part = (refl, refl)
