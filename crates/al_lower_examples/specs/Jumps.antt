-- Rescues, labels, become and calls through pointers.
use Rattle.std.specs.Prelude.{[], ◌∷◌, Some, None, refl, codes, replicate}
use Rattle.std.specs.Fmt.{digits}
use Rattle.al_typed.specs.declared.expression.BinaryOp.TheVariants as op
use Rattle.al_typed.specs.declared.expression.StepOp.TheVariants as step
use Rattle.al_typed.specs.declared.expression.TExpr.TheVariants as expr
use Rattle.al_typed.specs.declared.expression.TExpr.TheBlock.{hidden-the_row-TPlace-0, hidden-the_row-TExpr-1, hidden-the_row-TTarget-2, hidden-the_row-TExpr-3, hidden-the_row-TTarget-5}
use Rattle.al_typed.specs.declared.expression.TPlace.TheVariants as place
use Rattle.al_typed.specs.declared.statement.TStmt.TheVariants as stmt
use Rattle.al_typed.specs.declared.statement.TStmt.TheBlock.{hidden-the_row-TStmt-0, hidden-the_row-TStmt-1}
use Rattle.al_typed.specs.declared.program.Program.{Program}
use Rattle.al_typed.specs.declared.ty.Ty.{Ty}
use Rattle.al_typed.specs.declared.ty.Ty.TheVariants as ty
use Rattle.al_typed.specs.declared.ty.Ty.TheViews.{out-Ty}
use Rattle.al_typed.specs.declared.ty.Ty.TheBlock.{hidden-the_row-Ty-0, hidden-the_row-Ty-1, shown-the_row-Ty-0, shown-the_row-Ty-1}
use denote.Hole.Carrier.{hidden, shown, out}
use Rattle.al_typed.specs.Types.{int, is_array, is_void}
use Rattle.al_typed.specs.Layout.{layout, layout_of, layouts_after, aggregate_layout, member, row_of, repeated, rounded, followed, in_order, over_each_other, words_of}
use Rattle.al_typed.specs.Measures.{slots_of, pieces, place_pieces, target_pieces, row_pieces, receiver_pieces, statement_pieces, body_pieces, other_pieces, pieces_of}
use Rattle.al_convert.specs.Kinds as kinds
use Rattle.al_constant.specs.Constants.{constant, operated, cast, negated, decided, operated_at, operated_once, size_constant}
use Rattle.al_meaning.specs.Shown.{kind_of}
use Rattle.al_meaning.specs.Here.{pointee}
use Rattle.al_meaning.specs.Weight.{own_weight, work_weight, control_weight}
use Rattle.al_lower_code.specs.Moving.{layout_number}
use Rattle.al_lower_code.specs.Operators.{step_code}
use Rattle.al_lower_code.specs.Simple.{new_code, give_back}
use Rattle.al_lower_code.specs.Functions.{is_tuple}
use Rattle.al_lower_examples.specs.Forms.{number, local, binary, sets_local, call, does, prints, shows, block, private, function, program, Writes}

-- ---- void main(){rescue{print("b");return;} rescue{print("c");raise;} raise;}

abbrev rescues : Program
rescues = program (function ty.Void [] 0 (
    stmt.Rescue 1 0 (stmt.Block 1 (prints (codes "b") ∷ stmt.Return 1 None ∷ []))
    ∷ stmt.Rescue 1 1 (stmt.Block 1 (prints (codes "c") ∷ stmt.Raise 1 0 ∷ []))
    ∷ stmt.Raise 1 1
    ∷ []) ∷ []) 0

raises : Writes rescues (replicate 3 0) (codes "cb")
unfolding digits constant operated operated_once operated_at cast negated decided size_constant kinds.kind_of layout_number step_code new_code give_back is_tuple kind_of pointee own_weight work_weight control_weight slots_of pieces_of pieces place_pieces target_pieces row_pieces receiver_pieces statement_pieces body_pieces other_pieces layout layout_of layouts_after aggregate_layout member row_of repeated rounded followed in_order over_each_other words_of is_array is_void hidden-the_row-Ty-0 hidden-the_row-Ty-1 shown-the_row-Ty-0 shown-the_row-Ty-1 shown hidden-the_row-TPlace-0 hidden-the_row-TExpr-1 hidden-the_row-TTarget-2 hidden-the_row-TExpr-3 hidden-the_row-TTarget-5 hidden-the_row-TStmt-0 hidden-the_row-TStmt-1 hidden out-Ty out
raises = (refl, refl)

-- ---- void main(){int i; goto in; while(i<3){again: print(i); in: i++;} check i-3;}

abbrev labels : Program
labels = program (function ty.Void (private int ∷ []) 0 (
    stmt.Goto 1 1
    ∷ stmt.While 1 (binary op.Less (local int 0) (number 3)) (block (
    shows (local int 0)
    ∷ stmt.Label 1 1 (does (expr.Step int step.PreIncrement (place.Local int 0)))
    ∷ []))
    ∷ stmt.Check 1 (binary op.Subtract (local int 0) (number 3))
    ∷ []) ∷ []) 0

goes_in : Writes labels (replicate 3 0) (codes "1 2 ")
unfolding digits constant operated operated_once operated_at cast negated decided size_constant kinds.kind_of layout_number step_code new_code give_back is_tuple kind_of pointee own_weight work_weight control_weight slots_of pieces_of pieces place_pieces target_pieces row_pieces receiver_pieces statement_pieces body_pieces other_pieces layout layout_of layouts_after aggregate_layout member row_of repeated rounded followed in_order over_each_other words_of is_array is_void hidden-the_row-Ty-0 hidden-the_row-Ty-1 shown-the_row-Ty-0 shown-the_row-Ty-1 shown hidden-the_row-TPlace-0 hidden-the_row-TExpr-1 hidden-the_row-TTarget-2 hidden-the_row-TExpr-3 hidden-the_row-TTarget-5 hidden-the_row-TStmt-0 hidden-the_row-TStmt-1 hidden out-Ty out
goes_in = (refl, refl)

-- ---- int f(int n){if(n==0) return 8; become f(n-1);} void main(){int (*p)(int); p=f; print(p(3));}

abbrev pointer_type : Ty
pointer_type = ty.Pointer (ty.Function int (int ∷ []))

abbrev becomes : Program
becomes = program (
    function int (private int ∷ []) 1 (
    stmt.If 1 (binary op.Equal (local int 0) (number 0)) (stmt.Return 1 (Some (number 8))) None
    ∷ stmt.Become 1 (call int 0 (binary op.Subtract (local int 0) (number 1) ∷ []))
    ∷ [])
    ∷ function ty.Void (private pointer_type ∷ []) 0 (
    does (sets_local pointer_type 0 (expr.Function pointer_type 0))
    ∷ shows (expr.CallPointer int (local pointer_type 0) (number 3 ∷ []))
    ∷ does (expr.CallPointer ty.Void (expr.Cast (ty.Pointer (ty.Function ty.Void [])) (number 5)) [])
    ∷ [])
    ∷ []) 1

becomes_eight : Writes becomes (replicate 2 0) (codes "8 ")
unfolding digits constant operated operated_once operated_at cast negated decided size_constant kinds.kind_of layout_number step_code new_code give_back is_tuple kind_of pointee own_weight work_weight control_weight slots_of pieces_of pieces place_pieces target_pieces row_pieces receiver_pieces statement_pieces body_pieces other_pieces layout layout_of layouts_after aggregate_layout member row_of repeated rounded followed in_order over_each_other words_of is_array is_void hidden-the_row-Ty-0 hidden-the_row-Ty-1 shown-the_row-Ty-0 shown-the_row-Ty-1 shown hidden-the_row-TPlace-0 hidden-the_row-TExpr-1 hidden-the_row-TTarget-2 hidden-the_row-TExpr-3 hidden-the_row-TTarget-5 hidden-the_row-TStmt-0 hidden-the_row-TStmt-1 hidden out-Ty out
becomes_eight = (refl, refl)
