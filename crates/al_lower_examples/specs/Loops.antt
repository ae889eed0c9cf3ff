-- Loops, choices and calls.
use Rattle.std.specs.Prelude.{◌≡◌, true, [], ◌∷◌, Some, None, refl, codes, replicate}
use Rattle.std.specs.Fmt.{digits}
use Rattle.al_base.specs.declared.arith.Op.TheVariants as arith
use Rattle.al_typed.specs.declared.expression.BinaryOp.TheVariants as op
use Rattle.al_typed.specs.declared.expression.StepOp.TheVariants as step
use Rattle.al_typed.specs.declared.expression.PrintPiece.TheVariants as print
use Rattle.al_typed.specs.declared.expression.TExpr.TheVariants as expr
use Rattle.al_typed.specs.declared.expression.TExpr.TheBlock.{hidden-the_row-TPlace-0, hidden-the_row-TExpr-1, hidden-the_row-TTarget-2, hidden-the_row-TExpr-3, hidden-the_row-TTarget-5}
use Rattle.al_typed.specs.declared.expression.TPlace.TheVariants as place
use Rattle.al_typed.specs.declared.statement.TStmt.TheVariants as stmt
use Rattle.al_typed.specs.declared.statement.TStmt.TheBlock.{hidden-the_row-TStmt-0, hidden-the_row-TStmt-1}
use Rattle.al_typed.specs.declared.program.Program.{Program}
use Rattle.al_typed.specs.declared.ty.Ty.TheVariants as ty
use Rattle.al_typed.specs.declared.ty.Ty.TheViews.{out-Ty}
use Rattle.al_typed.specs.declared.ty.Ty.TheBlock.{hidden-the_row-Ty-0, hidden-the_row-Ty-1, shown-the_row-Ty-0, shown-the_row-Ty-1}
use denote.Hole.Carrier.{hidden, shown, out}
use Rattle.al_typed.specs.Types.{int, is_array, is_void}
use Rattle.al_typed.specs.Layout.{layout, layout_of, layouts_after, aggregate_layout, member, row_of, repeated, rounded, followed, in_order, over_each_other, words_of}
use Rattle.al_typed.specs.Measures.{slots_of, pieces, place_pieces, target_pieces, row_pieces, receiver_pieces, statement_pieces, body_pieces, other_pieces, pieces_of}
use Rattle.al_convert.specs.Kinds as kinds
use Rattle.al_constant.specs.Constants.{constant, operated, cast, negated, decided, operated_at, operated_once, size_constant}
use Rattle.al_meaning.specs.Shown.{kind_of}
use Rattle.al_meaning.specs.Here.{pointee}
use Rattle.al_meaning.specs.Weight.{own_weight, work_weight, control_weight}
use Rattle.al_ir.specs.declared.op.Op.TheVariants.{Constant, Copy, Zero, Word, WordBy, SkipUnless, Turn, Leave}
use Rattle.al_lower_code.specs.Moving.{layout_number}
use Rattle.al_lower_code.specs.Operators.{step_code}
use Rattle.al_lower_code.specs.Simple.{new_code, give_back}
use Rattle.al_lower_code.specs.Functions.{is_tuple}
use Rattle.al_lower_examples.specs.Forms.{number, local, binary, sets_local, call, does, shows, block, private, function, program, Writes, ops}

-- ---- int sum(int n){int i,s; for(i=1;i<n;i++) s=s+i; return s;} void main(){print("%d ", sum(5));}

abbrev sums : Program
sums = program (
    function int (private int ∷ private int ∷ private int ∷ []) 1 (
    stmt.For 1 (Some (sets_local int 1 (number 1))) (Some (binary op.Less (local int 1) (local int 0))) (Some (expr.Step int step.PostIncrement (place.Local int 1))) (does (sets_local int 2 (binary op.Add (local int 2) (local int 1))))
    ∷ stmt.Return 1 (Some (local int 2))
    ∷ [])
    ∷ function ty.Void [] 0 (shows (call int 0 (number 5 ∷ [])) ∷ [])
    ∷ []) 1

-- each part of the loop is one operation, and the condition is one with its jump
sum_is : ops sums 0 ≡ Zero 1 2 ∷ Constant 1 1 ∷ SkipUnless arith.Lt true 1 0 3 ∷ Word arith.Add true 2 2 1 ∷ WordBy arith.Add true 1 1 1 ∷ Turn 2 ∷ Copy 0 2 ∷ Leave 1 ∷ Zero 0 1 ∷ Leave 1 ∷ []
unfolding digits constant operated operated_once operated_at cast negated decided size_constant kinds.kind_of layout_number step_code new_code give_back is_tuple kind_of pointee own_weight work_weight control_weight slots_of pieces_of pieces place_pieces target_pieces row_pieces receiver_pieces statement_pieces body_pieces other_pieces layout layout_of layouts_after aggregate_layout member row_of repeated rounded followed in_order over_each_other words_of is_array is_void hidden-the_row-Ty-0 hidden-the_row-Ty-1 shown-the_row-Ty-0 shown-the_row-Ty-1 shown hidden-the_row-TPlace-0 hidden-the_row-TExpr-1 hidden-the_row-TTarget-2 hidden-the_row-TExpr-3 hidden-the_row-TTarget-5 hidden-the_row-TStmt-0 hidden-the_row-TStmt-1 hidden out-Ty out
sum_is = refl

sums_up : Writes sums (replicate 2 0) (codes "10 ")
unfolding digits constant operated operated_once operated_at cast negated decided size_constant kinds.kind_of layout_number step_code new_code give_back is_tuple kind_of pointee own_weight work_weight control_weight slots_of pieces_of pieces place_pieces target_pieces row_pieces receiver_pieces statement_pieces body_pieces other_pieces layout layout_of layouts_after aggregate_layout member row_of repeated rounded followed in_order over_each_other words_of is_array is_void hidden-the_row-Ty-0 hidden-the_row-Ty-1 shown-the_row-Ty-0 shown-the_row-Ty-1 shown hidden-the_row-TPlace-0 hidden-the_row-TExpr-1 hidden-the_row-TTarget-2 hidden-the_row-TExpr-3 hidden-the_row-TTarget-5 hidden-the_row-TStmt-0 hidden-the_row-TStmt-1 hidden out-Ty out
sums_up = (refl, refl)

-- ---- void main(){int i; while(i<10){i++; if(i==3) continue; if(i==6) break; print(i);} do --i; while(i>4); print(i);
-- ---- switch(i){case 1: print(1); case 4: print(40); case 5: print(50); break; default: print(9);} print((0::2)*10+(0::2));}

abbrev flows : Program
flows = program (function ty.Void (private int ∷ []) 0 (
    stmt.While 1 (binary op.Less (local int 0) (number 10)) (block (
    does (expr.Step int step.PostIncrement (place.Local int 0))
    ∷ stmt.If 1 (binary op.Equal (local int 0) (number 3)) (stmt.Continue 1 1) None
    ∷ stmt.If 1 (binary op.Equal (local int 0) (number 6)) (stmt.Break 1 1) None
    ∷ shows (local int 0)
    ∷ []))
    ∷ stmt.Do 1 (does (expr.Step int step.PreDecrement (place.Local int 0))) (binary op.Greater (local int 0) (number 4))
    ∷ shows (local int 0)
    ∷ stmt.Switch 1 (local int 0) (
    stmt.Case (number 1) 1 ∷ shows (number 1)
    ∷ stmt.Case (number 4) 4 ∷ shows (number 40)
    ∷ stmt.Case (number 5) 5 ∷ shows (number 50) ∷ stmt.Break 1 1
    ∷ stmt.Default ∷ shows (number 9)
    ∷ [])
    ∷ stmt.Value 1 (record { from = number 0; to = number 2 } ∷ record { from = number 0; to = number 2 } ∷ [])
    (expr.Print ty.Void (print.Signed ∷ print.Byte 32 ∷ []) (binary op.Add (binary op.Multiply (expr.Iterator int 0) (number 10)) (expr.Iterator int 1) ∷ []))
    ∷ []) ∷ []) 0

flows_on : Writes flows (replicate 12 0) (codes "1 2 4 5 4 40 50 0 1 10 11 ")
unfolding digits constant operated operated_once operated_at cast negated decided size_constant kinds.kind_of layout_number step_code new_code give_back is_tuple kind_of pointee own_weight work_weight control_weight slots_of pieces_of pieces place_pieces target_pieces row_pieces receiver_pieces statement_pieces body_pieces other_pieces layout layout_of layouts_after aggregate_layout member row_of repeated rounded followed in_order over_each_other words_of is_array is_void hidden-the_row-Ty-0 hidden-the_row-Ty-1 shown-the_row-Ty-0 shown-the_row-Ty-1 shown hidden-the_row-TPlace-0 hidden-the_row-TExpr-1 hidden-the_row-TTarget-2 hidden-the_row-TExpr-3 hidden-the_row-TTarget-5 hidden-the_row-TStmt-0 hidden-the_row-TStmt-1 hidden out-Ty out
flows_on = (refl, refl)
