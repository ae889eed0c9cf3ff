-- Shared storage: aggregates, pointers, parameters, globals and strings.
use Rattle.std.specs.Prelude.{ℕ, true, false, [], ◌∷◌, Some, refl, codes, replicate}
use Rattle.std.specs.Fmt.{digits}
use Rattle.al_base.specs.declared.arith.Kind.TheVariants as kind
use Rattle.al_typed.specs.declared.expression.BinaryOp.TheVariants as op
use Rattle.al_typed.specs.declared.expression.Change.TheVariants as change
use Rattle.al_typed.specs.declared.expression.StepOp.TheVariants as step
use Rattle.al_typed.specs.declared.expression.PrintPiece.TheVariants as print
use Rattle.al_typed.specs.declared.expression.TExpr.TheVariants as expr
use Rattle.al_typed.specs.declared.expression.TExpr.TheBlock.{hidden-the_row-TPlace-0, hidden-the_row-TExpr-1, hidden-the_row-TTarget-2, hidden-the_row-TExpr-3, hidden-the_row-TTarget-5}
use Rattle.al_typed.specs.declared.expression.TPlace.{TPlace}
use Rattle.al_typed.specs.declared.expression.TPlace.TheVariants as place
use Rattle.al_typed.specs.declared.statement.TStmt.TheVariants as stmt
use Rattle.al_typed.specs.declared.statement.TStmt.TheBlock.{hidden-the_row-TStmt-0, hidden-the_row-TStmt-1}
use Rattle.al_typed.specs.declared.program.Aggregate.{Aggregate}
use Rattle.al_typed.specs.declared.program.StartWord.TheVariants as start
use Rattle.al_typed.specs.declared.program.Program.{Program}
use Rattle.al_typed.specs.declared.ty.Ty.{Ty}
use Rattle.al_typed.specs.declared.ty.Ty.TheVariants as ty
use Rattle.al_typed.specs.declared.ty.Ty.TheViews.{out-Ty}
use Rattle.al_typed.specs.declared.ty.Ty.TheBlock.{hidden-the_row-Ty-0, hidden-the_row-Ty-1, shown-the_row-Ty-0, shown-the_row-Ty-1}
use denote.Hole.Carrier.{hidden, shown, out}
use Rattle.al_typed.specs.Types.{int, byte_pointer, is_array, is_void}
use Rattle.al_typed.specs.Layout.{layout, layout_of, layouts_after, aggregate_layout, member, row_of, repeated, rounded, followed, in_order, over_each_other, words_of}
use Rattle.al_typed.specs.Measures.{slots_of, pieces, place_pieces, target_pieces, row_pieces, receiver_pieces, statement_pieces, body_pieces, other_pieces, pieces_of}
use Rattle.al_convert.specs.Kinds as kinds
use Rattle.al_constant.specs.Constants.{constant, operated, cast, negated, decided, operated_at, operated_once, size_constant}
use Rattle.al_meaning.specs.Shown.{kind_of}
use Rattle.al_meaning.specs.Here.{pointee}
use Rattle.al_meaning.specs.Weight.{own_weight, work_weight, control_weight}
use Rattle.al_lower_code.specs.Moving.{layout_number}
use Rattle.al_lower_code.specs.Operators.{step_code}
use Rattle.al_lower_code.specs.Simple.{new_code, give_back}
use Rattle.al_lower_code.specs.Functions.{is_tuple}
use Rattle.al_lower_examples.specs.Forms.{byte, lint, number, long, local, binary, sets, sets_local, call, does, shows, private, shared, function, program, Writes}

-- ---- aggr S{int a; byte b; lint c;}; int f(S s){return s.a+(int)s.c;} void main(){S x,y; S *p; x.a=5; x.c=6; y=x; p=&y; p->a+=2;
-- ---- print(y.a); print(f(y)); zerox y.c; print(f(*p));}

abbrev s_type : Ty
s_type = ty.Aggregate 0

abbrev s_row : Aggregate
s_row = record { is_union = false; members = Some (int ∷ byte ∷ lint ∷ []); size = 16; align = 4; units = 4 }

abbrev s_pointer : Ty
s_pointer = ty.Pointer s_type

abbrev member_of : Ty → ℕ → ℕ → TPlace
member_of t number path = place.Member t (place.Local s_type number) (path ∷ [])

abbrev aggregates : Program
aggregates = record (program (
    function int (shared s_type ∷ []) 1 (
    stmt.Return 1 (Some (binary op.Add (expr.Load int (member_of int 0 0)) (expr.Cast int (expr.Load lint (member_of lint 0 2)))))
    ∷ [])
    ∷ function ty.Void (shared s_type ∷ shared s_type ∷ private s_pointer ∷ []) 0 (
    does (sets int (member_of int 0 0) (number 5))
    ∷ does (sets lint (member_of lint 0 2) (long 6))
    ∷ does (sets s_type (place.Local s_type 1) (expr.Load s_type (place.Local s_type 0)))
    ∷ does (sets_local s_pointer 2 (expr.Address s_pointer (place.Local s_type 1)))
    ∷ does (expr.Update int (place.PointedMember int (local s_pointer 2) (0 ∷ [])) (change.Apply op.Add kind.Int) (number 2))
    ∷ shows (expr.Load int (member_of int 1 0))
    ∷ shows (call int 0 (expr.Load s_type (place.Local s_type 1) ∷ []))
    ∷ does (expr.Zerox lint (member_of lint 1 2))
    ∷ shows (call int 0 (expr.Load s_type (place.Pointed s_type (local s_pointer 2)) ∷ []))
    ∷ [])
    ∷ []) 1) { aggregates = s_row ∷ [] }

stores_members : Writes aggregates (replicate 50 0) (codes "7 13 7 ")
unfolding digits constant operated operated_once operated_at cast negated decided size_constant kinds.kind_of layout_number step_code new_code give_back is_tuple kind_of pointee own_weight work_weight control_weight slots_of pieces_of pieces place_pieces target_pieces row_pieces receiver_pieces statement_pieces body_pieces other_pieces layout layout_of layouts_after aggregate_layout member row_of repeated rounded followed in_order over_each_other words_of is_array is_void hidden-the_row-Ty-0 hidden-the_row-Ty-1 shown-the_row-Ty-0 shown-the_row-Ty-1 shown hidden-the_row-TPlace-0 hidden-the_row-TExpr-1 hidden-the_row-TTarget-2 hidden-the_row-TExpr-3 hidden-the_row-TTarget-5 hidden-the_row-TStmt-0 hidden-the_row-TStmt-1 hidden out-Ty out
stores_members = (refl, refl)

-- ---- int g=3; private lint h; byte *s="hi"; void main(){g++; h=(lint)g; h<<=33; print("%s %d %d ", s, g, h); print(*(&g));}

abbrev globals : Program
globals = record (program (function ty.Void [] 0 (
    does (expr.Step int step.PostIncrement (place.Global int 0))
    ∷ does (sets lint (place.Global lint 1) (expr.Cast lint (expr.Load int (place.Global int 0))))
    ∷ does (expr.Update lint (place.Global lint 1) (change.Apply op.ShiftLeft kind.Lint) (long 33))
    ∷ does (expr.Print ty.Void (print.Text ∷ print.Byte 32 ∷ print.Signed ∷ print.Byte 32 ∷ print.Signed ∷ print.Byte 32 ∷ []) (
    expr.Load byte_pointer (place.Global byte_pointer 2) ∷ expr.Load int (place.Global int 0) ∷ expr.Load lint (place.Global lint 1) ∷ []))
    ∷ shows (expr.Load int (place.Pointed int (expr.Address (ty.Pointer int) (place.Global int 0))))
    ∷ []) ∷ []) 0) {
      globals = record { name = []; ty = int; is_private = false; start = record { at = 0; size = 4; word = start.Number 3 } ∷ [] }
          ∷ record { name = []; ty = lint; is_private = true; start = [] }
          ∷ record { name = []; ty = byte_pointer; is_private = false; start = record { at = 0; size = 4; word = start.Text 0 } ∷ [] }
          ∷ [];
      strings = codes "hi" ∷ [];
    }

opens : Writes globals (replicate 12 0) (codes "hi 4 34359738368 4 ")
unfolding digits constant operated operated_once operated_at cast negated decided size_constant kinds.kind_of layout_number step_code new_code give_back is_tuple kind_of pointee own_weight work_weight control_weight slots_of pieces_of pieces place_pieces target_pieces row_pieces receiver_pieces statement_pieces body_pieces other_pieces layout layout_of layouts_after aggregate_layout member row_of repeated rounded followed in_order over_each_other words_of is_array is_void hidden-the_row-Ty-0 hidden-the_row-Ty-1 shown-the_row-Ty-0 shown-the_row-Ty-1 shown hidden-the_row-TPlace-0 hidden-the_row-TExpr-1 hidden-the_row-TTarget-2 hidden-the_row-TExpr-3 hidden-the_row-TTarget-5 hidden-the_row-TStmt-0 hidden-the_row-TStmt-1 hidden out-Ty out
opens = (refl, refl)
