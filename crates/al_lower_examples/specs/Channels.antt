-- Procs, channels, alt and par.
use Rattle.std.specs.Prelude.{◌≡◌, ℕ, [], ◌∷◌, refl, codes, replicate}
use Rattle.std.specs.Fmt.{digits}
use Rattle.al_typed.specs.declared.expression.BinaryOp.TheVariants as op
use Rattle.al_typed.specs.declared.expression.TTarget.TheVariants as target
use Rattle.al_typed.specs.declared.expression.TExpr.TheVariants as expr
use Rattle.al_typed.specs.declared.expression.TExpr.TheBlock.{hidden-the_row-TPlace-0, hidden-the_row-TExpr-1, hidden-the_row-TTarget-2, hidden-the_row-TExpr-3, hidden-the_row-TTarget-5}
use Rattle.al_typed.specs.declared.expression.TPlace.{TPlace}
use Rattle.al_typed.specs.declared.expression.TPlace.TheVariants as place
use Rattle.al_typed.specs.declared.statement.TCommunication.TheVariants as talk
use Rattle.al_typed.specs.declared.statement.TStmt.{TStmt}
use Rattle.al_typed.specs.declared.statement.TStmt.TheVariants as stmt
use Rattle.al_typed.specs.declared.statement.TStmt.TheBlock.{hidden-the_row-TStmt-0, hidden-the_row-TStmt-1}
use Rattle.al_typed.specs.declared.program.Program.{Program}
use Rattle.al_typed.specs.declared.ty.Ty.{Ty}
use Rattle.al_typed.specs.declared.ty.Ty.TheVariants as ty
use Rattle.al_typed.specs.declared.ty.Ty.TheViews.{out-Ty}
use Rattle.al_typed.specs.declared.ty.Ty.TheBlock.{hidden-the_row-Ty-0, hidden-the_row-Ty-1, shown-the_row-Ty-0, shown-the_row-Ty-1}
use denote.Hole.Carrier.{hidden, shown, out}
use Rattle.al_typed.specs.Types.{int, is_array, is_void}
use Rattle.al_typed.specs.Layout.{layout, layout_of, layouts_after, aggregate_layout, member, row_of, repeated, rounded, followed, in_order, over_each_other, words_of}
use Rattle.al_typed.specs.Measures.{slots_of, pieces, place_pieces, target_pieces, row_pieces, receiver_pieces, statement_pieces, body_pieces, other_pieces, pieces_of}
use Rattle.al_convert.specs.Kinds as kinds
use Rattle.al_constant.specs.Constants.{constant, operated, cast, negated, decided, operated_at, operated_once, size_constant}
use Rattle.al_meaning.specs.Shown.{kind_of}
use Rattle.al_meaning.specs.Here.{pointee}
use Rattle.al_meaning.specs.Weight.{own_weight, work_weight, control_weight}
use Rattle.al_ir.specs.declared.op.Op.TheVariants.{Constant, Leave, Store}
use Rattle.al_lower_code.specs.Moving.{layout_number}
use Rattle.al_lower_code.specs.Operators.{step_code}
use Rattle.al_lower_code.specs.Simple.{new_code, give_back}
use Rattle.al_lower_code.specs.Functions.{is_tuple}
use Rattle.al_lower_examples.specs.Forms.{byte, number, local, binary, sets, call, does, shows, private, shared, function, branch, program, Writes, ops}

-- ---- void s(chan(byte) c){c<-=300;} void main(){chan(byte) c; alloc c; proc s(c); print("%d ",<-c);}

abbrev bytes_through : Ty
bytes_through = ty.Chan byte 0

abbrev exchange : Program
exchange = program (
    function ty.Void (private bytes_through ∷ []) 1 (does (expr.Send ty.Void (local bytes_through 0) (expr.Convert byte (number 300))) ∷ [])
    ∷ function ty.Void (private bytes_through ∷ []) 0 (
    stmt.Alloc 1 (place.Local bytes_through 0 ∷ [])
    ∷ stmt.Proc 1 (call ty.Void 0 (local bytes_through 0 ∷ []) ∷ [])
    ∷ shows (expr.Convert int (expr.Receive byte (local bytes_through 0)))
    ∷ [])
    ∷ []) 1

exchanges : Writes exchange (0 ∷ 0 ∷ 0 ∷ 1 ∷ 1 ∷ 0 ∷ 0 ∷ []) (codes "44 ")
unfolding digits constant operated operated_once operated_at cast negated decided size_constant kinds.kind_of layout_number step_code new_code give_back is_tuple kind_of pointee own_weight work_weight control_weight slots_of pieces_of pieces place_pieces target_pieces row_pieces receiver_pieces statement_pieces body_pieces other_pieces layout layout_of layouts_after aggregate_layout member row_of repeated rounded followed in_order over_each_other words_of is_array is_void hidden-the_row-Ty-0 hidden-the_row-Ty-1 shown-the_row-Ty-0 shown-the_row-Ty-1 shown hidden-the_row-TPlace-0 hidden-the_row-TExpr-1 hidden-the_row-TTarget-2 hidden-the_row-TExpr-3 hidden-the_row-TTarget-5 hidden-the_row-TStmt-0 hidden-the_row-TStmt-1 hidden out-Ty out
exchanges = (refl, refl)

-- ---- void s(chan(int) c){c<-=7;} void main(){chan(int) c,d; int x; alloc c,d; task s(c); alt{case x=<-c: print(x); case d<-=5:
-- ---- print(5);} unalloc c;}

abbrev channel : Ty
channel = ty.Chan int 0

abbrev choice : Program
choice = program (
    function ty.Void (private channel ∷ []) 1 (does (expr.Send ty.Void (local channel 0) (number 7)) ∷ [])
    ∷ function ty.Void (private channel ∷ private channel ∷ private int ∷ []) 0 (
    stmt.Alloc 1 (place.Local channel 0 ∷ place.Local channel 1 ∷ [])
    ∷ stmt.Task 1 (call ty.Void 0 (local channel 0 ∷ []) ∷ [])
    ∷ stmt.Alt 1 (
    stmt.AltCase (talk.Send (local channel 1) (number 5))
    ∷ shows (number 5)
    ∷ stmt.AltCase (talk.ReceiveInto int (target.Into (place.Local int 2)) (local channel 0))
    ∷ shows (local int 2)
    ∷ [])
    ∷ stmt.Unalloc 1 (local channel 0 ∷ [])
    ∷ [])
    ∷ []) 1

chooses : Writes choice (replicate 9 0) (codes "7 ")
unfolding digits constant operated operated_once operated_at cast negated decided size_constant kinds.kind_of layout_number step_code new_code give_back is_tuple kind_of pointee own_weight work_weight control_weight slots_of pieces_of pieces place_pieces target_pieces row_pieces receiver_pieces statement_pieces body_pieces other_pieces layout layout_of layouts_after aggregate_layout member row_of repeated rounded followed in_order over_each_other words_of is_array is_void hidden-the_row-Ty-0 hidden-the_row-Ty-1 shown-the_row-Ty-0 shown-the_row-Ty-1 shown hidden-the_row-TPlace-0 hidden-the_row-TExpr-1 hidden-the_row-TTarget-2 hidden-the_row-TExpr-3 hidden-the_row-TTarget-5 hidden-the_row-TStmt-0 hidden-the_row-TStmt-1 hidden out-Ty out
chooses = (refl, refl)

-- ---- void main(){int a[2]; par{a[0]=1; a[1]=2;} print(a[0]+a[1]);}

abbrev array : Ty
array = ty.Array int 2

abbrev element_of : TPlace → ℕ → TPlace
element_of base i = place.Element int (expr.Decay (ty.Pointer int) base) (number i)

abbrev sets_element : ℕ → ℕ → TStmt
sets_element i n = does (sets int (element_of (place.Outer array 0 0) i) (number n))

abbrev side_by_side : Program
side_by_side = program (
    function ty.Void (shared array ∷ []) 0 (
    stmt.Par 1 (1 ∷ 2 ∷ [])
    ∷ shows (binary op.Add (expr.Load int (element_of (place.Local array 0) 0)) (expr.Load int (element_of (place.Local array 0) 1)))
    ∷ [])
    ∷ branch 0 (sets_element 0 1)
    ∷ branch 0 (sets_element 1 2)
    ∷ []) 0

-- an element that a constant names is one store, at its offset from the address that the branch was given
branch_is : ops side_by_side 2 ≡ Constant 3 2 ∷ Store 0 4 4 3 ∷ Leave 0 ∷ []
unfolding digits constant operated operated_once operated_at cast negated decided size_constant kinds.kind_of layout_number step_code new_code give_back is_tuple kind_of pointee own_weight work_weight control_weight slots_of pieces_of pieces place_pieces target_pieces row_pieces receiver_pieces statement_pieces body_pieces other_pieces layout layout_of layouts_after aggregate_layout member row_of repeated rounded followed in_order over_each_other words_of is_array is_void hidden-the_row-Ty-0 hidden-the_row-Ty-1 shown-the_row-Ty-0 shown-the_row-Ty-1 shown hidden-the_row-TPlace-0 hidden-the_row-TExpr-1 hidden-the_row-TTarget-2 hidden-the_row-TExpr-3 hidden-the_row-TTarget-5 hidden-the_row-TStmt-0 hidden-the_row-TStmt-1 hidden out-Ty out
branch_is = refl

adds_up : Writes side_by_side (0 ∷ 0 ∷ 1 ∷ 1 ∷ 2 ∷ 2 ∷ 0 ∷ 0 ∷ 0 ∷ 0 ∷ 0 ∷ []) (codes "3 ")
unfolding digits constant operated operated_once operated_at cast negated decided size_constant kinds.kind_of layout_number step_code new_code give_back is_tuple kind_of pointee own_weight work_weight control_weight slots_of pieces_of pieces place_pieces target_pieces row_pieces receiver_pieces statement_pieces body_pieces other_pieces layout layout_of layouts_after aggregate_layout member row_of repeated rounded followed in_order over_each_other words_of is_array is_void hidden-the_row-Ty-0 hidden-the_row-Ty-1 shown-the_row-Ty-0 shown-the_row-Ty-1 shown hidden-the_row-TPlace-0 hidden-the_row-TExpr-1 hidden-the_row-TTarget-2 hidden-the_row-TExpr-3 hidden-the_row-TTarget-5 hidden-the_row-TStmt-0 hidden-the_row-TStmt-1 hidden out-Ty out
adds_up = (refl, refl)
