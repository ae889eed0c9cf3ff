-- Worked runs of small programs, each by computing the run of the meaning along the procs of its entries.
use Rattle.std.specs.Prelude.{◌≡◌, ℕ, pos, [], ◌∷◌, Some, refl, codes}
use Rattle.std.specs.Fmt.{digits}
use Rattle.al_base.specs.declared.arith.Kind.TheVariants as kind
use Rattle.al_base.specs.declared.over.Over.TheVariants.{Stopped, Trapped, Blocked}
use Rattle.al_base.specs.declared.trap.Trap.TheVariants as trap
use Rattle.al_world.specs.Scripts.{output_of, over_of}
use Rattle.al_typed.specs.declared.expression.BinaryOp.TheVariants as op
use Rattle.al_typed.specs.declared.expression.PrintPiece.TheVariants as print
use Rattle.al_typed.specs.declared.expression.TExpr.TheVariants as expr
use Rattle.al_typed.specs.declared.expression.TExpr.TheBlock.{hidden-the_row-TPlace-0, hidden-the_row-TExpr-1, hidden-the_row-TTarget-2, hidden-the_row-TExpr-3}
use Rattle.al_typed.specs.declared.expression.TPlace.TheVariants as place
use Rattle.al_typed.specs.declared.statement.TCommunication.TheVariants as communication
use Rattle.al_typed.specs.declared.statement.TStmt.{TStmt}
use Rattle.al_typed.specs.declared.statement.TStmt.TheVariants as stmt
use Rattle.al_typed.specs.declared.statement.TStmt.TheBlock.{hidden-the_row-TStmt-0, hidden-the_row-TStmt-1}
use Rattle.al_typed.specs.declared.program.Program.{Program}
use Rattle.al_typed.specs.declared.ty.Ty.TheVariants as ty
use Rattle.al_typed.specs.declared.ty.Ty.TheViews.{out-Ty}
use Rattle.al_typed.specs.declared.ty.Ty.TheBlock.{hidden-the_row-Ty-0, shown-the_row-Ty-0}
use denote.Hole.Carrier.{hidden, shown, out}
use Rattle.al_typed.specs.Types.{int, is_array, is_void}
use Rattle.al_typed.specs.Layout.{layout, layout_of, layouts_after, words_of, rounded, repeated, followed, in_order}
use Rattle.al_typed.specs.Measures.{slots_of, pieces, place_pieces, target_pieces, row_pieces, receiver_pieces, statement_pieces, body_pieces, other_pieces, pieces_of}
use Rattle.al_meaning.specs.Shown.{kind_of}
use Rattle.al_meaning.specs.Here.{pointee}
use Rattle.al_meaning.specs.Weight.{own_weight, work_weight, control_weight}
use Rattle.al_meaning_tests.specs.Forms.{lint, channel, number, local, global, call, does, prints, prints_number, sets_global, sets_local, variable, function, branch, shared, program, after}

-- ---- void main(){int x;x=0;print("a");print("%d\n",1/x);}

abbrev by_zero : Program
by_zero = program [] (function (codes "main") ty.Void (variable int (codes "x") ∷ []) (
    stmt.Declare 1 [] ∷ sets_local int 0 (number 0) ∷ prints (codes "a")
    ∷ prints_number (expr.Binary int op.Divide kind.Int (number 1) (local int 0)) ∷ []) ∷ []) 0

divides_by_zero : over_of (after by_zero (0 ∷ 0 ∷ [])) ≡ Some (Some (Trapped trap.Divide 0 1))
unfolding kind_of pointee own_weight work_weight control_weight layout layout_of layouts_after words_of is_array is_void hidden-the_row-TPlace-0 hidden-the_row-TExpr-1 hidden-the_row-TTarget-2 hidden-the_row-TExpr-3 hidden-the_row-TStmt-0 hidden-the_row-TStmt-1 hidden out-Ty out
divides_by_zero = refl

-- ---- void main(){terminate(3);}

abbrev ends_itself : Program
ends_itself = program [] (function (codes "main") ty.Void [] (does (expr.Terminate ty.Void (number 3)) ∷ []) ∷ []) 0

terminates : over_of (after ends_itself (0 ∷ [])) ≡ Some (Some (Stopped (pos 3)))
unfolding kind_of pointee own_weight work_weight control_weight layout layout_of layouts_after words_of is_array is_void hidden-the_row-TPlace-0 hidden-the_row-TExpr-1 hidden-the_row-TExpr-3 hidden-the_row-TStmt-0 hidden-the_row-TStmt-1 hidden out-Ty out
terminates = refl

-- ---- void main(){chan(int)[2] c;int a;alloc c;c<-=1;c<-=2;a=<-c;print("%d\n",a);}

abbrev buffered : Program
buffered = program [] (function (codes "main") ty.Void (variable (channel 2) (codes "c") ∷ variable int (codes "a") ∷ []) (
    stmt.Declare 1 [] ∷ stmt.Declare 1 [] ∷ stmt.Alloc 1 (place.Local (channel 2) 0 ∷ [])
    ∷ does (expr.Send ty.Void (local (channel 2) 0) (number 1)) ∷ does (expr.Send ty.Void (local (channel 2) 0) (number 2))
    ∷ sets_local int 1 (expr.Receive int (local (channel 2) 0)) ∷ prints_number (local int 1) ∷ []) ∷ []) 0

gets_the_first : output_of (after buffered (0 ∷ 0 ∷ 0 ∷ 0 ∷ 0 ∷ 0 ∷ [])) ≡ Some (codes "1\n")
unfolding digits kind_of pointee own_weight work_weight control_weight layout layout_of layouts_after words_of is_array is_void hidden-the_row-Ty-0 shown-the_row-Ty-0 shown hidden-the_row-TPlace-0 hidden-the_row-TExpr-1 hidden-the_row-TTarget-2 hidden-the_row-TExpr-3 hidden-the_row-TStmt-0 hidden-the_row-TStmt-1 hidden out-Ty out
gets_the_first = refl

-- ---- void main(){chan(int) c;alloc c;c<-=1;}

abbrev alone : Program
alone = program [] (function (codes "main") ty.Void (variable (channel 0) (codes "c") ∷ []) (
    stmt.Declare 1 [] ∷ stmt.Alloc 1 (place.Local (channel 0) 0 ∷ []) ∷ does (expr.Send ty.Void (local (channel 0) 0) (number 1)) ∷ []) ∷ []) 0

blocks : over_of (after alone (0 ∷ 0 ∷ [])) ≡ Some (Some Blocked)
unfolding kind_of pointee own_weight work_weight control_weight layout layout_of layouts_after words_of is_array is_void hidden-the_row-Ty-0 shown-the_row-Ty-0 shown hidden-the_row-TPlace-0 hidden-the_row-TExpr-1 hidden-the_row-TExpr-3 hidden-the_row-TStmt-0 hidden-the_row-TStmt-1 hidden out-Ty out
blocks = refl

-- ---- void t(){print("1");print("2");} void u(){print("3");} void main(){task t();task u();}

abbrev tasks : Program
tasks = program [] (
    function (codes "t") ty.Void [] (prints (codes "1") ∷ prints (codes "2") ∷ [])
    ∷ function (codes "u") ty.Void [] (prints (codes "3") ∷ [])
    ∷ function (codes "main") ty.Void [] (stmt.Task 1 (call ty.Void 0 ∷ []) ∷ stmt.Task 1 (call ty.Void 1 ∷ []) ∷ [])
    ∷ []) 2

go_one_after_another : output_of (after tasks (0 ∷ 0 ∷ 0 ∷ 0 ∷ 0 ∷ 0 ∷ 0 ∷ 0 ∷ [])) ≡ Some (codes "123")
unfolding digits kind_of pointee own_weight work_weight control_weight layout layout_of layouts_after words_of is_array is_void hidden-the_row-TPlace-0 hidden-the_row-TExpr-1 hidden-the_row-TExpr-3 hidden-the_row-TStmt-0 hidden-the_row-TStmt-1 hidden out-Ty out
go_one_after_another = refl

-- ---- int f(){print("f");return 1;} int g(){print("g");return 2;}
-- ---- void main(){chan(int)[1] c,d;alloc c,d;alt{case c<-=f():break;case d<-=g():break;}}

abbrev sends_case : ℕ → ℕ → TStmt
sends_case c f = stmt.AltCase (communication.Send (local (channel 1) c) (call int f))

abbrev alternatives : Program
alternatives = program [] (
    function (codes "f") int [] (prints (codes "f") ∷ stmt.Return 1 (Some (number 1)) ∷ [])
    ∷ function (codes "g") int [] (prints (codes "g") ∷ stmt.Return 1 (Some (number 2)) ∷ [])
    ∷ function (codes "main") ty.Void (variable (channel 1) (codes "c") ∷ variable (channel 1) (codes "d") ∷ []) (
    stmt.Declare 1 [] ∷ stmt.Alloc 1 (place.Local (channel 1) 0 ∷ place.Local (channel 1) 1 ∷ [])
    ∷ stmt.Alt 1 (sends_case 0 0 ∷ stmt.Break 1 1 ∷ sends_case 1 1 ∷ stmt.Break 1 1 ∷ []) ∷ [])
    ∷ []) 2

evaluates_all_cases : output_of (after alternatives (0 ∷ 0 ∷ 0 ∷ 0 ∷ 0 ∷ 0 ∷ [])) ≡ Some (codes "fg")
unfolding digits slots_of kind_of pointee own_weight work_weight control_weight layout layout_of layouts_after words_of is_array is_void pieces_of pieces place_pieces target_pieces row_pieces receiver_pieces statement_pieces body_pieces other_pieces hidden-the_row-Ty-0 shown-the_row-Ty-0 shown hidden-the_row-TPlace-0 hidden-the_row-TExpr-1 hidden-the_row-TTarget-2 hidden-the_row-TExpr-3 hidden-the_row-TStmt-0 hidden-the_row-TStmt-1 hidden out-Ty out
evaluates_all_cases = refl

-- ---- int x; void f(){x=x+1;} void main(){par{f();f();}print("%d\n",x);}

abbrev counts : Program
counts = program (shared int (codes "x") ∷ []) (
    function (codes "f") ty.Void [] (sets_global int (expr.Binary int op.Add kind.Int (global int) (number 1)) ∷ [])
    ∷ function (codes "main") ty.Void [] (stmt.Par 1 (2 ∷ 3 ∷ []) ∷ prints_number (global int) ∷ [])
    ∷ branch 1 (does (call ty.Void 0)) ∷ branch 1 (does (call ty.Void 0)) ∷ []) 1

-- one branch after the other
counts_both : output_of (after counts (0 ∷ 1 ∷ 1 ∷ 1 ∷ 2 ∷ 2 ∷ 2 ∷ 0 ∷ 0 ∷ 0 ∷ [])) ≡ Some (codes "2\n")
unfolding digits slots_of kind_of pointee own_weight work_weight control_weight layout layout_of layouts_after words_of rounded repeated followed in_order is_array is_void pieces_of pieces place_pieces target_pieces row_pieces receiver_pieces statement_pieces body_pieces other_pieces hidden-the_row-Ty-0 shown-the_row-Ty-0 shown hidden-the_row-TPlace-0 hidden-the_row-TExpr-1 hidden-the_row-TTarget-2 hidden-the_row-TExpr-3 hidden-the_row-TStmt-0 hidden-the_row-TStmt-1 hidden out-Ty out
counts_both = refl

-- both load before one stores
loses_one : output_of (after counts (0 ∷ 1 ∷ 2 ∷ 1 ∷ 2 ∷ 1 ∷ 2 ∷ 0 ∷ 0 ∷ 0 ∷ [])) ≡ Some (codes "1\n")
unfolding digits slots_of kind_of pointee own_weight work_weight control_weight layout layout_of layouts_after words_of rounded repeated followed in_order is_array is_void pieces_of pieces place_pieces target_pieces row_pieces receiver_pieces statement_pieces body_pieces other_pieces hidden-the_row-Ty-0 shown-the_row-Ty-0 shown hidden-the_row-TPlace-0 hidden-the_row-TExpr-1 hidden-the_row-TTarget-2 hidden-the_row-TExpr-3 hidden-the_row-TStmt-0 hidden-the_row-TStmt-1 hidden out-Ty out
loses_one = refl

-- ---- lint v; void w(){v=0x100000002;} void main(){par{w();print("%x\n",v);}}

abbrev halves : Program
halves = program (shared lint (codes "v") ∷ []) (
    function (codes "w") ty.Void [] (sets_global lint (expr.Constant lint 0x100000002) ∷ [])
    ∷ function (codes "main") ty.Void [] (stmt.Par 1 (2 ∷ 3 ∷ []) ∷ [])
    ∷ branch 1 (does (call ty.Void 0))
    ∷ branch 1 (does (expr.Print ty.Void (print.Hexadecimal ∷ print.Byte 10 ∷ []) (global lint ∷ [])))
    ∷ []) 1

-- the low word is new, the high word old
reads_between : output_of (after halves (0 ∷ 1 ∷ 2 ∷ 2 ∷ 1 ∷ 2 ∷ 1 ∷ 2 ∷ 0 ∷ [])) ≡ Some (codes "2\n")
unfolding digits slots_of kind_of pointee own_weight work_weight control_weight layout layout_of layouts_after words_of rounded repeated followed in_order is_array is_void pieces_of pieces place_pieces target_pieces row_pieces receiver_pieces statement_pieces body_pieces other_pieces hidden-the_row-Ty-0 shown-the_row-Ty-0 shown hidden-the_row-TPlace-0 hidden-the_row-TExpr-1 hidden-the_row-TTarget-2 hidden-the_row-TExpr-3 hidden-the_row-TStmt-0 hidden-the_row-TStmt-1 hidden out-Ty out
reads_between = refl
