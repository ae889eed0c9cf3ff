-- Worked runs of small programs.
use Rattle.std.specs.Prelude.{◌≡◌, ℕ, true, false, List, [], ◌∷◌, Option, Some, None, option_map, refl, codes, map}
use Rattle.std.specs.Fmt.{digits}
use Rattle.al_base.specs.declared.arith.Kind.TheVariants as kind
use Rattle.al_base.specs.declared.over.Over.TheVariants.{Done}
use Rattle.al_world.specs.World.{Shared, World}
use Rattle.al_world.specs.Scripts.{by_procs, output_of, over_of}
use Rattle.al_typed.specs.declared.expression.BinaryOp.TheVariants as op
use Rattle.al_typed.specs.declared.expression.UnaryOp.TheVariants as unary
use Rattle.al_typed.specs.declared.expression.PrintPiece.{PrintPiece}
use Rattle.al_typed.specs.declared.expression.PrintPiece.TheVariants as print
use Rattle.al_typed.specs.declared.expression.TTarget.TheVariants as target
use Rattle.al_typed.specs.declared.expression.TExpr.{TExpr}
use Rattle.al_typed.specs.declared.expression.TExpr.TheVariants as expr
use Rattle.al_typed.specs.declared.expression.TExpr.TheBlock.{hidden-the_row-TPlace-0, hidden-the_row-TExpr-1, hidden-the_row-TTarget-2, hidden-the_row-TExpr-3}
use Rattle.al_typed.specs.declared.expression.TPlace.{TPlace}
use Rattle.al_typed.specs.declared.expression.TPlace.TheVariants as place
use Rattle.al_typed.specs.declared.statement.TStmt.{TStmt}
use Rattle.al_typed.specs.declared.statement.TStmt.TheVariants as stmt
use Rattle.al_typed.specs.declared.statement.TStmt.TheBlock.{hidden-the_row-TStmt-0, hidden-the_row-TStmt-1}
use Rattle.al_typed.specs.declared.program.Function.{Function}
use Rattle.al_typed.specs.declared.program.Local.{Local}
use Rattle.al_typed.specs.declared.program.Program.{Program}
use Rattle.al_typed.specs.declared.ty.Ty.{Ty}
use Rattle.al_typed.specs.declared.ty.Ty.TheVariants as ty
use Rattle.al_typed.specs.declared.ty.Ty.TheViews.{out-Ty}
use Rattle.al_typed.specs.declared.ty.Ty.TheBlock.{hidden-the_row-Ty-0, shown-the_row-Ty-0}
use denote.Hole.Carrier.{hidden, shown, out}
use Rattle.al_typed.specs.Types.{int, is_array, is_void}
use Rattle.al_typed.specs.Layout.{layout, layout_of, layouts_after, words_of, rounded, repeated, followed, in_order}
use Rattle.al_typed.specs.Measures.{slots_of, pieces, place_pieces, target_pieces, row_pieces, receiver_pieces, statement_pieces, body_pieces, other_pieces, pieces_of}
use Rattle.al_meaning.specs.Shown.{kind_of}
use Rattle.al_meaning.specs.Here.{pointee}
use Rattle.al_meaning.specs.Weight.{own_weight, work_weight, control_weight}
use Rattle.al_meaning.specs.Meaning.{source, run}

-- ---- short forms

abbrev number : ℕ → TExpr
number n = expr.Constant int n

abbrev function : List ℕ → List Local → ℕ → List TStmt → Function
function name locals parameters body = record {
  name = name;
  line = 1;
  returns = ty.Void;
  parameters = parameters;
  locals = locals;
  around = [];
  labels = 2;
  body = stmt.Block 1 body;
}

abbrev branch : ℕ → TStmt → Function
branch outer body = record { name = codes "par"; line = 1; returns = ty.Void; parameters = 0; locals = []; around = outer ∷ []; labels = 0; body = body }

abbrev program : List Function → ℕ → Program
program functions main = record { aggregates = []; globals = []; strings = []; elements = []; functions = functions; main = main }

abbrev bytes : List ℕ → List PrintPiece
bytes text = map print.Byte text

-- print of a text
abbrev prints : List ℕ → TStmt
prints text = stmt.Value 1 [] (expr.Print ty.Void (bytes text) [])

abbrev region : ℕ
region = 0x1000000

-- what all can see after entries of these procs
abbrev after : Program → List ℕ → Option Shared
after p procs = option_map (λ (w : World (source p)). w.shared) (run p region (by_procs procs))

abbrev variable : Ty → List ℕ → Local
variable t name = record { name = name; ty = t; is_shared = false }

abbrev local : Ty → ℕ → TExpr
local t n = expr.Load t (place.Local t n)

abbrev statement : TExpr → TStmt
statement e = stmt.Value 1 [] e

-- ---- void main(){}

abbrev empty : Program
empty = program (function (codes "main") [] 0 [] ∷ []) 0

ends_at_once : over_of (after empty (0 ∷ [])) ≡ Some (Some Done)
unfolding kind_of pointee own_weight work_weight control_weight layout layout_of layouts_after is_array is_void hidden-the_row-TStmt-0 hidden-the_row-TStmt-1 hidden out-Ty out
ends_at_once = refl

-- ---- void main(){print("%d\n", 7/2*-3);}

abbrev quotient : Program
quotient = program (function (codes "main") [] 0 (
    statement (expr.Print ty.Void (print.Signed ∷ print.Byte 10 ∷ [])
    (expr.Binary int op.Multiply kind.Int (expr.Binary int op.Divide kind.Int (number 7) (number 2)) (expr.Unary int unary.Minus (number 3)) ∷ []))
    ∷ []) ∷ []) 0

writes_a_quotient : output_of (after quotient (0 ∷ 0 ∷ [])) ≡ Some (codes "-9\n")
unfolding digits kind_of pointee own_weight work_weight control_weight layout layout_of layouts_after is_array is_void hidden-the_row-TPlace-0 hidden-the_row-TExpr-1 hidden-the_row-TExpr-3 hidden-the_row-TStmt-0 hidden-the_row-TStmt-1 hidden out-Ty out
writes_a_quotient = refl

-- ---- void s(chan(int) c){c<-=42;} void main(){chan(int) c;alloc c;proc s(c);print("%d\n",<-c);}

abbrev channel : Ty
channel = ty.Chan int 0

abbrev exchange : Program
exchange = program (
    function (codes "s") (variable channel (codes "c") ∷ []) 1 (statement (expr.Send ty.Void (local channel 0) (number 42)) ∷ [])
    ∷ function (codes "main") (variable channel (codes "c") ∷ []) 0 (
    stmt.Declare 1 []
    ∷ stmt.Alloc 1 (place.Local channel 0 ∷ [])
    ∷ stmt.Proc 1 (expr.Call ty.Void 0 None (local channel 0 ∷ []) ∷ [])
    ∷ statement (expr.Print ty.Void (print.Signed ∷ print.Byte 10 ∷ []) (expr.Receive int (local channel 0) ∷ []))
    ∷ [])
    ∷ []) 1

exchanges : output_of (after exchange (0 ∷ 0 ∷ 0 ∷ 1 ∷ 1 ∷ 0 ∷ 0 ∷ [])) ≡ Some (codes "42\n")
unfolding digits kind_of pointee own_weight work_weight control_weight layout layout_of layouts_after words_of is_array is_void hidden-the_row-Ty-0 shown-the_row-Ty-0 shown hidden-the_row-TPlace-0 hidden-the_row-TExpr-1 hidden-the_row-TExpr-3 hidden-the_row-TStmt-0 hidden-the_row-TStmt-1 hidden out-Ty out
exchanges = refl

-- ---- void main(){rescue{print("b");return;} rescue{print("c");raise;} raise;}

abbrev rescues : Program
rescues = program (function (codes "main") [] 0 (
    stmt.Rescue 1 0 (stmt.Block 1 (prints (codes "b") ∷ stmt.Return 1 None ∷ []))
    ∷ stmt.Rescue 1 1 (stmt.Block 1 (prints (codes "c") ∷ stmt.Raise 1 0 ∷ []))
    ∷ stmt.Raise 1 1
    ∷ []) ∷ []) 0

raises : output_of (after rescues (0 ∷ 0 ∷ 0 ∷ [])) ≡ Some (codes "cb")
unfolding digits kind_of pointee own_weight work_weight control_weight layout layout_of layouts_after words_of is_array is_void hidden-the_row-TPlace-0 hidden-the_row-TExpr-1 hidden-the_row-TExpr-3 hidden-the_row-TStmt-0 hidden-the_row-TStmt-1 hidden out-Ty out
raises = refl

-- ---- void main(){int a[2];par{a[0]=1;a[1]=2;}print("%d\n",a[0]+a[1]);}

abbrev array : Ty
array = ty.Array int 2

abbrev element_of : TPlace → ℕ → TPlace
element_of base i = place.Element int (expr.Decay (ty.Pointer int) base) (number i)

abbrev sets_element : ℕ → ℕ → TStmt
sets_element i n = statement (expr.Assign int (target.Into (element_of (place.Outer array 0 0) i)) (number n))

abbrev pair : Program
pair = program (
    function (codes "main") (record { name = codes "a"; ty = array; is_shared = true } ∷ []) 0 (
    stmt.Declare 1 []
    ∷ stmt.Par 1 (1 ∷ 2 ∷ [])
    ∷ statement (expr.Print ty.Void (print.Signed ∷ print.Byte 10 ∷ []) (
    expr.Binary int op.Add kind.Int (expr.Load int (element_of (place.Local array 0) 0)) (expr.Load int (element_of (place.Local array 0) 1)) ∷ []))
    ∷ [])
    ∷ branch 0 (sets_element 0 1)
    ∷ branch 0 (sets_element 1 2)
    ∷ []) 0

adds_up : output_of (after pair (0 ∷ 0 ∷ 1 ∷ 1 ∷ 2 ∷ 2 ∷ 0 ∷ 0 ∷ 0 ∷ 0 ∷ 0 ∷ [])) ≡ Some (codes "3\n")
unfolding digits kind_of pointee own_weight work_weight control_weight layout layout_of layouts_after words_of repeated rounded followed in_order is_array is_void hidden-the_row-Ty-0 hidden-the_row-TPlace-0 hidden-the_row-TExpr-1 hidden-the_row-TTarget-2 hidden-the_row-TExpr-3 hidden-the_row-TStmt-0 hidden-the_row-TStmt-1 hidden out-Ty out
adds_up = refl

-- ---- void f(int n){if(n==0)return;become f(n-1);} void main(){f(3);}

abbrev becomes : Program
becomes = program (
    function (codes "f") (variable int (codes "n") ∷ []) 1 (
    stmt.If 1 (expr.Binary int op.Equal kind.Int (local int 0) (number 0)) (stmt.Return 1 None) None
    ∷ stmt.Become 1 (expr.Call ty.Void 0 None (expr.Binary int op.Subtract kind.Int (local int 0) (number 1) ∷ []))
    ∷ [])
    ∷ function (codes "main") [] 0 (statement (expr.Call ty.Void 0 None (number 3 ∷ [])) ∷ [])
    ∷ []) 1

becomes_ends : over_of (after becomes (0 ∷ [])) ≡ Some (Some Done)
unfolding slots_of kind_of pointee own_weight work_weight control_weight layout layout_of layouts_after words_of is_array is_void pieces_of pieces place_pieces target_pieces row_pieces receiver_pieces statement_pieces body_pieces other_pieces hidden-the_row-Ty-0 hidden-the_row-TPlace-0 hidden-the_row-TExpr-1 hidden-the_row-TExpr-3 hidden-the_row-TStmt-0 hidden-the_row-TStmt-1 hidden out-Ty out
becomes_ends = refl
