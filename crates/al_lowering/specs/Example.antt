-- A program that meets all that lowering asks: an aggregate, a pointer to it, members and a call; and two that are not well typed.
use Rattle.std.specs.Prelude.{false, List, [], ◌∷◌, None, Some}
use Rattle.al_base.specs.declared.arith.Kind.TheVariants as kind
use Rattle.al_typed.specs.declared.expression.PrintPiece.TheVariants as print
use Rattle.al_typed.specs.declared.expression.TTarget.TheVariants as target
use Rattle.al_typed.specs.declared.expression.TExpr.TheVariants as expr
use Rattle.al_typed.specs.declared.expression.TPlace.{TPlace}
use Rattle.al_typed.specs.declared.expression.TPlace.TheVariants as place
use Rattle.al_typed.specs.declared.statement.TStmt.{TStmt}
use Rattle.al_typed.specs.declared.statement.TStmt.TheVariants as stmt
use Rattle.al_typed.specs.declared.program.Aggregate.{Aggregate}
use Rattle.al_typed.specs.declared.program.Function.{Function}
use Rattle.al_typed.specs.declared.program.Global.{Global}
use Rattle.al_typed.specs.declared.program.Local.{Local}
use Rattle.al_typed.specs.declared.program.Program.{Program}
use Rattle.al_typed.specs.declared.ty.Ty.{Ty}
use Rattle.al_typed.specs.declared.ty.Ty.TheVariants as ty
use Rattle.al_typed.specs.Types.{int}

-- ---- aggr S{int a; byte b;}; S g; int f(S *s){return s->a;} void main(){g.a=7; print("%d",f(&g));}

abbrev pub s_type : Ty
s_type = ty.Aggregate 0

abbrev pub s_pointer : Ty
s_pointer = ty.Pointer s_type

abbrev pub s_row : Aggregate
s_row = record { is_union = false; members = Some (int ∷ ty.Integer kind.Byte ∷ []); size = 8; align = 4; units = 2 }

abbrev pub g_row : Global
g_row = record { name = []; ty = s_type; is_private = false; start = [] }

abbrev pub s_local : Local
s_local = record { name = []; ty = s_pointer; is_shared = false }

abbrev pub g_place : TPlace
g_place = place.Global s_type 0

abbrev pub f_row : Function
f_row = record {
  name = [];
  line = 1;
  returns = int;
  parameters = 1;
  locals = s_local ∷ [];
  around = [];
  labels = 0;
  body = stmt.Block 1 (stmt.Return 1 (Some (expr.Load int (place.PointedMember int (expr.Load s_pointer (place.Local s_pointer 0)) (0 ∷ [])))) ∷ []);
}

abbrev pub main_row : Function
main_row = record {
  name = [];
  line = 1;
  returns = ty.Void;
  parameters = 0;
  locals = [];
  around = [];
  labels = 0;
  body = stmt.Block 1 (
      stmt.Value 1 [] (expr.Assign int (target.Into (place.Member int g_place (0 ∷ []))) (expr.Constant int 7))
      ∷ stmt.Value 1 [] (expr.Print ty.Void (print.Signed ∷ []) (expr.Call int 0 None (expr.Address s_pointer g_place ∷ []) ∷ []))
      ∷ []);
}

abbrev pub example : Program
example = record { aggregates = s_row ∷ []; globals = g_row ∷ []; strings = []; elements = []; functions = f_row ∷ main_row ∷ []; main = 1 }

-- ---- void main(){return g();} void g(){}

abbrev pub plain : List Local → List TStmt → Function
plain locals body = record { name = []; line = 1; returns = ty.Void; parameters = 0; locals = locals; around = []; labels = 0; body = stmt.Block 1 body }

abbrev pub void_returned : TStmt
void_returned = stmt.Return 1 (Some (expr.Call ty.Void 1 None []))

abbrev pub no_value : Program
no_value = record { aggregates = []; globals = []; strings = []; elements = []; functions = plain [] (void_returned ∷ []) ∷ plain [] [] ∷ []; main = 0 }

-- ---- a path of no members leads from `int x` to itself, but x has no address

abbrev pub x_local : Local
x_local = record { name = []; ty = int; is_shared = false }

abbrev pub x_member : TStmt
x_member = stmt.Value 1 [] (expr.Load int (place.Member int (place.Local int 0) []))

abbrev pub no_member : Program
no_member = record { aggregates = []; globals = []; strings = []; elements = []; functions = plain (x_local ∷ []) (x_member ∷ []) ∷ []; main = 0 }
