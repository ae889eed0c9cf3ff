-- Worked measures.
use Rattle.std.specs.Prelude.{◌≡◌, ℕ, false, [], ◌∷◌, None, refl}
use Rattle.al_base.specs.declared.arith.Kind.TheVariants as kind
use Rattle.al_typed.specs.declared.expression.BinaryOp.TheVariants as op
use Rattle.al_typed.specs.declared.expression.TExpr.{TExpr}
use Rattle.al_typed.specs.declared.expression.TExpr.TheVariants as expr
use Rattle.al_typed.specs.declared.expression.TExpr.TheBlock.{hidden-the_row-TPlace-0, hidden-the_row-TExpr-1, hidden-the_row-TExpr-3}
use Rattle.al_typed.specs.declared.expression.TPlace.TheVariants as place
use Rattle.al_typed.specs.declared.statement.TStmt.TheVariants as stmt
use Rattle.al_typed.specs.declared.statement.TStmt.TheBlock.{hidden-the_row-TStmt-0, hidden-the_row-TStmt-1}
use Rattle.al_typed.specs.declared.program.Function.{Function}
use Rattle.al_typed.specs.declared.program.Program.{Program}
use Rattle.al_typed.specs.declared.ty.Ty.TheVariants as ty
use Rattle.al_typed.specs.declared.ty.Ty.TheViews.{out-Ty}
use denote.Hole.Carrier.{hidden, out}
use Rattle.al_typed.specs.Types.{int, is_array}
use Rattle.al_typed.specs.Layout.{layout, layout_of, layouts_after, words_of}
use Rattle.al_typed.specs.Measures.{weight_of, slots_of, pieces, place_pieces, row_pieces, receiver_pieces, statement_pieces, body_pieces, other_pieces, pieces_of, function_slots, function_weight}

abbrev number : ℕ → TExpr
number n = expr.Constant int n

-- void f(int n){if(n==0)return;f(n-1);}
abbrev n : TExpr
n = expr.Load int (place.Local int 0)

abbrev f : Function
f = record {
  name = 102 ∷ [];
  line = 1;
  returns = ty.Void;
  parameters = 1;
  locals = record { name = 110 ∷ []; ty = int; is_shared = false } ∷ [];
  around = [];
  labels = 0;
  body = stmt.Block 1 (
      stmt.If 1 (expr.Binary int op.Equal kind.Int n (number 0)) (stmt.Return 1 None) None
      ∷ stmt.Value 1 [] (expr.Call ty.Void 0 None (expr.Binary int op.Subtract kind.Int n (number 1) ∷ []))
      ∷ []);
}

-- void main(){f(1000000);}
abbrev main : Function
main = record {
  name = 109 ∷ [];
  line = 1;
  returns = ty.Void;
  parameters = 0;
  locals = [];
  around = [];
  labels = 0;
  body = stmt.Block 1 (stmt.Value 1 [] (expr.Call ty.Void 0 None (number 1000000 ∷ [])) ∷ []);
}

abbrev p : Program
p = record { aggregates = []; globals = []; strings = []; elements = []; functions = f ∷ main ∷ []; main = 1 }

slots_of_f : function_slots p f ≡ 46
unfolding slots_of words_of layout layout_of layouts_after is_array pieces_of pieces place_pieces row_pieces receiver_pieces statement_pieces body_pieces other_pieces hidden-the_row-TPlace-0 hidden-the_row-TExpr-1 hidden-the_row-TExpr-3 hidden-the_row-TStmt-0 hidden-the_row-TStmt-1 hidden out-Ty out
slots_of_f = refl

slots_of_main : function_slots p main ≡ 27
unfolding slots_of words_of layout layout_of layouts_after is_array pieces_of pieces place_pieces row_pieces receiver_pieces statement_pieces body_pieces other_pieces hidden-the_row-TPlace-0 hidden-the_row-TExpr-1 hidden-the_row-TExpr-3 hidden-the_row-TStmt-0 hidden-the_row-TStmt-1 hidden out-Ty out
slots_of_main = refl

weight_of_f : function_weight p f ≡ 17
unfolding weight_of words_of layout layout_of layouts_after is_array pieces_of pieces place_pieces row_pieces receiver_pieces statement_pieces body_pieces other_pieces hidden-the_row-TPlace-0 hidden-the_row-TExpr-1 hidden-the_row-TExpr-3 hidden-the_row-TStmt-0 hidden-the_row-TStmt-1 hidden out-Ty out
weight_of_f = refl
