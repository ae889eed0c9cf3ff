-- Short forms of typed programs, all in line 1.
use Rattle.std.specs.Prelude.{ℕ, false, List, [], ◌∷◌, Option, None, option_map, codes, map}
use Rattle.al_base.specs.declared.arith.Kind.TheVariants as kind
use Rattle.al_world.specs.World.{Shared, World}
use Rattle.al_world.specs.Scripts.{by_procs}
use Rattle.al_typed.specs.declared.expression.PrintPiece.TheVariants as print
use Rattle.al_typed.specs.declared.expression.TTarget.TheVariants as target
use Rattle.al_typed.specs.declared.expression.TExpr.{TExpr}
use Rattle.al_typed.specs.declared.expression.TExpr.TheVariants as expr
use Rattle.al_typed.specs.declared.expression.TPlace.TheVariants as place
use Rattle.al_typed.specs.declared.statement.TStmt.{TStmt}
use Rattle.al_typed.specs.declared.statement.TStmt.TheVariants as stmt
use Rattle.al_typed.specs.declared.program.Function.{Function}
use Rattle.al_typed.specs.declared.program.Global.{Global}
use Rattle.al_typed.specs.declared.program.Local.{Local}
use Rattle.al_typed.specs.declared.program.Program.{Program}
use Rattle.al_typed.specs.declared.ty.Ty.{Ty}
use Rattle.al_typed.specs.declared.ty.Ty.TheVariants as ty
use Rattle.al_typed.specs.Types.{int}
use Rattle.al_meaning.specs.Meaning.{source, run}

-- ---- types

abbrev pub lint : Ty
lint = ty.Integer kind.Lint

abbrev pub channel : ℕ → Ty
channel room = ty.Chan int room

-- ---- expressions

abbrev pub number : ℕ → TExpr
number n = expr.Constant int n

abbrev pub local : Ty → ℕ → TExpr
local t n = expr.Load t (place.Local t n)

abbrev pub global : Ty → TExpr
global t = expr.Load t (place.Global t 0)

abbrev pub call : Ty → ℕ → TExpr
call t function = expr.Call t function None []

-- ---- statements

abbrev pub does : TExpr → TStmt
does e = stmt.Value 1 [] e

-- print of a text
abbrev pub prints : List ℕ → TStmt
prints text = does (expr.Print ty.Void (map print.Byte text) [])

-- print("%d\n", e)
abbrev pub prints_number : TExpr → TStmt
prints_number e = does (expr.Print ty.Void (print.Signed ∷ print.Byte 10 ∷ []) (e ∷ []))

-- the first global becomes that
abbrev pub sets_global : Ty → TExpr → TStmt
sets_global t e = does (expr.Assign t (target.Into (place.Global t 0)) e)

abbrev pub sets_local : Ty → ℕ → TExpr → TStmt
sets_local t n e = does (expr.Assign t (target.Into (place.Local t n)) e)

-- ---- programs

abbrev pub variable : Ty → List ℕ → Local
variable t name = record { name = name; ty = t; is_shared = false }

abbrev pub function : List ℕ → Ty → List Local → List TStmt → Function
function name returns locals body = record {
  name = name;
  line = 1;
  returns = returns;
  parameters = 0;
  locals = locals;
  around = [];
  labels = 0;
  body = stmt.Block 1 body;
}

-- a branch of a par in the function of that number
abbrev pub branch : ℕ → TStmt → Function
branch outer body = record { name = codes "par"; line = 1; returns = ty.Void; parameters = 0; locals = []; around = outer ∷ []; labels = 0; body = body }

abbrev pub shared : Ty → List ℕ → Global
shared t name = record { name = name; ty = t; is_private = false; start = [] }

abbrev pub program : List Global → List Function → ℕ → Program
program globals functions main = record { aggregates = []; globals = globals; strings = []; elements = []; functions = functions; main = main }

-- what all can see after entries of these procs, in a region of 16 MiB
abbrev pub after : Program → List ℕ → Option Shared
after p procs = option_map (λ (w : World (source p)). w.shared) (run p 0x1000000 (by_procs procs))
