-- Short forms of typed programs, and what is claimed of them.
use Rattle.std.specs.Prelude.{◌≡◌, ℕ, true, false, List, [], ◌∷◌, Option, Some, None, option_map, map}
use Rattle.al_base.specs.declared.arith.Kind.TheVariants as kind
use Rattle.al_world.specs.World.{Shared, World}
use Rattle.al_world.specs.Scripts.{by_procs, output_of}
use Rattle.al_typed.specs.declared.expression.BinaryOp.{BinaryOp}
use Rattle.al_typed.specs.declared.expression.PrintPiece.{PrintPiece}
use Rattle.al_typed.specs.declared.expression.PrintPiece.TheVariants as print
use Rattle.al_typed.specs.declared.expression.TTarget.TheVariants as target
use Rattle.al_typed.specs.declared.expression.TExpr.{TExpr}
use Rattle.al_typed.specs.declared.expression.TExpr.TheVariants as expr
use Rattle.al_typed.specs.declared.expression.TPlace.{TPlace}
use Rattle.al_typed.specs.declared.expression.TPlace.TheVariants as place
use Rattle.al_typed.specs.declared.statement.TStmt.{TStmt}
use Rattle.al_typed.specs.declared.statement.TStmt.TheVariants as stmt
use Rattle.al_typed.specs.declared.program.Function.{Function}
use Rattle.al_typed.specs.declared.program.Local.{Local}
use Rattle.al_typed.specs.declared.program.Program.{Program}
use Rattle.al_typed.specs.declared.ty.Ty.{Ty}
use Rattle.al_typed.specs.declared.ty.Ty.TheVariants as ty
use Rattle.al_typed.specs.Types.{int}
use Rattle.al_meaning.specs.Meaning as meaning
use Rattle.al_ir.specs.declared.ir.Operation.{Operation}
use Rattle.al_ir.specs.declared.op.Op.{Op}
use Rattle.al_ir.specs.Control.{function_at, code_of}
use Rattle.al_ir.specs.Meaning as operations
use Rattle.al_lower_code.specs.Functions.{lowered}

-- ---- types and expressions

abbrev pub byte : Ty
byte = ty.Integer kind.Byte

abbrev pub lint : Ty
lint = ty.Integer kind.Lint

abbrev pub number : ℕ → TExpr
number n = expr.Constant int n

abbrev pub long : ℕ → TExpr
long n = expr.Constant lint n

abbrev pub local : Ty → ℕ → TExpr
local t n = expr.Load t (place.Local t n)

abbrev pub binary : BinaryOp → TExpr → TExpr → TExpr
binary o a b = expr.Binary int o kind.Int a b

abbrev pub sets : Ty → TPlace → TExpr → TExpr
sets t p e = expr.Assign t (target.Into p) e

abbrev pub sets_local : Ty → ℕ → TExpr → TExpr
sets_local t n e = sets t (place.Local t n) e

abbrev pub call : Ty → ℕ → List TExpr → TExpr
call t f arguments = expr.Call t f None arguments

-- ---- statements

abbrev pub does : TExpr → TStmt
does e = stmt.Value 1 [] e

abbrev pub bytes : List ℕ → List PrintPiece
bytes text = map print.Byte text

abbrev pub prints : List ℕ → TStmt
prints text = does (expr.Print ty.Void (bytes text) [])

-- a number and a blank
abbrev pub shows : TExpr → TStmt
shows e = does (expr.Print ty.Void (print.Signed ∷ print.Byte 32 ∷ []) (e ∷ []))

abbrev pub block : List TStmt → TStmt
block body = stmt.Block 1 body

-- ---- functions and programs

abbrev pub private : Ty → Local
private t = record { name = []; ty = t; is_shared = false }

abbrev pub shared : Ty → Local
shared t = record { name = []; ty = t; is_shared = true }

abbrev pub function : Ty → (locals : List Local) → (parameters : ℕ) → List TStmt → Function
function t locals parameters body = record {
  name = [];
  line = 1;
  returns = t;
  parameters = parameters;
  locals = locals;
  around = [];
  labels = 4;
  body = stmt.Block 1 body;
}

abbrev pub branch : ℕ → TStmt → Function
branch outer body = record { name = []; line = 1; returns = ty.Void; parameters = 0; locals = []; around = outer ∷ []; labels = 0; body = body }

-- main is the last function
abbrev pub program : List Function → ℕ → Program
program functions main = record { aggregates = []; globals = []; strings = []; elements = []; functions = functions; main = main }

-- ---- runs

abbrev pub region : ℕ
region = 0x1000000

-- what all can see after entries of these procs, by the meaning and by the operations
abbrev pub meant : Program → List ℕ → Option Shared
meant p procs = option_map (λ (w : World (meaning.source p)). w.shared) (meaning.run p region (by_procs procs))

abbrev pub done : Program → List ℕ → Option Shared
done p procs = option_map (λ (w : World (operations.tasks (lowered p))). w.shared) (operations.run (lowered p) region (by_procs procs))

-- The operations of a program come to what its meaning comes to, and wrote this.
abbrev pub Writes : Program → List ℕ → List ℕ → Type 0
Writes p procs text = (done p procs ≡ meant p procs) × (output_of (done p procs) ≡ Some text)

-- the operations of a function
abbrev pub ops : Program → ℕ → List Op
ops p number = map (λ (o : Operation). o.op) (code_of (function_at (lowered p) number))
