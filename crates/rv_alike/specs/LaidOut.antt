-- What an image has to have for its harts to follow the operations of a program.
use Rattle.std.specs.Prelude.{◌≡◌, ℕ, ◌+◌, ◌*◌, ◌^◌, ◌<◌, ◌≤◌, Bool, true, List, [], ◌∷◌, length, slice_get, All, Some}
use Rattle.al_base.specs.declared.arith.Op.{Op as Arith}
use Rattle.al_ir.specs.Bounds.{IsBounded}
use Rattle.al_ir.specs.Control.{function_at, stack_of, arguments_of, operation_at}
use Rattle.al_ir.specs.declared.ir.Function.{Function}
use Rattle.al_ir.specs.declared.ir.Ir.{Ir}
use Rattle.al_ir.specs.declared.ir.Operation.{Operation}
use Rattle.al_ir.specs.declared.ir.Run.{Run}
use Rattle.al_ir.specs.declared.op.Op.TheVariants.{Long}
use Rattle.rv_isa.specs.declared.image.Contents.{Contents}
use Rattle.rv_exec.specs.Calls.{has_function}
use Rattle.rv_exec.specs.Machine.{line_of, entry_of}
use Rattle.rv_long.specs.declared.op.LongOp.{LongOp}
use Rattle.rv_code.specs.Jumps.{place}
use Rattle.rv_code.specs.Pieces.{call_code}
use Rattle.rv_code.specs.Runs.{Stands}
use Rattle.rv_form.specs.Dispatch.{tree, tree_width, tree_code}
use Rattle.rv_form.specs.Layout.{Layout}
use Rattle.rv_form.specs.Longs.{division_of, routine_code}
use Rattle.rv_form.specs.Template.{template}
use Rattle.rv_match.specs.Laid.{Laid}
use Rattle.rv_regs.specs.Homes.{AreHomes}
use Rattle.rv_flow.specs.Functions.{Begins}
use Rattle.rv_alike.specs.Within.{places, live_in}

-- how many words the first function of a class takes
abbrev pub class_words : Ir → List ℕ → ℕ
class_words ir [] = 0
class_words ir (f ∷ fs) = arguments_of (function_at ir f)

pub record IsLaidOut (ir : Ir) (image : Contents) (l : Layout) : Type 0 where
  pub small : length image.code ≤ 2 ^ 23
  pub bounded : IsBounded ir
  pub homes : (f : ℕ) → AreHomes ir f (l.home f)
  -- each operation's words stand in their line; so do the starts of functions
  pub laid : Laid ir image (places l) (template l)
  pub begins : (g : ℕ) → g < length ir.functions → Begins ir image (places l) (live_in ir l homes) g (l.entry g)
  pub rows : (g : ℕ) → g < length ir.functions → entry_of (slice_get image.functions g) ≡ l.entry g
  pub words : (g : ℕ) → g < length ir.functions → has_function image g (arguments_of (function_at ir g)) ≡ true
  -- the routines of the divisions that the program has
  pub routines : (f pc : ℕ) (o : Operation) (op : Arith) (signed : Bool) (to a b : ℕ) (d : LongOp) → operation_at ir f pc ≡ Some o → o.op ≡ Long op signed to a b
      → division_of op signed ≡ Some d → Stands image.code (l.routine d) (routine_code d)
  -- the first words ask the end of a task, in no line
  pub ending : Stands image.code 0 (call_code 1)
  pub no_line : line_of image (place 1) ≡ 0
  pub privates : image.privates ≡ 4 * ir.privates
  -- the layout has what the program says of its functions and values
  pub stack : (f : ℕ) → stack_of (function_at ir f) ≡ l.stack f
  pub slots : (f : ℕ) (g : Function) → function_at ir f ≡ Some g → l.slots f ≡ g.slots
  pub arguments : (f : ℕ) → l.arguments f ≡ arguments_of (function_at ir f)
  pub runs : (n : ℕ) (runs : List Run) → slice_get ir.layouts n ≡ Some runs → l.runs n ≡ runs
  -- the functions that are called through pointers have dispatchers, and those of one class take equally many words
  pub dispatches : (class : ℕ) (fs : List ℕ) → slice_get ir.classes class ≡ Some fs → Stands image.code (l.dispatcher class) (tree_code l.entry l.stack (l.dispatcher class) (tree fs))
  pub dispatchers_low : (class : ℕ) (fs : List ℕ) → slice_get ir.classes class ≡ Some fs → l.dispatcher class + tree_width (tree fs) < 2 ^ 23
  pub class_arguments : (class : ℕ) (fs : List ℕ) → slice_get ir.classes class ≡ Some fs → l.class_arguments class ≡ class_words ir fs
  pub equally : (class : ℕ) (fs : List ℕ) → slice_get ir.classes class ≡ Some fs → All (λ g. arguments_of (function_at ir g) ≡ class_words ir fs) fs
