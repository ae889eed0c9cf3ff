-- Operations of parts of statements.
use Rattle.std.specs.Prelude.{ℕ, ◌+◌, if◌then◌else◌, List, ◌++◌, map, Option}
use Rattle.al_typed.specs.declared.expression.TExpr.{TExpr}
use Rattle.al_typed.specs.declared.expression.TReceiver.{TReceiver}
use Rattle.al_typed.specs.Typed.{type_of}
use Rattle.al_ir.specs.declared.ir.Operation.{Operation}
use Rattle.al_ir.specs.declared.op.Op.{Op}
use Rattle.al_ir.specs.declared.op.Op.TheVariants as op
use Rattle.al_lower_code.specs.Homes.{Spot, here, block_home}
use Rattle.al_lower_code.specs.Simple.{has_block_here, words_of_types, start_code, start_words, start_function}
use Rattle.al_lower_operands.specs.Rows.{object_of}
use Rattle.al_lower_simple.specs.declared.starts.Started.{Started}
use Rattle.al_lower_simple.specs.declared.starts.Started.TheVariants as started

-- the address of the function's shared block, or 0 where there is none
abbrev pub block_address : Spot → (to : ℕ) → Op
block_address s to = if has_block_here s then op.Copy to (block_home s.program s.function) else op.Constant to 0

-- the operation that starts a proc or a task
abbrev pub start_op : Started → (function arguments words : ℕ) → Op
start_op started.Proc = op.Proc
start_op started.Task = op.Task

-- how many words the object and the arguments of a call have
abbrev pub call_words : Spot → Option TReceiver → List TExpr → ℕ
call_words s object arguments = (object_of s object).words + words_of_types s (map type_of arguments)

-- one call that starts something
abbrev pub start_one : Spot → ((function arguments words : ℕ) → Op) → TExpr → List Operation
start_one s how e = start_code s e s.turns ++ here s (how (start_function e) s.turns (start_words s e))
