-- What an image for a program has at the places of its operations.
use Rattle.std.specs.Prelude.{◌≡◌, ℕ, ◌+◌, ◌<◌, ◌≤◌, ◌^◌, List, length, Some}
use Rattle.rv_isa.specs.declared.image.Contents.{Contents}
use Rattle.rv_isa.specs.declared.instr.Instr.{Instr}
use Rattle.rv_exec.specs.Machine.{line_of}
use Rattle.al_ir.specs.Bounds.{most_jumps}
use Rattle.al_ir.specs.Control.{operation_at}
use Rattle.al_ir.specs.declared.ir.Ir.{Ir}
use Rattle.al_ir.specs.declared.ir.Operation.{Operation}
use Rattle.al_ir.specs.declared.op.Op.{Op}
use Rattle.rv_code.specs.Jumps.{place}
use Rattle.rv_code.specs.Runs.{Stands}
use Rattle.rv_match.specs.Places.{Places, jumps_before}

-- the words of an operation's template stand at its place, in its line, and the next operation's behind them
pub record Laid (ir : Ir) (image : Contents) (l : Places) (template : (f pc : ℕ) → Op → List Instr) : Type 0 where
  pub op : (f pc : ℕ) (o : Operation) → operation_at ir f pc ≡ Some o → Stands image.code (l.at f pc) (template f pc o.op)
  pub next : (f pc : ℕ) (o : Operation) → operation_at ir f pc ≡ Some o → l.at f pc + length (template f pc o.op) ≡ l.at f (pc + 1)
  pub line : (f pc : ℕ) (o : Operation) → operation_at ir f pc ≡ Some o → (j : ℕ) → l.at f pc ≤ j → j < l.at f (pc + 1) → line_of image (place j) ≡ o.line
  pub low : (f pc : ℕ) → l.at f pc < 2 ^ 23
  -- the functions keep their bound on jumps
  pub few : (f pc : ℕ) → jumps_before ir f pc ≤ most_jumps
