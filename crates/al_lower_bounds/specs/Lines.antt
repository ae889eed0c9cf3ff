-- The lines of a program: those of the names of its functions and of its statements.
use Rattle.std.specs.Prelude.{ℕ, All}
use Rattle.al_typed.specs.declared.program.Function.{Function as FunctionRow}
use Rattle.al_typed.specs.declared.program.Program.{Program}
use Rattle.al_typed.specs.declared.statement.TStmt.{TStmt, Empty, Block', Declare, Value, If', Switch', Case, Default, Alt', AltCase, Par, Raise, Goto, Return, Become, Break, Continue, Alloc, Unalloc, Check, Proc, Task, Held-TStmt-If-3, Row_of-TStmt, end_of-TStmt, more_of-TStmt}
use Rattle.al_typed.specs.declared.statement.TStmt as stmt
use Rattle.al_typed.specs.StatementForms as part

-- each line in a statement is such
unfoldable mutual
  pub LinesIn : (ℕ → Type 0) → TStmt → Type 0
  LinesIn P (Empty line) = P line
  LinesIn P (Block' line _ body) = P line × LinesInAll P body
  LinesIn P (Declare line _) = P line
  LinesIn P (Value line _ _) = P line
  LinesIn P (part.label line _ body) = P line × LinesIn P body
  LinesIn P (If' line _ _ (more_of-TStmt body end_of-TStmt) other) = P line × (LinesIn P body × LinesInOther P other)
  LinesIn P (part.while_loop line _ body) = P line × LinesIn P body
  LinesIn P (part.do_loop line body _) = P line × LinesIn P body
  LinesIn P (part.for_loop line _ _ _ body) = P line × LinesIn P body
  LinesIn P (Switch' line _ _ body) = P line × LinesInAll P body
  LinesIn P (Case _ _) = Unit {0}
  LinesIn P Default = Unit {0}
  LinesIn P (Alt' line _ body) = P line × LinesInAll P body
  LinesIn P (AltCase _) = Unit {0}
  LinesIn P (Par line _) = P line
  LinesIn P (part.rescue line _ body) = P line × LinesIn P body
  LinesIn P (Raise line _) = P line
  LinesIn P (Goto line _) = P line
  LinesIn P (Return line _) = P line
  LinesIn P (Become line _) = P line
  LinesIn P (Break line _) = P line
  LinesIn P (Continue line _) = P line
  LinesIn P (Alloc line _) = P line
  LinesIn P (Unalloc line _) = P line
  LinesIn P (Check line _) = P line
  LinesIn P (Proc line _) = P line
  LinesIn P (Task line _) = P line

  pub LinesInOther : (ℕ → Type 0) → Held-TStmt-If-3 → Type 0
  LinesInOther P stmt.None' = Unit {0}
  LinesInOther P (stmt.Some' _ (more_of-TStmt other end_of-TStmt)) = LinesIn P other

  pub LinesInAll : (ℕ → Type 0) → {m : _} → Row_of-TStmt m → Type 0
  LinesInAll P end_of-TStmt = Unit {0}
  LinesInAll P (more_of-TStmt a rest) = LinesIn P a × LinesInAll P rest

abbrev pub LinesOfFunction : (ℕ → Type 0) → FunctionRow → Type 0
LinesOfFunction P f = P f.line × LinesIn P f.body

-- each line of a program is such
abbrev pub LinesOf : (ℕ → Type 0) → Program → Type 0
LinesOf P p = All (LinesOfFunction P) p.functions
