-- What is claimed of a statement, form by form, from what is claimed of its parts.
use Rattle.std.proofs.Common.{ℕ, suc, ◌≤◌, List, Option}
use Rattle.al_typed.specs.declared.expression.TExpr.{TExpr}
use Rattle.al_typed.specs.declared.statement.TStmt.{TStmt, Empty, Block', If', Raise, Goto, Break, Continue, Held-TStmt-If-3, Row_of-TStmt, end_of-TStmt, more_of-TStmt}
use Rattle.al_typed.specs.declared.statement.TStmt as stmt
use Rattle.al_typed.specs.StatementForms as part
use Rattle.al_meaning.specs.Tasks.{Still, Outcome, Env, Rest}
use Rattle.al_meaning.specs.Told.{value, told}
use Rattle.al_meaning.specs.Meant.{Given, meant, meant_all, meant_other, part_from, part_from_row, part_from_other}
use Rattle.al_ir.specs.Control.{Slots}
use Rattle.al_lower_steps.specs.Site.{Site}
use Rattle.al_lower_code.specs.Homes.{Spot, at_line}
use Rattle.al_lower_code.specs.Heads.{test_code, test_size}
use Rattle.al_lower_code.specs.Statements.{stmt_code, all_code, other_code, before_other, stmt_size, all_size, other_size, place_of, place_in_row, place_in_other}
use Rattle.al_lower_flow.proofs.Flow.{TestDoes, PieceDoes}
use Rattle.al_lower_flow.proofs.Pieces.{nothing_piece, break_piece, continue_piece, jump_piece, label_piece, more_piece}
use Rattle.al_lower_flow.proofs.Choices.{OtherDoes, no_other, some_other, rescue_piece, if_piece}
use Rattle.al_lower_flow.proofs.Loops.{while_piece}
use Rattle.al_lower_flow.proofs.Rounds.{do_piece}

module _ (x : Site) (V : Env → Slots → Type 0) (s : Spot) (call : ℕ → List ℕ → Still → Given → Outcome) (return : ℕ → Option (List ℕ) → Rest) (become : ℕ → ℕ → List ℕ → Rest) (Known : ℕ → Type 0) where
  -- a statement in so many loops and bodies, and statements one behind the other
  abbrev pub StmtDoes : (breaks loops : ℕ) → TStmt → Type 0
  StmtDoes breaks loops a = PieceDoes x V s call return become Known breaks loops (λ c pc. stmt_code s c a pc) (stmt_size s a) (meant a) (λ l n. part_from l a n) (λ l pc. place_of s l a pc)

  abbrev pub AllDo : (breaks loops : ℕ) → {m : _} → Row_of-TStmt m → Type 0
  AllDo breaks loops row = PieceDoes x V s call return become Known breaks loops (λ c pc. all_code s c row pc) (all_size s row) (meant_all row) (λ l n. part_from_row l row n) (λ l pc. place_in_row s l row pc)

  abbrev pub ElseDoes : (breaks loops line : ℕ) → Held-TStmt-If-3 → Type 0
  ElseDoes breaks loops line other = OtherDoes x V s call return become Known breaks loops (λ c pc. other_code s line c other pc) (other_size s other) (before_other other) (meant_other other) (λ l n. part_from_other l other n) (λ l pc. place_in_other s l other pc)

  -- a condition in a line
  abbrev pub ConditionDoes : (line : ℕ) → TExpr → Type 0
  ConditionDoes line e = TestDoes x V s call return become Known line (test_code (at_line line s) e) (test_size (at_line line s) e) (λ w. value (told e w))

  pub empty_does : {breaks loops : ℕ} (line : ℕ) → StmtDoes breaks loops (Empty line)
  empty_does {breaks} {loops} line = nothing_piece x V s call return become Known {breaks = breaks} {loops = loops}

  pub block_does : {breaks loops : ℕ} (line : ℕ) (shape : _) (body : _) → AllDo breaks loops body → StmtDoes breaks loops (Block' line shape body)
  block_does {breaks} {loops} line shape body h = h

  pub none_do : {breaks loops : ℕ} → AllDo breaks loops end_of-TStmt
  none_do {breaks} {loops} = nothing_piece x V s call return become Known {breaks = breaks} {loops = loops}

  pub more_do : {breaks loops : ℕ} {m : _} (a : TStmt) (rest : Row_of-TStmt m) → StmtDoes breaks loops a → AllDo breaks loops rest → AllDo breaks loops (more_of-TStmt a rest)
  more_do {breaks} {loops} {m} a rest h k = more_piece x V s call return become Known h k

  pub label_does : {breaks loops : ℕ} (line number : ℕ) (body : TStmt) → StmtDoes breaks loops body → StmtDoes breaks loops (part.label line number body)
  label_does {breaks} {loops} line number body h = label_piece x V s call return become Known number h

  pub rescue_does : {breaks loops : ℕ} (line number : ℕ) (body : TStmt) → StmtDoes breaks loops body → StmtDoes breaks loops (part.rescue line number body)
  rescue_does {breaks} {loops} line number body h = rescue_piece x V s call return become Known line h number

  pub break_does : {breaks loops : ℕ} (line levels : ℕ) → 1 ≤ levels → levels ≤ breaks → StmtDoes breaks loops (Break line levels)
  break_does {breaks} {loops} line levels low high = break_piece x V s call return become Known {breaks = breaks} {loops = loops} line levels low high

  pub continue_does : {breaks loops : ℕ} (line levels : ℕ) → 1 ≤ levels → levels ≤ loops → StmtDoes breaks loops (Continue line levels)
  continue_does {breaks} {loops} line levels low high = continue_piece x V s call return become Known {breaks = breaks} {loops = loops} line levels low high

  pub raise_does : {breaks loops : ℕ} (line rescue : ℕ) → Known rescue → StmtDoes breaks loops (Raise line rescue)
  raise_does {breaks} {loops} line rescue known = jump_piece x V s call return become Known {breaks = breaks} {loops = loops} line rescue known

  pub goto_does : {breaks loops : ℕ} (line label : ℕ) → Known label → StmtDoes breaks loops (Goto line label)
  goto_does {breaks} {loops} line label known = jump_piece x V s call return become Known {breaks = breaks} {loops = loops} line label known

  pub while_does : {breaks loops : ℕ} (line : ℕ) (e : TExpr) (body : TStmt) → ConditionDoes line e → StmtDoes (suc breaks) (suc loops) body → StmtDoes breaks loops (part.while_loop line e body)
  while_does {breaks} {loops} line e body t h = while_piece x V s call return become Known line (test_code (at_line line s) e) (test_size (at_line line s) e) (λ w. value (told e w)) t h

  pub do_does : {breaks loops : ℕ} (line : ℕ) (e : TExpr) (body : TStmt) → ConditionDoes line e → StmtDoes (suc breaks) (suc loops) body → StmtDoes breaks loops (part.do_loop line body e)
  do_does {breaks} {loops} line e body t h = do_piece x V s call return become Known line (test_code (at_line line s) e) (test_size (at_line line s) e) (λ w. value (told e w)) t h

  pub no_else_does : {breaks loops : ℕ} (line : ℕ) → ElseDoes breaks loops line stmt.None'
  no_else_does {breaks} {loops} line = no_other x V s call return become Known {breaks = breaks} {loops = loops}

  pub else_does : {breaks loops line : ℕ} (other : TStmt) → StmtDoes breaks loops other → ElseDoes breaks loops line (stmt.Some' tt (more_of-TStmt other end_of-TStmt))
  else_does {breaks} {loops} {line} other h = some_other x V s call return become Known line h

  pub if_does : {breaks loops : ℕ} (line : ℕ) (e : TExpr) (chosen : TStmt) (other : Held-TStmt-If-3) → ConditionDoes line e → StmtDoes breaks loops chosen → ElseDoes breaks loops line other → StmtDoes breaks loops (If' line e tt (more_of-TStmt chosen end_of-TStmt) other)
  if_does {breaks} {loops} line e chosen other t h k = if_piece x V s call return become Known line (test_code (at_line line s) e) (λ w. value (told e w)) t h k
