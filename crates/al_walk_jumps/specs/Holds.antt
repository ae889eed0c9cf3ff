-- Where labels and rescues stand.
use Rattle.std.specs.Prelude.{ℕ, ◌==◌, ◌||◌, Bool, false, List, [], ◌∷◌}
use Rattle.al_typed.specs.declared.statement.TStmt as stmt
use Rattle.al_typed.specs.declared.statement.TStmt.{TStmt, Block', If', Switch', Alt', Held-TStmt-If-3, Row_of-TStmt, end_of-TStmt, more_of-TStmt}
use Rattle.al_typed.specs.StatementForms as part

-- whether the label or rescue of that number stands in a statement
abbrev mutual
  pub holds : ℕ → TStmt → Bool
  holds n (Block' _ _ body) = holds_in n body
  holds n (part.label line number body) = (number == n) || holds n body
  holds n (If' _ _ _ (more_of-TStmt chosen end_of-TStmt) other) = holds n chosen || holds_in_other n other
  holds n (part.while_loop line condition body) = holds n body
  holds n (part.do_loop line body condition) = holds n body
  holds n (part.for_loop line start condition step body) = holds n body
  holds n (Switch' line _ _ body) = holds_in n body
  holds n (Alt' line _ body) = holds_in n body
  holds n (part.rescue _ number body) = (number == n) || holds n body
  holds n _ = false

  pub holds_in_other : ℕ → Held-TStmt-If-3 → Bool
  holds_in_other n stmt.None' = false
  holds_in_other n (stmt.Some' _ (more_of-TStmt other end_of-TStmt)) = holds n other

  pub holds_in : ℕ → {m : _} → Row_of-TStmt m → Bool
  holds_in n end_of-TStmt = false
  holds_in n (more_of-TStmt s more) = holds n s || holds_in n more

-- whether it stands in one of these
abbrev pub any_holds : ℕ → List TStmt → Bool
any_holds n [] = false
any_holds n (s ∷ more) = holds n s || any_holds n more
