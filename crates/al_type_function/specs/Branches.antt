-- The par branches in a statement, each a function of its own.
use Rattle.std.specs.Prelude.{ℕ, List, [], ◌∷◌, ◌++◌, codes, map, length, Option, Some, None}
use Rattle.al_base.specs.declared.place.Place.{Place}
use Rattle.al_tree.specs.declared.statement.Stmt.{Stmt, out-Stmt, para-Stmt}
use Rattle.al_tree.specs.declared.statement.Stmt.TheOpen.{Stmt-F}
use Rattle.al_rules.specs.Outcome.{Outcome, Good, judge, and_then, pair}
use Rattle.al_typed.specs.declared.ty.Ty.TheVariants as ty
use Rattle.al_typed.specs.declared.statement.TStmt.{TStmt}
use Rattle.al_typed.specs.declared.program.Function.{Function}
use Rattle.al_environment.specs.declared.environment.Variable.{Variable}
use Rattle.al_environment.specs.declared.environment.Round.{Round}
use Rattle.al_environment.specs.declared.environment.Here.{Here}
use Rattle.al_environment.specs.declared.environment.Environment.{Environment}
use Rattle.al_body_parts.specs.declared.parts.Parts.{Parts}
use Rattle.al_body_parts.specs.Statements.{parts}
use Rattle.al_rules.specs.declared.fault.TypeFault.{TypeFault}
use Rattle.al_type_stmt.specs.declared.within.Within.{Within}
use Rattle.al_type_stmt.specs.Statements.{branch_at, statement}
use Rattle.al_type_function.specs.declared.frame.Frame.{Frame}
use Rattle.al_type_function.specs.declared.outline.Outline.{Outline}
use Rattle.al_type_function.specs.declared.site.Site.{Site}
use Rattle.al_type_function.specs.declared.branch.NumberedBranch.{NumberedBranch}
use Rattle.al_type_function.specs.Numbers.{capped}
use Rattle.al_type_function.specs.Locals.{declared_local, locals_faults, types_faults, frame_of}

-- ---- where a statement begins

abbrev pub place_at : Stmt-F Stmt → Place
place_at (Stmt-F.Empty at) = at
place_at (Stmt-F.Block at body) = at
place_at (Stmt-F.Declare at base variables) = at
place_at (Stmt-F.Value at e) = at
place_at (Stmt-F.Label at name body) = at
place_at (Stmt-F.If at e met other) = at
place_at (Stmt-F.While at e body) = at
place_at (Stmt-F.Do at body e) = at
place_at (Stmt-F.For at start e next body) = at
place_at (Stmt-F.Switch at e body) = at
place_at (Stmt-F.Alt at body) = at
place_at (Stmt-F.Case at e) = at
place_at (Stmt-F.Default at) = at
place_at (Stmt-F.Par at branches) = at
place_at (Stmt-F.Rescue at name body) = at
place_at (Stmt-F.Raise at name) = at
place_at (Stmt-F.Return at e) = at
place_at (Stmt-F.Become at e) = at
place_at (Stmt-F.Break at count) = at
place_at (Stmt-F.Continue at count) = at
place_at (Stmt-F.Goto at name) = at
place_at (Stmt-F.Alloc at es) = at
place_at (Stmt-F.Unalloc at es) = at
place_at (Stmt-F.Check at e text) = at
place_at (Stmt-F.Proc at es) = at
place_at (Stmt-F.Task at es) = at

unfoldable pub place : Stmt → Place
place s = place_at (out-Stmt s)

-- ---- going into a branch

abbrev pub with_body : Outline → TStmt → Function
with_body o body = record {
  name = o.name;
  line = o.line;
  returns = o.returns;
  parameters = o.parameters;
  locals = o.locals;
  around = o.around;
  labels = o.labels;
  body = body;
}

-- the function or branch at hand, as one round a branch in it
abbrev pub round_of : Here → Round
round_of here = record { number = capped (length here.around); locals = here.locals }

-- inside a branch that stands there and has these locals
abbrev pub inside : Here → List Variable → Here
inside here vs = record here { locals = vs; around = here.around ++ round_of here ∷ [] }

-- and that number
abbrev pub entered : Site → List Variable → ℕ → Site
entered site vs n = record { here = inside site.here vs; around = site.around ++ n ∷ [] }

-- ---- a branch

-- the branches in a statement that stands there, behind those before it
abbrev pub Way : Type 0
Way = Site → List NumberedBranch → Outcome (List NumberedBranch)

-- one after the other
abbrev pub each : {A : Type 0} → (A → Way) → List A → Way
each f [] site done = Good done
each f (x ∷ xs) site done = and_then (f x site done) (each f xs site)

-- one that may be missing
abbrev pub optional : {A : Type 0} → (A → Way) → Option A → Way
optional f None site done = Good done
optional f (Some x) site done = f x site done

-- a statement with what it does
abbrev pub way : Stmt × Way → Way
way p = p.1

-- a branch without its body
abbrev pub branch_outline : Site → Stmt → Frame → Outline
branch_outline site s f = record {
  name = codes "par";
  line = (place s).line;
  returns = ty.Void;
  parameters = 0;
  locals = f.locals;
  around = site.around;
  labels = f.labels;
}

abbrev pub numbered_branch : ℕ × Outline → TStmt → NumberedBranch
numbered_branch p body = record { number = p.0; function = with_body p.1 body }

-- what breaks rule 18 in a branch, and in the types as wholes
abbrev pub frame_faults : Environment → Stmt → Parts → Frame → List TypeFault
frame_faults env s p f = locals_faults env.aggregates (place s) f.locals ++ types_faults env.aggregates (place s) f.locals p.types

module _ (env : Environment) (names : List (List ℕ)) where
  -- A branch has no parameters, and its own locals and labels.
  abbrev pub frame_with : Site → Stmt → Parts → Frame
  frame_with site s p = frame_of names env.scopes.names (length site.around) s (map declared_local p.locals) (length p.labels)

  unfoldable pub branch_frame : Site → Stmt → Frame
  branch_frame site s = frame_with site s (parts env site.here s)

  unfoldable pub framed : Site → Stmt → Outcome Frame
  framed site s = let p = parts env site.here s in let f = frame_with site s p in judge (frame_faults env s p f) f

  -- where the statements of the branch of that number stand
  abbrev pub inner_site : Site → Stmt → ℕ → Site
  inner_site site s n = entered site (branch_frame site s).variables n

  module _ (w : Within) where
    unfoldable pub opened_branch : Site → Stmt → Outcome (ℕ × Outline)
    opened_branch site s = and_then (pair (branch_at w (place s)) (framed site s)) (λ p. Good (p.0, branch_outline site s p.1))

    unfoldable pub typed_branch : Site → Stmt → Outcome NumberedBranch
    typed_branch site s =
        and_then (opened_branch site s) (λ p. and_then (statement w env (inner_site site s p.0).here s) (λ body. Good (numbered_branch p body)))

    -- the branch, and then those in it
    unfoldable pub branch : Stmt × Way → Way
    branch p site done = and_then (typed_branch site p.0) (λ b. p.1 (inner_site site p.0 b.number) (done ++ b ∷ []))

    -- ---- every statement

    abbrev pub stmt_step : Stmt-F (Stmt × Way) → Way
    stmt_step (Stmt-F.Block at body) = each way body
    stmt_step (Stmt-F.Label at name body) = way body
    stmt_step (Stmt-F.If at condition met other) = λ site done. and_then (way met site done) (optional way other site)
    stmt_step (Stmt-F.While at condition body) = way body
    stmt_step (Stmt-F.Do at body condition) = way body
    stmt_step (Stmt-F.For at start condition next body) = way body
    stmt_step (Stmt-F.Switch at value body) = each way body
    stmt_step (Stmt-F.Alt at body) = each way body
    stmt_step (Stmt-F.Par at bodies) = each branch bodies
    stmt_step (Stmt-F.Rescue at name body) = way body
    stmt_step _ = λ site done. Good done

    unfoldable pub branches : Stmt → Way
    branches = para-Stmt Way stmt_step

    -- a branch of a par
    abbrev pub in_par : Stmt → Way
    in_par s = branch (s, branches s)
