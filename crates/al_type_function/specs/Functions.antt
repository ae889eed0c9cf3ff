-- A function of a text as the program has it, with the par branches in it.
use Rattle.std.specs.Prelude.{ℕ, List, [], ◌∷◌, ◌++◌, map, length, Option, Some}
use Rattle.al_tree.specs.declared.type_tree.TypeTree.{TypeTree}
use Rattle.al_tree.specs.declared.item.Head.{Head}
use Rattle.al_tree.specs.declared.statement.Stmt.{Stmt}
use Rattle.al_rules.specs.declared.fault.TypeFault.{TypeFault}
use Rattle.al_rules.specs.Outcome.{Outcome, Good, judge, and_then, pair}
use Rattle.al_flow.specs.declared.target.Target.{Target}
use Rattle.al_flow.specs.Flow.{targets}
use Rattle.al_typed.specs.declared.ty.Ty.{Ty}
use Rattle.al_typed.specs.declared.ty.Ty.TheVariants as ty
use Rattle.al_typed.specs.declared.statement.TStmt.{TStmt}
use Rattle.al_environment.specs.declared.numbered.Numbered.{Numbered}
use Rattle.al_environment.specs.declared.environment.Signature.{Signature}
use Rattle.al_environment.specs.declared.environment.Variable.{Variable}
use Rattle.al_environment.specs.declared.environment.OwnAdt.{OwnAdt}
use Rattle.al_environment.specs.declared.environment.Here.{Here}
use Rattle.al_environment.specs.declared.environment.Environment.{Environment}
use Rattle.al_type_rules.specs.Types.{signature}
use Rattle.al_adt_functions.specs.Owned.{here_in}
use Rattle.al_body_parts.specs.declared.parts.Parts.{Parts}
use Rattle.al_body_parts.specs.Statements.{parts}
use Rattle.al_type_stmt.specs.declared.within.Within.{Within}
use Rattle.al_type_stmt.specs.Statements.{statement}
use Rattle.al_type_function.specs.declared.numbers.FunctionNumbers.{FunctionNumbers}
use Rattle.al_type_function.specs.declared.locals.Declared.{Declared}
use Rattle.al_type_function.specs.declared.frame.Frame.{Frame}
use Rattle.al_type_function.specs.declared.outline.Outline.{Outline}
use Rattle.al_type_function.specs.declared.site.Site.{Site}
use Rattle.al_type_function.specs.declared.branch.NumberedBranch.{NumberedBranch}
use Rattle.al_type_function.specs.declared.opened.Opened.{Opened}
use Rattle.al_type_function.specs.declared.function.TypedFunction.{TypedFunction}
use Rattle.al_type_function.specs.Numbers.{capped}
use Rattle.al_type_function.specs.Own.{own_adt}
use Rattle.al_type_function.specs.Locals.{bytes_of, declared_parameters, declared_local, locals_faults, types_faults, result_faults, frame_of}
use Rattle.al_type_function.specs.Texts.{bytes_in, numbered}
use Rattle.al_type_function.specs.Branches.{with_body, branches}

-- ---- before the body is typed

-- what is at hand in a function of that adt, with these locals and texts
abbrev pub here_of : Option OwnAdt → List Variable → List Numbered → Here
here_of own vs texts = record { own = own; locals = vs; around = []; texts = texts; iterators = [] }

-- the parameters, then the other locals
abbrev pub declared : Head → Signature → Parts → List Declared
declared head s p = declared_parameters s.parameters head.parameters ++ map declared_local p.locals

-- the function without its body
abbrev pub outline : (names : List (List ℕ)) → Head → (returns : Ty) → Frame → Outline
outline names head returns f = record {
  name = bytes_of names (Some head.name.name);
  line = head.name.at.line;
  returns = returns;
  parameters = capped (length head.parameters);
  locals = f.locals;
  around = [];
  labels = f.labels;
}

-- of its own adt, with that result, what its body declares and writes, and its parameters and locals
unfoldable pub opened_with : (names : List (List ℕ)) → FunctionNumbers → Head → Option OwnAdt → (returns : Ty) → Parts → Frame → Opened
opened_with names numbers head own returns p f = record {
  own = own;
  variables = f.variables;
  numbered = numbered numbers.texts p.texts;
  outline = outline names head returns f;
  texts = map bytes_in p.texts;
  types = p.types;
}

-- ---- its body, and the branches in it

abbrev pub site_of : Here → (number : ℕ) → Site
site_of here number = record { here = here; around = capped number ∷ [] }

-- a branch has no result
abbrev pub in_branches : Within → Within
in_branches w = record w { returns = ty.Void }

abbrev pub within_of : Opened → List Target → List Numbered → Within
within_of o ts numbers = record { targets = ts; returns = o.outline.returns; branches = numbers }

abbrev pub typed_with : Opened → TStmt × List NumberedBranch → TypedFunction
typed_with o p = record { function = with_body o.outline p.0; branches = p.1; texts = o.texts; types = o.types }

module _ (env : Environment) where
  -- rule 18 is asked at the function's name
  abbrev pub faults_of : Head → (returns : Ty) → Parts → Frame → List TypeFault
  faults_of head returns p f =
      p.faults ++ (locals_faults env.aggregates head.name.at f.locals
      ++ (types_faults env.aggregates head.name.at f.locals p.types ++ result_faults env.aggregates head.name.at returns))

  module _ (names : List (List ℕ)) where
    abbrev pub function_frame : Head → Stmt → Signature → Parts → Frame
    function_frame head body s p = frame_of names env.scopes.names 0 body (declared head s p) (length p.labels)

    unfoldable pub opened_in : FunctionNumbers → TypeTree → Head → Stmt → Here → Outcome Opened
    opened_in numbers base head body here =
        let s = signature env here base head.stars head.parameters in
        let p = parts env here body in
        let f = function_frame head body s p in
        judge (faults_of head s.returns p f) (opened_with names numbers head here.own s.returns p f)

    abbrev pub opened : FunctionNumbers → TypeTree → Head → Stmt → Outcome Opened
    opened numbers base head body = opened_in numbers base head body (here_in (own_adt env head.owner numbers.instance))

    unfoldable pub bodies : Within → (number : ℕ) → Here → Stmt → Outcome (TStmt × List NumberedBranch)
    bodies w number here body = pair (statement w env here body) (branches env names (in_branches w) body (site_of here number) [])

    unfoldable pub completed : (number : ℕ) → List Numbered → Stmt → Opened → List Target → Outcome TypedFunction
    completed number numbers body o ts = and_then (bodies (within_of o ts numbers) number (here_of o.own o.variables o.numbered) body) (λ p. Good (typed_with o p))

    -- The function of a head with that base type and body, which has these numbers, where the branches have those.
    unfoldable pub function : FunctionNumbers → (branches : List Numbered) → TypeTree → Head → Stmt → Outcome TypedFunction
    function numbers branches base head body =
        and_then (pair (opened numbers base head body) (targets body)) (λ p. completed numbers.number branches body p.0 p.1)
