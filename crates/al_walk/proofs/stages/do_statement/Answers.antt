use Rattle.std.proofs.Common.{◌∙◌, ◌++◌, ℕ, List, [], ◌∷◌, ap, map, refl}
use Rattle.std.specs.List.{flat_map}
use Rattle.al_event.specs.declared.act.Act.TheVariants as act
use Rattle.al_typed.specs.declared.expression.TExpr.{TExpr}
use Rattle.al_typed.specs.declared.expression.TPlace.{TPlace}
use Rattle.al_typed.specs.declared.statement.TBounds.{TBounds}
use Rattle.al_typed.specs.declared.statement.TInitializer.{TInitializer}
use Rattle.al_typed.specs.declared.statement.TStmt.{TStmt}
use Rattle.al_typed.specs.declared.statement.TStmt.TheVariants as variant
use Rattle.al_meaning.specs.Calls.{call_work, evaluated}
use Rattle.al_meaning.specs.Evaluate.{alt_exprs}
use Rattle.al_meaning.specs.Execute.{allocation_work, branch_start, initializer_work, optionally, starts, starts_then, unallocation_work}
use Rattle.al_meaning.specs.Here.{asks, does, moves, with_items}
use Rattle.al_meaning.specs.Items.{AltTalk, Answered, DoCondition, Eval, ForCondition, Select, StartProc, StartTask, WhileTest}
use Rattle.al_control.specs.Models.{choose_of, here_of}
use Rattle.al_walk_cases.specs.CaseLists.{communications_in}
use Rattle.al_walk_loops.specs.BodyParts.{statements_in}
use Rattle.al_walk_statements.specs.Forms.{value_work}
use Rattle.al_walk.proofs.DoneStatements.{becomes, becomes_by, does_so, done-Alt, done-Become, done-Block, done-Do, done-For, done-If, done-Label, done-Proc, done-Rescue, done-Return, done-Switch, done-Task, done-Value, done-While, needs_calls, needs_so}
use Rattle.al_walk.proofs.stages.do_statement.Goals as goal

pub returns-in_ok-moves-in-Empty-clause-next : goal.returns-in_ok-moves-in-Empty-clause-next
returns-in_ok-moves-in-Empty-clause-next c =
    c.in_ok-moves-in-Empty.ensures
    ∙ becomes c.args.s.now _ (here_of c.args.h) _ c.in-Empty.is refl

pub returns-in_ok-moves-in-Case-clause-next : goal.returns-in_ok-moves-in-Case-clause-next
returns-in_ok-moves-in-Case-clause-next c =
    c.in_ok-moves-in-Case.ensures
    ∙ becomes c.args.s.now _ (here_of c.args.h) _ c.in-Case.is refl

pub returns-in_ok-moves-in-Default-clause-next : goal.returns-in_ok-moves-in-Default-clause-next
returns-in_ok-moves-in-Default-clause-next c =
    c.in_ok-moves-in-Default.ensures
    ∙ becomes c.args.s.now _ (here_of c.args.h) _ c.in-Default.is refl

pub returns-in_ok-moves-in-AltCase-clause-next : goal.returns-in_ok-moves-in-AltCase-clause-next
returns-in_ok-moves-in-AltCase-clause-next c =
    c.in_ok-moves-in-AltCase.ensures
    ∙ becomes c.args.s.now _ (here_of c.args.h) _ c.in-AltCase.is refl

pub returns-in_ok-moves-in-Rescue-clause-next : goal.returns-in_ok-moves-in-Rescue-clause-next
returns-in_ok-moves-in-Rescue-clause-next c =
    c.in_ok-moves-in-Rescue.ensures
    ∙ becomes c.args.s.now _ (here_of c.args.h) _ c.in-Rescue.is (done-Rescue c.in-Rescue.line c.in-Rescue.number c.in-Rescue.body (here_of c.args.h))

pub returns-in_ok-do_block-in-Block-clause-next : goal.returns-in_ok-do_block-in-Block-clause-next
returns-in_ok-do_block-in-Block-clause-next c =
    c.in_ok-do_block-in-Block.ensures
    ∙ becomes_by (λ (body : List TStmt). moves (with_items (statements_in body) (here_of c.args.h))) c.as_slice.result.now c.in-Block.body c.args.s.now _ (here_of c.args.h) c.as_slice.ensures.value c.in-Block.is (done-Block c.in-Block.line c.in-Block.body (here_of c.args.h))

pub returns-in_ok-do_declare-in-Declare-clause-next : goal.returns-in_ok-do_declare-in-Declare-clause-next
returns-in_ok-do_declare-in-Declare-clause-next c =
    c.in_ok-do_declare-in-Declare.ensures
    ∙ becomes_by (λ (is : List TInitializer). does (here_of c.args.h) (flat_map initializer_work is)) c.as_slice-in-Declare.result.now c.in-Declare.initializers c.args.s.now _ (here_of c.args.h) c.as_slice-in-Declare.ensures.value c.in-Declare.is refl

pub returns-in_ok-do_value-in-Value-clause-next : goal.returns-in_ok-do_value-in-Value-clause-next
returns-in_ok-do_value-in-Value-clause-next c =
    c.in_ok-do_value-in-Value.ensures
    ∙ becomes_by (λ (its : List TBounds). does (here_of c.args.h) (value_work its c.in-Value.value)) c.as_slice-in-Value.result.now c.in-Value.iterators c.args.s.now _ (here_of c.args.h) c.as_slice-in-Value.ensures.value c.in-Value.is (done-Value c.in-Value.line c.in-Value.iterators c.in-Value.value (here_of c.args.h))

pub returns-in_ok-starts-in-Label-clause-next : goal.returns-in_ok-starts-in-Label-clause-next
returns-in_ok-starts-in-Label-clause-next c =
    c.in_ok-starts-in-Label.ensures
    ∙ becomes_by (λ (body : TStmt). starts (here_of c.args.h) body) c.get.result.now c.in-Label.body c.args.s.now _ (here_of c.args.h) c.get.ensures c.in-Label.is (done-Label c.in-Label.line c.in-Label.number c.in-Label.body (here_of c.args.h))

pub returns-in_ok-evaluates_then-in-If-clause-next : goal.returns-in_ok-evaluates_then-in-If-clause-next
returns-in_ok-evaluates_then-in-If-clause-next c =
    c.in_ok-evaluates_then-in-If.ensures
    ∙ becomes_by (λ (s : TStmt). does (here_of c.args.h) (Eval c.in-If.condition ∷ choose_of s ∷ [])) c.args.s.now _ c.args.s.now _ (here_of c.args.h) c.in-If.is c.in-If.is (done-If c.in-If.line c.in-If.condition c.in-If.then c.in-If.other (here_of c.args.h))

pub returns-in_ok-evaluates_then-in-While-clause-next : goal.returns-in_ok-evaluates_then-in-While-clause-next
returns-in_ok-evaluates_then-in-While-clause-next c =
    c.in_ok-evaluates_then-in-While.ensures
    ∙ becomes_by (λ (s : TStmt). does (here_of c.args.h) (Eval c.in-While.condition ∷ WhileTest s ∷ [])) c.args.s.now _ c.args.s.now _ (here_of c.args.h) c.in-While.is c.in-While.is (done-While c.in-While.line c.in-While.condition c.in-While.body (here_of c.args.h))

pub returns-in_ok-do_do-in-Do-clause-next : goal.returns-in_ok-do_do-in-Do-clause-next
returns-in_ok-do_do-in-Do-clause-next c =
    c.in_ok-do_do-in-Do.ensures
    ∙ ap (λ (body : TStmt). starts_then (here_of c.args.h) body (DoCondition c.args.s.now ∷ [])) c.get-in-Do.ensures
    ∙ becomes_by (λ (s : TStmt). starts_then (here_of c.args.h) c.in-Do.body (DoCondition s ∷ [])) c.args.s.now _ c.args.s.now _ (here_of c.args.h) c.in-Do.is c.in-Do.is (done-Do c.in-Do.line c.in-Do.body c.in-Do.condition (here_of c.args.h))

pub returns-in_ok-do_for-in-For-clause-next : goal.returns-in_ok-do_for-in-For-clause-next
returns-in_ok-do_for-in-For-clause-next c =
    c.in_ok-do_for-in-For.ensures
    ∙ becomes_by (λ (s : TStmt). does (here_of c.args.h) (optionally c.in-For.start ++ ForCondition s ∷ [])) c.args.s.now _ c.args.s.now _ (here_of c.args.h) c.in-For.is c.in-For.is (done-For c.in-For.line c.in-For.start c.in-For.condition c.in-For.step c.in-For.body (here_of c.args.h))

pub returns-in_ok-evaluates_then-in-Switch-clause-next : goal.returns-in_ok-evaluates_then-in-Switch-clause-next
returns-in_ok-evaluates_then-in-Switch-clause-next c =
    c.in_ok-evaluates_then-in-Switch.ensures
    ∙ becomes_by (λ (s : TStmt). does (here_of c.args.h) (Eval c.in-Switch.value ∷ Select s ∷ [])) c.args.s.now _ c.args.s.now _ (here_of c.args.h) c.in-Switch.is c.in-Switch.is (done-Switch c.in-Switch.line c.in-Switch.value c.in-Switch.body (here_of c.args.h))

pub returns-in_ok-do_alt-in-Alt-clause-next : goal.returns-in_ok-do_alt-in-Alt-clause-next
returns-in_ok-do_alt-in-Alt-clause-next c =
    c.in_ok-do_alt-in-Alt.ensures
    ∙ ap (λ (body : List TStmt). does (here_of c.args.h) (evaluated (alt_exprs (communications_in body)) ++ AltTalk c.args.s.now ∷ [])) c.as_slice-in-Alt.ensures.value
    ∙ becomes_by (λ (s : TStmt). does (here_of c.args.h) (evaluated (alt_exprs (communications_in c.in-Alt.body)) ++ AltTalk s ∷ [])) c.args.s.now _ c.args.s.now _ (here_of c.args.h) c.in-Alt.is c.in-Alt.is (done-Alt c.in-Alt.line c.in-Alt.body (here_of c.args.h))

pub returns-in_ok-do_par-in-Par-clause-next : goal.returns-in_ok-do_par-in-Par-clause-next
returns-in_ok-do_par-in-Par-clause-next c =
    c.in_ok-do_par-in-Par.ensures
    ∙ becomes_by (λ (branches : List ℕ). asks (here_of c.args.h) (act.Par (map (branch_start (here_of c.args.h)) branches)) (Answered ∷ [])) c.as_slice-in-Par.result.now c.in-Par.branches c.args.s.now _ (here_of c.args.h) c.as_slice-in-Par.ensures.value c.in-Par.is refl

pub returns-in_ok-jumps-in-Raise-clause-next : goal.returns-in_ok-jumps-in-Raise-clause-next
returns-in_ok-jumps-in-Raise-clause-next c =
    c.in_ok-jumps-in-Raise.ensures
    ∙ becomes c.args.s.now _ (here_of c.args.h) _ c.in-Raise.is refl

pub returns-in_ok-jumps-in-Goto-clause-next : goal.returns-in_ok-jumps-in-Goto-clause-next
returns-in_ok-jumps-in-Goto-clause-next c =
    c.in_ok-jumps-in-Goto.ensures
    ∙ becomes c.args.s.now _ (here_of c.args.h) _ c.in-Goto.is refl

pub returns-in_ok-do_return-in-Return-clause-next : goal.returns-in_ok-do_return-in-Return-clause-next
returns-in_ok-do_return-in-Return-clause-next c =
    c.in_ok-do_return-in-Return.ensures
    ∙ becomes c.args.s.now _ (here_of c.args.h) _ c.in-Return.is (done-Return c.in-Return.line c.in-Return.value (here_of c.args.h))

pub returns-in_ok-do_break-in-Break-clause-next : goal.returns-in_ok-do_break-in-Break-clause-next
returns-in_ok-do_break-in-Break-clause-next c =
    c.in_ok-do_break-in-Break.ensures
    ∙ becomes c.args.s.now _ (here_of c.args.h) _ c.in-Break.is refl

pub returns-in_ok-do_continue-in-Continue-clause-next : goal.returns-in_ok-do_continue-in-Continue-clause-next
returns-in_ok-do_continue-in-Continue-clause-next c =
    c.in_ok-do_continue-in-Continue.ensures
    ∙ becomes c.args.s.now _ (here_of c.args.h) _ c.in-Continue.is refl

pub returns-in_ok-do_alloc-in-Alloc-clause-next : goal.returns-in_ok-do_alloc-in-Alloc-clause-next
returns-in_ok-do_alloc-in-Alloc-clause-next c =
    c.in_ok-do_alloc-in-Alloc.ensures
    ∙ becomes_by (λ (places : List TPlace). does (here_of c.args.h) (flat_map allocation_work places)) c.as_slice-in-Alloc.result.now c.in-Alloc.places c.args.s.now _ (here_of c.args.h) c.as_slice-in-Alloc.ensures.value c.in-Alloc.is refl

pub returns-in_ok-do_unalloc-in-Unalloc-clause-next : goal.returns-in_ok-do_unalloc-in-Unalloc-clause-next
returns-in_ok-do_unalloc-in-Unalloc-clause-next c =
    c.in_ok-do_unalloc-in-Unalloc.ensures
    ∙ becomes_by (λ (values : List TExpr). does (here_of c.args.h) (flat_map unallocation_work values)) c.as_slice-in-Unalloc.result.now c.in-Unalloc.values c.args.s.now _ (here_of c.args.h) c.as_slice-in-Unalloc.ensures.value c.in-Unalloc.is refl

pub returns-in_ok-do_check-in-Check-clause-next : goal.returns-in_ok-do_check-in-Check-clause-next
returns-in_ok-do_check-in-Check-clause-next c =
    c.in_ok-do_check-in-Check.ensures
    ∙ becomes c.args.s.now _ (here_of c.args.h) _ c.in-Check.is refl

pub returns-in-Become-clause-next : goal.returns-in-Become-clause-next
returns-in-Become-clause-next c =
    does_so c.do_become.result c.args.s.now (here_of c.args.h) _ c.do_become.ensures.next (becomes c.args.s.now _ (here_of c.args.h) _ c.in-Become.is (done-Become c.in-Become.line c.in-Become.call (here_of c.args.h)))

pub returns-in-Become-clause-why : goal.returns-in-Become-clause-why
returns-in-Become-clause-why c =
    needs_so c.do_become.result c.args.h.program.now c.args.s.now (variant.Become c.in-Become.line c.in-Become.call) c.in-Become.is c.do_become.ensures.why

pub returns-in-Proc-clause-next : goal.returns-in-Proc-clause-next
returns-in-Proc-clause-next c =
    does_so c.do_procs.result c.args.s.now (here_of c.args.h) _ c.do_procs.ensures.next
    (becomes_by (λ (calls : List TExpr). does (here_of c.args.h) (flat_map (λ (e : TExpr). call_work c.args.h.program.now e StartProc) calls)) c.as_slice-in-Proc.result.now c.in-Proc.calls c.args.s.now _ (here_of c.args.h) c.as_slice-in-Proc.ensures.value c.in-Proc.is (done-Proc c.in-Proc.line c.in-Proc.calls (here_of c.args.h)))

pub returns-in-Proc-clause-why : goal.returns-in-Proc-clause-why
returns-in-Proc-clause-why c =
    needs_so c.do_procs.result c.args.h.program.now c.args.s.now (variant.Proc c.in-Proc.line c.in-Proc.calls) c.in-Proc.is
    (needs_calls c.do_procs.result c.args.h.program.now c.as_slice-in-Proc.result.now c.in-Proc.calls c.as_slice-in-Proc.ensures.value c.do_procs.ensures.why)

pub returns-in-Task-clause-next : goal.returns-in-Task-clause-next
returns-in-Task-clause-next c =
    does_so c.do_tasks.result c.args.s.now (here_of c.args.h) _ c.do_tasks.ensures.next
    (becomes_by (λ (calls : List TExpr). does (here_of c.args.h) (flat_map (λ (e : TExpr). call_work c.args.h.program.now e StartTask) calls)) c.as_slice-in-Task.result.now c.in-Task.calls c.args.s.now _ (here_of c.args.h) c.as_slice-in-Task.ensures.value c.in-Task.is (done-Task c.in-Task.line c.in-Task.calls (here_of c.args.h)))

pub returns-in-Task-clause-why : goal.returns-in-Task-clause-why
returns-in-Task-clause-why c =
    needs_so c.do_tasks.result c.args.h.program.now c.args.s.now (variant.Task c.in-Task.line c.in-Task.calls) c.in-Task.is
    (needs_calls c.do_tasks.result c.args.h.program.now c.as_slice-in-Task.result.now c.in-Task.calls c.as_slice-in-Task.ensures.value c.do_tasks.ensures.why)
