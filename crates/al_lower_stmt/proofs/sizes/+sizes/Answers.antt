use Rattle.std.proofs.Common.{◌≡◌, ℕ, ◌+◌, IfOk, List, arith, sym, ap, ap₂, ◌∙◌, subst}
use Rattle.al_typed.specs.declared.statement.TStmt.{TStmt}
use Rattle.al_lower_code.specs.Homes.{at_line}
use Rattle.al_lower_code.specs.Heads.{switch_size, alt_size}
use Rattle.al_lower_code.specs.Statements.{stmt_size}
use Rattle.al_lower_base.specs.Spots.{spot_of}
use Rattle.al_lower_heads.specs.Cases.{communications, zero_cases_of}
use Rattle.al_lower_stmt.specs.Bodies.{sizes}
use Rattle.al_lower_stmt.proofs.ByForm.{sized}
use Rattle.al_lower_stmt.proofs.Forms.{size-Block, size-Value, size-Label, size-If, size-While, size-Do, size-For, size-Switch, size-Alt, size-Rescue}
use Rattle.al_lower_stmt.proofs.InBodies.{sizes_more, sizes_done}
use Rattle.al_lower_stmt.proofs.Others.{size-other}
use Rattle.al_lower_stmt.proofs.sizes.+sizes.Goals as goal

pub part_size-returns : goal.part_size-returns
part_size-returns t c =
    subst (λ (a : TStmt). IfOk c.stmt_size.result (λ n. n ≡ stmt_size (spot_of c.args.s) a)) c.get.ensures c.stmt_size.ensures

pub items_size-returns : goal.items_size-returns
items_size-returns t c =
    subst (λ (body : List TStmt). IfOk c.all_size.result (λ n. n ≡ sizes (spot_of c.args.s) body)) c.as_slice.ensures.value c.all_size.ensures

pub all_size-loop-a-preserved : goal.all_size-loop-a-preserved
all_size-loop-a-preserved t c =
    omega (arith, sizes_more (spot_of c.args.s) c.args.body.now c.loop-a.a-index c.a-item.result c.loop-a-test.true c.a-item.is)

pub all_size-returns : goal.all_size-returns
all_size-returns t c = omega (arith, sizes_done (spot_of c.args.s) c.args.body.now c.loop-a.a-index (omega (arith, c.loop-a-test.false)))

pub cases_size-returns : goal.cases_size-returns
cases_size-returns t c =
    subst (λ (m : ℕ). IfOk c.slot_behind.result (λ n. n ≡ m))
    (ap₂ (λ (n m : ℕ). n + m)
    (c.in_ok-head.ensures ∙ ap (λ (b : List TStmt). switch_size (at_line c.args.line (spot_of c.args.s)) c.args.e.now (zero_cases_of b)) c.as_slice.ensures.value)
    c.in_ok-items_size.ensures)
    c.slot_behind.ensures

pub talks_size-returns : goal.talks_size-returns
talks_size-returns t c =
    subst (λ (m : ℕ). IfOk c.slot_behind.result (λ n. n ≡ m))
    (ap₂ (λ (n m : ℕ). n + m)
    (c.in_ok-head.ensures ∙ ap (λ (b : List TStmt). alt_size (at_line c.args.line (spot_of c.args.s)) (communications b)) c.as_slice.ensures.value)
    c.in_ok-items_size.ensures)
    c.slot_behind.ensures

pub stmt_size-returns-in-Block : goal.stmt_size-returns-in-Block
stmt_size-returns-in-Block t c =
    sized c.items_size.result (spot_of c.args.s) c.args.a.now _ _ c.in-Block.is (size-Block (spot_of c.args.s) c.in-Block.line c.in-Block.body) c.items_size.ensures

pub stmt_size-returns-in-Value : goal.stmt_size-returns-in-Value
stmt_size-returns-in-Value t c =
    sized c.value_size.result (spot_of c.args.s) c.args.a.now _ _ c.in-Value.is (size-Value (spot_of c.args.s) c.in-Value.line c.in-Value.iterators c.in-Value.value) c.value_size.ensures

pub stmt_size-returns-in-Label : goal.stmt_size-returns-in-Label
stmt_size-returns-in-Label t c =
    sized c.part_size.result (spot_of c.args.s) c.args.a.now _ _ c.in-Label.is (size-Label (spot_of c.args.s) c.in-Label.line c.in-Label.number c.in-Label.body) c.part_size.ensures

pub stmt_size-returns-in-If : goal.stmt_size-returns-in-If
stmt_size-returns-in-If t c =
    sized c.if_size.result (spot_of c.args.s) c.args.a.now _ _ c.in-If.is (size-If (spot_of c.args.s) c.in-If.line c.in-If.condition c.in-If.then c.in-If.other) c.if_size.ensures

pub stmt_size-returns-in-While : goal.stmt_size-returns-in-While
stmt_size-returns-in-While t c =
    sized c.loop_size.result (spot_of c.args.s) c.args.a.now _ _ c.in-While.is (size-While (spot_of c.args.s) c.in-While.line c.in-While.condition c.in-While.body) c.loop_size.ensures

pub stmt_size-returns-in-Do : goal.stmt_size-returns-in-Do
stmt_size-returns-in-Do t c =
    sized c.loop_size-in-Do.result (spot_of c.args.s) c.args.a.now _ _ c.in-Do.is (size-Do (spot_of c.args.s) c.in-Do.line c.in-Do.body c.in-Do.condition) c.loop_size-in-Do.ensures

pub stmt_size-returns-in-For : goal.stmt_size-returns-in-For
stmt_size-returns-in-For t c =
    sized c.for_size.result (spot_of c.args.s) c.args.a.now _ _ c.in-For.is (size-For (spot_of c.args.s) c.in-For.line c.in-For.start c.in-For.condition c.in-For.step c.in-For.body) c.for_size.ensures

pub stmt_size-returns-in-Switch : goal.stmt_size-returns-in-Switch
stmt_size-returns-in-Switch t c =
    sized c.cases_size.result (spot_of c.args.s) c.args.a.now _ _ c.in-Switch.is (size-Switch (spot_of c.args.s) c.in-Switch.line c.in-Switch.value c.in-Switch.body) c.cases_size.ensures

pub stmt_size-returns-in-Alt : goal.stmt_size-returns-in-Alt
stmt_size-returns-in-Alt t c =
    sized c.talks_size.result (spot_of c.args.s) c.args.a.now _ _ c.in-Alt.is (size-Alt (spot_of c.args.s) c.in-Alt.line c.in-Alt.body) c.talks_size.ensures

pub stmt_size-returns-in-Rescue : goal.stmt_size-returns-in-Rescue
stmt_size-returns-in-Rescue t c =
    sized c.skipped_size.result (spot_of c.args.s) c.args.a.now _ _ c.in-Rescue.is (size-Rescue (spot_of c.args.s) c.in-Rescue.line c.in-Rescue.number c.in-Rescue.body) c.skipped_size.ensures

pub stmt_size-returns-in_default : goal.stmt_size-returns-in_default
stmt_size-returns-in_default t c =
    subst (λ (m : ℕ). IfOk c.simple_size.result (λ n. n ≡ m))
    (sym (size-other (spot_of c.args.s) c.args.a.now c.in_default.not-Block c.in_default.not-Value c.in_default.not-Label c.in_default.not-If c.in_default.not-While c.in_default.not-Do c.in_default.not-For c.in_default.not-Switch c.in_default.not-Alt c.in_default.not-Rescue c.in_default.not-Raise c.in_default.not-Goto c.in_default.not-Break c.in_default.not-Continue))
    c.simple_size.ensures
