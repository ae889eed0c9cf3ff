use Rattle.std.proofs.Common.{◌≡◌, ℕ, ◌+◌, List, ◌++◌, OnOk, refl, arith, sym, ap, ap₂, ◌∙◌, subst}
use Rattle.std.specs.Prelude.{unwrap_or}
use Rattle.al_typed.specs.declared.statement.TStmt.{TStmt}
use Rattle.al_ir.specs.declared.op.Op.TheVariants as op
use Rattle.al_lower_code.specs.Homes.{at_line, here}
use Rattle.al_lower_code.specs.Heads as heads
use Rattle.al_lower_code.specs.Statements.{Targets, Onward, Turned, stmt_code, again_code, in_loop, in_cases}
use Rattle.al_lower_base.specs.Spots.{spot_of}
use Rattle.al_lower_heads.specs.Cases.{communications, zero_cases_of}
use Rattle.al_lower_stmt.specs.Bodies as bodies
use Rattle.al_lower_stmt.specs.Bodies.{codes_from, code_of_other, cases_from, default_from, bodies_from}
use Rattle.al_lower_stmt.specs.Leading.{targets_in, targets_by}
use Rattle.al_lower_stmt.proofs.ByForm.{made}
use Rattle.al_lower_stmt.proofs.Forms.{code-Block, code-Value, code-Label, code-If, code-While, code-Do, code-For, code-Switch, code-Alt, code-Rescue, code-Raise, code-Goto, code-Break, code-Continue}
use Rattle.al_lower_stmt.proofs.InBodies.{codes_more, codes_done}
use Rattle.al_lower_stmt.proofs.Joined.{one, two, three, four}
use Rattle.al_lower_stmt.proofs.Others.{code-other}
use Rattle.al_lower_stmt.proofs.statements.+statements.Goals as goal

pub part-returns : goal.part-returns
part-returns t c =
    subst (λ (a : TStmt). OnOk c.statement.result (c.statement.new.code ≡ c.args.code.now ++ stmt_code (spot_of c.args.s) (targets_in c.args.c) a c.args.pc))
    c.get.ensures c.statement.ensures

pub items-returns : goal.items-returns
items-returns t c =
    subst (λ (body : List TStmt). OnOk c.all_statements.result (c.all_statements.new.code ≡ c.args.code.now ++ codes_from (spot_of c.args.s) (targets_in c.args.c) body c.args.pc))
    c.as_slice.ensures.value c.all_statements.ensures

pub all_statements-loop-a-preserved : goal.all_statements-loop-a-preserved
all_statements-loop-a-preserved t c =
    rw (c.in_ok-statement.ensures, c.in_ok-at.ensures, c.in_ok-stmt_size.ensures)
    (codes_more (spot_of c.args.s) (targets_in c.args.c) c.args.body.now c.loop-a.a-index c.a-item.result c.loop-a.at c.loop-a.code _ c.loop-a-test.true c.a-item.is c.loop-a.invariant)

pub all_statements-returns : goal.all_statements-returns
all_statements-returns t c =
    codes_done (spot_of c.args.s) (targets_in c.args.c) c.args.body.now c.loop-a.a-index c.loop-a.at c.loop-a.code _ (omega (arith, c.loop-a-test.false)) c.loop-a.invariant

pub in_loop-returns : goal.in_loop-returns
in_loop-returns t c =
    subst (λ (targets : Targets). OnOk c.part.result (c.part.new.code ≡ c.args.code.now ++ stmt_code (spot_of c.args.s) targets c.args.body.now c.args.pc))
    (ap₂ (targets_by c.args.c.labels.now) (c.as_slice-behind.ensures.value ∙ c.in_ok-behinds.ensures) (c.as_slice-again.ensures.value ∙ c.in_ok-agains.ensures))
    c.part.ensures

pub in_cases-returns : goal.in_cases-returns
in_cases-returns t c =
    subst (λ (targets : Targets). OnOk c.items.result (c.items.new.code ≡ c.args.code.now ++ codes_from (spot_of c.args.s) targets c.args.body.now c.args.pc))
    (ap (λ (b : List ℕ). targets_by c.args.c.labels.now b c.args.c.again.now) (c.as_slice-behind.ensures.value ∙ c.in_ok-behinds.ensures))
    c.items.ensures

pub skipped-returns : goal.skipped-returns
skipped-returns t c =
    two c.part.result _ _ _ _ _ _ _ c.in_ok-push.ensures c.part.ensures
    (ap (λ (n : ℕ). here (at_line c.args.line (spot_of c.args.s)) (op.Skip n)) c.in_ok-count.ensures)
    (ap (stmt_code (spot_of c.args.s) (targets_in c.args.c) c.args.a.now) c.in_ok-slot_behind.ensures)

pub if_code-returns : goal.if_code-returns
if_code-returns t c =
    let begin = c.in_ok-begin.ensures ∙ ap (λ (n : ℕ). c.args.pc + n) c.in_ok-test_size.ensures in
    let end = c.in_ok-end.ensures ∙ ap₂ (λ (n m : ℕ). n + m) begin c.in_ok-size.ensures in
    let count = c.in_ok-count.ensures ∙ ap₂ (λ (n m : ℕ). n + m) c.in_ok-size.ensures c.jumps_over.ensures in
    three c.other.result _ _ _ _ _ _ _ _ _ _ c.in_ok-test.ensures c.in_ok-part.ensures c.other.ensures
    (ap (heads.test_code (at_line c.args.line (spot_of c.args.s)) c.args.condition.now) count)
    (ap (stmt_code (spot_of c.args.s) (targets_in c.args.c) c.args.chosen.now) begin)
    (ap (code_of_other (spot_of c.args.s) c.args.line (targets_in c.args.c) c.args.otherwise.now) end)

pub while_code-returns : goal.while_code-returns
while_code-returns t c =
    let begin = c.in_ok-begin.ensures ∙ ap (λ (n : ℕ). c.args.pc + n) c.in_ok-test_size.ensures in
    let end = c.in_ok-slot_behind.ensures ∙ ap₂ (λ (n m : ℕ). n + m) begin c.in_ok-size.ensures in
    let behind = c.in_ok-behind.ensures ∙ ap (λ (n : ℕ). n + 1) end in
    let count = c.in_ok-count.ensures ∙ ap (λ (n : ℕ). n + 1) c.in_ok-size.ensures in
    three c.turn.result _ _ _ _ _ _ _ _ _ _ c.in_ok-test.ensures c.in_ok-in_loop.ensures c.turn.ensures
    (ap (heads.test_code (at_line c.args.line (spot_of c.args.s)) c.args.condition.now) count)
    (ap₂ (λ (b p : ℕ). stmt_code (spot_of c.args.s) (in_loop b (Turned c.args.line c.args.pc) (targets_in c.args.c)) c.args.body.now p) behind begin)
    refl

pub do_code-returns : goal.do_code-returns
do_code-returns t c =
    let end = c.in_ok-end.ensures ∙ ap (λ (n : ℕ). c.args.pc + n) c.in_ok-part_size.ensures in
    let behind = c.in_ok-behind.ensures ∙ ap (λ (n : ℕ). n + 1) (c.in_ok-slot_behind.ensures ∙ ap₂ (λ (n m : ℕ). n + m) end c.in_ok-test_size.ensures) in
    three c.turn.result _ _ _ _ _ _ _ _ _ _ c.in_ok-in_loop.ensures c.in_ok-test.ensures c.turn.ensures
    (ap₂ (λ (b e : ℕ). stmt_code (spot_of c.args.s) (in_loop b (Onward e) (targets_in c.args.c)) c.args.body.now c.args.pc) behind end)
    refl refl

pub rounds-returns : goal.rounds-returns
rounds-returns t c =
    let begin = c.in_ok-begin.ensures ∙ ap (λ (n : ℕ). c.args.round + n) c.in_ok-optional_size.ensures in
    let end = c.in_ok-end.ensures ∙ ap₂ (λ (n m : ℕ). n + m) begin c.in_ok-size.ensures in
    let behind = c.in_ok-behind.ensures ∙ ap (λ (n : ℕ). n + 1) (c.in_ok-slot_behind.ensures ∙ ap₂ (λ (n m : ℕ). n + m) end c.in_ok-next.ensures) in
    let count = c.in_ok-count.ensures ∙ ap₂ (λ (n m : ℕ). n + m) c.in_ok-size.ensures (c.in_ok-slot_behind-2.ensures ∙ ap (λ (n : ℕ). n + 1) c.in_ok-next.ensures) in
    four c.turn.result _ _ _ _ _ _ _ _ _ _ _ _ _ c.in_ok-optional_test.ensures c.in_ok-in_loop.ensures c.in_ok-optional_effect.ensures c.turn.ensures
    (ap (heads.optional_test (at_line c.args.line (spot_of c.args.s)) c.args.condition.now) count)
    (ap (stmt_code (spot_of c.args.s) (in_loop c.in_ok-behind.behind (Onward c.in_ok-end.end) (targets_in c.args.c)) c.args.body.now) begin
    ∙ ap₂ (λ (b e : ℕ). stmt_code (spot_of c.args.s) (in_loop b (Onward e) (targets_in c.args.c)) c.args.body.now (c.args.round + heads.optional_size (at_line c.args.line (spot_of c.args.s)) c.args.condition.now)) behind end)
    refl refl

pub for_code-returns : goal.for_code-returns
for_code-returns t c =
    two c.rounds.result _ _ _ _ _ _ _ c.in_ok-optional_effect.ensures c.rounds.ensures refl
    (ap (bodies.rounds (spot_of c.args.s) c.args.line (targets_in c.args.c) c.args.condition.now c.args.step.now c.args.body.now)
    (c.in_ok-round.ensures ∙ ap (λ (n : ℕ). c.args.pc + n) c.in_ok-optional_effect_size.ensures))

pub switch_code-returns : goal.switch_code-returns
switch_code-returns t c =
    let same = c.as_slice-cases.ensures.value in
    let begin = c.in_ok-begin.ensures ∙ ap (λ (n : ℕ). c.args.pc + n) (c.in_ok-switch_size.ensures ∙ ap (λ (b : List TStmt). heads.switch_size (at_line c.args.line (spot_of c.args.s)) c.args.e.now (zero_cases_of b)) same) in
    let end = c.in_ok-end.ensures ∙ ap₂ (λ (n m : ℕ). n + m) begin c.in_ok-items_size.ensures in
    two c.in_cases.result _ _ _ _ _ _ _ c.in_ok-cases_head.ensures c.in_cases.ensures
    (ap (λ (b : List TStmt). heads.switch_head (at_line c.args.line (spot_of c.args.s)) c.args.e.now (cases_from (spot_of c.args.s) b c.in_ok-begin.begin) (unwrap_or (default_from (spot_of c.args.s) b c.in_ok-begin.begin) c.in_ok-end.end)) same
    ∙ ap₂ (λ (n m : ℕ). heads.switch_head (at_line c.args.line (spot_of c.args.s)) c.args.e.now (cases_from (spot_of c.args.s) c.args.body.now n) (unwrap_or (default_from (spot_of c.args.s) c.args.body.now n) m)) begin end)
    (ap₂ (λ (n m : ℕ). codes_from (spot_of c.args.s) (in_cases m (targets_in c.args.c)) c.args.body.now n) begin end)

pub alt_code-returns : goal.alt_code-returns
alt_code-returns t c =
    let same = c.as_slice-cases.ensures.value in
    let begin = c.in_ok-begin.ensures ∙ ap (λ (n : ℕ). c.args.pc + n) (c.in_ok-alt_size.ensures ∙ ap (λ (b : List TStmt). heads.alt_size (at_line c.args.line (spot_of c.args.s)) (communications b)) same) in
    let end = c.in_ok-end.ensures ∙ ap₂ (λ (n m : ℕ). n + m) begin c.in_ok-items_size.ensures in
    two c.in_cases.result _ _ _ _ _ _ _ c.in_ok-talks_head.ensures c.in_cases.ensures
    (ap (λ (b : List TStmt). heads.alt_head (at_line c.args.line (spot_of c.args.s)) (communications b) (bodies_from (spot_of c.args.s) b c.in_ok-begin.begin)) same
    ∙ ap (λ (n : ℕ). heads.alt_head (at_line c.args.line (spot_of c.args.s)) (communications c.args.body.now) (bodies_from (spot_of c.args.s) c.args.body.now n)) begin)
    (ap₂ (λ (n m : ℕ). codes_from (spot_of c.args.s) (in_cases m (targets_in c.args.c)) c.args.body.now n) begin end)

pub statement-returns-in-Block : goal.statement-returns-in-Block
statement-returns-in-Block t c =
    made c.items.result (spot_of c.args.s) (targets_in c.args.c) c.args.a.now _ c.args.pc _ _ _ c.in-Block.is (code-Block (spot_of c.args.s) (targets_in c.args.c) c.in-Block.line c.in-Block.body c.args.pc) c.items.ensures

pub statement-returns-in-Value : goal.statement-returns-in-Value
statement-returns-in-Value t c =
    made c.value_code.result (spot_of c.args.s) (targets_in c.args.c) c.args.a.now _ c.args.pc _ _ _ c.in-Value.is (code-Value (spot_of c.args.s) (targets_in c.args.c) c.in-Value.line c.in-Value.iterators c.in-Value.value c.args.pc) c.value_code.ensures

pub statement-returns-in-Label : goal.statement-returns-in-Label
statement-returns-in-Label t c =
    made c.part.result (spot_of c.args.s) (targets_in c.args.c) c.args.a.now _ c.args.pc _ _ _ c.in-Label.is (code-Label (spot_of c.args.s) (targets_in c.args.c) c.in-Label.line c.in-Label.number c.in-Label.body c.args.pc) c.part.ensures

pub statement-returns-in-If : goal.statement-returns-in-If
statement-returns-in-If t c =
    made c.if_code.result (spot_of c.args.s) (targets_in c.args.c) c.args.a.now _ c.args.pc _ _ _ c.in-If.is (code-If (spot_of c.args.s) (targets_in c.args.c) c.in-If.line c.in-If.condition c.in-If.then c.in-If.other c.args.pc) c.if_code.ensures

pub statement-returns-in-While : goal.statement-returns-in-While
statement-returns-in-While t c =
    made c.while_code.result (spot_of c.args.s) (targets_in c.args.c) c.args.a.now _ c.args.pc _ _ _ c.in-While.is (code-While (spot_of c.args.s) (targets_in c.args.c) c.in-While.line c.in-While.condition c.in-While.body c.args.pc) c.while_code.ensures

pub statement-returns-in-Do : goal.statement-returns-in-Do
statement-returns-in-Do t c =
    made c.do_code.result (spot_of c.args.s) (targets_in c.args.c) c.args.a.now _ c.args.pc _ _ _ c.in-Do.is (code-Do (spot_of c.args.s) (targets_in c.args.c) c.in-Do.line c.in-Do.body c.in-Do.condition c.args.pc) c.do_code.ensures

pub statement-returns-in-For : goal.statement-returns-in-For
statement-returns-in-For t c =
    made c.for_code.result (spot_of c.args.s) (targets_in c.args.c) c.args.a.now _ c.args.pc _ _ _ c.in-For.is (code-For (spot_of c.args.s) (targets_in c.args.c) c.in-For.line c.in-For.start c.in-For.condition c.in-For.step c.in-For.body c.args.pc) c.for_code.ensures

pub statement-returns-in-Switch : goal.statement-returns-in-Switch
statement-returns-in-Switch t c =
    made c.switch_code.result (spot_of c.args.s) (targets_in c.args.c) c.args.a.now _ c.args.pc _ _ _ c.in-Switch.is (code-Switch (spot_of c.args.s) (targets_in c.args.c) c.in-Switch.line c.in-Switch.value c.in-Switch.body c.args.pc) c.switch_code.ensures

pub statement-returns-in-Alt : goal.statement-returns-in-Alt
statement-returns-in-Alt t c =
    made c.alt_code.result (spot_of c.args.s) (targets_in c.args.c) c.args.a.now _ c.args.pc _ _ _ c.in-Alt.is (code-Alt (spot_of c.args.s) (targets_in c.args.c) c.in-Alt.line c.in-Alt.body c.args.pc) c.alt_code.ensures

pub statement-returns-in-Rescue : goal.statement-returns-in-Rescue
statement-returns-in-Rescue t c =
    made c.skipped.result (spot_of c.args.s) (targets_in c.args.c) c.args.a.now _ c.args.pc _ _ _ c.in-Rescue.is (code-Rescue (spot_of c.args.s) (targets_in c.args.c) c.in-Rescue.line c.in-Rescue.number c.in-Rescue.body c.args.pc) c.skipped.ensures

pub statement-returns-in-Raise : goal.statement-returns-in-Raise
statement-returns-in-Raise t c =
    made c.turn.result (spot_of c.args.s) (targets_in c.args.c) c.args.a.now _ c.args.pc _ _ _ c.in-Raise.is
    (code-Raise (spot_of c.args.s) (targets_in c.args.c) c.in-Raise.line c.in-Raise.rescue c.args.pc
    ∙ ap (λ (n : ℕ). here (at_line c.in-Raise.line (spot_of c.args.s)) (op.Turn n)) (sym c.label_place.ensures))
    c.turn.ensures

pub statement-returns-in-Goto : goal.statement-returns-in-Goto
statement-returns-in-Goto t c =
    made c.turn-in-Goto.result (spot_of c.args.s) (targets_in c.args.c) c.args.a.now _ c.args.pc _ _ _ c.in-Goto.is
    (code-Goto (spot_of c.args.s) (targets_in c.args.c) c.in-Goto.line c.in-Goto.label c.args.pc
    ∙ ap (λ (n : ℕ). here (at_line c.in-Goto.line (spot_of c.args.s)) (op.Turn n)) (sym c.label_place-in-Goto.ensures))
    c.turn-in-Goto.ensures

pub statement-returns-in-Break : goal.statement-returns-in-Break
statement-returns-in-Break t c =
    made c.go_to.result (spot_of c.args.s) (targets_in c.args.c) c.args.a.now _ c.args.pc _ _ _ c.in-Break.is
    (code-Break (spot_of c.args.s) (targets_in c.args.c) c.in-Break.line c.in-Break.levels c.args.pc
    ∙ ap (λ (n : ℕ). here (at_line c.in-Break.line (spot_of c.args.s)) (op.GoTo n)) (sym c.behind_levels.ensures))
    c.go_to.ensures

pub statement-returns-in-Continue : goal.statement-returns-in-Continue
statement-returns-in-Continue t c =
    made c.next_round.result (spot_of c.args.s) (targets_in c.args.c) c.args.a.now _ c.args.pc _ _ _ c.in-Continue.is
    (code-Continue (spot_of c.args.s) (targets_in c.args.c) c.in-Continue.line c.in-Continue.levels c.args.pc
    ∙ ap (again_code c.in-Continue.line) (sym c.again_at.ensures))
    c.next_round.ensures

pub statement-returns-in_default : goal.statement-returns-in_default
statement-returns-in_default t c =
    one c.simple.result _ _ _ _ c.simple.ensures
    (sym (code-other (spot_of c.args.s) (targets_in c.args.c) c.args.pc c.args.a.now c.in_default.not-Block c.in_default.not-Value c.in_default.not-Label c.in_default.not-If c.in_default.not-While c.in_default.not-Do c.in_default.not-For c.in_default.not-Switch c.in_default.not-Alt c.in_default.not-Rescue c.in_default.not-Raise c.in_default.not-Goto c.in_default.not-Break c.in_default.not-Continue))
