use Rattle.std.proofs.Common.{◌≡◌, ℕ, ◌+◌, List, Option, OnOk, arith, sym, ap, ap₂, ◌∙◌, subst}
use Rattle.std.proofs.lemmas.Result.{on_ok_weaker}
use Rattle.std.specs.Prelude.{◌==◌}
use Rattle.al_typed.specs.declared.statement.TStmt.{TStmt}
use Rattle.al_meaning.specs.Parts.{first_of_two}
use Rattle.al_lower_code.specs.Homes.{at_line}
use Rattle.al_lower_code.specs.Heads.{switch_size, alt_size}
use Rattle.al_lower_code.specs.Statements.{place_of}
use Rattle.al_lower_base.specs.Spots.{spot_of}
use Rattle.al_lower_heads.specs.Cases.{communications, zero_cases_of}
use Rattle.al_lower_stmt.specs.Bodies.{place_from, place_of_other}
use Rattle.al_lower_stmt.specs.Leading.{noted}
use Rattle.al_lower_stmt.proofs.ByForm.{entered}
use Rattle.al_lower_stmt.proofs.Forms.{place-Block, place-Label, place-If, place-While, place-Do, place-For, place-Switch, place-Alt, place-Rescue}
use Rattle.al_lower_stmt.proofs.InBodies.{first_alone, places_more, places_done}
use Rattle.al_lower_stmt.proofs.Noting.{label_first, first_twice}
use Rattle.al_lower_stmt.proofs.Others.{place-other}
use Rattle.al_lower_stmt.proofs.labels.+places.Goals as goal

pub note_part-returns : goal.note_part-returns
note_part-returns t c =
    subst (λ (a : TStmt). OnOk c.note_places.result ((l : ℕ) → noted c.note_places.new.places l ≡ first_of_two (noted c.args.places.now l) (place_of (spot_of c.args.s) l a c.args.pc)))
    c.get.ensures c.note_places.ensures

pub note_behind-returns : goal.note_behind-returns
note_behind-returns t c =
    subst (λ (n : ℕ). OnOk c.note_part.result ((l : ℕ) → noted c.note_part.new.places l ≡ first_of_two (noted c.args.places.now l) (place_of (spot_of c.args.s) l c.args.a.now n)))
    c.in_ok-slot_behind.ensures c.note_part.ensures

pub note_items-returns : goal.note_items-returns
note_items-returns t c =
    subst (λ (body : List TStmt). OnOk c.note_all.result ((l : ℕ) → noted c.note_all.new.places l ≡ first_of_two (noted c.args.places.now l) (place_from (spot_of c.args.s) l body c.args.pc)))
    c.as_slice.ensures.value c.note_all.ensures

pub note_all-loop-a-preserved : goal.note_all-loop-a-preserved
note_all-loop-a-preserved t c =
    λ k.
    rw (c.in_ok-note_places.ensures k, c.in_ok-at.ensures, c.in_ok-stmt_size.ensures)
    (places_more (spot_of c.args.s) k c.args.body.now c.loop-a.a-index c.a-item.result c.loop-a.at (noted c.loop-a.places k) _ c.loop-a-test.true c.a-item.is (c.loop-a.invariant k))

pub note_all-returns : goal.note_all-returns
note_all-returns t c =
    λ k.
    places_done (spot_of c.args.s) k c.args.body.now c.loop-a.a-index c.loop-a.at (noted c.loop-a.places k) _ (omega (arith, c.loop-a-test.false)) (c.loop-a.invariant k)

pub note_label-returns : goal.note_label-returns
note_label-returns t c =
    on_ok_weaker c.note_part.result
    (λ h l.
    h l ∙ ap (λ (p : Option ℕ). first_of_two p (place_of (spot_of c.args.s) l c.args.body.now c.args.pc)) (c.in_ok-note.ensures l)
    ∙ label_first (c.args.number == l) c.args.pc (noted c.args.places.now l) (place_of (spot_of c.args.s) l c.args.body.now c.args.pc))
    c.note_part.ensures

pub note_rescue-returns : goal.note_rescue-returns
note_rescue-returns t c =
    on_ok_weaker c.note_label.result
    (λ h l. rw (← c.in_ok-slot_behind.ensures) (h l))
    c.note_label.ensures

pub note_while-returns : goal.note_while-returns
note_while-returns t c =
    let begin = c.in_ok-begin.ensures ∙ ap (λ (n : ℕ). c.args.pc + n) c.in_ok-test_size.ensures in
    on_ok_weaker c.note_part.result
    (λ h l. h l ∙ ap (λ (n : ℕ). first_of_two (noted c.args.places.now l) (place_of (spot_of c.args.s) l c.args.body.now n)) begin)
    c.note_part.ensures

pub note_for-returns : goal.note_for-returns
note_for-returns t c =
    let begin = c.in_ok-begin.ensures ∙ ap₂ (λ (n m : ℕ). n + m) (c.in_ok-round.ensures ∙ ap (λ (n : ℕ). c.args.pc + n) c.in_ok-optional_effect_size.ensures) c.in_ok-optional_size.ensures in
    on_ok_weaker c.note_part.result
    (λ h l. h l ∙ ap (λ (n : ℕ). first_of_two (noted c.args.places.now l) (place_of (spot_of c.args.s) l c.args.body.now n)) begin)
    c.note_part.ensures

pub note_if-returns : goal.note_if-returns
note_if-returns t c =
    let begin = c.in_ok-begin.ensures ∙ ap (λ (n : ℕ). c.args.pc + n) c.in_ok-test_size.ensures in
    let end = c.in_ok-end.ensures ∙ ap₂ (λ (n m : ℕ). n + m) begin c.in_ok-part_size.ensures in
    on_ok_weaker c.note_other.result
    (λ h l.
    first_twice (noted c.args.places.now l) _ _ _ _ _ _ (c.in_ok-note_part.ensures l) (h l)
    (ap (place_of (spot_of c.args.s) l c.args.chosen.now) begin) (ap (place_of_other (spot_of c.args.s) l c.args.other.now) end))
    c.note_other.ensures

pub note_switch-returns : goal.note_switch-returns
note_switch-returns t c =
    let begin = c.in_ok-begin.ensures ∙ ap (λ (n : ℕ). c.args.pc + n) (c.in_ok-switch_size.ensures ∙ ap (λ (b : List TStmt). switch_size (at_line c.args.line (spot_of c.args.s)) c.args.e.now (zero_cases_of b)) c.as_slice.ensures.value) in
    on_ok_weaker c.note_items.result
    (λ h l. h l ∙ ap (λ (n : ℕ). first_of_two (noted c.args.places.now l) (place_from (spot_of c.args.s) l c.args.body.now n)) begin)
    c.note_items.ensures

pub note_alt-returns : goal.note_alt-returns
note_alt-returns t c =
    let begin = c.in_ok-begin.ensures ∙ ap (λ (n : ℕ). c.args.pc + n) (c.in_ok-alt_size.ensures ∙ ap (λ (b : List TStmt). alt_size (at_line c.args.line (spot_of c.args.s)) (communications b)) c.as_slice.ensures.value) in
    on_ok_weaker c.note_items.result
    (λ h l. h l ∙ ap (λ (n : ℕ). first_of_two (noted c.args.places.now l) (place_from (spot_of c.args.s) l c.args.body.now n)) begin)
    c.note_items.ensures

pub note_places-returns-in-Block : goal.note_places-returns-in-Block
note_places-returns-in-Block t c =
    entered c.note_items.result (spot_of c.args.s) c.args.a.now _ c.args.pc _ _ _ c.in-Block.is (λ l. place-Block (spot_of c.args.s) l c.in-Block.line c.in-Block.body c.args.pc) c.note_items.ensures

pub note_places-returns-in-Label : goal.note_places-returns-in-Label
note_places-returns-in-Label t c =
    entered c.note_label.result (spot_of c.args.s) c.args.a.now _ c.args.pc _ _ _ c.in-Label.is (λ l. place-Label (spot_of c.args.s) l c.in-Label.line c.in-Label.number c.in-Label.body c.args.pc) c.note_label.ensures

pub note_places-returns-in-If : goal.note_places-returns-in-If
note_places-returns-in-If t c =
    entered c.note_if.result (spot_of c.args.s) c.args.a.now _ c.args.pc _ _ _ c.in-If.is (λ l. place-If (spot_of c.args.s) l c.in-If.line c.in-If.condition c.in-If.then c.in-If.other c.args.pc) c.note_if.ensures

pub note_places-returns-in-While : goal.note_places-returns-in-While
note_places-returns-in-While t c =
    entered c.note_while.result (spot_of c.args.s) c.args.a.now _ c.args.pc _ _ _ c.in-While.is (λ l. place-While (spot_of c.args.s) l c.in-While.line c.in-While.condition c.in-While.body c.args.pc) c.note_while.ensures

pub note_places-returns-in-Do : goal.note_places-returns-in-Do
note_places-returns-in-Do t c =
    entered c.note_part.result (spot_of c.args.s) c.args.a.now _ c.args.pc _ _ _ c.in-Do.is (λ l. place-Do (spot_of c.args.s) l c.in-Do.line c.in-Do.body c.in-Do.condition c.args.pc) c.note_part.ensures

pub note_places-returns-in-For : goal.note_places-returns-in-For
note_places-returns-in-For t c =
    entered c.note_for.result (spot_of c.args.s) c.args.a.now _ c.args.pc _ _ _ c.in-For.is (λ l. place-For (spot_of c.args.s) l c.in-For.line c.in-For.start c.in-For.condition c.in-For.step c.in-For.body c.args.pc) c.note_for.ensures

pub note_places-returns-in-Switch : goal.note_places-returns-in-Switch
note_places-returns-in-Switch t c =
    entered c.note_switch.result (spot_of c.args.s) c.args.a.now _ c.args.pc _ _ _ c.in-Switch.is (λ l. place-Switch (spot_of c.args.s) l c.in-Switch.line c.in-Switch.value c.in-Switch.body c.args.pc) c.note_switch.ensures

pub note_places-returns-in-Alt : goal.note_places-returns-in-Alt
note_places-returns-in-Alt t c =
    entered c.note_alt.result (spot_of c.args.s) c.args.a.now _ c.args.pc _ _ _ c.in-Alt.is (λ l. place-Alt (spot_of c.args.s) l c.in-Alt.line c.in-Alt.body c.args.pc) c.note_alt.ensures

pub note_places-returns-in-Rescue : goal.note_places-returns-in-Rescue
note_places-returns-in-Rescue t c =
    entered c.note_rescue.result (spot_of c.args.s) c.args.a.now _ c.args.pc _ _ _ c.in-Rescue.is (λ l. place-Rescue (spot_of c.args.s) l c.in-Rescue.line c.in-Rescue.number c.in-Rescue.body c.args.pc) c.note_rescue.ensures

pub note_places-returns-in_default : goal.note_places-returns-in_default
note_places-returns-in_default t c =
    λ l.
    sym (first_alone (noted c.args.places.now l))
    ∙ ap (first_of_two (noted c.args.places.now l)) (sym (place-other (spot_of c.args.s) l c.args.pc c.args.a.now c.in_default.not-Block c.in_default.not-Label c.in_default.not-If c.in_default.not-While c.in_default.not-Do c.in_default.not-For c.in_default.not-Switch c.in_default.not-Alt c.in_default.not-Rescue))
