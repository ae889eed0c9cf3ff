use Rattle.std.proofs.Common.{length}
use Rattle.std.proofs.lemmas.Result.{on_ok_weaker}
use Rattle.rv_long.specs.declared.op.LongOp.TheVariants.{Div, DivU, Rem, RemU}
use Rattle.rv_form.specs.Program.{routine_if_used}
use Rattle.rv_gen.proofs.Heads.{four_pieces, four_places}
use Rattle.rv_gen.proofs.Pieces.{place_step}
use Rattle.rv_gen.proofs.head.routines.Goals as goal

pub returns-clause-code : goal.returns-clause-code
returns-clause-code c =
    let ir = c.args.ir.now in
    on_ok_weaker c.routine-4.result
    (λ is.
    four_pieces c.args.code.now.items (routine_if_used ir Div) (routine_if_used ir DivU) (routine_if_used ir Rem) (routine_if_used ir RemU)
    c.routine.new.code.items c.routine-2.new.code.items c.routine-3.new.code.items c.routine-4.new.code.items
    c.in_ok-routine.ensures.code c.in_ok-routine-2.ensures.code c.in_ok-routine-3.ensures.code is)
    c.routine-4.ensures.code

pub returns-clause-places : goal.returns-clause-places
returns-clause-places c =
    let ir = c.args.ir.now in
    let c0 = c.args.code.now.items in
    let c1 = c.routine.new.code.items in
    let c2 = c.routine-2.new.code.items in
    let c3 = c.routine-3.new.code.items in
    on_ok_weaker c.routine-4.result
    (λ is.
    four_places c.args.places.now c.routine.new.places c.routine-2.new.places c.routine-3.new.places c.routine-4.new.places
    (length c0) (length (routine_if_used ir Div)) (length (routine_if_used ir DivU)) (length (routine_if_used ir Rem)) (length (routine_if_used ir RemU))
    (length c1) (length c2) (length c3)
    (place_step c0 (routine_if_used ir Div) c1 c.in_ok-routine.ensures.code)
    (place_step c1 (routine_if_used ir DivU) c2 c.in_ok-routine-2.ensures.code)
    (place_step c2 (routine_if_used ir Rem) c3 c.in_ok-routine-3.ensures.code)
    c.in_ok-routine.ensures.places c.in_ok-routine-2.ensures.places c.in_ok-routine-3.ensures.places is)
    c.routine-4.ensures.places
