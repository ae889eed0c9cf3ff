use Rattle.std.proofs.Common.{◌≡◌, ◌+◌, List, map, drop, OnOk, subst}
use Rattle.al_typed.specs.Typed.{type_of}
use Rattle.al_ir.specs.declared.ir.Operation.{Operation}
use Rattle.al_lower_base.specs.Spots.{spot_of}
use Rattle.al_lower_forms.proofs.Printed.{with_piece, with_end}
use Rattle.al_lower_forms.proofs.printing.put_pieces.Goals as goal

pub loop-piece-preserved : goal.loop-piece-preserved
loop-piece-preserved c =
    with_piece (spot_of c.args.s) c.args.format.now c.loop-piece.piece-index _ (map type_of (drop c.loop-piece.left.next c.args.arguments.now)) c.loop-piece.left.at c.loop-piece.code _ _
    c.loop-piece-test.true (rw c.in-Some.is at (c.in_ok-put_piece.ensures (drop (c.loop-piece.piece-index + 1) c.args.format.now))) c.loop-piece.invariant

pub returns-in-None : goal.returns-in-None
returns-in-None c =
    with_piece (spot_of c.args.s) c.args.format.now c.loop-piece.piece-index _ (map type_of (drop c.loop-piece.left.next c.args.arguments.now)) c.loop-piece.left.at c.loop-piece.code _ _
    c.loop-piece-test.true (rw c.in-None.is at (c.in_ok-put_piece.ensures (drop (c.loop-piece.piece-index + 1) c.args.format.now))) c.loop-piece.invariant

pub returns : goal.returns
returns c =
    subst (λ (ops : List Operation). OnOk c.push.result (c.push.new.code ≡ ops))
    (with_end (spot_of c.args.s) c.args.format.now c.loop-piece.piece-index (map type_of (drop c.loop-piece.left.next c.args.arguments.now)) c.loop-piece.left.at c.loop-piece.code _ c.loop-piece-test.false c.loop-piece.invariant)
    c.push.ensures
