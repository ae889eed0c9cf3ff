use Rattle.std.proofs.Common.{take, drop, sym, ◌∙◌, subst, length-take-le}
use Rattle.al_lex.specs.declared.kind.PieceKind.{PieceKind}
use Rattle.al_lex.specs.Position.{IsAt, IsPieceTo}
use Rattle.al_lex.specs.Written.{IsNextToken}
use Rattle.al_lex.proofs.Positions.{at_more}
use Rattle.al_lex.proofs.Gone.{gone_none, gone_more, gone_token, gone_end, no_token_kind}
use Rattle.al_lex.proofs.reading.token_from.Goals as goal

pub loop-here-init : goal.loop-here-init
loop-here-init c =
    let at = at_more _ c.beginning.result (take c.args.at c.args.text.now) c.beginning.ensures in
    let here = subst (IsAt (take c.args.at c.args.text.now)) (sym c.behind_bytes-here.ensures) at in
    gone_none c.args.text.now c.behind_bytes-here.result c.args.at (here.at ∙ length-take-le c.args.at c.args.text.now c.requires.within) c.requires.within here

pub returns-in-Token-clause-token : goal.returns-in-Token-clause-token
returns-in-Token-clause-token c =
    let piece = subst (λ (x : PieceKind). IsPieceTo c.args.text.now c.loop-here.here.at x c.in-Ok.step.1.at) c.in-Token.is c.in-Ok.ensures.next in
    subst (IsNextToken (take c.args.at c.args.text.now) (drop c.args.at c.args.text.now)) (sym c.token_between.ensures)
    (gone_token c.args.text.now c.args.at c.loop-here.here c.in-Token.kind c.in-Ok.step.1.at c.loop-here.invariant piece)

pub loop-here-preserved : goal.loop-here-preserved
loop-here-preserved c =
    gone_more c.args.text.now c.args.at c.loop-here.here c.in-Ok.step.1 c.in-Ok.step.0 c.loop-here.invariant c.in-Ok.ensures.next c.in-Ok.ensures.at (no_token_kind c.in-Ok.step.0 c.in_default.not-Token)

pub returns-clause-token : goal.returns-clause-token
returns-clause-token c =
    subst (IsNextToken (take c.args.at c.args.text.now) (drop c.args.at c.args.text.now)) (sym c.token_between-2.ensures)
    (gone_end c.args.text.now c.args.at c.loop-here.here c.loop-here.invariant c.loop-here-test.false)
