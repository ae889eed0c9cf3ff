use Rattle.std.proofs.Common.{◌≡◌, ◌+◌, drop, true, arith, length-drop}
use Rattle.std.proofs.lemmas.Grind.{common_steps}
use Rattle.std.proofs.lemmas.List.{take_rest, drop_more}
use Rattle.al_lex.specs.Scan.{begins_escape}
use Rattle.al_lex.proofs.Steps.{plain_more, escape_more}
use Rattle.al_lex.proofs.string.string_end.Goals as goal

pub loop-at-preserved-then-b-eq92 : goal.loop-at-preserved-then-b-eq92
loop-at-preserved-then-b-eq92 c =
    let ts = c.args.rest.now in
    let value = rw (take_rest ts (c.loop-at.at + 1)) at c.escape_len.ensures.value in
    let begins : begins_escape (drop (c.loop-at.at + 1) ts) ≡ true = rw (← value) (grind (arith, common_steps)) in
    let within = rw (take_rest ts (c.loop-at.at + 1)) at c.escape_len.ensures.within in
    escape_more ts c.loop-at.at c.loop-at-test.true c.if-b-eq92.true begins (omega (arith, within, length-drop (c.loop-at.at + 1) ts)) c.loop-at.invariant

pub loop-at-preserved : goal.loop-at-preserved
loop-at-preserved c = plain_more c.args.rest.now c.loop-at.at _ c.loop-at-test.true (drop_more c.args.rest.now c.loop-at.at 0 c.loop-at-test.true) c.if-b-eq34.false c.if-b-eq10.false c.if-b-eq92.false c.loop-at.invariant
