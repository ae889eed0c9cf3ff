use Rattle.std.proofs.Common.{◌≡◌, ◌≢◌, true, Err, subst, ◌+◌, ◌-◌, ◌++◌, ◌∷◌, [], ◌<◌, take, sym, ap, ◌∙◌, arith}
use Rattle.std.proofs.lemmas.Grind.{common_steps}
use Rattle.al_tree.specs.declared.cursor.ParseError.TheVariants.{NoMemory}
use Rattle.al_tree.specs.Reading.{take_if}
use Rattle.al_parse_stmt.proofs.FirstTokens.{one_first, stuck_first, deep_first}
use Rattle.al_parse_stmt.proofs.fault.first_tokens.Goals as goal

pub loop-turn-preserved : goal.loop-turn-preserved
loop-turn-preserved c =
    let less : c.loop-turn._turn < c.args.count = first_of (omega (arith, c.loop-turn-test.true), grind (arith, common_steps)) in
    let q = one_first c.args.count c.loop-turn._turn c.args.tokens.now c.loop-turn.all c.loop-turn.rest c.in-Ok.t c.take_if.new.self c.loop-turn.invariant c.in-Ok.ensures.reads less in
    let pushed : c.push.new.self ≡ c.loop-turn.all ++ c.in-Ok.t ∷ [] = c.in_ok-push-in-Ok.ensures.ok in
    q ∙ ap (λ l. l ++ take (c.args.count - (c.loop-turn._turn + 1)) c.take_if.new.self) (sym pushed)

pub returns-in-Err-Stuck : goal.returns-in-Err-Stuck
returns-in-Err-Stuck c = stuck_first c.args.count c.loop-turn._turn c.in-Err-Stuck.field-0-0 c.args.tokens.now c.loop-turn.all c.loop-turn.rest c.loop-turn.invariant (subst (λ e. e ≢ NoMemory → take_if true c.loop-turn.rest ≡ Err e) c.in-Err-Stuck.field-0-is c.in-Err-Stuck.ensures.reads)

pub returns-in-Err-Deep : goal.returns-in-Err-Deep
returns-in-Err-Deep c = deep_first c.args.count c.loop-turn._turn c.in-Err-Deep.field-0-0 c.args.tokens.now c.loop-turn.all c.loop-turn.rest c.loop-turn.invariant (subst (λ e. e ≢ NoMemory → take_if true c.loop-turn.rest ≡ Err e) c.in-Err-Deep.field-0-is c.in-Err-Deep.ensures.reads)
