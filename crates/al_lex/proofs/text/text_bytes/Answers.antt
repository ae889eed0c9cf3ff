use Rattle.std.proofs.Common.{◌+◌, ◌++◌, ◌∙◌, sym, ap, drop}
use Rattle.std.proofs.lemmas.List.{take_rest, drop_more}
use Rattle.al_lex.specs.Values.{text_from}
use Rattle.al_lex.proofs.Texts.{at_end, at_quote, at_plain, at_escape, string_value}
use Rattle.al_lex.proofs.text.text_bytes.Goals as goal

pub returns-then-b-eq34-clause-value : goal.returns-then-b-eq34-clause-value
returns-then-b-eq34-clause-value c vs s =
    let ts = c.args.bytes.now in
    at_quote ts c.loop-at.at _ c.loop-at.found.items (drop_more ts c.loop-at.at 0 c.loop-at-test.true) c.if-b-eq34.true c.loop-at.invariant ∙ string_value ts vs s

pub returns-then-b-eq34-clause-computed : goal.returns-then-b-eq34-clause-computed
returns-then-b-eq34-clause-computed c =
    let ts = c.args.bytes.now in
    at_quote ts c.loop-at.at _ c.loop-at.found.items (drop_more ts c.loop-at.at 0 c.loop-at-test.true) c.if-b-eq34.true c.loop-at.invariant

pub loop-at-preserved-then-b-eq92 : goal.loop-at-preserved-then-b-eq92
loop-at-preserved-then-b-eq92 c =
    let ts = c.args.bytes.now in
    let rest = take_rest ts (c.loop-at.at + 1) in
    let len = rw rest at c.escape_len-n.ensures.value in
    let value = rw rest at c.escape_byte.ensures in
    at_escape ts c.loop-at.at _ _ _ c.loop-at.found.items (drop_more ts c.loop-at.at 0 c.loop-at-test.true) c.if-b-eq92.true len value c.loop-at.invariant
    ∙ ap (λ l. l ++ text_from 0 (drop (c.loop-at.at + 1 + c.escape_len-n.result) ts)) (sym c.in_ok-push.ensures.items)

pub loop-at-preserved : goal.loop-at-preserved
loop-at-preserved c =
    let ts = c.args.bytes.now in
    at_plain ts c.loop-at.at _ c.loop-at.found.items (drop_more ts c.loop-at.at 0 c.loop-at-test.true) c.if-b-eq34.false c.if-b-eq92.false c.loop-at.invariant
    ∙ ap (λ l. l ++ text_from 0 (drop (c.loop-at.at + 1) ts)) (sym c.in_ok-push-2.ensures.items)

pub returns-clause-value : goal.returns-clause-value
returns-clause-value c vs s = at_end c.args.bytes.now c.loop-at.at c.loop-at.found.items c.loop-at-test.false c.loop-at.invariant ∙ string_value c.args.bytes.now vs s

pub returns-clause-computed : goal.returns-clause-computed
returns-clause-computed c = at_end c.args.bytes.now c.loop-at.at c.loop-at.found.items c.loop-at-test.false c.loop-at.invariant
