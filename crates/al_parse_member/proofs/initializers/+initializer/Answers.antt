use Rattle.std.proofs.Common.{◌∙◌, sym, rules, arith}
use Rattle.std.proofs.lemmas.Grind.{common_steps}
use Rattle.al_tree.specs.Leaves.{leaves_of}
use Rattle.al_parse_member.proofs.InitializerIs.{value_is, braces_is}
use Rattle.al_parse_member.proofs.initializers.+initializer.Goals as goal

pub returns-in_err-value-clause-reads : goal.returns-in_err-value-clause-reads
returns-in_err-value-clause-reads t c =
    let e = value_is (leaves_of c.args.text.now) c.args.types.now c.args.turns c.args.depth c.args.tokens.now (sym c.next_is.ensures ∙ c.if-not-next_is.true) in
    first_of (search rules, grind (arith, common_steps))

pub returns-then-not-next_is-clause-reads : goal.returns-then-not-next_is-clause-reads
returns-then-not-next_is-clause-reads t c =
    let e = value_is (leaves_of c.args.text.now) c.args.types.now c.args.turns c.args.depth c.args.tokens.now (sym c.next_is.ensures ∙ c.if-not-next_is.true) in
    first_of (search rules, grind (arith, common_steps))

pub returns-in_err-o-clause-reads : goal.returns-in_err-o-clause-reads
returns-in_err-o-clause-reads t c =
    let e = braces_is (leaves_of c.args.text.now) c.args.types.now c.args.turns c.args.depth c.args.tokens.now (sym c.next_is.ensures ∙ c.if-not-next_is.false) in
    first_of (search rules, grind (arith, common_steps))

pub returns-in_err-parts-clause-reads : goal.returns-in_err-parts-clause-reads
returns-in_err-parts-clause-reads t c =
    let e = braces_is (leaves_of c.args.text.now) c.args.types.now c.args.turns c.args.depth c.args.tokens.now (sym c.next_is.ensures ∙ c.if-not-next_is.false) in
    first_of (search rules, grind (arith, common_steps))

pub returns-clause-reads : goal.returns-clause-reads
returns-clause-reads t c =
    let e = braces_is (leaves_of c.args.text.now) c.args.types.now c.args.turns c.args.depth c.args.tokens.now (sym c.next_is.ensures ∙ c.if-not-next_is.false) in
    first_of (search rules, grind (arith, common_steps))
