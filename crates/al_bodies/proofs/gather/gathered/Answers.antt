use Rattle.std.proofs.Common.{reverse, get_or, None, ◌∙◌, rules}
use Rattle.al_rules.proofs.Permits.{permits-then}
use Rattle.al_declare.specs.declared.function.Defined.{Defined}
use Rattle.al_bodies.specs.Gathering.{next}
use Rattle.al_bodies.proofs.Gathering.{gathered-next, gathered-more}
use Rattle.al_bodies.proofs.gather.gathered.Goals as goal

abbrev past : Defined
past = record { item = 0; instance = None }

pub returns-in_err-found : goal.returns-in_err-found
returns-in_err-found c =
    rw
    (c.loop-k.invariant
    ∙ gathered-next c.args.env.now c.args.tree.now.names c.args.tree.now.items c.args.texts c.args.defined.now (reverse c.loop-k.rest) c.loop-k.k past c.take_last-branches.result
    c.loop-k.found c.loop-k-test.true c.take_last-branches.ensures.taken
    )
    (search (rules, permits-then))

pub loop-k-preserved : goal.loop-k-preserved
loop-k-preserved c =
    c.loop-k.invariant
    ∙ gathered-next c.args.env.now c.args.tree.now.names c.args.tree.now.items c.args.texts c.args.defined.now (reverse c.loop-k.rest) c.loop-k.k past c.take_last-branches.result
    c.loop-k.found c.loop-k-test.true c.take_last-branches.ensures.taken
    ∙ gathered-more c.args.env.now c.args.tree.now.names c.args.tree.now.items c.args.texts c.args.defined.now (reverse c.loop-k.rest) (reverse c.take_last-branches.new.rest) c.loop-k.k
    (next c.args.env.now c.args.tree.now.names c.args.tree.now.items c.args.texts c.loop-k.k (get_or c.args.defined.now c.loop-k.k past) c.take_last-branches.result c.loop-k.found)
    c.in_ok-found.found c.in_ok-found.ensures c.take_last-branches.ensures.left
