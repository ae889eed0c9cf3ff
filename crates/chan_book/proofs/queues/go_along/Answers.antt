use Rattle.std.proofs.Common.{◌≡◌, ◌+◌, subst, ap, ◌∙◌, arith}
use Rattle.chan_book.specs.Links.{next_in, until}
use Rattle.chan_book.specs.Book.{queue_in}
use Rattle.chan_book.proofs.Along.{from, start_below, start_along, next_place, step_along, come_to, come_to_end}
use Rattle.chan_book.proofs.queues.go_along.Goals as goal

pub overflow_add-root : goal.overflow_add-root
overflow_add-root c = omega (arith, c.root-root.ensures.bound, c.root-root.ensures.value, start_below c.args.queues.now c.args.queue c.requires.ring c.requires.start)

pub loop-count-init : goal.loop-count-init
loop-count-init c =
    let r = c.args.queues.now in
    let first : c.next-node.result ≡ next_in r (r.root + c.args.queue) = subst (λ x. c.next-node.result ≡ next_in r (x + c.args.queue)) c.root-root.ensures.value c.next-node.ensures in
    record {
      place = rw first (next_place r (r.root + c.args.queue));
      rest = ap (λ x. until r.root (from r x)) first ∙ (start_along r c.args.queue c.requires.ring);
      steps = omega arith;
      few = omega arith;
      root = c.root-root.ensures.value;
    }

pub loop-count-preserved : goal.loop-count-preserved
loop-count-preserved c =
    let r = c.args.queues.now in
    let x = c.loop-count.node in
    let h = c.loop-count.invariant in
    let next : c.next-node-in-loop-count.result ≡ next_in r x = c.next-node-in-loop-count.ensures in
    let more = step_along r x c.loop-count.count (queue_in r c.args.queue) c.requires.ring (omega (arith, h.root)) h.rest in
    record {
      place = rw next (next_place r x);
      rest = ap (λ x. until r.root (from r x)) next ∙ more.0;
      steps = omega arith;
      few = more.1;
      root = h.root;
    }

pub returns-else-node-root-clause-count : goal.returns-else-node-root-clause-count
returns-else-node-root-clause-count c =
    let r = c.args.queues.now in
    let h = c.loop-count.invariant in
    omega (arith, h.few, h.steps, come_to_end r c.loop-count.node c.loop-count.count (queue_in r c.args.queue) h.rest (omega (arith, h.root)))

pub returns-else-node-root-clause-node : goal.returns-else-node-root-clause-node
returns-else-node-root-clause-node c = come_to c.args.queues.now c.loop-count.node c.loop-count.count (queue_in c.args.queues.now c.args.queue) (let h = c.loop-count.invariant in h.rest)

pub returns-after-loop-count-clause-node : goal.returns-after-loop-count-clause-node
returns-after-loop-count-clause-node c = come_to c.args.queues.now c.loop-count.node c.loop-count.count (queue_in c.args.queues.now c.args.queue) (let h = c.loop-count.invariant in h.rest)
