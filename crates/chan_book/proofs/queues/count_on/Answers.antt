use Rattle.std.proofs.Common.{◌≡◌, ◌≢◌, ◌⊎◌, ◌+◌, ◌<◌, length, true, Option, List, subst, sym, ap, ◌∙◌, arith}
use Rattle.al_event.specs.declared.act.Branch.{Branch}
use Rattle.chan_book.specs.Links.{has, next_in}
use Rattle.chan_book.specs.Book.{branches_in, branches_at, is_on, count_on}
use Rattle.chan_book.proofs.Paths.{below_within}
use Rattle.chan_book.proofs.Kept.{get_or_read}
use Rattle.chan_book.proofs.Along.{from, next_place}
use Rattle.chan_book.proofs.Tasks.{from_here, counted, count_few, count_most, place_in}
use Rattle.chan_book.proofs.queues.count_on.Goals as goal
use Rattle.chan_book.proofs.queues.count_on.Goals.{then-is_on, else-is_on}

pub offset_bounds-talks-task : goal.offset_bounds-talks-task
offset_bounds-talks-task c =
    let h = c.loop-task.invariant in
    let r = c.args.order.now in
    let off : c.loop-task.task ≢ r.root = λ e. c.loop-task-test.true (e ∙ sym h.root) in
    let lt = below_within c.loop-task.task (length c.args.talks.now) r.items c.requires.within (place_in r c.loop-task.task h.place off) in
    omega (arith, lt, c.requires.small)

pub bounds-talks-task : goal.bounds-talks-task
bounds-talks-task c =
    let h = c.loop-task.invariant in
    let r = c.args.order.now in
    let off : c.loop-task.task ≢ r.root = λ e. c.loop-task-test.true (e ∙ sym h.root) in
    below_within c.loop-task.task (length c.args.talks.now) r.items c.requires.within (place_in r c.loop-task.task h.place off)

-- what was read is the talk of the task
pub overflow_add-count : goal.overflow_add-count
overflow_add-count c =
    let h = c.loop-task.invariant in
    let r = c.args.order.now in
    let talks = c.args.talks.now in
    let t = c.loop-task.task in
    let off : t ≢ r.root = λ e. c.loop-task-test.true (e ∙ sym h.root) in
    let lt = below_within t (length talks) r.items c.requires.within (place_in r t h.place off) in
    let on : is_on c.args.chan (branches_at talks t) ≡ true = ap (λ (x : Option (List Branch)). is_on c.args.chan (branches_in x)) (sym (get_or_read talks t c.index-talks-task.result lt c.index-talks-task.is)) ∙ sym c.is_on.ensures ∙ c.if-is_on.true in
    let more = (counted c.args.chan talks r t c.loop-task.count (count_on c.args.chan talks r.items) c.requires.ring off h.whole).0 on in
    omega (arith, more, count_few c.args.chan talks r c.requires.ring, h.bound)

pub loop-task-smaller : goal.loop-task-smaller
loop-task-smaller c =
    let h = c.loop-task.invariant in
    let r = c.args.order.now in
    let off : c.loop-task.task ≢ r.root = λ e. c.loop-task-test.true (e ∙ sym h.root) in
    let next : c.next-task-in-loop-task.result ≡ next_in r c.loop-task.task = c.next-task-in-loop-task.ensures in
    let less : length (from r (next_in r c.loop-task.task)) + 1 ≡ length (from r c.loop-task.task) = (let e = ap length (from_here r c.loop-task.task c.requires.ring off) in omega (arith, e)) in
    let same : length (from r c.next-task-in-loop-task.result) ≡ length (from r (next_in r c.loop-task.task)) = ap (λ x. length (from r x)) next in
    let goes : length (from r c.next-task-in-loop-task.result) < length (from r c.loop-task.task) = omega (arith, less, same) in
    goes

pub loop-task-preserved : goal.loop-task-preserved
loop-task-preserved c =
    let h = c.loop-task.invariant in
    let r = c.args.order.now in
    let talks = c.args.talks.now in
    let t = c.loop-task.task in
    let off : t ≢ r.root = λ e. c.loop-task-test.true (e ∙ sym h.root) in
    let lt = below_within t (length talks) r.items c.requires.within (place_in r t h.place off) in
    let next : c.next-task-in-loop-task.result ≡ next_in r t = c.next-task-in-loop-task.ensures in
    let read : is_on c.args.chan (branches_at talks t) ≡ c.is_on.result = ap (λ (x : Option (List Branch)). is_on c.args.chan (branches_in x)) (sym (get_or_read talks t c.index-talks-task.result lt c.index-talks-task.is)) ∙ sym c.is_on.ensures in
    let more = counted c.args.chan talks r t c.loop-task.count (count_on c.args.chan talks r.items) c.requires.ring off h.whole in
    record {
      root = h.root;
      place = subst (λ x. (x ≡ r.root) ⊎ (has x r.items ≡ true)) (sym next) (next_place r t);
      whole = ap (λ x. c.if-is_on.count + count_on c.args.chan talks (from r x)) next ∙ elim c.if-is_on.branch [
        | then-is_on w ↦ ap (λ n. n + count_on c.args.chan talks (from r (next_in r t))) w.count-is ∙ more.0 (read ∙ w.if-is_on.true)
        | else-is_on w ↦ ap (λ n. n + count_on c.args.chan talks (from r (next_in r t))) w.count-is ∙ more.1 (read ∙ w.if-is_on.false)
      ];
      bound = h.bound;
    }

pub returns-clause-few : goal.returns-clause-few
returns-clause-few c = let h = c.loop-task.invariant in omega (arith, h.whole, count_most c.args.chan c.args.talks.now (let r = c.args.order.now in r.items))
