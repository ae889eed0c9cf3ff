use Rattle.std.proofs.Common.{◌≡◌, ◌∙◌, sym, ap, refl, Some, None, length, map}
use Rattle.std.specs.Vec.{with_items}
use Rattle.std.proofs.lemmas.List.{with_items_is}
use Rattle.task_book.specs.Lending.{with_hart}
use Rattle.task_book.specs.Kept.{task_of}
use Rattle.task_book.proofs.Seen.{same_table}
use Rattle.task_book.proofs.Harts.{answered_kept, hart_seen, length-with, seen-with, with-with, hart_home, homes-with}
use Rattle.task_book.proofs.tasks.Tasks.answer.Goals as goal

pub put_hart-requires : goal.put_hart-requires
put_hart-requires c =
    let s = c.self.inside in
    let first = c.take_hart-hart.ensures.tasks ∙ ap (with_hart c.args.task None) c.deref_mut.ensures.value in
    let once : (with_items s.tasks c.take_hart-hart.new.tasks).items ≡ with_hart c.args.task None s.tasks.items = with_items_is s.tasks c.take_hart-hart.new.tasks (ap length first ∙ length-with c.args.task None s.tasks.items ∙ sym s.tasks.ok.0) ∙ first in
    rw (c.deref_mut-2.ensures.value, once, homes-with) (hart_home s.tasks.items c.args.task c.take_hart-hart.result (rw c.deref_mut.ensures.value at c.take_hart-hart.ensures.hart))

pub invariant_of-self : goal.invariant_of-self
invariant_of-self c =
    let s = c.self.inside in
    let k = c.self.invariant.kept in
    let hart = hart_seen s.tasks.items c.args.task ∙ (rw c.deref_mut.ensures.value at c.take_hart-hart.ensures.hart) in
    let first = c.take_hart-hart.ensures.tasks ∙ ap (with_hart c.args.task None) c.deref_mut.ensures.value in
    let once : (with_items s.tasks c.take_hart-hart.new.tasks).items ≡ with_hart c.args.task None s.tasks.items = with_items_is s.tasks c.take_hart-hart.new.tasks (ap length first ∙ length-with c.args.task None s.tasks.items ∙ sym s.tasks.ok.0) ∙ first in
    let after = c.put_hart.ensures ∙ ap (with_hart c.args.task (Some c.resume.result)) (c.deref_mut-2.ensures.value ∙ once) in
    let are : (with_items (with_items s.tasks c.take_hart-hart.new.tasks) c.put_hart.new.tasks).items ≡ with_hart c.args.task (Some c.resume.result) (with_hart c.args.task None s.tasks.items) =
    with_items_is (with_items s.tasks c.take_hart-hart.new.tasks) c.put_hart.new.tasks (ap length after ∙ length-with c.args.task (Some c.resume.result) (with_hart c.args.task None s.tasks.items) ∙ length-with c.args.task None s.tasks.items ∙ sym s.tasks.ok.0) ∙ after in
    let size : length (with_items (with_items s.tasks c.take_hart-hart.new.tasks) c.put_hart.new.tasks).items ≡ length s.tasks.items = ap length are ∙ length-with c.args.task (Some c.resume.result) (with_hart c.args.task None s.tasks.items) ∙ length-with c.args.task None s.tasks.items in
    record {
      kept = rw are (answered_kept s.links.items s.procs.items s.tasks.items s.free.items s.made s.ready k c.args.task c.resume.result);
      procs_room = rw size c.self.invariant.procs_room;
      free_room = rw size c.self.invariant.free_room;
    }

pub returns : goal.returns
returns c =
    let s = c.self.inside in
    let k = c.self.invariant.kept in
    let hart = hart_seen s.tasks.items c.args.task ∙ (rw c.deref_mut.ensures.value at c.take_hart-hart.ensures.hart) in
    let first = c.take_hart-hart.ensures.tasks ∙ ap (with_hart c.args.task None) c.deref_mut.ensures.value in
    let once : (with_items s.tasks c.take_hart-hart.new.tasks).items ≡ with_hart c.args.task None s.tasks.items = with_items_is s.tasks c.take_hart-hart.new.tasks (ap length first ∙ length-with c.args.task None s.tasks.items ∙ sym s.tasks.ok.0) ∙ first in
    let after = c.put_hart.ensures ∙ ap (with_hart c.args.task (Some c.resume.result)) (c.deref_mut-2.ensures.value ∙ once) in
    let are : (with_items (with_items s.tasks c.take_hart-hart.new.tasks) c.put_hart.new.tasks).items ≡ with_hart c.args.task (Some c.resume.result) (with_hart c.args.task None s.tasks.items) =
    with_items_is (with_items s.tasks c.take_hart-hart.new.tasks) c.put_hart.new.tasks (ap length after ∙ length-with c.args.task (Some c.resume.result) (with_hart c.args.task None s.tasks.items) ∙ length-with c.args.task None s.tasks.items ∙ sym s.tasks.ok.0) ∙ after in
    rw (← c.self.view_is) (record {
      hart = c.resume.result;
      resumed = rw hart (ap Some (sym c.resume.ensures));
      table = same_table _ _ _ _ _ _ refl (ap (map task_of) (are ∙ with-with c.args.task (Some c.resume.result) None s.tasks.items) ∙ seen-with c.args.task (Some c.resume.result) s.tasks.items) refl;
    })
