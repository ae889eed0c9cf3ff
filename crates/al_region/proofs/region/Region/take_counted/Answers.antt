use Rattle.std.proofs.Common.{List, sym, ap, ◌∙◌, arith}
use Rattle.al_event.specs.Store.{Span}
use Rattle.al_run_tree.specs.Tree.{blocks}
use Rattle.al_region.specs.Kept.{tree_at}
use Rattle.al_region.proofs.Sound.{place-gap}
use Rattle.al_region.proofs.Calls.{has_place, is_fresh, took-kept, took-sound, took-blocks}
use Rattle.al_region.proofs.region.Region.take_counted.Goals as goal

pub returns-in_err-at-clause-place : goal.returns-in_err-at-clause-place
returns-in_err-at-clause-place g c = rw (← c.self.view_is) (c.from_residual.ensures ∙ sym (place-gap (record { bytes = c.self.inside.bytes; blocks = blocks (tree_at c.self.inside.nodes c.self.inside.top) }) c.args.bytes c.self.invariant.sound (omega (arith, c.self.invariant.kept.live_is)) ∙ sym (c.first_fit.ensures.place (tree_at c.self.inside.nodes c.self.inside.top) c.self.invariant.kept.is) ∙ c.in_err-at.was))

pub insert-self-inside-requires : goal.insert-self-inside-requires
insert-self-inside-requires g c = has_place c.self.inside.bytes c.self.inside.nodes c.self.inside.top c.self.inside.live c.self.inside.used c.self.inside.free.items c.self.invariant.sound c.self.invariant.kept (omega arith) c.in_ok-at.at c.args.bytes c.args.kind c.requires (sym (c.first_fit.ensures.place (tree_at c.self.inside.nodes c.self.inside.top) c.self.invariant.kept.is) ∙ c.in_ok-at.was) c.fresh-index.result c.fresh-index.new.used c.fresh-index.new.free.items c.fresh-index.ensures.fresh

pub invariant_of-self : goal.invariant_of-self
invariant_of-self g c = record {
  sound = took-sound c.self.inside.bytes c.self.inside.nodes c.self.inside.top c.self.inside.live c.self.inside.used c.self.inside.free.items c.self.invariant.sound c.self.invariant.kept (omega arith) c.in_ok-at.at c.args.bytes c.args.kind c.requires (sym (c.first_fit.ensures.place (tree_at c.self.inside.nodes c.self.inside.top) c.self.invariant.kept.is) ∙ c.in_ok-at.was) c.fresh-index.result c.fresh-index.new.used c.fresh-index.new.free.items c.fresh-index.ensures.fresh c.insert-self-inside.new.nodes c.insert-self-inside.result (c.insert-self-inside.ensures.tree (tree_at c.self.inside.nodes c.self.inside.top) c.self.invariant.kept.is (is_fresh c.self.inside.bytes c.self.inside.nodes c.self.inside.top c.self.inside.live c.self.inside.used c.self.inside.free.items c.self.invariant.sound c.self.invariant.kept (omega arith) c.in_ok-at.at c.args.bytes c.args.kind c.requires (sym (c.first_fit.ensures.place (tree_at c.self.inside.nodes c.self.inside.top) c.self.invariant.kept.is) ∙ c.in_ok-at.was) c.fresh-index.result c.fresh-index.new.used c.fresh-index.new.free.items c.fresh-index.ensures.fresh));
  kept = took-kept c.self.inside.bytes c.self.inside.nodes c.self.inside.top c.self.inside.live c.self.inside.used c.self.inside.free.items c.self.invariant.sound c.self.invariant.kept (omega arith) c.in_ok-at.at c.args.bytes c.args.kind c.requires (sym (c.first_fit.ensures.place (tree_at c.self.inside.nodes c.self.inside.top) c.self.invariant.kept.is) ∙ c.in_ok-at.was) c.fresh-index.result c.fresh-index.new.used c.fresh-index.new.free.items c.fresh-index.ensures.fresh c.insert-self-inside.new.nodes c.insert-self-inside.result (c.insert-self-inside.ensures.tree (tree_at c.self.inside.nodes c.self.inside.top) c.self.invariant.kept.is (is_fresh c.self.inside.bytes c.self.inside.nodes c.self.inside.top c.self.inside.live c.self.inside.used c.self.inside.free.items c.self.invariant.sound c.self.invariant.kept (omega arith) c.in_ok-at.at c.args.bytes c.args.kind c.requires (sym (c.first_fit.ensures.place (tree_at c.self.inside.nodes c.self.inside.top) c.self.invariant.kept.is) ∙ c.in_ok-at.was) c.fresh-index.result c.fresh-index.new.used c.fresh-index.new.free.items c.fresh-index.ensures.fresh));
  room = omega (arith, c.fresh-index.ensures.capacity, c.self.invariant.room);
}

pub returns-clause-place : goal.returns-clause-place
returns-clause-place g c = rw (← c.self.view_is) (sym (place-gap (record { bytes = c.self.inside.bytes; blocks = blocks (tree_at c.self.inside.nodes c.self.inside.top) }) c.args.bytes c.self.invariant.sound (omega (arith, c.self.invariant.kept.live_is)) ∙ (sym (c.first_fit.ensures.place (tree_at c.self.inside.nodes c.self.inside.top) c.self.invariant.kept.is) ∙ c.in_ok-at.was)))

pub returns-clause-taken : goal.returns-clause-taken
returns-clause-taken g c = rw (← c.self.view_is) (ap (λ (bs : List Span). record { bytes = c.self.inside.bytes; blocks = bs }) (took-blocks c.self.inside.bytes c.self.inside.nodes c.self.inside.top c.self.inside.live c.self.inside.used c.self.inside.free.items c.self.invariant.sound c.self.invariant.kept (omega arith) c.in_ok-at.at c.args.bytes c.args.kind c.requires (sym (c.first_fit.ensures.place (tree_at c.self.inside.nodes c.self.inside.top) c.self.invariant.kept.is) ∙ c.in_ok-at.was) c.fresh-index.result c.fresh-index.new.used c.fresh-index.new.free.items c.fresh-index.ensures.fresh c.insert-self-inside.new.nodes c.insert-self-inside.result (c.insert-self-inside.ensures.tree (tree_at c.self.inside.nodes c.self.inside.top) c.self.invariant.kept.is (is_fresh c.self.inside.bytes c.self.inside.nodes c.self.inside.top c.self.inside.live c.self.inside.used c.self.inside.free.items c.self.invariant.sound c.self.invariant.kept (omega arith) c.in_ok-at.at c.args.bytes c.args.kind c.requires (sym (c.first_fit.ensures.place (tree_at c.self.inside.nodes c.self.inside.top) c.self.invariant.kept.is) ∙ c.in_ok-at.was) c.fresh-index.result c.fresh-index.new.used c.fresh-index.new.free.items c.fresh-index.ensures.fresh))))

pub returns-clause-sound : goal.returns-clause-sound
returns-clause-sound g c = took-sound c.self.inside.bytes c.self.inside.nodes c.self.inside.top c.self.inside.live c.self.inside.used c.self.inside.free.items c.self.invariant.sound c.self.invariant.kept (omega arith) c.in_ok-at.at c.args.bytes c.args.kind c.requires (sym (c.first_fit.ensures.place (tree_at c.self.inside.nodes c.self.inside.top) c.self.invariant.kept.is) ∙ c.in_ok-at.was) c.fresh-index.result c.fresh-index.new.used c.fresh-index.new.free.items c.fresh-index.ensures.fresh c.insert-self-inside.new.nodes c.insert-self-inside.result (c.insert-self-inside.ensures.tree (tree_at c.self.inside.nodes c.self.inside.top) c.self.invariant.kept.is (is_fresh c.self.inside.bytes c.self.inside.nodes c.self.inside.top c.self.inside.live c.self.inside.used c.self.inside.free.items c.self.invariant.sound c.self.invariant.kept (omega arith) c.in_ok-at.at c.args.bytes c.args.kind c.requires (sym (c.first_fit.ensures.place (tree_at c.self.inside.nodes c.self.inside.top) c.self.invariant.kept.is) ∙ c.in_ok-at.was) c.fresh-index.result c.fresh-index.new.used c.fresh-index.new.free.items c.fresh-index.ensures.fresh))
