use Rattle.std.proofs.Common.{sym, ap, subst, arith}
use Rattle.al_run_tree.specs.Tree.{Tree, Leaf, blocks}
use Rattle.al_region.specs.Kept.{IsKept}
use Rattle.al_region.proofs.Kept.{at_is}
use Rattle.al_region.proofs.Calls.{new_kept, new_sound}
use Rattle.al_region.proofs.region.Region.new.Goals as goal

pub invariant_of-result : goal.invariant_of-result
invariant_of-result c = record {
  sound = new_sound c.args.bytes c.in_ok-nodes.nodes (at_is c.in_ok-nodes.nodes 0 Leaf (new_kept c.in_ok-nodes.nodes c.in_ok-free.free.items c.in_ok-nodes.ensures c.in_ok-free.ensures.items).is) c.requires;
  kept = subst (λ w. IsKept c.in_ok-nodes.nodes 0 0 1 c.in_ok-free.free.items w) (sym (at_is c.in_ok-nodes.nodes 0 Leaf (new_kept c.in_ok-nodes.nodes c.in_ok-free.free.items c.in_ok-nodes.ensures c.in_ok-free.ensures.items).is)) (new_kept c.in_ok-nodes.nodes c.in_ok-free.free.items c.in_ok-nodes.ensures c.in_ok-free.ensures.items);
  room = omega (arith, c.in_ok-free.ensures.capacity);
}

pub returns-clause-empty : goal.returns-clause-empty
returns-clause-empty c = ap (λ (w : Tree). record { bytes = c.args.bytes; blocks = blocks w }) (at_is c.in_ok-nodes.nodes 0 Leaf (new_kept c.in_ok-nodes.nodes c.in_ok-free.free.items c.in_ok-nodes.ensures c.in_ok-free.ensures.items).is)

pub returns-clause-sound : goal.returns-clause-sound
returns-clause-sound c = new_sound c.args.bytes c.in_ok-nodes.nodes (at_is c.in_ok-nodes.nodes 0 Leaf (new_kept c.in_ok-nodes.nodes c.in_ok-free.free.items c.in_ok-nodes.ensures c.in_ok-free.ensures.items).is) c.requires
