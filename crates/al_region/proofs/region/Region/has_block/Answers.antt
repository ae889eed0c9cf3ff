use Rattle.std.proofs.Common.{◌≡◌, ◌+◌, Some, None, option_map, refl, sym, ap, ◌∙◌, arith}
use Rattle.std.specs.List.{list_any}
use Rattle.std.proofs.lemmas.Bool.Decides.{nat_tests}
use Rattle.al_event.specs.Store.{region_base, begins_at, same_kind}
use Rattle.al_run_tree.specs.Tree.{blocks}
use Rattle.al_run_tree.specs.Order.{found}
use Rattle.al_run_tree.specs.Table.{span_of}
use Rattle.al_region.specs.Kept.{tree_at}
use Rattle.al_region.proofs.Found.{laid-rises, kind_is, begins-found}
use Rattle.al_region.proofs.Kept.{low}
use denote.Enum.Bare.{sameb}
use Rattle.al_event.specs.declared.act.Block.{Block}
use Rattle.al_event.specs.declared.act.Block.TheVariants.{Heap, Frame, Global}
use Rattle.al_event.specs.contracts.act.Block.{the_type}
use Rattle.al_region.proofs.region.Region.has_block.Goals as goal

-- the derived test of two kinds
kinds : (a b : Block) → sameb the_type a b ≡ same_kind b a
kinds Heap Heap = refl
kinds Heap Frame = refl
kinds Heap Global = refl
kinds Frame Heap = refl
kinds Frame Frame = refl
kinds Frame Global = refl
kinds Global Heap = refl
kinds Global Frame = refl
kinds Global Global = refl

pub returns-in-Some-clause-there : goal.returns-in-Some-clause-there
returns-in-Some-clause-there g c =
    let is : found c.args.at (tree_at c.self.inside.nodes c.self.inside.top) ≡ Some (span_of c.in-Some.block) = sym (c.find.ensures.block (tree_at c.self.inside.nodes c.self.inside.top) c.self.invariant.kept.is) ∙ ap (option_map span_of) c.in-Some.is in
    let told : list_any (begins_at c.args.at c.args.kind) (blocks (tree_at c.self.inside.nodes c.self.inside.top)) ≡ same_kind c.args.kind c.in-Some.block.kind = begins-found (tree_at c.self.inside.nodes c.self.inside.top) region_base (region_base + c.self.inside.bytes) c.args.at c.args.kind (laid-rises (blocks (tree_at c.self.inside.nodes c.self.inside.top)) region_base (region_base + c.self.inside.bytes) c.self.invariant.sound.laid) ∙ ap (kind_is c.args.kind) is in
    rw (← c.self.view_is) (grind (arith, nat_tests, told, kinds c.in-Some.block.kind c.args.kind))

pub returns-in-None-clause-there : goal.returns-in-None-clause-there
returns-in-None-clause-there g c =
    let is : found c.args.at (tree_at c.self.inside.nodes c.self.inside.top) ≡ None = sym (c.find.ensures.block (tree_at c.self.inside.nodes c.self.inside.top) c.self.invariant.kept.is) ∙ ap (option_map span_of) c.in-None.is in
    rw (← c.self.view_is) (sym (begins-found (tree_at c.self.inside.nodes c.self.inside.top) region_base (region_base + c.self.inside.bytes) c.args.at c.args.kind (laid-rises (blocks (tree_at c.self.inside.nodes c.self.inside.top)) region_base (region_base + c.self.inside.bytes) c.self.invariant.sound.laid) ∙ ap (kind_is c.args.kind) is))

pub returns-in-Some-clause-cost : goal.returns-in-Some-clause-cost
returns-in-Some-clause-cost g c =
    let cost = c.find.ensures.cost (tree_at c.self.inside.nodes c.self.inside.top) c.self.invariant.kept.is in
    omega (arith, cost, low c.self.inside.nodes c.self.inside.top c.self.inside.live c.self.inside.used c.self.inside.free.items (tree_at c.self.inside.nodes c.self.inside.top) c.self.invariant.kept (omega (arith, c.self.invariant.kept.live_is, c.self.invariant.sound.few)))

pub returns-in-None-clause-cost : goal.returns-in-None-clause-cost
returns-in-None-clause-cost g c =
    let cost = c.find.ensures.cost (tree_at c.self.inside.nodes c.self.inside.top) c.self.invariant.kept.is in
    omega (arith, cost, low c.self.inside.nodes c.self.inside.top c.self.inside.live c.self.inside.used c.self.inside.free.items (tree_at c.self.inside.nodes c.self.inside.top) c.self.invariant.kept (omega (arith, c.self.invariant.kept.live_is, c.self.invariant.sound.few)))
