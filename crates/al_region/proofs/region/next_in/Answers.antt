use Rattle.std.proofs.Common.{◌+◌, option_map, sym, ap, ◌∙◌}
use Rattle.al_event.specs.Store.{Span, region_base}
use Rattle.al_run_tree.specs.Tree.{blocks}
use Rattle.al_run_tree.specs.Table.{span_of}
use Rattle.al_region.specs.Kept.{tree_at}
use Rattle.al_region.proofs.Found.{laid-rises, next-first}
use Rattle.al_event.specs.declared.act.Block.{Block}
use Rattle.std.proofs.Common.{ℕ}
use Rattle.al_region.proofs.region.next_in.Goals as goal

abbrev told : Span → ℕ × ℕ × Block
told b = (b.at, b.size, b.kind)

pub returns-in_err-block : goal.returns-in_err-block
returns-in_err-block g c = rw (← c.region.view_is) (c.from_residual.ensures ∙ sym (ap (option_map told) (next-first (tree_at c.region.inside.nodes c.region.inside.top) region_base (region_base + c.region.inside.bytes) c.args.from (laid-rises (blocks (tree_at c.region.inside.nodes c.region.inside.top)) region_base (region_base + c.region.inside.bytes) c.region.invariant.sound.laid) ∙ sym (c.first_from.ensures.block (tree_at c.region.inside.nodes c.region.inside.top) c.region.invariant.kept.is) ∙ ap (option_map span_of) c.in_err-block.was)))

pub returns : goal.returns
returns g c = rw (← c.region.view_is) (sym (ap (option_map told) (next-first (tree_at c.region.inside.nodes c.region.inside.top) region_base (region_base + c.region.inside.bytes) c.args.from (laid-rises (blocks (tree_at c.region.inside.nodes c.region.inside.top)) region_base (region_base + c.region.inside.bytes) c.region.invariant.sound.laid) ∙ sym (c.first_from.ensures.block (tree_at c.region.inside.nodes c.region.inside.top) c.region.invariant.kept.is) ∙ ap (option_map span_of) c.in_ok-block.was)))
