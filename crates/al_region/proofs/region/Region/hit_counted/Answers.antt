use Rattle.std.proofs.Common.{◌≡◌, ◌+◌, true, false, Bool, leb, Some, None, option_map, if◌then◌else◌, refl, sym, ap, ◌∙◌, arith}
use Rattle.std.specs.Bool.{then_some}
use Rattle.al_event.specs.Store.{Span, region_base}
use Rattle.al_run_tree.specs.Order.{last_to}
use Rattle.al_run_tree.specs.Table.{span_of}
use Rattle.al_region.specs.Kept.{tree_at}
use Rattle.al_region.proofs.Found.{held_by, hit-last, last_low}
use Rattle.al_region.proofs.region.Region.hit_counted.Goals as goal

pub returns-in_err-block-clause-block : goal.returns-in_err-block-clause-block
returns-in_err-block-clause-block g c =
    let none : last_to c.args.at (tree_at c.self.inside.nodes c.self.inside.top) ≡ None = sym (c.last_to.ensures.block (tree_at c.self.inside.nodes c.self.inside.top) c.self.invariant.kept.is) ∙ ap (option_map span_of) c.in_err-block.was in
    rw (← c.self.view_is) (c.from_residual.ensures ∙ sym (ap (option_map (λ (b : Span). b.at)) (hit-last (tree_at c.self.inside.nodes c.self.inside.top) region_base (region_base + c.self.inside.bytes) c.args.at c.args.size c.self.invariant.sound.laid c.requires ∙ ap (held_by c.args.at c.args.size) none)))

pub overflow_add-end : goal.overflow_add-end
overflow_add-end g c =
    let last : last_to c.args.at (tree_at c.self.inside.nodes c.self.inside.top) ≡ Some (span_of c.in_ok-block.block) = sym (c.last_to.ensures.block (tree_at c.self.inside.nodes c.self.inside.top) c.self.invariant.kept.is) ∙ ap (option_map span_of) c.in_ok-block.was in
    omega (arith, last_low c.self.inside.nodes (tree_at c.self.inside.nodes c.self.inside.top) c.args.at (span_of c.in_ok-block.block) c.self.invariant.kept.is.holds last)

at_or_none : (t : Bool) (b : Span) → then_some t b.at ≡ option_map (λ (b : Span). b.at) (if t then Some b else None)
at_or_none true b = refl
at_or_none false b = refl

pub returns-clause-block : goal.returns-clause-block
returns-clause-block g c =
    let last : last_to c.args.at (tree_at c.self.inside.nodes c.self.inside.top) ≡ Some (span_of c.in_ok-block.block) = sym (c.last_to.ensures.block (tree_at c.self.inside.nodes c.self.inside.top) c.self.invariant.kept.is) ∙ ap (option_map span_of) c.in_ok-block.was in
    let answer = rw (c.from.ensures, c.from-2.ensures, c.from-3.ensures) at c.then_some.ensures in
    let b = span_of c.in_ok-block.block in
    rw (← c.self.view_is) (answer ∙ at_or_none (leb (c.args.at + c.args.size) (b.at + b.size)) b ∙ sym (ap (option_map (λ (b : Span). b.at)) (hit-last (tree_at c.self.inside.nodes c.self.inside.top) region_base (region_base + c.self.inside.bytes) c.args.at c.args.size c.self.invariant.sound.laid c.requires ∙ ap (held_by c.args.at c.args.size) last)))
