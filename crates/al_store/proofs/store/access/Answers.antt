use Rattle.std.proofs.Common.{◌∙◌, sym}
use Rattle.al_store.proofs.Calls.{hit_above}
use Rattle.al_store.proofs.store.access.Goals as goal

-- an access that lies in a block lies in the region
pub overflow_sub-result : goal.overflow_sub-result
overflow_sub-result c = hit_above c.args.region.now c.args.at c.args.size c.in-Some.field-0 c.requires.sound (sym c.hit.ensures ∙ c.in-Some.is)
