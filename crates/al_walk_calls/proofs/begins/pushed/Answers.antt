use Rattle.std.proofs.Common.{◌∙◌, ap, map}
use Rattle.std.proofs.lemmas.List.{map-append}
use Rattle.al_control.specs.Models.{item_of}
use Rattle.al_walk_calls.proofs.begins.pushed.Goals as goal

pub returns : goal.returns
returns c = ap (map item_of) c.in_ok-push.ensures.ok ∙ map-append item_of _ _
