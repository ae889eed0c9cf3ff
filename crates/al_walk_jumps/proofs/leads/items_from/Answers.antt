use Rattle.std.proofs.Common.{◌∙◌, [], List, Option, ap, map, sym}
use Rattle.std.specs.Prelude.{unwrap_or}
use Rattle.al_meaning.specs.Items as item
use Rattle.al_meaning.specs.Parts.{going_on}
use Rattle.al_control.specs.declared.control.Item.{Item}
use Rattle.al_control.specs.Models.{item_of}
use Rattle.al_walk_jumps.proofs.GoingOn.{nothing_goes}
use Rattle.al_walk_jumps.proofs.leads.items_from.Goals as goal

pub returns-in_ok-put_going_on : goal.returns-in_ok-put_going_on
returns-in_ok-put_going_on c =
    sym (ap (λ (o : Option (List item.Item)). unwrap_or o [])
    (ap (λ (l : List Item). going_on c.args.number c.args.body.now (map item_of l)) (sym c.new-items.ensures)
    ∙ c.in_ok-put_going_on.ensures (sym c.holds.ensures ∙ c.if-holds.true)))

pub returns-else-holds : goal.returns-else-holds
returns-else-holds c = ap (map item_of) c.new-items.ensures ∙ nothing_goes c.args.number c.args.body.now (sym c.holds.ensures ∙ c.if-holds.false)
