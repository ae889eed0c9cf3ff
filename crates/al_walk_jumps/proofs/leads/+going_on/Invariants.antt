use Rattle.std.proofs.Common.{◌≡◌, ◌+◌, ◌*◌, List, drop}
use Rattle.al_typed.specs.declared.statement.TStmt.{size-TStmt}
use Rattle.al_meaning.specs.Items.{Item}
use Rattle.al_walk_jumps.specs.Labelled.{going_on_in}
use Rattle.al_walk_jumps.specs.Holds.{any_holds}
use Rattle.al_walk_jumps.proofs.leads.+going_on.Given as goal

abbrev pub invariant-put_going_on_in-loop-k : goal.invariant-put_going_on_in-loop-k
invariant-put_going_on_in-loop-k l = record {
  held : any_holds l.number l.body ≡ any_holds l.number (drop l.k l.body);
  going : (rest : List Item) → going_on_in l.number l.body rest ≡ going_on_in l.number (drop l.k l.body) rest;
  kept : l.items ≡ l.fn.items;
}

abbrev pub decreases-put_going_on : goal.decreases-put_going_on
decreases-put_going_on l = 8 * size-TStmt l.s.now

abbrev pub decreases-put_going_on_in : goal.decreases-put_going_on_in
decreases-put_going_on_in l = 8 * goal.size-put_going_on_in l + 1

abbrev pub decreases-put_going_on_other : goal.decreases-put_going_on_other
decreases-put_going_on_other l = 8 * goal.size-put_going_on_other l + 1

abbrev pub decreases-put_labelled : goal.decreases-put_labelled
decreases-put_labelled l = 8 * size-TStmt l.body.now + 1
