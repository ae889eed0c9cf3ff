use Rattle.al_counts.proofs.Counting.{are_counted, have_room}
use Rattle.al_counts.proofs.law.counts_have_room.Goals as goal

pub returns-clause-counted : goal.returns-clause-counted
returns-clause-counted g c = are_counted _

pub returns-clause-room : goal.returns-clause-room
returns-clause-room g c = have_room _
