use Rattle.al_core.proofs.Branching.{slot_lives}
use Rattle.al_core.proofs.Requiring.{has_room, few_starts}
use Rattle.al_core.proofs.Parting.{grown_none, grown_all}
use Rattle.al_core.proofs.Outcomes.{par_done}
use Rattle.al_core.proofs.machinery.Machinery.start_par.Goals as goal

pub start_all-requires-clause-few : goal.start_all-requires-clause-few
start_all-requires-clause-few c = few_starts (rw (← c.self.view_is) at c.requires.posed.1.posed) _ c.requires.posed.2

pub start_all-requires-clause-room : goal.start_all-requires-clause-room
start_all-requires-clause-room c = has_room (rw (← c.self.view_is) at c.requires.posed.1.posed) _ (rw (← c.self.view_is) at c.requires.room)

pub start_all-requires-clause-places : goal.start_all-requires-clause-places
start_all-requires-clause-places c = (rw (← c.self.view_is) at c.requires.posed.1.posed).procs_room

pub start_all-requires-clause-lives : goal.start_all-requires-clause-lives
start_all-requires-clause-lives c = slot_lives (rw (← c.self.view_is) at c.requires.posed.1.posed)

pub start_all-requires-clause-first : goal.start_all-requires-clause-first
start_all-requires-clause-first c = (rw (← c.self.view_is) at c.requires.posed.1.posed).first

pub start_all-requires-clause-here : goal.start_all-requires-clause-here
start_all-requires-clause-here c = (rw (← c.self.view_is) at c.requires.posed.1.posed).home

pub block-requires-clause-first : goal.block-requires-clause-first
block-requires-clause-first c =
    let P = rw (← c.self.view_is) at c.requires.posed.1.posed in
    (grown_all c.args.slot c.args.all.items 0 c.self.inside.tasks c.self.inside.tasks c.start_all.new.tasks (grown_none c.args.slot c.self.inside.tasks P.procs_room (slot_lives P) P.first P.home) c.start_all.ensures).1.first

pub block-requires-clause-lives : goal.block-requires-clause-lives
block-requires-clause-lives c =
    let P = rw (← c.self.view_is) at c.requires.posed.1.posed in
    (grown_all c.args.slot c.args.all.items 0 c.self.inside.tasks c.self.inside.tasks c.start_all.new.tasks (grown_none c.args.slot c.self.inside.tasks P.procs_room (slot_lives P) P.first P.home) c.start_all.ensures).1.lives

pub block-requires-clause-here : goal.block-requires-clause-here
block-requires-clause-here c =
    let P = rw (← c.self.view_is) at c.requires.posed.1.posed in
    (grown_all c.args.slot c.args.all.items 0 c.self.inside.tasks c.self.inside.tasks c.start_all.new.tasks (grown_none c.args.slot c.self.inside.tasks P.procs_room (slot_lives P) P.first P.home) c.start_all.ensures).1.away

pub returns : goal.returns
returns c = λ image starts. rw (← c.self.view_is) (λ P are. par_done P c.start_all.new.tasks _ c.args.all.items (rw (← c.self.view_is) at c.requires.room) are c.start_all.ensures c.block.ensures)
