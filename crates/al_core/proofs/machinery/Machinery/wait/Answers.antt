use Rattle.std.proofs.Common.{arith}
use Rattle.al_core.proofs.Branching.{slot_lives}
use Rattle.al_core.proofs.Requiring.{slot_within, not_blocked}
use Rattle.al_core.proofs.Outcomes.{wait_done}
use Rattle.al_core.proofs.machinery.Machinery.wait.Goals as goal

pub block-requires-clause-room : goal.block-requires-clause-room
block-requires-clause-room c = let P = rw (← c.self.view_is) at c.requires.posed.posed in let s = slot_within P in let r = P.book_room in omega (arith, s, r)

pub block-requires-clause-free : goal.block-requires-clause-free
block-requires-clause-free c = not_blocked (rw (← c.self.view_is) at c.requires.posed.posed)

pub block-requires-clause-usable : goal.block-requires-clause-usable
block-requires-clause-usable c = rw (← c.self.view_is) at c.requires.usable

pub block-requires-clause-some : goal.block-requires-clause-some
block-requires-clause-some c = c.requires.posed.posed.askable.some

pub block-requires-clause-few : goal.block-requires-clause-few
block-requires-clause-few c = c.requires.posed.posed.askable.most

pub block-requires-2-clause-first : goal.block-requires-2-clause-first
block-requires-2-clause-first c = (rw (← c.self.view_is) at c.requires.posed.posed).first

pub block-requires-2-clause-lives : goal.block-requires-2-clause-lives
block-requires-2-clause-lives c = slot_lives (rw (← c.self.view_is) at c.requires.posed.posed)

pub block-requires-2-clause-here : goal.block-requires-2-clause-here
block-requires-2-clause-here c = (rw (← c.self.view_is) at c.requires.posed.posed).home

pub returns : goal.returns
returns c = λ image. rw (← c.self.view_is) (λ P. wait_done P _ _ (rw (← c.self.view_is) at c.requires.usable) (rw (← c.self.view_is) at c.requires.none) c.block.ensures c.block-2.ensures)
