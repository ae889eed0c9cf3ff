use Rattle.al_core.proofs.Branching.{slot_lives}
use Rattle.al_core.proofs.Requiring.{own_alone, parent_blocked}
use Rattle.al_core.proofs.Outcomes.{end_done, end_woke_done, woken_answer}
use Rattle.al_core.proofs.machinery.Machinery.finish_task.Goals as goal

pub end-ended-requires-clause-lives : goal.end-ended-requires-clause-lives
end-ended-requires-clause-lives c = slot_lives (rw (← c.self.view_is) at c.requires.posed)

pub end-ended-requires-clause-first : goal.end-ended-requires-clause-first
end-ended-requires-clause-first c = (rw (← c.self.view_is) at c.requires.posed).first

pub end-ended-requires-clause-here : goal.end-ended-requires-clause-here
end-ended-requires-clause-here c = (rw (← c.self.view_is) at c.requires.posed).home

pub end-ended-requires-clause-alone : goal.end-ended-requires-clause-alone
end-ended-requires-clause-alone c = own_alone (rw (← c.self.view_is) at c.requires.posed)

pub end-ended-requires-clause-parent : goal.end-ended-requires-clause-parent
end-ended-requires-clause-parent c = λ one. parent_blocked (rw (← c.self.view_is) at c.requires.posed) _

pub answer-requires : goal.answer-requires
answer-requires c = woken_answer (rw (← c.self.view_is) at c.requires.posed) _ _ _ c.end-ended.ensures.ended c.end-ended.ensures.tasks c.end-ended.ensures.privates c.in-Some.parent c.in-Some.is

pub returns-in-Some : goal.returns-in-Some
returns-in-Some c = λ image. rw (← c.self.view_is) (λ P. end_woke_done P _ _ _ c.end-ended.ensures.ended c.end-ended.ensures.tasks c.end-ended.ensures.privates c.in-Some.parent c.in-Some.is _ c.answer.ensures)

pub returns-in_default : goal.returns-in_default
returns-in_default c = λ image. rw (← c.self.view_is) (λ P. end_done P _ _ _ c.end-ended.ensures.ended c.end-ended.ensures.tasks c.end-ended.ensures.privates c.in_default.is)
