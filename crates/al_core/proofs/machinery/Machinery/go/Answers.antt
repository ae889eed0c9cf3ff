use Rattle.std.proofs.Common.{arith}
use Rattle.al_core.proofs.Outcomes.{fired_few, fired_answer, woken_few_too, woken_answer_too, woken_lives, woken_blocked, woken_alone, alone_done, both_done}
use Rattle.al_core.proofs.machinery.Machinery.go.Goals as goal

pub fire-branch-requires-clause-usable : goal.fire-branch-requires-clause-usable
fire-branch-requires-clause-usable c = rw (← c.self.view_is) at c.requires.usable

pub fire-branch-requires-clause-pick : goal.fire-branch-requires-clause-pick
fire-branch-requires-clause-pick c = rw (← c.self.view_is) at c.requires.pick

pub fire-branch-requires-clause-few : goal.fire-branch-requires-clause-few
fire-branch-requires-clause-few c = let m = c.requires.posed.posed.askable.most in omega (arith, m)

pub answer_talk-requires-clause-few : goal.answer_talk-requires-clause-few
answer_talk-requires-clause-few c =
    rw (c.as_slice.ensures.value) (fired_few (rw (← c.self.view_is) at c.requires.posed.posed) c.args.pick c.fire-branch.new.book c.fire-branch.result (rw (← c.self.view_is) at c.requires.usable) (rw (← c.self.view_is) at c.requires.pick) c.fire-branch.ensures.fired)

pub answer_talk-requires-clause-hart : goal.answer_talk-requires-clause-hart
answer_talk-requires-clause-hart c =
    rw (c.as_slice.ensures.value) (fired_answer (rw (← c.self.view_is) at c.requires.posed.posed) c.args.pick c.fire-branch.new.book c.fire-branch.result (rw (← c.self.view_is) at c.requires.usable) (rw (← c.self.view_is) at c.requires.pick) c.fire-branch.ensures.fired)

pub answer_talk-requires-in-Some-clause-few : goal.answer_talk-requires-in-Some-clause-few
answer_talk-requires-in-Some-clause-few c = rw (c.as_slice-in-Some.ensures.value) (woken_few_too (rw (← c.self.view_is) at c.requires.posed.posed) c.args.pick c.fire-branch.new.book c.fire-branch.result (rw (← c.self.view_is) at c.requires.usable) (rw (← c.self.view_is) at c.requires.pick) c.fire-branch.ensures.fired c.answer_talk.new.tasks (rw (c.as_slice.ensures.value) at c.answer_talk.ensures) c.in-Some.woke c.in-Some.is)

pub answer_talk-requires-in-Some-clause-hart : goal.answer_talk-requires-in-Some-clause-hart
answer_talk-requires-in-Some-clause-hart c = rw (c.as_slice-in-Some.ensures.value) (woken_answer_too (rw (← c.self.view_is) at c.requires.posed.posed) c.args.pick c.fire-branch.new.book c.fire-branch.result (rw (← c.self.view_is) at c.requires.usable) (rw (← c.self.view_is) at c.requires.pick) c.fire-branch.ensures.fired c.answer_talk.new.tasks (rw (c.as_slice.ensures.value) at c.answer_talk.ensures) c.in-Some.woke c.in-Some.is)

pub wake-requires-clause-lives : goal.wake-requires-clause-lives
wake-requires-clause-lives c = woken_lives (rw (← c.self.view_is) at c.requires.posed.posed) c.args.pick c.fire-branch.new.book c.fire-branch.result (rw (← c.self.view_is) at c.requires.usable) (rw (← c.self.view_is) at c.requires.pick) c.fire-branch.ensures.fired c.answer_talk.new.tasks (rw (c.as_slice.ensures.value) at c.answer_talk.ensures) c.in-Some.woke c.in-Some.is c.answer_talk-in-Some.new.tasks (rw (c.as_slice-in-Some.ensures.value) at c.answer_talk-in-Some.ensures)

pub wake-requires-clause-blocked : goal.wake-requires-clause-blocked
wake-requires-clause-blocked c = woken_blocked (rw (← c.self.view_is) at c.requires.posed.posed) c.args.pick c.fire-branch.new.book c.fire-branch.result (rw (← c.self.view_is) at c.requires.usable) (rw (← c.self.view_is) at c.requires.pick) c.fire-branch.ensures.fired c.answer_talk.new.tasks (rw (c.as_slice.ensures.value) at c.answer_talk.ensures) c.in-Some.woke c.in-Some.is c.answer_talk-in-Some.new.tasks (rw (c.as_slice-in-Some.ensures.value) at c.answer_talk-in-Some.ensures)

pub wake-requires-clause-alone : goal.wake-requires-clause-alone
wake-requires-clause-alone c = woken_alone (rw (← c.self.view_is) at c.requires.posed.posed) c.args.pick c.fire-branch.new.book c.fire-branch.result (rw (← c.self.view_is) at c.requires.usable) (rw (← c.self.view_is) at c.requires.pick) c.fire-branch.ensures.fired c.answer_talk.new.tasks (rw (c.as_slice.ensures.value) at c.answer_talk.ensures) c.in-Some.woke c.in-Some.is c.answer_talk-in-Some.new.tasks (rw (c.as_slice-in-Some.ensures.value) at c.answer_talk-in-Some.ensures)

pub returns-in-Some : goal.returns-in-Some
returns-in-Some c =
    λ image. rw (← c.self.view_is) (λ P. both_done P c.args.pick c.fire-branch.new.book c.fire-branch.result (rw (← c.self.view_is) at c.requires.usable) (rw (← c.self.view_is) at c.requires.pick) c.fire-branch.ensures.fired c.fire-branch.ensures.room c.answer_talk.new.tasks (rw (c.as_slice.ensures.value) at c.answer_talk.ensures) c.in-Some.woke c.in-Some.is c.answer_talk-in-Some.new.tasks _ (rw (c.as_slice-in-Some.ensures.value) at c.answer_talk-in-Some.ensures) c.wake.ensures)

pub returns : goal.returns
returns c =
    λ image. rw (← c.self.view_is) (λ P. alone_done P c.args.pick c.fire-branch.new.book c.fire-branch.result (rw (← c.self.view_is) at c.requires.usable) (rw (← c.self.view_is) at c.requires.pick) c.fire-branch.ensures.fired c.fire-branch.ensures.room c.answer_talk.new.tasks (rw (c.as_slice.ensures.value) at c.answer_talk.ensures) c.in_default.is)
