use Rattle.al_core.proofs.talks.answer_talk.Goals as goal

pub returns : goal.returns
returns c = rw c.answer_of-words.ensures at c.answer.ensures
