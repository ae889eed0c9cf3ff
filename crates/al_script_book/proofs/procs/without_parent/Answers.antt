use Rattle.al_script_book.proofs.Channels.{changes, changes_nothing}
use Rattle.al_script_book.proofs.procs.without_parent.Goals as goal

pub returns-in-None : goal.returns-in-None
returns-in-None c = changes_nothing _ _ _ c.in-None.ensures.value

pub returns-in_ok-state-in-Some : goal.returns-in_ok-state-in-Some
returns-in_ok-state-in-Some c = changes _ _ _ _ _ _ c.in-Some.ensures.value c.in_ok-state-in-Some.ensures c.set_at.ensures
