use Rattle.al_core.proofs.Prepared.{print_ok}
use Rattle.al_core.proofs.machinery.Machinery.print.Goals as goal

pub returns-clause-shown : goal.returns-clause-shown
returns-clause-shown c = λ image. rw (← c.self.view_is) (print_ok image _ c.args.text.now _ c.in_ok-extend_from_slice.ensures.items)
