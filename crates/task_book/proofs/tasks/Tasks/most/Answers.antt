use Rattle.std.proofs.Common.{arith}
use Rattle.std.proofs.lemmas.List.{length-map}
use Rattle.task_book.specs.Kept.{task_of}
use Rattle.task_book.proofs.Sound.{is_sound}
use Rattle.task_book.proofs.tasks.Tasks.most.Goals as goal

pub returns-clause-sound : goal.returns-clause-sound
returns-clause-sound c =
    let s = c.self.inside in
    rw (← c.self.view_is) (is_sound s.links.items s.procs.items s.tasks.items s.free.items s.made s.ready c.self.invariant.kept)

pub returns-clause-most : goal.returns-clause-most
returns-clause-most c =
    let s = c.self.inside in
    rw (← c.self.view_is) (omega (arith, s.tasks.ok.0, length-map s.tasks.items task_of))
