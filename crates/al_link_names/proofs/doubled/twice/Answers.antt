use Rattle.std.proofs.Common.{rules, ◌∙◌, arith}
use Rattle.al_link_names.proofs.Alike.{twice_step, twice_here}
use Rattle.al_link_names.specs.Twice.{first_twice}
use Rattle.al_link_names.proofs.doubled.twice.Goals as goal

pub returns-in-Some : goal.returns-in-Some
returns-in-Some c =
    twice_here c.args.files.now c.loop-file.file-index c.file-item.result c.as_slice.result.now c.loop-file.earlier c.loop-file.number c.in-Some.place
    (first_twice c.args.files.now) c.loop-file-test.true c.file-item.is (c.as_slice.ensures.value ∙ c.in_ok-list.ensures) (search rules) c.loop-file.invariant.0

pub loop-file-preserved : goal.loop-file-preserved
loop-file-preserved c =
    let count = c.loop-file.invariant.1 in (
      twice_step c.args.files.now c.loop-file.file-index c.file-item.result c.as_slice.result.now c.as_slice-in-loop-file.result.now c.loop-file.earlier
          c.add_all.new.names c.loop-file.number (first_twice c.args.files.now) c.loop-file-test.true c.file-item.is
          (c.as_slice.ensures.value ∙ c.in_ok-list.ensures) (c.as_slice-in-loop-file.ensures.value ∙ c.in_ok-list.ensures) (search rules) c.in_ok-add_all.ensures
          c.loop-file.invariant.0,
      omega (arith, count),
    )
