use Rattle.rv_meant.proofs.Bounds.{strings_are_bytes}
use Rattle.rv_meant.proofs.Classes.{take_equally_many}
use Rattle.rv_meant.proofs.Made.{made, compiled, runs}
use Rattle.rv_meant.proofs.laws.images_run_as_meant.Goals as goal

pub returns-clause-runs : goal.returns-clause-runs
returns-clause-runs c = λ p image is bounded small ok.
    runs p image is bounded (take_equally_many p ok.well_typed) small ok c.opened_programs_have_addresses.ensures
    (λ words compiled region h. c.compiled_programs_run_as_meant.ensures.runs p image region h ok.well_typed words compiled)

pub returns-clause-simulates : goal.returns-clause-simulates
returns-clause-simulates c = λ p image is bounded small typed words start known.
    c.compiled_programs_run_as_meant.ensures.made p image start typed words
    (made p image is bounded (take_equally_many p typed) small) known

pub returns-clause-made : goal.returns-clause-made
returns-clause-made c = made

pub returns-clause-compiled : goal.returns-clause-compiled
returns-clause-compiled c = λ p image is bounded small typed few. compiled p image is bounded (take_equally_many p typed) small typed few

pub returns-clause-equally : goal.returns-clause-equally
returns-clause-equally c = take_equally_many

pub returns-clause-bytes : goal.returns-clause-bytes
returns-clause-bytes c = strings_are_bytes
