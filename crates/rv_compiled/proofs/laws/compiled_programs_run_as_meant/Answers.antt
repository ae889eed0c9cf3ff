use Rattle.rv_compiled.proofs.Compiling.{made_alike, operations_alike, runs_alike, texts_alike}
use Rattle.rv_compiled.proofs.laws.compiled_programs_run_as_meant.Goals as goal

pub returns-clause-alike : goal.returns-clause-alike
returns-clause-alike c = λ p image l start typed words laid known.
    texts_alike p (c.lowering_keeps_the_meaning.ensures.lowered p typed words) image l laid start known

pub returns-clause-runs : goal.returns-clause-runs
returns-clause-runs c = λ p image region h typed words is.
    runs_alike p (c.lowering_keeps_the_meaning.ensures.lowered p typed words) image is (c.lowering_keeps_the_meaning.ensures.main p typed) region h

pub returns-clause-operations : goal.returns-clause-operations
returns-clause-operations c = λ p image l start low laid known. operations_alike p low image l laid start known

pub returns-clause-made : goal.returns-clause-made
returns-clause-made c = λ p image start typed words made known.
    made_alike p (c.lowering_keeps_the_meaning.ensures.lowered p typed words) image made start known
