use Rattle.al_core.proofs.machinery.Machinery.prepare.Goals as goal

pub returns-in-Some-clause-prepared : goal.returns-in-Some-clause-prepared
returns-in-Some-clause-prepared c = rw (c.in-Talk.is, ← c.as_slice.ensures.value) (c.in-Some.ensures.prepared c.args.image.now)
