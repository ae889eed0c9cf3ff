use Rattle.rv_isa.proofs.encoder.encode.Goals as goal

pub returns-clause-round : goal.returns-clause-round
returns-clause-round c = c.split.ensures.names.is c.join.result c.join.type_inv c.join.ensures.has

pub returns-clause-only : goal.returns-clause-only
returns-clause-only c word fits e = c.join.ensures.only word fits (c.split.ensures.names.only word fits e)
