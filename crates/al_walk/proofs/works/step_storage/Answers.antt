use Rattle.al_control.specs.Models.{here_of, storage_of}
use Rattle.al_walk_places.specs.Fits.{StorageFits}
use Rattle.al_walk.specs.Works.{WorkFits}
use Rattle.al_walk.proofs.Needs.{storage_fits}
use Rattle.al_walk.proofs.Whys.{explains}
use Rattle.al_walk.proofs.works.step_storage.Goals as goal

pub returns-clause-why : goal.returns-clause-why
returns-clause-why c =
    explains c.store.result (StorageFits c.args.h.program.now c.args.storage) (WorkFits (here_of c.args.h) (storage_of c.args.storage)) (storage_fits (here_of c.args.h) c.args.storage) c.store.ensures.why
