use Rattle.al_opens.proofs.Standing.{first_stands, opens_where_room}
use Rattle.al_opens.proofs.laws.blocks_stand.Goals as goal

pub returns-clause-stand : goal.returns-clause-stand
returns-clause-stand c = λ p region w W e over. first_stands p W region w e over

pub returns-clause-room : goal.returns-clause-room
returns-clause-room c = λ p region w W e. opens_where_room p W region w e
