-- Where operations are made and where places are, as the code has them.
use Rattle.al_lower_code.specs.Homes as homes
use Rattle.al_lower_code.specs.Moving as moving
use Rattle.al_lower_base.specs.declared.spot.Spot.{Spot}
use Rattle.al_lower_base.specs.declared.place.Where.{Where}
use Rattle.al_lower_base.specs.declared.place.Where.TheVariants.{Stored, Slotted, Kept}

abbrev pub spot_of : Spot → homes.Spot
spot_of s = record { program = s.program.now; function = s.function; line = s.line; turns = s.turns }

abbrev pub where_of : Where → moving.Where
where_of (Stored slot offset) = moving.Stored slot offset
where_of (Slotted home) = moving.Slotted home
where_of (Kept place) = moving.Kept place
