-- From accepted texts to the runs of their programs.
use Rattle.std.proofs.Common.{ℕ, ◌≤◌, ◌^◌, List, length, arith}
use Rattle.al_typed.specs.declared.program.Program.{Program}
use Rattle.al_typed.specs.Measures.{IsWithin}
use Rattle.al_typed.specs.Sound.{HasSoundTypes}
use Rattle.al_weights.proofs.Weights.{few_functions}
use Rattle.al_front.specs.Accepted.{IsAccepted}
use Rattle.al_opens.proofs.Standing.{first_stands, opens_where_room}
use Rattle.al_opened.specs.Opened as opened
use Rattle.al_sound_texts.proofs.Texts.{accepted_is_sound}
use Rattle.al_sound_names.proofs.ProgramsAre.{accepted_are_well_typed}
use Rattle.al_sound_runs.specs.Runs.{AreNeverStuck, BlocksStand, HaveAddresses}

module _ (text : List ℕ) (p : Program) (accepted : IsAccepted text p) where
  sound : HasSoundTypes p
  sound = (accepted_is_sound text p accepted).0

  few : IsWithin p → length p.functions ≤ 2 ^ 28
  few within = let all = few_functions p within sound in omega (arith, all)

pub never_stuck : opened.HaveSense → AreNeverStuck
never_stuck sense text p region h w t c accepted within going goes =
    sense p region h w t c (accepted_are_well_typed text p accepted) (sound text p accepted) (few text p accepted within) going goes

pub have_addresses : opened.HaveAddresses → HaveAddresses
have_addresses words text p region h w accepted within going = words p region h w (sound text p accepted) (few text p accepted within) going

pub blocks_stand : BlocksStand
blocks_stand text p region w accepted is =
    let W = sound text p accepted in
    (λ goes. first_stands p W region w is goes, opens_where_room p W region w is)
