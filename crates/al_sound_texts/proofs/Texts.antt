-- The program of a text that is accepted has sound types, and is short.
use Rattle.std.proofs.Common.{ℕ, List}
use Rattle.al_typed.specs.declared.program.Program.{Program}
use Rattle.al_typed.specs.Sound.{HasSoundTypes}
use Rattle.al_poly.specs.Instances.{instances}
use Rattle.al_front.specs.Accepted.{IsAccepted}
use Rattle.al_tree_laws.proofs.UnionsAre.{unions_have_members}
use Rattle.al_sound_programs.proofs.SoundPrograms.{programs_are_sound}
use Rattle.al_short_programs.proofs.ProgramsAre.{programs_are_short}
use Rattle.al_sound_texts.specs.Texts.{AcceptedAreSound}

has_sound_types : (text : List ℕ) (p : Program) → IsAccepted text p → HasSoundTypes p
has_sound_types text p a =
    programs_are_sound.sound a.tree (instances a.tree.items) p
    (unions_have_members.tree _ a.tree a.read.is.height a.read.is.is) a.typed.good

pub accepted_is_sound : AcceptedAreSound
accepted_is_sound text p a = (has_sound_types text p a, programs_are_short.accepted text p a)
