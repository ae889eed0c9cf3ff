-- A source stays sound by an entry, whatever it comes to.
use Rattle.std.proofs.Common.{sym, subst}
use Rattle.al_event.specs.declared.entry.Entry.{Entry}
use Rattle.al_step.specs.declared.source.Source.{Source}
use Rattle.al_step.specs.declared.entry.Stepped.{Stepped}
use Rattle.al_step.specs.declared.entry.Stepped.TheVariants as stepped
use Rattle.al_step.specs.Sources.{IsSound, IsStepped, source_of}

pub stays_sound : (s : Source) (e : Entry) (r : Stepped) → IsSound s → IsStepped s e r → IsSound (source_of r)
stays_sound s e (stepped.Made t) sound h = h.sound
stays_sound s e (stepped.NotPermitted t) sound h = subst IsSound (sym h.same) sound
stays_sound s e (stepped.Over t) sound h = subst IsSound (sym h.0) sound
