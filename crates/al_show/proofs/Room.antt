-- No run of a program whose types are sound needs a number that has no room in a word.
use Rattle.std.proofs.Common.{◌≡◌, ℕ, ◌≤◌, ◌<◌, List, length, take, Some, arith, inl, inr}
use Rattle.std.specs.Prelude.{◌^◌, slice_get}
use Rattle.std.proofs.lemmas.List.{length-take-le}
use Rattle.std.proofs.lemmas.Option.{slice_get_within}
use Rattle.al_event.specs.declared.act.Act.{Act}
use Rattle.al_event.specs.declared.entry.Entry.{Entry}
use Rattle.al_world.specs.World.{TaskName, World}
use Rattle.al_typed.specs.declared.program.Program.{Program}
use Rattle.al_meaning.specs.Places.{opening_blocks}
use Rattle.al_meaning.specs.Meaning.{main_start, run, source}
use Rattle.al_counts.specs.Counts.{most_entries}
use Rattle.al_counts.proofs.Counting.{are_counted, have_room}
use Rattle.al_fits.specs.Laws.{HasFew}
use Rattle.al_fits.proofs.Entries.{entry_fits}
use Rattle.al_fits.proofs.Starting.{starts_fit}
use Rattle.al_region.specs.Region.{IsRegionSize}
use Rattle.al_show.specs.declared.walking.WalkStop.TheVariants as stop
use Rattle.al_show.specs.Room.{HasRoom, NoneIsTooLarge}
use Rattle.al_show.specs.Walks.{Stops}

-- a world that so few entries lead to
has_few : (p : Program) (region : ℕ) (h : List Entry) (w : World (source p)) (t : TaskName) (pick : ℕ) → length h ≤ most_entries → run p region h ≡ Some w → HasFew w.shared t pick
has_few p region h w t pick few ran =
    let counted = are_counted (source p) region (opening_blocks p) (main_start p) h w ran in
    let room = have_room (source p) region (opening_blocks p) (main_start p) h w few ran in
    record {
      entries = let count = counted.entries in omega (arith, few, count);
      own_entries = let own = counted.own_entries t.proc in omega (arith, few, own);
      tasks = let tasks = counted.tasks t.proc in omega (arith, few, tasks);
      procs = let all = counted.procs in let live = counted.live in omega (arith, few, all, live);
      channels = let channels = counted.channels in omega (arith, few, channels);
      more_procs = λ act e is. room.procs_after t act pick e is;
    }

pub none_is_too_large : NoneIsTooLarge
none_is_too_large p region h room most few (inl starts) = starts (starts_fit p room.sound room.within room.short)
none_is_too_large p region h room most few (inr large) =
    let within = slice_get_within h large.number large.entry large.here in
    let before = length-take-le large.number h (omega (arith, within)) in
    let fewer : length (take large.number h) ≤ most_entries = omega (arith, before, within, few) in
    large.large (entry_fits p region (take large.number h) large.world large.entry room.sound room.within most large.ran (λ t turn. has_few p region (take large.number h) large.world t large.entry.pick fewer large.ran))

-- so a walk of it stops for another reason
pub never_stops : (p : Program) (region : ℕ) (h : List Entry) → HasRoom p → IsRegionSize region → length h ≤ most_entries → Stops p region h stop.TooLarge → ⊥
never_stops p region h room size few large = none_is_too_large p region h room (let most = size.most in omega (arith, most)) few large
