-- The run of a task from one answer to its next ask, and the machine as a kind of control for the world.
use Rattle.std.specs.Prelude.{ℕ, zero, suc, ◌+◌, ◌-◌, ◌*◌, ◌/◌, ◌^◌, ◌<◌, nat_le, nat_lt, ◌&&◌, if◌then◌else◌, List, [], length, drop, slice_get, slice_index, Option, Some, None, fold}
use Rattle.al_base.specs.declared.trap.Trap.TheVariants.{Illegal}
use Rattle.al_event.specs.declared.act.Act.{Act}
use Rattle.al_event.specs.declared.act.Act.TheVariants.{Trap as Traps}
use Rattle.al_event.specs.declared.act.Start.{Start}
use Rattle.al_world.specs.Control.{Kind, Asked}
use Rattle.rv_isa.specs.declared.addresses.TheConstants.{CODE_START, STACK_START}
use Rattle.rv_isa.specs.declared.image.Contents.{Contents}
use Rattle.rv_isa.specs.declared.image.Row.{Row}
use Rattle.rv_isa.specs.declared.image.LineRow.{LineRow}
use Rattle.rv_exec.specs.declared.state.Waits.{Waits}
use Rattle.rv_exec.specs.declared.state.Waits.TheVariants.{Done, Unit as UnitWaits, Word, Talk}
use Rattle.rv_exec.specs.Hart.{Hart, first_registers, with_register, moved, register, full_turns}
use Rattle.rv_exec.specs.Words.{extended}
use Rattle.rv_exec.specs.Windows.{put_words}
use Rattle.rv_exec.specs.Calls.{Privates, Goes, Asks}
use Rattle.rv_exec.specs.Step.{step, most_jumps}

-- ---- lines

-- the line of the last row whose word is at or before word number `at`, 0 where there is none
abbrev pub line_at : (at : ℕ) → List LineRow → ℕ
line_at at rows = fold (λ line (row : LineRow). if nat_le row.word at then row.line else line) 0 rows

-- the line of the code word that has the byte at pc, 0 outside the code
abbrev pub line_of : Contents → (pc : ℕ) → ℕ
line_of image pc =
    let at = (pc - CODE_START) / 4 in
    if nat_le CODE_START pc && nat_lt at (length image.code) then line_at at image.lines else 0

-- ---- asking

-- an ask has the work of its stretch, and counting begins anew
abbrev pub asked : Contents → Act → Hart → Privates → Asked Hart Privates
asked image act h p = record {
  act = act;
  line = line_of image h.pc;
  work = h.work;
  control = record h { jumps = 0; work = 0 };
  privates = p;
}

-- at most so many instructions
abbrev pub asked_within : Contents → (most : ℕ) → Hart → Privates → Asked Hart Privates
asked_within image zero h p = asked image (Traps Illegal) h p
asked_within image (suc most) h p = elim (step image h p) [ Goes next q ↦ asked_within image most next q | Asks act waiting q ↦ asked image act waiting q ]

-- no stretch fetches more words: between two counted jumps the pc, which has 32 bits, only grows
abbrev pub longest_stretch : ℕ
longest_stretch = (most_jumps + 1) * 2 ^ 32

-- what a hart asks next, which has fetched `h.work` words of its stretch
abbrev pub ask : Contents → Hart → Privates → Asked Hart Privates
ask image h p = asked_within image (longest_stretch - h.work) h p

-- ---- going on

-- the place for what a branch receives, as its record has it
abbrev pub place_of : Hart → (branch : ℕ) → ℕ
place_of h branch = (h.stack ((register h 10 - STACK_START) / 4 + 4 * branch + 2) - STACK_START) / 4

-- the words of an answer, put where they go
abbrev pub told : Waits → List ℕ → Hart → Hart
told Done words h = h
told (UnitWaits op rd) words h = with_register rd (extended op (slice_index words 0)) h
told Word words h = with_register 10 (slice_index words 0) h
told Talk words h =
    with_register 10 (slice_index words 0) (record h { stack = put_words h.stack (place_of h (slice_index words 0)) (drop 1 words) })

-- the register that waits for a unit is one
abbrev pub FitsWaits : Waits → Type 0
FitsWaits (UnitWaits op rd) = rd < 32
FitsWaits _ = Unit {0}

-- after an answer register 3 has all turns, and the hart goes on at the next word
abbrev pub resumed : Hart → List ℕ → Hart
resumed h words = record (moved (with_register 3 full_turns (told h.waits words h))) { waits = Done }

-- ---- starting

abbrev pub entry_of : Option Row → ℕ
entry_of None = 0
entry_of (Some row) = row.entry

-- a task at the start of its function
abbrev pub started : Contents → (function : ℕ) (words : List ℕ) → Hart
started image function words = record {
  pc = CODE_START + 4 * entry_of (slice_get image.functions function);
  registers = first_registers;
  stack = put_words (λ n. 0) 0 words;
  text = [];
  waits = Done;
  jumps = 0;
  work = 0;
}

abbrev pub machine : Contents → Kind
machine image = record {
  Control = Hart;
  Privates = Privates;
  ask = ask image;
  resume = resumed;
  start = λ (start : Start). started image start.code start.words;
  fresh = λ n. 0;
}
