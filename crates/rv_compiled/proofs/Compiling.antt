-- From programs over operations to the machine.
use Rattle.std.proofs.Common.{◌≡◌, ℕ, ◌<◌, List, length, Option, sym, ◌∙◌, option_map, subst}
use Rattle.std.proofs.lemmas.Option.{slice_get_within}
use Rattle.al_event.specs.declared.act.Start.{Start}
use Rattle.al_event.specs.declared.entry.Entry.{Entry}
use Rattle.al_world.specs.Alike.{SimulatesFrom}
use Rattle.al_world.specs.World.{Shared, World}
use Rattle.al_world.specs.Step.{run_from}
use Rattle.al_typed.specs.declared.program.Program.{Program}
use Rattle.al_meaning.specs.Meaning.{main_start, source}
use Rattle.al_meaning.specs.Places.{opening_blocks}
use Rattle.al_ir.specs.Meaning.{tasks}
use Rattle.al_lowered.specs.Lowered.{Lowered}
use Rattle.al_lowered.specs.Rules.{IsKnownStart, IsPrivate}
use Rattle.al_lowered.proofs.Chain as text
use Rattle.al_lower_code.specs.Functions.{lowered}
use Rattle.al_lower_programs.proofs.Rows.{row_is}
use Rattle.al_lowering.specs.Runs.{meant}
use Rattle.al_core.specs.Opening.{globals_of}
use Rattle.rv_isa.specs.declared.image.Contents.{Contents}
use Rattle.rv_exec.specs.Machine.{machine}
use Rattle.rv_form.specs.Layout.{Layout}
use Rattle.rv_match.specs.Laws.{Followed}
use Rattle.rv_match.proofs.Simulating as harts
use Rattle.rv_alike.specs.LaidOut.{IsLaidOut}
use Rattle.rv_alike.proofs.Joining.{followed}
use Rattle.rv_laid.proofs.Laying.{ended}
use Rattle.rv_laid.proofs.Whole.{is_laid_out}
use Rattle.rv_compiled.specs.Compiled.{IsCompiledTo, IsMadeOf, seen_of_image}
use Rattle.rv_compiled.proofs.Words.{start_words}
use Rattle.rv_compiled.proofs.Sensible.{Good, sensible}

module _ (p : Program) (low : Lowered p (lowered p)) where
  has_code : (start : Start) → IsKnownStart p start → start.code < length (lowered p).functions
  has_code start known = slice_get_within (lowered p).functions start.code _ (row_is p start.code known.function known.at)

  module _ (image : Contents) (l : Layout) (laid : IsLaidOut (lowered p) image l) where
    all_followed : Followed (lowered p) image (IsKnownStart p)
    all_followed = followed (lowered p) image l laid (IsKnownStart p) (Good p (lowered p)) (IsPrivate p) (sensible p (lowered p) low) has_code (start_words p)

    pub operations_alike : (start : Start) → IsKnownStart p start → SimulatesFrom (tasks (lowered p)) (machine image) start
    operations_alike start known = harts.simulates (lowered p) image (IsKnownStart p) all_followed start known

    pub texts_alike : (start : Start) → IsKnownStart p start → SimulatesFrom (source p) (machine image) start
    texts_alike start known region globals h =
        text.simulates p (lowered p) low start known region globals h ∙ operations_alike start known region globals h

  -- an image that is made so is laid out
  pub made_alike : (image : Contents) → IsMadeOf p image → (start : Start) → IsKnownStart p start → SimulatesFrom (source p) (machine image) start
  made_alike image made start known =
      texts_alike image (ended made.homes (lowered p)) (is_laid_out made.homes (lowered p) image made.defined made.bounded made.small made.apart made.equally) start known

  -- what all can see of a run of the image is what they see of the program's
  pub runs_alike : (image : Contents) → IsCompiledTo p image → IsKnownStart p (main_start p) → (region : ℕ) (h : List Entry) → meant p region h ≡ seen_of_image image region h
  runs_alike image is known region h =
      subst (λ (start : Start). meant p region h ≡ seen_from (globals_of image) start) (sym is.main)
      (subst (λ (globals : List (List ℕ)). meant p region h ≡ seen_from globals (main_start p)) (sym is.globals)
      (texts_alike image is.layout is.laid_out (main_start p) known region (opening_blocks p) h)) where
        seen_from : List (List ℕ) → Start → Option Shared
        seen_from globals start = option_map (λ (w : World (machine image)). w.shared) (run_from (machine image) region globals start h)
