-- The harts of an image of a program follow it.
use Rattle.std.proofs.Common.{◌≡◌, ℕ, ◌<◌, ◌^◌, List, length, slice_get, Some}
use Rattle.std.specs.List.{AllByRecursion}
use Rattle.std.specs.Prelude.{All}
use Rattle.al_event.specs.declared.act.Start.{Start}
use Rattle.al_ir.specs.Bounds.{IsBounded}
use Rattle.al_ir.specs.Control.{Control, function_at, arguments_of}
use Rattle.al_ir.specs.Meaning.{tasks}
use Rattle.al_ir.specs.declared.ir.Ir.{Ir}
use Rattle.rv_isa.specs.declared.image.Contents.{Contents}
use Rattle.rv_form.specs.Program.{Homes, IsImageOf}
use Rattle.rv_match.specs.Laws.{Followed}
use Rattle.rv_match.specs.Sense.{Sensible}
use Rattle.rv_regs.specs.Homes.{AreHomes}
use Rattle.rv_alike.specs.LaidOut.{class_words}
use Rattle.rv_alike.proofs.Joining.{followed}
use Rattle.rv_laid.proofs.Laying.{ended}
use Rattle.rv_laid.proofs.Whole.{is_laid_out}

-- what the law of simulation asks for
pub image_followed : (homes : Homes) (ir : Ir) (image : Contents) → IsImageOf homes ir image → IsBounded ir → length image.code < 2 ^ 23 → ((f : ℕ) → AreHomes ir f (homes f))
    → ((class : ℕ) (fs : List ℕ) → slice_get ir.classes class ≡ Some fs → All (λ g. arguments_of (function_at ir g) ≡ class_words ir fs) fs)
    → (IsStart : Start → Type 0) (Good : Control → Type 0) (IsPrivate : List ℕ → Type 0) → Sensible (tasks ir) Good IsPrivate IsStart
    → ((s : Start) → IsStart s → s.code < length ir.functions) → ((s : Start) → IsStart s → AllByRecursion (λ w. w < 2 ^ 32) s.words) → Followed ir image IsStart
image_followed homes ir image is bounded small are equally IsStart Good IsPrivate sensible known words =
    followed ir image (ended homes ir) (is_laid_out homes ir image is bounded small are equally) IsStart Good IsPrivate sensible known words
