-- Frames that are given values.
use Rattle.std.proofs.Common.{◌≡◌, ℕ, List, [], ◌∷◌, map, Some, None, Bool, IsTrue, true, false, if◌then◌else◌, refl, sym, ap, ◌∙◌}
use Rattle.std.proofs.lemmas.Bool.{false≢true}
use Rattle.al_typed.specs.Types.{is_void}
use Rattle.al_typed.specs.declared.program.Program.{Program}
use Rattle.al_typed.specs.declared.ty.Ty.{Ty}
use Rattle.al_meaning.specs.Calls.{with_given, zero_given}
use Rattle.al_meaning.specs.Items as item
use Rattle.al_meaning.specs.Meaning.{resume}
use Rattle.al_meaning.specs.Places.{words_in}
use Rattle.al_meaning.specs.Words.{zero_words}
use Rattle.al_control.specs.declared.control.Frame.{Frame}
use Rattle.al_control.specs.Models.{frame_of}

pub no_frame : (words : List ℕ) (frames rest : List Frame) → frames ≡ [] → rest ≡ [] → map frame_of rest ≡ with_given (Some words) (map frame_of frames)
no_frame words frames rest none left = ap (map frame_of) left ∙ ap (λ l. with_given (Some words) (map frame_of l)) (sym none)

-- a task goes on with an answer
pub resumed_without : (c : item.Control) (answer : List ℕ) → answer ≡ [] → c ≡ resume c answer
resumed_without c answer none = ap (resume c) (sym none)

pub resumed : (c : item.Control) (answer : List ℕ) (frames : List item.Frame) → (answer ≡ [] → IsTrue false) → frames ≡ with_given (Some answer) c.frames
    → (record c { frames = frames }) ≡ resume c answer
resumed c [] frames some given = absurd (false≢true (some refl))
resumed c (w ∷ words) frames some given = ap (λ (fs : List item.Frame). record c { frames = fs }) given

-- at the end of a body
pub none_given : (p : Program) (t : Ty) → true ≡ is_void t → None ≡ zero_given p t
none_given p t e = ap (λ (b : Bool). if b then None else Some (zero_words (words_in p t))) e

pub zeros_given : (p : Program) (t : Ty) (words : List ℕ) → false ≡ is_void t → words ≡ zero_words (words_in p t) → Some words ≡ zero_given p t
zeros_given p t words e is = ap Some is ∙ ap (λ (b : Bool). if b then None else Some (zero_words (words_in p t))) e
