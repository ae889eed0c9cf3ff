-- Tasks that are told something.
use Rattle.std.proofs.Common.{◌≡◌, ℕ, suc, ◌+◌, ◌<◌, ◌≤◌, Bool, true, false, cond, List, [], ◌∷◌, Option, Some, None, length, map, drop, get_or, refl, ap, sym, subst, ◌∙◌, add-one}
use Rattle.std.specs.List.{All}
use Rattle.std.proofs.Math.Seq.{drop-cons}
use Rattle.std.proofs.Math.ListN.{get_or-map}
use Rattle.std.proofs.lemmas.List.{drop_all, length-map}
use Rattle.al_event.specs.declared.act.Start.{Start}
use Rattle.al_world.specs.World.{TaskName, Held, Absent, Begins, same_task, at_task, told, told_one}
use Rattle.al_typed.specs.declared.program.Program.{Program}
use Rattle.al_meaning.specs.Items.{Control}
use Rattle.al_meaning.specs.Meaning.{source}
use Rattle.al_control.specs.declared.unmade.Unmade.{Unmade}
use Rattle.al_control.specs.Fits.{Explains}
use Rattle.al_opening.proofs.Explained.{explains}
use Rattle.al_script.specs.declared.tells.Message.{Message}
use Rattle.al_script.specs.Worlds.{told_of, message_of}
use Rattle.al_tasks.specs.declared.tasks.Held.{Held as Tabled}
use Rattle.al_tasks.specs.declared.tasks.Held.TheVariants as tabled
use Rattle.al_tasks.specs.Tables.{held_of, task_held}

-- a task that is there stays as it is where it is to begin
pub begun-stays : (p : Program) (begin : Start) (h : Tabled) → held_of h ≡ told_one (source p) (Begins begin) (held_of h)
begun-stays p begin (tabled.Goes c) = refl
begun-stays p begin (tabled.Waits act c) = refl

pub ruleset begun_stay = (begun-stays)

once : {X : Type 0} (b : Bool) (x y z : X) → cond b x (cond b y z) ≡ cond b x z
once true x y z = refl
once false x y z = refl

-- a task that was put in the place of another
pub puts_once : (t : TaskName) (x y : Held Control) (f : TaskName → Held Control) → at_task t x (at_task t y f) ≡ at_task t x f
puts_once t x y f = λ i u. once (same_task u t) x y (f u) i

-- a task that is told something and put back, and one that is not there after it
pub told_back : (p : Program) (m : Message) (after before : Option Tabled) (held : Tabled) (f g k : TaskName → Held Control) → after ≡ Some held → k ≡ at_task m.to (held_of held) g → g ≡ at_task m.to Absent f → task_held after ≡ told_one (source p) (told_of m.told) (task_held before) → task_held before ≡ f m.to → k ≡ told (source p) (message_of m ∷ []) f
told_back p m after before held f g k some put taken tells was =
    let now : held_of held ≡ told_one (source p) (told_of m.told) (f m.to) = ap task_held (sym some) ∙ (tells ∙ ap (told_one (source p) (told_of m.told)) was) in
    put ∙ (ap (λ (h : TaskName → Held Control). at_task m.to (held_of held) h) taken ∙ (puts_once m.to (held_of held) Absent f ∙ ap (λ (h : Held Control). at_task m.to h f) now))

pub told_away : (p : Program) (m : Message) (after before : Option Tabled) (f g : TaskName → Held Control) → after ≡ None → g ≡ at_task m.to Absent f → task_held after ≡ told_one (source p) (told_of m.told) (task_held before) → task_held before ≡ f m.to → g ≡ told (source p) (message_of m ∷ []) f
told_away p m after before f g none taken tells was =
    let now : Absent ≡ told_one (source p) (told_of m.told) (f m.to) = ap task_held (sym none) ∙ (tells ∙ ap (told_one (source p) (told_of m.told)) was) in
    taken ∙ ap (λ (h : Held Control). at_task m.to h f) now

-- one message more
pub tells_on : (p : Program) (ms : List Message) (i : ℕ) (m : Message) (f g h : TaskName → Held Control) → i < length ms → m ≡ get_or ms i m → told (source p) (map message_of ms) f ≡ told (source p) (map message_of (drop i ms)) g → h ≡ told (source p) (message_of m ∷ []) g → told (source p) (map message_of ms) f ≡ told (source p) (map message_of (drop (i + 1) ms)) h
tells_on p ms i m f g h l is so_far e =
    let here : drop i ms ≡ m ∷ drop (i + 1) ms = drop-cons ms i m l ∙ (ap (λ y. y ∷ drop (suc i) ms) (sym is) ∙ ap (λ k. m ∷ drop k ms) (sym (add-one i))) in
    so_far ∙ (ap (λ ds. told (source p) (map message_of ds) g) here ∙ ap (told (source p) (map message_of (drop (i + 1) ms))) (sym e))

-- no message is left
pub tells_end : (p : Program) (ms : List Message) (i : ℕ) (f g : TaskName → Held Control) → length ms ≤ i → told (source p) (map message_of ms) f ≡ told (source p) (map message_of (drop i ms)) g → g ≡ told (source p) (map message_of ms) f
tells_end p ms i f g l so_far = sym (so_far ∙ ap (λ (ds : List Message). told (source p) (map message_of ds) g) (drop_all i ms l))

-- of an element, of a list that was mapped
pub mapped_explains : {X Y : Type 0} (P : Y → Type 0) (f : X → Y) (xs : List X) (i : ℕ) (x : X) (e : Unmade) → i < length xs → x ≡ get_or xs i x → Explains e (P (f x)) → Explains e (All P (map f xs))
mapped_explains P f xs i x e l is h =
    explains e (P (f x)) (All P (map f xs)) (λ a. subst P (get_or-map f xs i x ∙ ap f (sym is)) (a i (f x) (subst (λ n. i < n) (sym (length-map xs f)) l))) h

pub ruleset messages_explain = (mapped_explains)
