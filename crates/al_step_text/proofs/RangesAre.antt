-- Lines of what stands at the first so many numbers, and of one more.
use Rattle.std.proofs.Common.{◌≡◌, ℕ, zero, suc, ◌+◌, ◌≤◌, true, false, Bool, List, [], ◌∷◌, ◌++◌, refl, ap, sym, ◌∙◌, append_assoc, add-one, arith}
use Rattle.std.specs.List.{flat_map, range_with_len}
use Rattle.std.proofs.lemmas.List.{append-nil}
use Rattle.std.proofs.lemmas.Grind.{flat_map-append}
use Rattle.al_world.specs.Channels.{Channel, Offer}
use Rattle.al_world.specs.World.{TaskName, TalkName, Shared, Held}
use Rattle.al_typed.specs.declared.program.Aggregate.{Aggregate}
use Rattle.al_typed.specs.declared.program.Local.{Local}
use Rattle.al_typed.specs.declared.program.Program.{Program}
use Rattle.al_meaning.specs.Items.{Frame, Control}
use Rattle.al_step_text.specs.Frames.{variable_at, variable_lines, frame_at, frames_lines}
use Rattle.al_step_text.specs.StepText.{numbered_lines, proc_lines, all_of_proc, procs_lines, is_first, one_if, waiting_on, channel_at, channel_lines}

-- one number more
range_last : (a n j : ℕ) → a + n ≡ j → range_with_len a (suc n) ≡ range_with_len a n ++ j ∷ []
range_last a zero j e = ap (λ x. x ∷ []) (omega (arith, e))
range_last a (suc n) j e = ap (λ l. a ∷ l) (range_last (a + 1) n j (omega (arith, e)))

more : (f : ℕ → List ℕ) (n : ℕ) → flat_map f (range_with_len 0 (n + 1)) ≡ flat_map f (range_with_len 0 n) ++ f n
more f n = ap (λ m. flat_map f (range_with_len 0 m)) (add-one n) ∙ (ap (flat_map f) (range_last 0 n n (omega arith)) ∙ (flat_map-append f (range_with_len 0 n) (n ∷ []) ∙ ap (λ l. flat_map f (range_with_len 0 n) ++ l) (append-nil (f n))))

-- what is put behind what was put
pub puts_more : (new old out a b whole : List ℕ) → new ≡ old ++ b → old ≡ out ++ a → whole ≡ a ++ b → new ≡ out ++ whole
puts_more new old out a b whole put so_far is = put ∙ (ap (λ (l : List ℕ). l ++ b) so_far ∙ (append_assoc out a b ∙ ap (λ (l : List ℕ). out ++ l) (sym is)))

pub variables-none : (rows : List Aggregate) (locals : List Local) (words : List (List ℕ)) → variable_lines rows locals words 0 ≡ []
unfolding variable_lines
variables-none rows locals words = refl

pub variables-more : (rows : List Aggregate) (locals : List Local) (words : List (List ℕ)) (n : ℕ) → variable_lines rows locals words (n + 1) ≡ variable_lines rows locals words n ++ variable_at rows locals words n
unfolding variable_lines
variables-more rows locals words n = more (variable_at rows locals words) n

pub ruleset variables_are = (variables-none, variables-more, append_assoc, append-nil)

pub frames-none : (p : Program) (frames : List Frame) → frames_lines p frames 0 ≡ []
unfolding frames_lines
frames-none p frames = refl

pub frames-more : (p : Program) (frames : List Frame) (n : ℕ) → frames_lines p frames (n + 1) ≡ frames_lines p frames n ++ frame_at p frames n
unfolding frames_lines
frames-more p frames n = more (frame_at p frames) n

-- no frame of a task that was not started
pub nothing_held : (p : Program) (out : List ℕ) → out ≡ out ++ frames_lines p [] 0
nothing_held p out = sym (ap (λ (l : List ℕ). out ++ l) (frames-none p []) ∙ append-nil out)

pub ruleset frames_are = (frames-none, frames-more, append_assoc, append-nil)

pub proc-none : (p : Program) (s : Shared) (tasks : TaskName → Held Control) (proc : ℕ) → proc_lines p s tasks proc 0 ≡ []
unfolding proc_lines
proc-none p s tasks proc = refl

pub proc-more : (p : Program) (s : Shared) (tasks : TaskName → Held Control) (proc : ℕ) (n : ℕ) → proc_lines p s tasks proc (n + 1) ≡ proc_lines p s tasks proc n ++ numbered_lines p s tasks proc n
unfolding proc_lines
proc-more p s tasks proc n = more (numbered_lines p s tasks proc) n

pub ruleset proc_is = (proc-none, proc-more, append_assoc, append-nil)

pub procs-none : (p : Program) (s : Shared) (tasks : TaskName → Held Control) → procs_lines p s tasks 0 ≡ []
unfolding procs_lines
procs-none p s tasks = refl

pub procs-more : (p : Program) (s : Shared) (tasks : TaskName → Held Control) (n : ℕ) → procs_lines p s tasks (n + 1) ≡ procs_lines p s tasks n ++ all_of_proc p s tasks n
unfolding procs_lines
procs-more p s tasks n = more (all_of_proc p s tasks) n

pub ruleset procs_are = (procs-none, procs-more, append_assoc, append-nil)

pub channels-none : (waiting : List (Offer TalkName)) (channels : List Channel) → channel_lines waiting channels 0 ≡ []
unfolding channel_lines
channels-none waiting channels = refl

pub channels-more : (waiting : List (Offer TalkName)) (channels : List Channel) (n : ℕ) → channel_lines waiting channels (n + 1) ≡ channel_lines waiting channels n ++ channel_at waiting channels n
unfolding channel_lines
channels-more waiting channels n = more (channel_at waiting channels) n

pub ruleset channels_are = (channels-none, channels-more, append_assoc, append-nil)

pub waiting-none : (chan : ℕ) (waiting : List (Offer TalkName)) → waiting_on chan waiting 0 ≡ 0
unfolding waiting_on
waiting-none chan waiting = refl

pub waiting-more : (chan : ℕ) (waiting : List (Offer TalkName)) (n : ℕ) → waiting_on chan waiting (n + 1) ≡ waiting_on chan waiting n + one_if (is_first chan waiting n)
unfolding waiting_on
waiting-more chan waiting n = ap (waiting_on chan waiting) (add-one n)

one-most : (b : Bool) → one_if b ≤ 1
one-most true = omega arith
one-most false = omega arith

pub waiting-most : (chan : ℕ) (waiting : List (Offer TalkName)) (n : ℕ) → waiting_on chan waiting n ≤ n
unfolding waiting_on
waiting-most chan waiting zero = omega arith
waiting-most chan waiting (suc n) = omega (arith, waiting-most chan waiting n, one-most (is_first chan waiting n))

pub ruleset counts_are = (waiting-none, waiting-more, waiting-most)
