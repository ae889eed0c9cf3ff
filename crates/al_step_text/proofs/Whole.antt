-- The whole text, of its parts.
use Rattle.std.proofs.Common.{◌≡◌, ℕ, List, ◌++◌, length, ap, ◌∙◌, append_assoc}
use Rattle.std.specs.Prelude.{codes, decimal}
use Rattle.std.specs.List.{flat_map}
use Rattle.al_world.specs.World.{TaskName, Shared, Held}
use Rattle.al_typed.specs.declared.program.Program.{Program}
use Rattle.al_meaning.specs.Items.{Control}
use Rattle.al_step_text.specs.StepText.{over_line, procs_lines, channel_lines, block_line, text_of}

regroup : (o e d n v p c b u m k : List ℕ) → (((o ++ (((e ++ d) ++ n) ++ v)) ++ p) ++ c) ++ b ++ ((u ++ m) ++ k) ≡ o ++ (((((((((e ++ d) ++ n) ++ v) ++ p) ++ c) ++ b) ++ u) ++ m) ++ k)
regroup o e d n v p c b u m k = simp append_assoc

pub text_is : (p : Program) (s : Shared) (tasks : TaskName → Held Control) (entries count : ℕ) (o o1 o2 o3 o4 o5 : List ℕ) → count ≡ length s.output → o1 ≡ o ++ (codes "entries " ++ decimal entries ++ codes "\n" ++ over_line s.over) → o2 ≡ o1 ++ procs_lines p s tasks (length s.procs) → o3 ≡ o2 ++ channel_lines s.book.waiting s.book.channels (length s.book.channels) → o4 ≡ o3 ++ flat_map block_line s.store → o5 ≡ o4 ++ (codes "output " ++ decimal count ++ codes "\n") → o5 ≡ o ++ text_of p s tasks entries
unfolding text_of
text_is p s tasks entries count o o1 o2 o3 o4 o5 is p1 p2 p3 p4 p5 =
    let procs : List ℕ = procs_lines p s tasks (length s.procs) in
    let channels : List ℕ = channel_lines s.book.waiting s.book.channels (length s.book.channels) in
    let blocks : List ℕ = flat_map block_line s.store in
    p5
    ∙ (ap (λ (n : ℕ). o4 ++ (codes "output " ++ decimal n ++ codes "\n")) is
    ∙ (ap (λ (l : List ℕ). l ++ (codes "output " ++ decimal (length s.output) ++ codes "\n")) (p4 ∙ ap (λ (l : List ℕ). l ++ blocks) (p3 ∙ ap (λ (l : List ℕ). l ++ channels) (p2 ∙ ap (λ (l : List ℕ). l ++ procs) p1)))
    ∙ regroup o (codes "entries ") (decimal entries) (codes "\n") (over_line s.over) procs channels blocks (codes "output ") (decimal (length s.output)) (codes "\n")))
