-- Answers that fit their actions.
use Rattle.std.proofs.Common.{◌≡◌, ℕ, zero, suc, ◌^◌, List, [], ◌∷◌, length, drop, slice_get, slice_index, refl, sym, ap, ◌∙◌}
use Rattle.al_event.specs.declared.act.Branch.{Branch}
use Rattle.al_event.specs.declared.act.Act.{Act}
use Rattle.al_event.specs.declared.act.Act.TheVariants.{Load, Store, Alloc, Free, NewChan, FreeChan, CanRecv, CanSend, Talk, Proc, Task, Par, Print, Terminate, Pause, Trap, End}
use Rattle.al_world.specs.Control.{cut, received_by, branch_in, fitted}
use Rattle.rv_exec.specs.Answers.{AnswersTalk, CanAnswer, HasAnswer}

length-cut : (n m : ℕ) (words : List ℕ) → length (cut n m words) ≡ n
length-cut zero m words = refl
length-cut (suc n) m [] = ap suc (length-cut n m [])
length-cut (suc n) m (w ∷ words) = ap suc (length-cut n m words)

as_many : (n m : ℕ) (words : List ℕ) → cut n m words ≡ words → length words ≡ n
as_many n m words e = sym (ap (λ (ws : List ℕ). length ws) e) ∙ length-cut n m words

talked : (branches : List Branch) (branch : ℕ) (words : List ℕ) (m : ℕ) (rest : List ℕ)
    → branch ∷ cut (received_by (slice_get branches branch)) m rest ≡ words → AnswersTalk branches words
talked branches branch [] m rest e = absurd (cc)
talked branches branch (first ∷ received) m rest e =
    let same : branch ≡ first = cc in
    let all : cut (received_by (slice_get branches branch)) m rest ≡ received = cc in
    sym (ap (λ (ws : List ℕ). length ws) all) ∙ length-cut (received_by (slice_get branches branch)) m rest ∙ ap (λ (i : ℕ). received_by (slice_get branches i)) same

pub can_answer : (act : Act) (words : List ℕ) → HasAnswer act → fitted act words ≡ words → CanAnswer act words
can_answer (Load at size) words h e = as_many 1 (256 ^ size) words e
can_answer (Store at size word) words h e = sym e
can_answer (Alloc bytes kind) words h e = as_many 1 (2 ^ 32) words e
can_answer (Free at kind) words h e = sym e
can_answer (NewChan capacity words_each) words h e = as_many 1 (2 ^ 32) words e
can_answer (FreeChan chan) words h e = sym e
can_answer (CanRecv chan) words h e = as_many 1 2 words e
can_answer (CanSend chan) words h e = as_many 1 2 words e
can_answer (Talk branches) words h e = talked branches (branch_in branches (slice_index words 0)) words (2 ^ 32) (drop 1 words) e
can_answer (Proc start) words h e = sym e
can_answer (Task start) words h e = sym e
can_answer (Par starts) words h e = sym e
can_answer (Print text) words h e = sym e
can_answer (Terminate status) words h e = absurd h
can_answer Pause words h e = sym e
can_answer (Trap trap) words h e = absurd h
can_answer End words h e = absurd h
