-- An iterator that begins a turn.
use Rattle.std.proofs.Common.{◌≡◌, ℕ, ◌+◌, if◌then◌else◌, Bool, true, false, List, [], ◌∷◌, ◌++◌, map, take, Result, IfOk, sym, ap, ◌∙◌}
use Rattle.al_typed.specs.declared.expression.TExpr.{TExpr}
use Rattle.al_meaning.specs.Execute.{iterate, next_turn}
use Rattle.al_meaning.specs.Here as step
use Rattle.al_meaning.specs.Here.{does, moves, turns}
use Rattle.al_meaning.specs.Items as item
use Rattle.al_meaning.specs.Words.{is_below}
use Rattle.al_control.specs.declared.control.Here.{Here}
use Rattle.al_control.specs.declared.control.Next.{Next}
use Rattle.al_control.specs.declared.work.Bounds.{Bounds}
use Rattle.al_control.specs.Models.{bounds_of, here_of, next_of}
use Rattle.al_walk_loops.proofs.Goings.{goes_same}
use Rattle.al_walk_statements.specs.Forms.{with_turn}

-- the frame with these turns
with_turns : step.Here → List ℕ → step.Here
with_turns h now = record h { frame = record h.frame { turns = now } }

turn_made : (h : Here) (number turn : ℕ) (mid after : List ℕ) → mid ≡ take number h.frame.turns → after ≡ mid ++ turn ∷ []
    → here_of (record h { frame = record h.frame { turns = after } }) ≡ with_turn number turn (here_of h)
unfolding with_turns
turn_made h number turn mid after cut put = ap (with_turns (here_of h)) (put ∙ ap (λ (l : List ℕ). l ++ turn ∷ []) cut)

pub turn_begun : {E : Type 0} (r : Result Next E) (h : Here) (number inner : ℕ) (mid after : List ℕ) (b : Bounds) (rest others : List Bounds) (e : TExpr)
    → mid ≡ take number h.frame.turns → after ≡ mid ++ b.from ∷ [] → inner ≡ number + 1 → others ≡ rest
    → IfOk r (λ n. next_of n ≡ does (here_of (record h { frame = record h.frame { turns = after } })) (item.Iterate inner (map bounds_of others) e ∷ item.NextTurn number (bounds_of b) (map bounds_of rest) e ∷ []))
    → IfOk r (λ n. next_of n ≡ does (with_turn number b.from (here_of h)) (item.Iterate (number + 1) (map bounds_of rest) e ∷ item.NextTurn number (bounds_of b) (map bounds_of rest) e ∷ []))
turn_begun r h number inner mid after b rest others e cut put next same goes =
    goes_same r _ _
    (ap (λ (x : step.Here). does x (item.Iterate inner (map bounds_of others) e ∷ item.NextTurn number (bounds_of b) (map bounds_of rest) e ∷ [])) (turn_made h number b.from mid after cut put)
    ∙ ap (λ (n : ℕ). does (with_turn number b.from (here_of h)) (item.Iterate n (map bounds_of others) e ∷ item.NextTurn number (bounds_of b) (map bounds_of rest) e ∷ [])) next
    ∙ ap (λ (l : List Bounds). does (with_turn number b.from (here_of h)) (item.Iterate (number + 1) (map bounds_of l) e ∷ item.NextTurn number (bounds_of b) (map bounds_of rest) e ∷ [])) same)
    goes

-- ---- whether it begins one

pub begins_turn : (number : ℕ) (b : item.Bounds) (rest : List item.Bounds) (e : TExpr) (h : step.Here) → is_below b.from b.to ≡ true
    → does (with_turn number b.from h) (item.Iterate (number + 1) rest e ∷ item.NextTurn number b rest e ∷ []) ≡ iterate number (b ∷ rest) e h
begins_turn number b rest e h less =
    ap (λ (t : Bool). if t then does (with_turn number b.from h) (item.Iterate (number + 1) rest e ∷ item.NextTurn number b rest e ∷ []) else moves h) (sym less)

pub ends_turns : (number : ℕ) (b : item.Bounds) (rest : List item.Bounds) (e : TExpr) (h : step.Here) → is_below b.from b.to ≡ false
    → moves h ≡ iterate number (b ∷ rest) e h
ends_turns number b rest e h over =
    ap (λ (t : Bool). if t then does (with_turn number b.from h) (item.Iterate (number + 1) rest e ∷ item.NextTurn number b rest e ∷ []) else moves h) (sym over)

-- ---- the next one

pub turns_again : (number : ℕ) (b next : Bounds) (rest left : List Bounds) (e : TExpr) (h : step.Here) → bounds_of next ≡ next_turn (bounds_of b)
    → left ≡ next ∷ rest
    → turns h (item.Iterate number (map bounds_of left) e ∷ []) ≡ turns h (item.Iterate number (next_turn (bounds_of b) ∷ map bounds_of rest) e ∷ [])
turns_again number b next rest left e h same put =
    ap (λ (l : List Bounds). turns h (item.Iterate number (map bounds_of l) e ∷ [])) put
    ∙ ap (λ (x : item.Bounds). turns h (item.Iterate number (x ∷ map bounds_of rest) e ∷ [])) same
