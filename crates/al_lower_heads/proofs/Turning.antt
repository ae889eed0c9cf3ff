-- The operations of iterators: those that begin turns, the body, and those that end them.
use Rattle.std.proofs.Common.{◌≡◌, ℕ, zero, suc, ◌+◌, ◌*◌, true, List, [], ◌∷◌, ◌++◌, length, sym, ap, ap₂, ◌∙◌, append_assoc, length-append, subst, Result, OnOk, arith}
use Rattle.std.proofs.lemmas.List.{append-nil}
use Rattle.al_base.specs.declared.arith.Op.TheVariants as arithmetic
use Rattle.al_ir.specs.declared.ir.Operation.{Operation}
use Rattle.al_ir.specs.declared.op.Op.TheVariants as op
use Rattle.al_lower_code.specs.Homes.{Spot, operation}
use Rattle.al_lower_code.specs.Heads.{turns_code}
use Rattle.al_lower_heads.specs.Turns.{begins, ends}

-- the next turn of one iterator
abbrev last : Spot → (slot to : ℕ) → List Operation
last s slot to = operation s.line (op.WordBy arithmetic.Add true slot slot 1) ∷ operation s.line (op.Turn to) ∷ []

turns_length : (s : Spot) (n turn bound : ℕ) (body : List Operation) (pc : ℕ) → length (turns_code s n turn bound body pc) ≡ 4 * n + length body
turns_length s zero turn bound body pc = omega arith
turns_length s (suc n) turn bound body pc =
    let inner = turns_code s n (turn + 1) (bound + 2) body (pc + 2) in
    omega (arith, length-append inner (last s turn (pc + 1)), turns_length s n (turn + 1) (bound + 2) body (pc + 2))

-- the outermost one ends last
ends_last : (s : Spot) (n turn pc : ℕ) → ends s (suc n) turn pc ≡ ends s n (turn + 1) (pc + 2) ++ last s turn (pc + 1)
ends_last s zero turn pc =
    let a : turn + 0 ≡ turn = omega arith in
    let b : pc + 2 * 0 + 1 ≡ pc + 1 = omega arith in
    ap₂ (last s) a b
ends_last s (suc n) turn pc =
    let a : turn + suc n ≡ turn + 1 + n = omega arith in
    let b : pc + 2 * suc n + 1 ≡ pc + 2 + 2 * n + 1 = omega arith in
    ap₂ (λ (slot to : ℕ). last s slot to ++ ends s (suc n) turn pc) a b
    ∙ ap (λ (os : List Operation). last s (turn + 1 + n) (pc + 2 + 2 * n + 1) ++ os) (ends_last s n turn pc)

turns_are : (s : Spot) (n turn bound : ℕ) (body : List Operation) (pc : ℕ)
    → turns_code s n turn bound body pc ≡ begins s n turn bound (length body) ++ (body ++ ends s n turn pc)
turns_are s zero turn bound body pc = sym (append-nil body)
turns_are s (suc n) turn bound body pc =
    let inner = turns_code s n (turn + 1) (bound + 2) body (pc + 2) in
    let first = begins s n (turn + 1) (bound + 2) (length body) in
    let behind = ends s n (turn + 1) (pc + 2) in
    let own = last s turn (pc + 1) in
    let size : length inner + 2 ≡ 4 * n + length body + 2 = omega (arith, turns_length s n (turn + 1) (bound + 2) body (pc + 2)) in
    let moved : inner ++ own ≡ first ++ (body ++ ends s (suc n) turn pc) =
    ap (λ (os : List Operation). os ++ own) (turns_are s n (turn + 1) (bound + 2) body (pc + 2))
    ∙ append_assoc first (body ++ behind) own
    ∙ ap (λ (os : List Operation). first ++ os) (append_assoc body behind own)
    ∙ ap (λ (os : List Operation). first ++ (body ++ os)) (sym (ends_last s n turn pc)) in
    ap₂ (λ (k : ℕ) (os : List Operation). operation s.line (op.Copy turn bound) ∷ operation s.line (op.SkipUnless arithmetic.Lt true turn (bound + 1) k) ∷ os) size moved

-- what was made before, and each of the three behind it
pub turned_all : {A E : Type 0} (r : Result A E) (s : Spot) (n turn bound size : ℕ) (body : List Operation) (pc : ℕ) (old first second new : List Operation)
    → size ≡ length body → first ≡ old ++ begins s n turn bound size → second ≡ first ++ body → OnOk r (new ≡ second ++ ends s n turn pc)
    → OnOk r (new ≡ old ++ turns_code s n turn bound body pc)
turned_all r s n turn bound size body pc old first second new sized begun gone ended =
    let begin = begins s n turn bound (length body) in
    let behind = ends s n turn pc in
    let made : second ≡ (old ++ begin) ++ body =
    gone ∙ ap (λ (os : List Operation). os ++ body) (begun ∙ ap (λ (k : ℕ). old ++ begins s n turn bound k) sized) in
    subst (λ (os : List Operation). OnOk r (new ≡ os))
    (ap (λ (os : List Operation). os ++ behind) made
    ∙ append_assoc (old ++ begin) body behind
    ∙ append_assoc old begin (body ++ behind)
    ∙ ap (λ (os : List Operation). old ++ os) (sym (turns_are s n turn bound body pc)))
    ended
