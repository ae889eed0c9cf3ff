-- Locals that lie in the shared block.
use Rattle.std.proofs.Common.{◌≡◌, ℕ, zero, suc, ◌<◌, ◌==◌, not, Bool, true, false, ◌^◌, List, [], ◌∷◌, Option, Some, None, map, length, get_or, sym, ap, subst, ◌∙◌, arith}
use Rattle.std.specs.Prelude.{MatchOption, cond, filter}
use Rattle.std.proofs.lemmas.Bool.Decides.{nat_tests}
use Rattle.al_typed.specs.declared.program.Local.{Local}
use Rattle.al_typed.specs.WellTyped.{shared_types}
use Rattle.al_typed.specs.declared.program.Program.{Program}
use Rattle.al_meaning.specs.Places.{block_size, has_block}

some_shared : (ls : List Local) (i : ℕ) (l : Local) → i < length ls → l ≡ get_or ls i l → l.is_shared ≡ true → 0 < length (shared_types ls)
some_shared [] i l h is e = absurd (omega (arith, h))
some_shared (x ∷ xs) zero l h is e =
    let rest = filter (λ (l : Local). l.is_shared) xs in
    subst (λ (b : Bool). 0 < length (map (λ (l : Local). l.ty) (cond b (x ∷ rest) rest))) (sym (ap (λ (l : Local). l.is_shared) (sym is) ∙ e)) (omega arith)
some_shared (x ∷ xs) (suc i) l h is e =
    let rest = filter (λ (l : Local). l.is_shared) xs in
    let behind : 0 < length (map (λ (l : Local). l.ty) rest) = some_shared xs i l (omega (arith, h)) is e in
    elim x.is_shared as (λ (b : Bool). 0 < length (map (λ (l : Local). l.ty) (cond b (x ∷ rest) rest))) [ true ↦ omega arith | false ↦ behind ]

not_none : (n : ℕ) → 0 < n → true ≡ not (n == 0)
not_none n h = grind (arith, nat_tests)

pub shared_there : (ls : List Local) (i : ℕ) (l : Local) → i < length ls → l ≡ get_or ls i l → l.is_shared ≡ true → true ≡ has_block ls
shared_there ls i l h is e = not_none (length (shared_types ls)) (some_shared ls i l h is e)

-- the size of their block, where it fits and where it does not
pub block_too_large : (p : Program) (locals all : List Local) (size : Option ℕ) → locals ≡ all → size ≡ None
    → MatchOption size (block_size p locals < 2 ^ 32 → ⊥) (λ bytes. bytes ≡ block_size p locals) → block_size p all < 2 ^ 32 → ⊥
block_too_large p locals all size same is found fits =
    let past = subst (λ (o : Option ℕ). MatchOption o (block_size p locals < 2 ^ 32 → ⊥) (λ bytes. bytes ≡ block_size p locals)) is found in
    past (subst (λ (ls : List Local). block_size p ls < 2 ^ 32) (sym same) fits)

pub block_fits : (p : Program) (locals all : List Local) (size : Option ℕ) (bytes : ℕ) → locals ≡ all → size ≡ Some bytes
    → MatchOption size (block_size p locals < 2 ^ 32 → ⊥) (λ bytes. bytes ≡ block_size p locals) → bytes ≡ block_size p all
block_fits p locals all size bytes same is found =
    subst (λ (o : Option ℕ). MatchOption o (block_size p locals < 2 ^ 32 → ⊥) (λ bytes. bytes ≡ block_size p locals)) is found ∙ ap (block_size p) same
