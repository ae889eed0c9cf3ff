-- Runs of units that stand in reverse.
use Rattle.std.proofs.Common.{◌≡◌, ℕ, suc, ◌+◌, ◌<◌, List, [], ◌∷◌, ◌++◌, reverse, drop, length, get_or, sym, ap, ◌∙◌, arith}
use Rattle.std.specs.Prelude.{◌&&◌, ◌==◌, true, false, if◌then◌else◌}
use Rattle.std.proofs.lemmas.List.{drop_more, reverse-append}
use Rattle.al_typed.specs.declared.layout.Unit.{Unit as StorageUnit}
use Rattle.al_ir.specs.declared.ir.Run.{Run}
use Rattle.al_lower_code.specs.Functions.{single_run, run_with, runs_of}

reverse_last : (runs : List Run) (r : Run) → reverse (runs ++ r ∷ []) ≡ r ∷ reverse runs
reverse_last runs r = reverse-append runs (r ∷ [])

-- before no run, before one that goes on, and before another
pub before_none : (old new : List Run) (u : StorageUnit) → old ≡ [] → new ≡ single_run u ∷ [] → reverse new ≡ run_with u (reverse old)
before_none old new u e is = ap (λ (rs : List Run). reverse rs) is ∙ sym (ap (λ (rs : List Run). run_with u (reverse rs)) e)

pub before_same : (old kept new : List Run) (r : Run) (u : StorageUnit) (count : ℕ) → old ≡ kept ++ r ∷ [] → ((r.size == u.size) && (r.at == u.at + u.size)) ≡ true → count ≡ r.count + 1
    → new ≡ kept ++ record { at = u.at; size = u.size; count = count } ∷ [] → reverse new ≡ run_with u (reverse old)
before_same old kept new r u count e goes c is =
    let joined : Run = record { at = u.at; size = u.size; count = count } in
    let next : count ≡ suc r.count = omega (arith, c) in
    ap (λ (rs : List Run). reverse rs) is
    ∙ reverse_last kept joined
    ∙ ap (λ (n : ℕ). let x : Run = record { at = u.at; size = u.size; count = n } in x ∷ reverse kept) next
    ∙ sym (ap (λ (rs : List Run). run_with u (reverse rs)) e ∙ ap (run_with u) (reverse_last kept r)
    ∙ ap (λ b. let x : Run = record { at = u.at; size = u.size; count = suc r.count } in if b then x ∷ reverse kept else single_run u ∷ r ∷ reverse kept) goes)

pub before_other : (old kept back new : List Run) (r : Run) (u : StorageUnit) → old ≡ kept ++ r ∷ [] → ((r.size == u.size) && (r.at == u.at + u.size)) ≡ false
    → back ≡ kept ++ r ∷ [] → new ≡ back ++ single_run u ∷ [] → reverse new ≡ run_with u (reverse old)
before_other old kept back new r u e goes b is =
    ap (λ (rs : List Run). reverse rs) is
    ∙ reverse_last back (single_run u)
    ∙ ap (λ (rs : List Run). single_run u ∷ reverse rs) b
    ∙ ap (λ (rs : List Run). single_run u ∷ rs) (reverse_last kept r)
    ∙ sym (ap (λ (rs : List Run). run_with u (reverse rs)) e ∙ ap (run_with u) (reverse_last kept r)
    ∙ ap (λ b. let x : Run = record { at = u.at; size = u.size; count = suc r.count } in if b then x ∷ reverse kept else single_run u ∷ r ∷ reverse kept) goes)

-- one unit more from the end
pub unit_before : (us : List StorageUnit) (i : ℕ) (u : StorageUnit) (old new : List Run) → i < length us → u ≡ get_or us i u
    → reverse old ≡ runs_of (drop (i + 1) us) → reverse new ≡ run_with u (reverse old) → reverse new ≡ runs_of (drop i us)
unit_before us i u old new h is so_far one =
    one ∙ ap (run_with u) so_far ∙ sym (ap runs_of (drop_more us i u h ∙ ap (λ x. x ∷ drop (i + 1) us) (sym is)))

pub ruleset befores = (before_none, before_same, before_other)
