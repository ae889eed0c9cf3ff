-- Marks, and lists of parts that do something.
use Rattle.std.proofs.Common.{◌≡◌, ℕ, ◌≤◌, Bool, true, List, [], ◌∷◌, ◌++◌, map, fold, length, refl, ap, ◌∙◌, sym}
use Rattle.std.proofs.lemmas.List.{set_past, replicate-append-replicate}
use Rattle.std.specs.Prelude.{slice_set, replicate, ◌+◌, false}
use Rattle.al_shared.specs.Expressions.{Way, each}

-- the parts of a list by what they are made of
pub each_map : {A B : Type 0} (f : B → Way) (g : A → B) (xs : List A) (inside : Bool) (bs : List Bool) → each f (map g xs) inside bs ≡ each (λ x. f (g x)) xs inside bs
each_map f g [] inside bs = refl
each_map f g (x ∷ xs) inside bs = each_map f g xs inside (f (g x) inside bs)

-- there is nothing past the end
pub past_end : (bs : List Bool) (n : ℕ) → length bs ≤ n → slice_set bs n true ≡ bs
past_end bs n h = set_past bs n true h

-- one more that is not marked
pub unmarked_more : (n : ℕ) → replicate n false ++ false ∷ [] ≡ replicate (n + 1) false
unmarked_more n = replicate-append-replicate n 1 false
