-- The names of types that were known before others were added stand in front of these.
use Rattle.std.proofs.Common.{◌≡◌, ℕ, Bool, true, false, if◌then◌else◌, List, [], ◌∷◌, ◌++◌, ◌==◌, ◌||◌, length, take, Result, Ok, Err, refl, sym, ap, ◌∙◌, append_assoc, append-nil}
use Rattle.std.specs.List.{list_any}
use Rattle.std.proofs.lemmas.List.Folds.{list_any-append}
use Rattle.al_tree.specs.Types.{known, with_names}
use Rattle.al_tree.specs.Items.{Declared}
use Rattle.al_tree.specs.declared.cursor.ParseError.{ParseError}
use Rattle.al_parse_stmt.specs.Known.{Restores}

take_front : (xs ys : List ℕ) → take (length xs) (xs ++ ys) ≡ xs
take_front [] ys = refl
take_front (x ∷ xs) ys = ap (λ l. x ∷ l) (take_front xs ys)

record Longer (types all : List ℕ) : Type 0 where
  more : List ℕ
  is : all ≡ types ++ more

one_longer : (types names : List ℕ) (n : ℕ) → ((ts : List ℕ) → Longer ts (with_names ts names)) → (b : Bool) → Longer types (with_names (if b then types else types ++ n ∷ []) names)
one_longer types names n go true = go types
one_longer types names n go false = let q = go (types ++ n ∷ []) in record { more = n ∷ q.more; is = q.is ∙ append_assoc types (n ∷ []) q.more }

longer : (types names : List ℕ) → Longer types (with_names types names)
longer types [] = record { more = []; is = sym (append-nil types) }
longer types (n ∷ names) = one_longer types names n (λ ts. longer ts names) (known types n)

-- and are known still
pub still_known : (types names : List ℕ) (n : ℕ) → known types n ≡ true → known (with_names types names) n ≡ true
still_known types names n h =
    let q = longer types names in
    ap (λ l. known l n) q.is ∙ list_any-append (λ m. n == m) types q.more ∙ ap (λ b. b || list_any (λ m. n == m) q.more) h

pub kept : (types names : List ℕ) → take (length types) (with_names types names) ≡ types
kept types names = let q = longer types names in ap (take (length types)) q.is ∙ take_front types q.more

-- names that are added for a while and then cut off
pub kept_names : (types names all new : List ℕ) (count : ℕ) → new ≡ take count all → count ≡ length types → all ≡ with_names types names → new ≡ types
kept_names types names all new count e c h = e ∙ ap (λ n. take n all) c ∙ ap (λ l. take (length types) l) h ∙ kept types names

-- names that are always cut off
pub restores : {A : Type 0} {old new : Declared} → new ≡ old → (r : Result A ParseError) → Restores r old new
restores e (Ok x) = e
restores e (Err x) = λ some. e
