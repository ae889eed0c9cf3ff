use Rattle.std.proofs.Common.{◌≡◌, ℕ, true, ◌||◌, ◌==◌, ◌⊎◌, inl, inr, List, sym, ap, ◌∙◌}
use Rattle.al_seen.specs.declared.seen.Seen.{Seen}
use Rattle.al_race.specs.Order.{IsBefore, is_before}
use Rattle.al_race.proofs.Bools.{equal, same_number, true_or, or_true}
use Rattle.al_race.proofs.Found.{to_path, from_path}
use Rattle.al_race.proofs.Paths.{upto}
use Rattle.al_clocks.proofs.Facts.{or_cases}
use Rattle.al_clocks.proofs.Telling.{clocks_told}
use Rattle.al_clocks.proofs.laws.clocks_tell_paths.Goals as goal

to : (run : List Seen) (i j : ℕ) → ((j == i) || is_before run i j) ≡ true → (j ≡ i) ⊎ IsBefore run i j
to run i j h = on (or_cases (j == i) (is_before run i j) h)
  where
    on : ((j == i) ≡ true) ⊎ (is_before run i j ≡ true) → (j ≡ i) ⊎ IsBefore run i j
    on (inl x) = inl (equal j i x)
    on (inr x) = inr (to_path run i j x)

from : (run : List Seen) (i j : ℕ) → (j ≡ i) ⊎ IsBefore run i j → upto run i j ≡ true
from run i j (inl x) = true_or (j == i) (is_before run i j) (ap (λ (k : ℕ). j == k) (sym x) ∙ same_number j)
from run i j (inr x) = or_true (j == i) (is_before run i j) (from_path run i j x)

pub returns : goal.returns
returns c = λ run i j d all low is.
    let told = clocks_told run all in
    ((λ lt. to run i j (told.entry_sound j low i d is lt)), (λ h. told.entry_full j low i d is (from run i j h)))
