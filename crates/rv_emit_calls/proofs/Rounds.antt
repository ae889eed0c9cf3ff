-- Pieces that are added in rounds.
use Rattle.std.proofs.Common.{◌≡◌, ℕ, suc, ◌+◌, ◌-◌, ◌<◌, List, ◌++◌, sym, ap, ◌∙◌, arith, append_assoc}
use Rattle.rv_isa.specs.declared.instr.Instr.{Instr}
use Rattle.rv_code.specs.declared.home.Home.{Home}
use Rattle.rv_form.specs.Flow.{pass_word, pass, show_word, show, take_word, take_arguments}

last_one : (n : ℕ) → 0 < n → n ≡ suc (n - 1)
last_one n some = omega (arith, some)

-- a round adds its piece, which is the first of those that are left
pub one_round : (code piece next left rest all : List Instr) → code ++ left ≡ all → left ≡ piece ++ rest → next ≡ code ++ piece → next ++ rest ≡ all
one_round code piece next left rest all so_far splits is = ap (λ c. c ++ rest) is ∙ (append_assoc code piece rest ∙ (ap (λ w. code ++ w) (sym splits) ∙ so_far))

pub pass_splits : (home : ℕ → Home) (from to n : ℕ) → 0 < n → pass home from to n ≡ pass_word (home from) to ++ pass home (from + 1) (to + 1) (n - 1)
pass_splits home from to n some = ap (λ m. pass home from to m) (last_one n some)

pub show_splits : (home : ℕ → Home) (from n : ℕ) → 0 < n → show home from n ≡ show_word (home from) from ++ show home (from + 1) (n - 1)
show_splits home from n some = ap (λ m. show home from m) (last_one n some)

pub take_splits : (home : ℕ → Home) (from n : ℕ) → 0 < n → take_arguments home from n ≡ take_word (home from) from ++ take_arguments home (from + 1) (n - 1)
take_splits home from n some = ap (λ m. take_arguments home from m) (last_one n some)
