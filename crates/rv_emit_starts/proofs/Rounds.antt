-- Pieces that are added in rounds.
use Rattle.std.proofs.Common.{◌≡◌, List, ◌++◌, sym, ap, ◌∙◌, append_assoc}
use Rattle.rv_isa.specs.declared.instr.Instr.{Instr}

-- a round adds its piece, which is the first of those that are left
pub one_round : (code piece next left rest all : List Instr) → code ++ left ≡ all → left ≡ piece ++ rest → next ≡ code ++ piece → next ++ rest ≡ all
one_round code piece next left rest all so_far splits is = ap (λ c. c ++ rest) is ∙ (append_assoc code piece rest ∙ (ap (λ w. code ++ w) (sym splits) ∙ so_far))
