-- Pieces that are added in rounds.
use Rattle.std.proofs.Common.{◌≡◌, ℕ, suc, ◌+◌, ◌-◌, ◌<◌, pos, List, [], ◌∷◌, ◌++◌, sym, ap, ◌∙◌, arith, append_assoc}
use Rattle.rv_isa.specs.declared.instr.Instr.{Instr}
use Rattle.rv_code.specs.declared.home.Home.{Home}
use Rattle.rv_form.specs.Units.{zero_word, zero_each, zero_from, Way, unit_code, units_code}
use Rattle.rv_isa.specs.declared.instr.Instr.TheVariants.{Store}
use Rattle.rv_isa.specs.declared.instr.StoreOp.TheVariants.{Sw}

last_one : (n : ℕ) → 0 < n → n ≡ suc (n - 1)
last_one n some = omega (arith, some)

-- a round adds its piece, which is the first of those that are left
pub one_round : (code piece next left rest all : List Instr) → code ++ left ≡ all → left ≡ piece ++ rest → next ≡ code ++ piece → next ++ rest ≡ all
one_round code piece next left rest all so_far splits is = ap (λ c. c ++ rest) is ∙ (append_assoc code piece rest ∙ (ap (λ w. code ++ w) (sym splits) ∙ so_far))

pub zero_each_splits : (home : ℕ → Home) (from n : ℕ) → 0 < n → zero_each home from n ≡ zero_word (home from) ++ zero_each home (from + 1) (n - 1)
zero_each_splits home from n some = ap (λ m. zero_each home from m) (last_one n some)

pub zero_from_splits : (offset n : ℕ) → 0 < n → zero_from offset n ≡ Store Sw 8 0 (pos offset) ∷ zero_from (offset + 4) (n - 1)
zero_from_splits offset n some = ap (λ m. zero_from offset m) (last_one n some)

pub units_splits : (way : Way) (size offset k n : ℕ) → 0 < n → units_code way size offset k n ≡ unit_code way size 10 offset k ++ units_code way size (offset + size) (k + 1) (n - 1)
units_splits way size offset k n some = ap (λ m. units_code way size offset k m) (last_one n some)

-- ---- pieces behind one another

-- a loop that zeroes, between what comes before and after it
pub zeroes : (c0 c1 c2 c3 c4 c5 c6 c7 A B Z W : List Instr) (r i b : Instr) → c1 ≡ c0 ++ A → c2 ≡ c1 ++ B → c3 ≡ c2 ++ r ∷ [] → c4 ≡ c3 ++ Z → c5 ≡ c4 ++ i ∷ [] → c6 ≡ c5 ++ b ∷ [] → c7 ≡ c6 ++ W
    → c7 ≡ c0 ++ (A ++ (B ++ (r ∷ (Z ++ (i ∷ b ∷ W)))))
zeroes c0 c1 c2 c3 c4 c5 c6 c7 A B Z W r i b h1 h2 h3 h4 h5 h6 h7 =
    let so_far : c7 ≡ ((((((c0 ++ A) ++ B) ++ r ∷ []) ++ Z) ++ i ∷ []) ++ b ∷ []) ++ W =
    h7 ∙ ap (λ (c : List Instr). c ++ W) (h6 ∙ ap (λ (c : List Instr). c ++ b ∷ []) (h5 ∙ ap (λ (c : List Instr). c ++ i ∷ []) (h4 ∙ ap (λ (c : List Instr). c ++ Z) (h3 ∙ ap (λ (c : List Instr). c ++ r ∷ []) (h2 ∙ ap (λ (c : List Instr). c ++ B) h1))))) in
    let joined : ((((((c0 ++ A) ++ B) ++ r ∷ []) ++ Z) ++ i ∷ []) ++ b ∷ []) ++ W ≡ c0 ++ (A ++ (B ++ (r ∷ (Z ++ (i ∷ b ∷ W))))) = simp append_assoc in
    so_far ∙ joined

-- a text is composed
pub composes : (c0 c1 c2 c3 c4 c5 c6 c7 A C P : List Instr) (l b i j : Instr) → c1 ≡ c0 ++ A → c2 ≡ c1 ++ l ∷ [] → c3 ≡ c2 ++ b ∷ [] → c4 ≡ c3 ++ C → c5 ≡ c4 ++ i ∷ [] → c6 ≡ c5 ++ P → c7 ≡ c6 ++ j ∷ []
    → c7 ≡ c0 ++ (A ++ (l ∷ b ∷ (C ++ ((i ∷ P) ++ j ∷ []))))
composes c0 c1 c2 c3 c4 c5 c6 c7 A C P l b i j h1 h2 h3 h4 h5 h6 h7 =
    let so_far : c7 ≡ ((((((c0 ++ A) ++ l ∷ []) ++ b ∷ []) ++ C) ++ i ∷ []) ++ P) ++ j ∷ [] =
    h7 ∙ ap (λ (c : List Instr). c ++ j ∷ []) (h6 ∙ ap (λ (c : List Instr). c ++ P) (h5 ∙ ap (λ (c : List Instr). c ++ i ∷ []) (h4 ∙ ap (λ (c : List Instr). c ++ C) (h3 ∙ ap (λ (c : List Instr). c ++ b ∷ []) (h2 ∙ ap (λ (c : List Instr). c ++ l ∷ []) h1))))) in
    let joined : ((((((c0 ++ A) ++ l ∷ []) ++ b ∷ []) ++ C) ++ i ∷ []) ++ P) ++ j ∷ [] ≡ c0 ++ (A ++ (l ∷ b ∷ (C ++ ((i ∷ P) ++ j ∷ [])))) = simp append_assoc in
    so_far ∙ joined
