use Rattle.std.proofs.Common.{◌≡◌, ℕ, zero, suc, ◌<◌, List, ◌∷◌, slice_index, refl, sym, arith, replicate, ◌∙◌}
use Rattle.std.proofs.Math.Path.{fun_ext}
use Rattle.std.proofs.lemmas.Grind.{common_steps}
use Rattle.rv_exec.specs.Hart.{first_registers}
use Rattle.rv_exec.proofs.begin.first_registers.Goals as goal

zeros : (k n : ℕ) → slice_index (replicate k 0) n ≡ 0
zeros zero n = refl
zeros (suc k) zero = refl
zeros (suc k) (suc n) = zeros k n

far : (n : ℕ) → 4 < n → first_registers n ≡ 0
far n h = grind (arith, common_steps)

-- the first registers, as an array
array : List ℕ
array = 0 ∷ 4194304 ∷ 67108864 ∷ 4096 ∷ 83886080 ∷ replicate 28 0

first : (n : ℕ) → slice_index array n ≡ first_registers n
unfolding array
first zero = refl
first (suc zero) = refl
first (suc (suc zero)) = refl
first (suc (suc (suc zero))) = refl
first (suc (suc (suc (suc zero)))) = refl
first (suc (suc (suc (suc (suc n))))) = zeros 28 n ∙ sym (far (suc (suc (suc (suc (suc n))))) (omega arith))

pub returns : goal.returns
unfolding array
returns c = fun_ext first
