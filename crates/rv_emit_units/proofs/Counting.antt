-- How many units runs have.
use Rattle.std.proofs.Common.{◌≡◌, ℕ, zero, suc, ◌+◌, List, ◌∷◌, length, refl, ap, ◌∙◌, length-append}
use Rattle.al_ir.specs.declared.ir.Run.{Run}
use Rattle.al_ir.specs.Units.{units_from, units_in}

pub length-units_from : (at size count : ℕ) → length (units_from at size count) ≡ count
length-units_from at size zero = refl
length-units_from at size (suc n) = ap suc (length-units_from (at + size) size n)

pub units_of_one_more : (r : Run) (runs : List Run) → length (units_in (r ∷ runs)) ≡ r.count + length (units_in runs)
units_of_one_more r runs = length-append (units_from r.at r.size r.count) (units_in runs) ∙ ap (λ n. n + length (units_in runs)) (length-units_from r.at r.size r.count)
