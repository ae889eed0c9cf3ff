-- What the bounds of an image say of its functions.
use Rattle.std.proofs.Common.{◌≡◌, ℕ, zero, suc, ◌+◌, ◌*◌, ◌^◌, ◌<◌, ◌≤◌, true, ◌&&◌, List, [], ◌∷◌, length, slice_get, nat_lt, nat_le, arith}
use Rattle.std.specs.List.{list_all}
use Rattle.std.proofs.lemmas.Bool.{and_parts}
use Rattle.std.proofs.lemmas.Bool.Decides.{nat_tests}
use Rattle.rv_isa.specs.declared.image.Contents.{Contents}
use Rattle.rv_isa.specs.declared.image.Row.{Row}
use Rattle.rv_isa.specs.Image.{is_within, are_rows, is_function}
use Rattle.rv_exec.specs.Machine.{entry_of}

-- the entry of a function that is there lies in the code; else it is taken as 0
entry_le : (n : ℕ) (rows : List Row) (k : ℕ) → list_all (is_function n) rows ≡ true → entry_of (slice_get rows k) ≤ n
entry_le n [] k h = omega arith
entry_le n (row ∷ rows) zero h =
    let one = (and_parts (is_function n row) (list_all (is_function n) rows) h).0 in
    let below = (and_parts (nat_lt row.entry n) (nat_le row.slots 16384) (and_parts (nat_lt row.entry n && nat_le row.slots 16384) (nat_le row.words 16384) one).0).0 in
    let less : row.entry < n = grind (arith, nat_tests, below) in
    omega arith
entry_le n (row ∷ rows) (suc k) h = entry_le n rows k (and_parts (is_function n row) (list_all (is_function n) rows) h).1

all_functions : (c : Contents) → are_rows c ≡ true → list_all (is_function (length c.code)) c.functions ≡ true
all_functions c h = (and_parts _ _ (and_parts _ _ (and_parts _ _ (and_parts _ _ (and_parts _ _ (and_parts _ _ h).0).0).0).0).0).0

pub entry_near : (c : Contents) (k : ℕ) → length c.code ≤ 2 ^ 23 → is_within c ≡ true → 4194304 + 4 * entry_of (slice_get c.functions k) < 2 ^ 32
entry_near c k small h = omega (arith, entry_le (length c.code) c.functions k (all_functions c (and_parts _ _ h).1))
