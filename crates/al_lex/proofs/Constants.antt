-- The byte that a character constant stands for.
use Rattle.std.proofs.Common.{◌≡◌, ℕ, ◌<◌, ◌≤◌, ◌==◌, Bool, true, false, ◌&&◌, List, [], ◌∷◌, ◌++◌, length, drop, refl, sym, ap, ◌∙◌, arith}
use Rattle.std.proofs.lemmas.Grind.{common_steps}
use Rattle.std.specs.List.{list_all, take_while}
use Rattle.al_lex.specs.Bytes.{apostrophe, backslash, is_octal, is_hex, digit_value, value_of}
use Rattle.al_lex.specs.Pieces.{In, here, there, escapes, IsEscape, letter, octal_byte, hex_byte, IsItem, plain, escape}
use Rattle.al_lex.specs.Scan.{is_escape_letter, letter_byte, small_byte, escape_byte, constant_byte}
use Rattle.al_lex.specs.Values.{IsConstant}
use Rattle.al_lex.proofs.Runs.{both, run_exact, run_front, if_true, if_false, equal, equal_false}
use Rattle.al_lex.proofs.Strings.{letter_true, plain_item, octal_first, octal_not_x}

pair_in : (test : ℕ × ℕ → Bool) {row : ℕ × ℕ} {rows : List (ℕ × ℕ)} → In row rows → list_all test rows ≡ true → test row ≡ true
pair_in test (here {x = row} {xs = more}) h = (both (test row) (list_all test more) h).0
pair_in test (there {y = y} {xs = more} i) h = pair_in test i (both (test y) (list_all test more) h).1

pub letter_is_byte : {b v : ℕ} → In (b, v) escapes → letter_byte b ≡ v
letter_is_byte {b} {v} i = equal (letter_byte b) v (pair_in (λ (e : ℕ × ℕ). letter_byte e.0 == e.1) i refl)

pub small_is : (v : ℕ) → v < 256 → small_byte v ≡ v
small_is v h = grind (arith, common_steps)

hex_digit_small : (d : ℕ) → is_hex d ≡ true → digit_value d ≤ 15
hex_digit_small d h = grind (arith, common_steps)

pub hex_small : (ds : List ℕ) → length ds ≤ 2 → list_all is_hex ds ≡ true → value_of 16 ds < 256
hex_small [] l h = omega arith
hex_small (a ∷ []) l h = let x = both (is_hex a) true h in omega (arith, hex_digit_small a x.0)
hex_small (a ∷ (b ∷ [])) l h =
    let x = both (is_hex a) (is_hex b && true) h in let y = both (is_hex b) true x.1 in
    omega (arith, hex_digit_small a x.0, hex_digit_small b y.0)
hex_small (a ∷ (b ∷ (c ∷ ds))) l h = absurd (omega arith)

run_whole : (p : ℕ → Bool) (u rest : List ℕ) → list_all p u ≡ true → p apostrophe ≡ false → take_while p (u ++ apostrophe ∷ rest) ≡ u
run_whole p u rest h f = run_front p u (apostrophe ∷ rest) (sym (run_exact p u apostrophe rest h f))

escape_is : {u : List ℕ} {v : ℕ} → IsEscape u v → (rest : List ℕ) → escape_byte (u ++ apostrophe ∷ rest) ≡ v
escape_is (letter {b = b} i) rest = if_true (is_escape_letter b) _ _ (letter_true i) ∙ letter_is_byte i
escape_is (octal_byte [] some most o value) rest = absurd (omega arith)
escape_is (octal_byte (d ∷ ds) some most o value) rest =
    let first = (both (is_octal d) (list_all is_octal ds) o).0 in
    if_false (is_escape_letter d) _ _ (octal_first d first) ∙ if_false (d == 120) _ _ (octal_not_x d first)
    ∙ ap (λ l. small_byte (value_of 8 l)) (run_whole is_octal (d ∷ ds) rest o refl) ∙ small_is (value_of 8 (d ∷ ds)) (omega (arith, value))
escape_is (hex_byte ds some most h) rest = ap (λ l. small_byte (value_of 16 l)) (run_whole is_hex ds rest h refl) ∙ small_is (value_of 16 ds) (hex_small ds most h)

item_is : {u : List ℕ} {v : ℕ} → IsItem apostrophe u v → (rest : List ℕ) → constant_byte (u ++ apostrophe ∷ rest) ≡ v
item_is (plain b h) rest = if_false (b == backslash) _ _ (equal_false b backslash (plain_item apostrophe b h).1)
item_is (escape e) rest = escape_is e rest

pub constant_is : (bytes : List ℕ) (v : ℕ) → IsConstant bytes v → constant_byte (drop 1 bytes) ≡ v
constant_is bytes v c = ap (λ l. constant_byte (drop 1 l)) c.is ∙ item_is c.item []
