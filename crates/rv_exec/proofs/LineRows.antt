-- The line of a code word, found by a search of rows that rise.
use Rattle.std.proofs.Common.{◌≡◌, ℕ, zero, suc, ◌+◌, ◌<◌, ◌≤◌, nat_le, nat_lt, leb, Bool, true, false, if◌then◌else◌, List, [], ◌∷◌, length, get_or, fold, refl, ap, subst, ◌∙◌, arith}
use Rattle.std.specs.List.{list_all}
use Rattle.std.specs.List.Sorted.{IsNonDecreasingBy}
use Rattle.std.proofs.lemmas.Bool.{and_parts}
use Rattle.std.proofs.lemmas.Bool.Decides.{nat_tests}
use Rattle.std.proofs.lemmas.List.Sorted.{IsNonDecreasingBy-from_all_adjacent}
use Rattle.rv_isa.specs.declared.image.Contents.{Contents}
use Rattle.rv_isa.specs.declared.image.LineRow.{LineRow}
use Rattle.rv_isa.specs.Image.{is_within, are_rows, adjacent}

abbrev above : List LineRow → Bool
above rows = list_all (λ (pair : LineRow × LineRow). nat_lt pair.0.word pair.1.word) (adjacent rows)

less_le : (m n : ℕ) → nat_lt m n ≡ true → m ≤ n
less_le m n e = grind (arith, nat_tests)

rises : (rows : List LineRow) → above rows ≡ true → (k : ℕ) (d : LineRow) → k + 1 < length rows → (get_or rows k d).word ≤ (get_or rows (k + 1) d).word
rises [] h k d less = absurd (omega arith)
rises (x ∷ []) h k d less = absurd (omega arith)
rises (x ∷ y ∷ rows) h zero d less = less_le x.word y.word (and_parts (nat_lt x.word y.word) (above (y ∷ rows)) h).0
rises (x ∷ y ∷ rows) h (suc k) d less =
    let further : suc (k + 1) ≡ suc k + 1 = omega arith in
    subst (λ n. (get_or (y ∷ rows) k d).word ≤ (get_or (x ∷ y ∷ rows) n d).word) further
    (rises (y ∷ rows) (and_parts (nat_lt x.word y.word) (above (y ∷ rows)) h).1 k d (omega arith))

pub lines_rise : (c : Contents) → is_within c ≡ true → IsNonDecreasingBy (λ (row : LineRow). row.word) c.lines
lines_rise c h =
    let rows : are_rows c ≡ true = (and_parts _ _ h).1 in
    let last : above c.lines ≡ true = (and_parts _ _ rows).1 in
    IsNonDecreasingBy-from_all_adjacent (λ (row : LineRow). row.word) c.lines (rises c.lines last)

module _ (at : ℕ) where
  abbrev next : ℕ → LineRow → ℕ
  next line row = if nat_le row.word at then row.line else line

  pub none_before : (line : ℕ) (rows : List LineRow) → ((k : ℕ) (d : LineRow) → k < length rows → leb (get_or rows k d).word at ≡ false) → fold next line rows ≡ line
  none_before line [] fails = refl
  none_before line (x ∷ rows) fails =
      ap (λ b. fold next (if b then x.line else line) rows) (fails zero x (omega arith)) ∙ none_before line rows (λ k d less. fails (suc k) d (omega arith))

  pub last_before : (line i : ℕ) (d : LineRow) (rows : List LineRow) → i < length rows
      → ((k : ℕ) (e : LineRow) → k < i + 1 → leb (get_or rows k e).word at ≡ true)
      → ((k : ℕ) (e : LineRow) → i + 1 ≤ k → k < length rows → leb (get_or rows k e).word at ≡ false)
      → fold next line rows ≡ (get_or rows i d).line
  last_before line i d [] within passes fails = absurd (omega arith)
  last_before line zero d (x ∷ rows) within passes fails =
      ap (λ b. fold next (if b then x.line else line) rows) (passes zero x (omega arith))
      ∙ none_before x.line rows (λ k e less. fails (suc k) e (omega arith) (omega arith))
  last_before line (suc i) d (x ∷ rows) within passes fails =
      ap (λ b. fold next (if b then x.line else line) rows) (passes zero x (omega arith))
      ∙ last_before x.line i d rows (omega arith) (λ k e less. passes (suc k) e (omega arith)) (λ k e past less. fails (suc k) e (omega arith) (omega arith))
