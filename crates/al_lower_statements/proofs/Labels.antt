-- Each label and each rescue of a statement has a place among its operations.
use Rattle.std.proofs.Common.{◌≡◌, ℕ, zero, suc, ◌+◌, List, [], ◌∷◌, ◌++◌, length, Option, Some, None, refl, ◌⊎◌, inl, inr, ⊎_elim, arith}
use Rattle.std.specs.Prelude.{Bool, true, false, ◌==◌, if◌then◌else◌, Contains}
use Rattle.std.proofs.lemmas.Grind.{common_steps}
use Rattle.std.proofs.lemmas.List.Elements.{Contains-append_cases}
use Rattle.al_typed.specs.declared.statement.TStmt.{TStmt, Block', If', Switch', Alt', Held-TStmt-If-3, Row_of-TStmt, end_of-TStmt, more_of-TStmt}
use Rattle.al_typed.specs.declared.statement.TStmt as stmt
use Rattle.al_typed.specs.StatementForms as part
use Rattle.al_typed.specs.WellTyped.{labels_in, labels_in_other, labels_in_row, rescues_in, rescues_in_other, rescues_in_row}
use Rattle.al_meaning.specs.Parts.{first_of_two}
use Rattle.al_lower_code.specs.Homes.{Spot, at_line}
use Rattle.al_lower_code.specs.Heads.{test_size, optional_code, optional_size, zero_cases, switch_size, cases_in, alt_size}
use Rattle.al_lower_code.specs.Statements.{stmt_size, place_of, place_in_other, place_in_row}

-- a number among labels or among rescues
abbrev pub Marks : (labels rescues : List ℕ) → ℕ → Type 0
Marks labels rescues l = Contains labels l ⊎ Contains rescues l

abbrev pub HasPlace : Option ℕ → Type 0
HasPlace o = (at : ℕ) × (o ≡ Some at)

none_marked : {A : Type 0} {l : ℕ} → Marks [] [] l → A
none_marked (inl (k, lt, e)) = absurd (omega (arith, lt))
none_marked (inr (k, lt, e)) = absurd (omega (arith, lt))

among : (x : ℕ) (xs : List ℕ) (l : ℕ) → Contains (x ∷ xs) l → (x ≡ l) ⊎ Contains xs l
among x xs l (zero, lt, e) = inl e
among x xs l (suc k, lt, e) = inr (k, omega (arith, lt), e)

marked_either : (a b c d : List ℕ) (l : ℕ) → Marks (a ++ b) (c ++ d) l → Marks a c l ⊎ Marks b d l
marked_either a b c d l (inl h) = ⊎_elim (λ x. inl (inl x)) (λ x. inr (inl x)) (Contains-append_cases a b l h)
marked_either a b c d l (inr h) = ⊎_elim (λ x. inl (inr x)) (λ x. inr (inr x)) (Contains-append_cases c d l h)

marked_label : (x : ℕ) (a c : List ℕ) (l : ℕ) → Marks (x ∷ a) c l → (x ≡ l) ⊎ Marks a c l
marked_label x a c l (inl h) = ⊎_elim (λ e. inl e) (λ h. inr (inl h)) (among x a l h)
marked_label x a c l (inr h) = inr (inr h)

marked_rescue : (x : ℕ) (a c : List ℕ) (l : ℕ) → Marks a (x ∷ c) l → (x ≡ l) ⊎ Marks a c l
marked_rescue x a c l (inl h) = inr (inl h)
marked_rescue x a c l (inr h) = ⊎_elim (λ e. inl e) (λ h. inr (inr h)) (among x c l h)

first_has : (o p : Option ℕ) → HasPlace o ⊎ HasPlace p → HasPlace (first_of_two o p)
first_has (Some at) p h = (at, refl)
first_has None p (inl h) = absurd (let e = h.1 in cc)
first_has None p (inr h) = h

if_has : (x l at : ℕ) (o : Option ℕ) → (x ≡ l) ⊎ HasPlace o → HasPlace (if x == l then Some at else o)
if_has x l at o h = on (x == l) refl h
  where
    on : (b : Bool) → (x == l) ≡ b → (x ≡ l) ⊎ HasPlace o → HasPlace (if b then Some at else o)
    on true e h = (at, refl)
    on false e (inr h) = h
    on false e (inl same) = absurd (grind (arith, common_steps, e, same))

mutual
  pub has_place : (s : Spot) (a : TStmt) (l pc : ℕ) → Marks (labels_in a) (rescues_in a) l → HasPlace (place_of s l a pc)
  has_place s (Block' _ _ body) l pc h = row_has_place s body l pc h
  has_place s (part.label line number body) l pc h =
      if_has number l pc (place_of s l body pc) (⊎_elim (λ e. inl e) (λ h. inr (has_place s body l pc h)) (marked_label number (labels_in body) (rescues_in body) l h))
  has_place s (If' line test _ (more_of-TStmt chosen end_of-TStmt) other) l pc h =
      let head = test_size (at_line line s) test in
      first_has (place_of s l chosen (pc + head)) (place_in_other s l other (pc + head + stmt_size s chosen))
      (⊎_elim (λ h. inl (has_place s chosen l (pc + head) h)) (λ h. inr (other_has_place s other l (pc + head + stmt_size s chosen) h)) (marked_either (labels_in chosen) (labels_in_other other) (rescues_in chosen) (rescues_in_other other) l h))
  has_place s (part.while_loop line test body) l pc h = has_place s body l (pc + test_size (at_line line s) test) h
  has_place s (part.do_loop line body test) l pc h = has_place s body l pc h
  has_place s (part.for_loop line start test step body) l pc h =
      has_place s body l (pc + length (optional_code (at_line line s) start) + optional_size (at_line line s) test) h
  has_place s (Switch' line e _ body) l pc h = row_has_place s body l (pc + switch_size (at_line line s) e (zero_cases body)) h
  has_place s (Alt' line _ body) l pc h = row_has_place s body l (pc + alt_size (at_line line s) (cases_in body)) h
  has_place s (part.rescue line number body) l pc h =
      if_has number l (pc + 1) (place_of s l body (pc + 1)) (⊎_elim (λ e. inl e) (λ h. inr (has_place s body l (pc + 1) h)) (marked_rescue number (labels_in body) (rescues_in body) l h))
  has_place s _ l pc h = none_marked h

  other_has_place : (s : Spot) (other : Held-TStmt-If-3) (l pc : ℕ) → Marks (labels_in_other other) (rescues_in_other other) l → HasPlace (place_in_other s l other pc)
  other_has_place s stmt.None' l pc h = none_marked h
  other_has_place s (stmt.Some' _ (more_of-TStmt other end_of-TStmt)) l pc h = has_place s other l (pc + 1) h

  row_has_place : (s : Spot) {m : _} (row : Row_of-TStmt m) (l pc : ℕ) → Marks (labels_in_row row) (rescues_in_row row) l → HasPlace (place_in_row s l row pc)
  row_has_place s end_of-TStmt l pc h = none_marked h
  row_has_place s (more_of-TStmt a rest) l pc h =
      first_has (place_of s l a pc) (place_in_row s l rest (pc + stmt_size s a))
      (⊎_elim (λ h. inl (has_place s a l pc h)) (λ h. inr (row_has_place s rest l (pc + stmt_size s a) h)) (marked_either (labels_in a) (labels_in_row rest) (rescues_in a) (rescues_in_row rest) l h))
