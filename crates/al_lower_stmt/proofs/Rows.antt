-- Rows of statements as lists: how many operations they have, where their cases and labels stand, and the operations.
use Rattle.std.proofs.Common.{◌≡◌, ℕ, ◌+◌, List, ◌∷◌, ◌++◌, refl, ap, ◌∙◌, arith}
use Rattle.al_typed.specs.declared.statement.TStmt.{TStmt, Case, Default, AltCase, Row_of-TStmt, end_of-TStmt, more_of-TStmt, items-the_row-TStmt, items_hidden-the_row-TStmt-0}
use Rattle.al_typed.specs.declared.statement.TStmt.TheBlock.{hidden-the_row-TStmt-0}
use Rattle.al_meaning.specs.Parts.{first_of_two}
use Rattle.al_lower_code.specs.Homes.{Spot}
use Rattle.al_lower_code.specs.Heads.{CasePlace}
use Rattle.al_lower_code.specs.Statements.{Targets, stmt_size, stmt_code, place_of, all_size, all_code, place_in_row, case_places, default_place, body_places}
use Rattle.al_lower_stmt.specs.Bodies.{sizes, codes_from, place_from, cases_from, default_from, bodies_from}

size_items : (s : Spot) {m : _} (row : Row_of-TStmt m) → all_size s row ≡ sizes s (items-the_row-TStmt m row)
size_items s end_of-TStmt = refl
size_items s (more_of-TStmt a rest) = ap (λ n. stmt_size s a + n) (size_items s rest)

pub sizes_are : (s : Spot) (body : List TStmt) → all_size s (hidden-the_row-TStmt-0 body) ≡ sizes s body
sizes_are s body = size_items s (hidden-the_row-TStmt-0 body) ∙ ap (sizes s) (items_hidden-the_row-TStmt-0 body)

code_items : (s : Spot) (c : Targets) {m : _} (row : Row_of-TStmt m) (pc : ℕ) → all_code s c row pc ≡ codes_from s c (items-the_row-TStmt m row) pc
code_items s c end_of-TStmt pc = refl
code_items s c (more_of-TStmt a rest) pc = ap (λ ops. stmt_code s c a pc ++ ops) (code_items s c rest (pc + stmt_size s a))

pub codes_are : (s : Spot) (c : Targets) (body : List TStmt) (pc : ℕ) → all_code s c (hidden-the_row-TStmt-0 body) pc ≡ codes_from s c body pc
codes_are s c body pc = code_items s c (hidden-the_row-TStmt-0 body) pc ∙ ap (λ (b : List TStmt). codes_from s c b pc) (items_hidden-the_row-TStmt-0 body)

place_items : (s : Spot) (l : ℕ) {m : _} (row : Row_of-TStmt m) (pc : ℕ) → place_in_row s l row pc ≡ place_from s l (items-the_row-TStmt m row) pc
place_items s l end_of-TStmt pc = refl
place_items s l (more_of-TStmt a rest) pc = ap (λ p. first_of_two (place_of s l a pc) p) (place_items s l rest (pc + stmt_size s a))

pub places_are : (s : Spot) (l : ℕ) (body : List TStmt) (pc : ℕ) → place_in_row s l (hidden-the_row-TStmt-0 body) pc ≡ place_from s l body pc
places_are s l body pc = place_items s l (hidden-the_row-TStmt-0 body) pc ∙ ap (λ (b : List TStmt). place_from s l b pc) (items_hidden-the_row-TStmt-0 body)

-- ---- labels of cases have no operations

nothing_more : (pc : ℕ) → pc ≡ pc + 0
nothing_more pc = omega arith

case_items : (s : Spot) {m : _} (row : Row_of-TStmt m) (pc : ℕ) → case_places s row pc ≡ cases_from s (items-the_row-TStmt m row) pc
case_items s end_of-TStmt pc = refl
case_items s {m} (more_of-TStmt (Case _ bits) rest) pc =
    ap (λ (cs : List CasePlace). record { bits = bits; place = pc } ∷ cs)
    (case_items s rest pc ∙ ap (cases_from s (items-the_row-TStmt _ rest)) (nothing_more pc))
case_items s (more_of-TStmt a rest) pc = case_items s rest (pc + stmt_size s a)

pub cases_are : (s : Spot) (body : List TStmt) (pc : ℕ) → case_places s (hidden-the_row-TStmt-0 body) pc ≡ cases_from s body pc
cases_are s body pc = case_items s (hidden-the_row-TStmt-0 body) pc ∙ ap (λ (b : List TStmt). cases_from s b pc) (items_hidden-the_row-TStmt-0 body)

default_items : (s : Spot) {m : _} (row : Row_of-TStmt m) (pc : ℕ) → default_place s row pc ≡ default_from s (items-the_row-TStmt m row) pc
default_items s end_of-TStmt pc = refl
default_items s (more_of-TStmt Default rest) pc = refl
default_items s (more_of-TStmt a rest) pc = default_items s rest (pc + stmt_size s a)

pub default_is : (s : Spot) (body : List TStmt) (pc : ℕ) → default_place s (hidden-the_row-TStmt-0 body) pc ≡ default_from s body pc
default_is s body pc = default_items s (hidden-the_row-TStmt-0 body) pc ∙ ap (λ (b : List TStmt). default_from s b pc) (items_hidden-the_row-TStmt-0 body)

body_items : (s : Spot) {m : _} (row : Row_of-TStmt m) (pc : ℕ) → body_places s row pc ≡ bodies_from s (items-the_row-TStmt m row) pc
body_items s end_of-TStmt pc = refl
body_items s (more_of-TStmt (AltCase c) rest) pc =
    ap (λ (ps : List ℕ). pc ∷ ps)
    (body_items s rest pc ∙ ap (bodies_from s (items-the_row-TStmt _ rest)) (nothing_more pc))
body_items s (more_of-TStmt a rest) pc = body_items s rest (pc + stmt_size s a)

pub bodies_are : (s : Spot) (body : List TStmt) (pc : ℕ) → body_places s (hidden-the_row-TStmt-0 body) pc ≡ bodies_from s body pc
bodies_are s body pc = body_items s (hidden-the_row-TStmt-0 body) pc ∙ ap (λ (b : List TStmt). bodies_from s b pc) (items_hidden-the_row-TStmt-0 body)
