-- Rows of statements as lists: their cases.
use Rattle.std.proofs.Common.{◌≡◌, ℕ, List, [], ◌∷◌, Option, Some, refl, ap, ap₂, ◌∙◌}
use Rattle.std.specs.Prelude.{◌==◌, if◌then◌else◌, Bool, true, false, option_map}
use Rattle.al_typed.specs.declared.statement.TStmt.{TStmt, Case, Default, AltCase, Row_of-TStmt, end_of-TStmt, more_of-TStmt, items-the_row-TStmt, items_hidden-the_row-TStmt-0}
use Rattle.al_typed.specs.declared.statement.TStmt.TheBlock.{hidden-the_row-TStmt-0}
use Rattle.al_meaning.specs.Evaluate.{communications}
use Rattle.al_meaning.specs.Items.{Item}
use Rattle.al_meaning.specs.Parts.{Branching, behind_case, behind_default, branchings, statements}
use Rattle.al_walk_cases.specs.CaseLists.{behind, branchings_in, communications_in, has_bits, is_default}
use Rattle.al_walk_loops.specs.BodyParts.{statements_in}
use Rattle.al_walk_loops.proofs.StatementRows.{statements_items}

-- ---- cases of switches

case_chosen : (b : Bool) (here : List Item) (later : Option (List Item)) (rest : List TStmt) (more : Option (List TStmt))
    → here ≡ statements_in rest → later ≡ option_map statements_in more
    → (if b then Some here else later) ≡ option_map statements_in (if b then Some rest else more)
case_chosen true here later rest more e f = ap Some e
case_chosen false here later rest more e f = f

case_items : (bits : ℕ) {m : _} (row : Row_of-TStmt m) → behind_case bits row ≡ option_map statements_in (behind (has_bits bits) (items-the_row-TStmt m row))
case_items bits end_of-TStmt = refl
case_items bits (more_of-TStmt {n = m} (Case e label) rest) =
    case_chosen (label == bits) (statements rest) (behind_case bits rest) (items-the_row-TStmt m rest) (behind (has_bits bits) (items-the_row-TStmt m rest))
    (statements_items rest) (case_items bits rest)
case_items bits (more_of-TStmt s rest) = case_items bits rest

pub cases_are : (bits : ℕ) (body : List TStmt) → behind_case bits (hidden-the_row-TStmt-0 body) ≡ option_map statements_in (behind (has_bits bits) body)
cases_are bits body =
    case_items bits (hidden-the_row-TStmt-0 body) ∙ ap (λ b. option_map statements_in (behind (has_bits bits) b)) (items_hidden-the_row-TStmt-0 body)

default_items : {m : _} (row : Row_of-TStmt m) → behind_default row ≡ option_map statements_in (behind is_default (items-the_row-TStmt m row))
default_items end_of-TStmt = refl
default_items (more_of-TStmt Default rest) = ap Some (statements_items rest)
default_items (more_of-TStmt s rest) = default_items rest

pub default_is : (body : List TStmt) → behind_default (hidden-the_row-TStmt-0 body) ≡ option_map statements_in (behind is_default body)
default_is body = default_items (hidden-the_row-TStmt-0 body) ∙ ap (λ b. option_map statements_in (behind is_default b)) (items_hidden-the_row-TStmt-0 body)

-- ---- cases of alts

branching_items : {m : _} (row : Row_of-TStmt m) → branchings row ≡ branchings_in (items-the_row-TStmt m row)
branching_items end_of-TStmt = refl
branching_items (more_of-TStmt (AltCase c) rest) =
    ap₂ (λ (its : List Item) (bs : List Branching). record { communication = c; body = its } ∷ bs) (statements_items rest) (branching_items rest)
branching_items (more_of-TStmt s rest) = branching_items rest

pub branchings_are : (body : List TStmt) → branchings (hidden-the_row-TStmt-0 body) ≡ branchings_in body
branchings_are body = branching_items (hidden-the_row-TStmt-0 body) ∙ ap branchings_in (items_hidden-the_row-TStmt-0 body)

pub communications_are : (body : List TStmt) → communications (branchings_in body) ≡ communications_in body
communications_are [] = refl
communications_are (AltCase c ∷ rest) = ap (λ cs. c ∷ cs) (communications_are rest)
communications_are (s ∷ rest) = communications_are rest
