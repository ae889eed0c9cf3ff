-- Rows of statements as lists: the cases of switches and alts.
use Rattle.std.proofs.Common.{◌≡◌, List, ◌∷◌, refl, ap, ◌∙◌}
use Rattle.al_typed.specs.declared.statement.TStmt.{TStmt, Case, AltCase, Row_of-TStmt, end_of-TStmt, more_of-TStmt, items-the_row-TStmt, items_hidden-the_row-TStmt-0}
use Rattle.al_typed.specs.declared.statement.TStmt.TheBlock.{hidden-the_row-TStmt-0}
use Rattle.al_lower_code.specs.Heads.{cases_in, zero_cases}
use Rattle.al_lower_heads.specs.Cases.{communications, zero_cases_of}

case_items : {m : _} (row : Row_of-TStmt m) → cases_in row ≡ communications (items-the_row-TStmt m row)
case_items end_of-TStmt = refl
case_items (more_of-TStmt (AltCase c) rest) = ap (λ cs. c ∷ cs) (case_items rest)
case_items (more_of-TStmt a rest) = case_items rest

pub cases_are : (body : List TStmt) → cases_in (hidden-the_row-TStmt-0 body) ≡ communications body
cases_are body = case_items (hidden-the_row-TStmt-0 body) ∙ ap communications (items_hidden-the_row-TStmt-0 body)

zero_items : {m : _} (row : Row_of-TStmt m) → zero_cases row ≡ zero_cases_of (items-the_row-TStmt m row)
zero_items end_of-TStmt = refl
zero_items (more_of-TStmt (Case _ bits) rest) = ap (λ cs. record { bits = bits; place = 0 } ∷ cs) (zero_items rest)
zero_items (more_of-TStmt a rest) = zero_items rest

pub zero_cases_are : (body : List TStmt) → zero_cases (hidden-the_row-TStmt-0 body) ≡ zero_cases_of body
zero_cases_are body = zero_items (hidden-the_row-TStmt-0 body) ∙ ap zero_cases_of (items_hidden-the_row-TStmt-0 body)
