-- Labels and rescues by their names. Those of a function are numbered together in text order, from 0.
use Rattle.std.specs.Prelude.{ℕ, ◌==◌, Bool, false, List, position, Option, None, Some}
use Rattle.al_tree.specs.declared.expression.Name.{Name}
use Rattle.al_flow.specs.declared.mark.Mark.{Mark}
use Rattle.al_flow.specs.declared.mark.Mark.TheVariants as mark

abbrev pub is_label : Mark → ℕ → Bool
is_label (mark.Label own) name = own == name
is_label (mark.Rescue _) name = false

abbrev pub is_rescue : Mark → ℕ → Bool
is_rescue (mark.Rescue (Some own)) name = own == name
is_rescue (mark.Rescue None) name = false
is_rescue (mark.Label _) name = false

-- the number of the first label of that name
unfoldable pub label_named : List Mark → ℕ → Option ℕ
label_named marks name = position (λ m. is_label m name) marks

unfoldable pub rescue_named : List Mark → ℕ → Option ℕ
rescue_named marks name = position (λ m. is_rescue m name) marks

abbrev pub number_of : Option Name → Option ℕ
number_of None = None
number_of (Some name) = Some name.name
