-- The types of a row, by its two spellings.
use Rattle.std.proofs.Common.{◌≡◌, List, [], sym, ap, ◌∙◌}
use Rattle.al_typed.specs.declared.ty.Ty.{Ty, Tuple', Row_of-Ty, items-the_row-Ty, items_hidden-the_row-Ty-1}
use Rattle.al_typed.specs.declared.ty.Ty.TheVariants as ty
use Rattle.al_typed.specs.declared.ty.Ty.TheViews.{out-Ty, roll-out-Ty}
use Rattle.al_typed.specs.declared.ty.Ty.TheBlock.{shown-the_row-Ty-1}
use denote.Hole.Carrier.{out}

abbrev tuple_items : Ty → List Ty
tuple_items (Tuple' _ r) = items-the_row-Ty _ r
tuple_items _ = []

pub tuple_rolls : (s : _) (r : Row_of-Ty _) → Tuple' s r ≡ ty.Tuple (shown-the_row-Ty-1 s r)
unfolding out-Ty out
tuple_rolls s r = sym (roll-out-Ty (Tuple' s r)) ∙ ty.rolls-Tuple (shown-the_row-Ty-1 s r)

pub items_are : (s : _) (r : Row_of-Ty _) → items-the_row-Ty _ r ≡ shown-the_row-Ty-1 s r
items_are s r = ap tuple_items (tuple_rolls s r) ∙ items_hidden-the_row-Ty-1 (shown-the_row-Ty-1 s r)
