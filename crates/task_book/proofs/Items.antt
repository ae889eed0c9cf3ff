-- Elements by their place.
use Rattle.std.proofs.Common.{◌≡◌, ◌<◌, ℕ, length, get_or, List, Some, None, sym, ap, ◌∙◌, slice_get}
use Rattle.std.specs.Borrow.{Bor}
use Rattle.std.specs.Slice.{IsItemAt}
use Rattle.std.proofs.lemmas.Option.{slice_get-get_or, slice_get_past}

pub item_get : {X : Type 0} (xs : List X) (i : ℕ) (b : Bor X) → IsItemAt xs i (Some b) → slice_get xs i ≡ Some b.now
item_get xs i b h = slice_get-get_or xs i b.now h.3.0 ∙ ap Some (sym (h.3.1 b.now))

pub item_none : {X : Type 0} (xs : List X) (i : ℕ) → IsItemAt xs i None → slice_get xs i ≡ None
item_none xs i h = slice_get_past xs i h.3

pub item_index : {X : Type 0} (xs : List X) (i : ℕ) (x : X) → i < length xs → x ≡ get_or xs i x → slice_get xs i ≡ Some x
item_index xs i x lt e = slice_get-get_or xs i x lt ∙ ap Some (sym e)
