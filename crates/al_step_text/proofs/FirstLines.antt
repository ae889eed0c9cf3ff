-- The line of the first item of a frame.
use Rattle.std.proofs.Common.{◌≡◌, ℕ, ◌-◌, ◌<◌, List, length, reverse, map, get_or, ap, subst, arith}
use Rattle.std.specs.Prelude.{slice_get}
use Rattle.al_control.specs.declared.control.Item.{Item}
use Rattle.al_control.specs.Models.{item_of}
use Rattle.al_step_text.specs.Frames.{first_line}
use Rattle.al_step_text.proofs.FirstItems.{mapped_is}

pub line_is : (line : ℕ) (xs ys : List Item) (x : Item) → ys ≡ reverse xs → 0 < length ys → x ≡ get_or ys (length ys - 1) x → first_line line (slice_get (map item_of xs) 0) ≡ x.line
line_is line xs ys x e l is =
    let last : length ys - 1 ≡ length ys - 1 - 0 = omega arith in
    ap (first_line line) (mapped_is item_of xs ys 0 x e l (subst (λ n. x ≡ get_or ys n x) last is))

pub ruleset lines_are = (line_is)
