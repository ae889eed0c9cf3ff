-- Programs have few globals and string constants, and none of these is long.
use Rattle.std.specs.Prelude.{◌≡◌, ℕ, ◌≤◌, List, length}
use Rattle.al_tree.specs.declared.item.Tree.{Tree}
use Rattle.al_rules.specs.Outcome.{Good}
use Rattle.al_poly.specs.declared.instance.Instance.{Instance}
use Rattle.al_typed.specs.declared.program.Program.{Program}
use Rattle.al_typed.specs.Sound.{IsShort}
use Rattle.al_check.specs.Checked.{check}
use Rattle.al_front.specs.Accepted.{IsAccepted, IsRead}

pub record ProgramsAreShort : Type 0 where
  -- of the tree of a text, which has at most 256 instances
  pub program : (text : List ℕ) (tree : Tree) (is : List Instance) (p : Program) → IsRead text tree → length is ≤ 256 → check tree is ≡ Good p → IsShort p
  -- of a text that is accepted
  pub accepted : (text : List ℕ) (p : Program) → IsAccepted text p → IsShort p
