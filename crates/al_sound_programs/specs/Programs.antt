-- The program of a text that the typing rules accept has sound types.
use Rattle.std.specs.Prelude.{◌≡◌, true, List}
use Rattle.al_tree.specs.declared.item.Tree.{Tree}
use Rattle.al_rules.specs.Outcome.{Good}
use Rattle.al_typed.specs.declared.program.Program.{Program}
use Rattle.al_typed.specs.Sound.{HasSoundTypes}
use Rattle.al_poly.specs.declared.instance.Instance.{Instance}
use Rattle.al_check.specs.Checked.{check}
use Rattle.al_tree_laws.specs.Unions.{tree_has_members}

pub record ProgramsAreSound : Type 0 where
  pub sound : (tree : Tree) (is : List Instance) (p : Program) → tree_has_members tree ≡ true → check tree is ≡ Good p → HasSoundTypes p
