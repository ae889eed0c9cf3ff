-- Each instance that a text needs has a type in the environment of the text.
use Rattle.std.specs.Prelude.{◌≡◌, ℕ, ◌≤◌, ◌^◌, List, length}
use Rattle.al_lex.specs.declared.token.Token.{Token}
use Rattle.al_lex.specs.Written.{IsCutInto}
use Rattle.al_tree.specs.declared.item.Tree.{Tree}
use Rattle.al_tree.specs.Tree.{IsTree}
use Rattle.al_rules.specs.Outcome.{Good}
use Rattle.al_scope.specs.declared.declaration.Scopes.{Scopes}
use Rattle.al_poly.specs.Instances.{instances}
use Rattle.al_declare.specs.Items.{names_hold}
use Rattle.al_environment.specs.declared.environment.Environment.{Environment}
use Rattle.al_build_environment.specs.Whole.{environment}
use Rattle.al_sound_calls.specs.Calls.{HasInstances}

-- the tree of a text of at most 2^20 bytes, with at most 256 instances, where no declaration breaks a rule of names
pub record IsTextOf (text : List ℕ) (tree : Tree) : Type 0 where
  pub tokens : List Token
  pub height : ℕ
  pub short : length text ≤ 2 ^ 20
  pub cut : IsCutInto text tokens
  pub is : IsTree (record { list = tokens; text = text }) tree height
  pub few : length (instances tree.items) ≤ 256
  pub named : names_hold tree ≡ Good tt

abbrev pub InstancesHaveTypes : Type 0
InstancesHaveTypes = (text : List ℕ) (tree : Tree) (scopes : Scopes) (env : Environment) → IsTextOf text tree → environment tree (instances tree.items) scopes ≡ Good env
    → HasInstances env (instances tree.items)
