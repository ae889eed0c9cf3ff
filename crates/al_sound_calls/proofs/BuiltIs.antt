-- What an environment is built from.
use Rattle.std.proofs.Common.{◌≡◌, List}
use Rattle.al_tree.specs.declared.item.Tree.{Tree}
use Rattle.al_rules.specs.Outcome.{Good, and_then}
use Rattle.al_scope.specs.declared.declaration.Scopes.{Scopes}
use Rattle.al_poly.specs.declared.instance.Instance.{Instance}
use Rattle.al_environment.specs.declared.environment.Environment.{Environment}
use Rattle.al_environment.specs.declared.environment.MemberNames.{MemberNames}
use Rattle.al_form.specs.Forms.{forms}
use Rattle.al_layout.specs.declared.row.LaidOut.{LaidOut}
use Rattle.al_layout.specs.Rows.{laid_out}
use Rattle.al_declare.specs.Functions.{functions}
use Rattle.al_member_names.specs.declared.function.OwnFunction.{OwnFunction}
use Rattle.al_member_names.specs.Members.{member_names}
use Rattle.al_adt_functions.specs.Functions.{functions as own_functions}
use Rattle.al_globals.specs.Numbers.{numbers}
use Rattle.al_globals.specs.declared.found.Found.{Found}
use Rattle.al_globals.specs.Globals.{globals}
use Rattle.al_build_environment.specs.Whole.{checked, environment, globals_of, laid_whole, named, names_of, types_faults, types_of, whole, with_names}
use Rattle.al_sound_calls.proofs.Lists.{judged_good, then_good}

pub record IsBuilt (tree : Tree) (is : List Instance) (scopes : Scopes) (env : Environment) : Type 0 where
  pub laid : LaidOut
  pub laid_is : laid_out (forms tree is) ≡ Good laid
  pub own : List (List OwnFunction)
  pub own_is : own_functions (types_of tree (forms tree is) scopes laid) tree.items (functions tree.items is) (forms tree is) laid.numbers ≡ Good own
  pub names : List MemberNames
  pub names_are : member_names (forms tree is) laid.numbers laid.forms own ≡ Good names
  pub found : Found
  pub found_is : globals (types_of tree (forms tree is) scopes laid) tree (numbers tree.names tree.items (functions tree.items is)) ≡ Good found
  pub made : with_names (types_of tree (forms tree is) scopes laid) names found ≡ env

pub is_built : (tree : Tree) (is : List Instance) (scopes : Scopes) (env : Environment) → environment tree is scopes ≡ Good env → IsBuilt tree is scopes env
unfolding environment whole checked
is_built tree is scopes env h =
    let fs = forms tree is in
    let defined = functions tree.items is in
    let a = then_good (laid_out fs) (laid_whole tree scopes defined fs) env h in
    let laid = a.0 in
    let types = types_of tree fs scopes laid in
    let b = then_good (names_of types tree defined fs laid.forms laid.numbers) (λ names. and_then (globals_of types tree defined) (named types names)) env a.2 in
    let c = then_good (own_functions types tree.items defined fs laid.numbers) (member_names fs laid.numbers laid.forms) b.0 b.1 in
    let d = then_good (globals_of types tree defined) (named types b.0) env b.2 in
    let made = with_names types b.0 d.0 in
    let j = judged_good (types_faults made) made env d.2 in
    record {
      laid = laid;
      laid_is = a.1;
      own = c.0;
      own_is = c.1;
      names = b.0;
      names_are = c.2;
      found = d.0;
      found_is = d.1;
      made = j.1;
    }
