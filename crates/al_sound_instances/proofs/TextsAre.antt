-- Each instance of a text has a type in its environment.
use Rattle.std.proofs.Common.{ℕ, ◌+◌, ◌<◌, ◌≤◌, List, length, arith, subst}
use Rattle.al_tree.specs.declared.item.Tree.{Tree}
use Rattle.al_poly.specs.Instances.{instances}
use Rattle.al_environment.specs.declared.environment.Environment.{Environment}
use Rattle.al_sound_calls.specs.Calls.{HasInstances}
use Rattle.al_sound_calls.proofs.BuiltIs.{is_built}
use Rattle.al_sound_instances.specs.Instances.{InstancesHaveTypes, IsTextOf}
use Rattle.al_sound_instances.proofs.TokensAre.{tokens_few}
use Rattle.al_sound_instances.proofs.Counts.{all_forms, forms_are_few}
use Rattle.al_sound_instances.proofs.NamesAre.{names_are_numbered}
use Rattle.al_sound_instances.proofs.InstancesAre.{instances_typed}

forms_small : (text : List ℕ) (tree : Tree) → IsTextOf text tree → all_forms tree.items ≤ 1048577
forms_small text tree t =
    let few : all_forms tree.items < length t.tokens = forms_are_few (record { list = t.tokens; text = text }) tree t.height t.is in
    let count : length t.tokens ≤ length text + 1 = tokens_few text t.tokens t.cut in
    let short : length text ≤ 1048576 = t.short in
    omega (arith, few, count, short)

pub instances_have_types : InstancesHaveTypes
instances_have_types text tree scopes env t e =
    let b = is_built tree (instances tree.items) scopes env e in
    subst (λ (u : Environment). HasInstances u (instances tree.items)) b.made
    (instances_typed tree b.laid b.laid_is t.few (forms_small text tree t) (names_are_numbered text t.tokens tree t.height t.cut t.is) t.named)
