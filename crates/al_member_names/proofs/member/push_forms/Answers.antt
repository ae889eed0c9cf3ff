use Rattle.std.proofs.Common.{◌≡◌, ◌+◌, List, drop, ap, ◌∙◌}
use Rattle.al_rules.specs.Outcome.{Outcome, and_then}
use Rattle.al_environment.specs.declared.environment.MemberNames.{MemberNames}
use Rattle.al_member_names.specs.Members.{with_forms}
use Rattle.al_member_names.proofs.MembersAre.{forms-from}
use Rattle.al_member_names.proofs.member.push_forms.Goals as goal

pub loop-k-preserved : goal.loop-k-preserved
loop-k-preserved c =
    c.loop-k.invariant
    ∙ forms-from c.args.forms.now c.args.numbers.now c.args.own.now c.loop-k.names c.args.list.now c.loop-k.k-index c.loop-k-test.true
    ∙ ap (λ (o : Outcome (List MemberNames)). and_then o (λ more. with_forms c.args.forms.now c.args.numbers.now c.args.own.now more (drop (c.loop-k.k-index + 1) c.args.list.now))) c.in_ok-push_form.ensures
