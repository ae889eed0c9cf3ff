use Rattle.std.proofs.Common.{◌≡◌, ◌∙◌}
use Rattle.al_type_function.specs.declared.branch.NumberedBranch.{NumberedBranch}
use Rattle.al_type_function.specs.Branches.{inner_site}
use Rattle.al_type_function.proofs.SitesAre.{of_ok}
use Rattle.al_type_function.proofs.branches.+branches.Goals as goal

pub branch-returns-clause-same : goal.branch-returns-clause-same
branch-returns-clause-same t c =
    let entered = of_ok (λ (b : NumberedBranch). c.typed_branch-next.new.site ≡ inner_site c.args.env.now c.args.names.now c.args.site.now c.args.s.now b.number) c.typed_branch-next.result c.in_ok-done.next c.in_ok-done.ensures.both.1 c.typed_branch-next.ensures.entered in
    c.leave.ensures c.args.site.now _ _ (c.in_ok-done-3.ensures.same ∙ entered)
