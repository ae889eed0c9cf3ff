use Rattle.std.proofs.Common.{◌≡◌, true, false, ◌∙◌, rules}
use Rattle.al_opening.proofs.Placed.{first_only, both, as_placed, as_full}
use Rattle.al_opening.proofs.store.put_blocks.Goals as goal

pub returns-then-not-placed-clause-placed : goal.returns-then-not-placed-clause-placed
returns-then-not-placed-clause-placed c =
    let no : c.in_ok-placed.placed ≡ false = search rules in
    first_only c.args.p.now _ c.as_slice.result.now _ c.as_slice.ensures.value (λ rest. c.in_ok-placed.ensures.placed rest ∙ as_full _ no _ _ _)

pub returns-clause-placed : goal.returns-clause-placed
returns-clause-placed c =
    let yes : c.in_ok-placed.placed ≡ true = search rules in
    both c.args.p.now _ _ c.as_slice.result.now c.as_slice-2.result.now _ _ _ c.in_ok-placed-2.placed c.as_slice.ensures.value c.as_slice-2.ensures.value c.in_ok-placed.ensures.region (λ rest. c.in_ok-placed.ensures.placed rest ∙ as_placed _ yes _ _ _) c.in_ok-placed-2.ensures.placed
