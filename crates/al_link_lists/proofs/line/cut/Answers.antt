use Rattle.std.proofs.Common.{◌≡◌, ◌+◌, ℕ, List, length, ap, ◌∙◌, arith}
use Rattle.std.specs.Prelude.{◌==◌}
use Rattle.std.specs.List.{position_from}
use Rattle.al_link_lists.proofs.Cuts.{position_behind, parts_at}
use Rattle.al_link_lists.proofs.line.cut.Goals as goal

pub returns-in_err-place-clause-only : goal.returns-in_err-place-clause-only
returns-in_err-place-clause-only c = λ a b no e.
    absurd (let found = c.in_err-place.ensures.place ∙ ap (λ (v : List ℕ). position_from (λ byte. byte == c.args.at) 0 v) e ∙ position_behind a b c.args.at 0 no in cc)

pub returns-clause-only : goal.returns-clause-only
returns-clause-only c = λ a b no e.
    let found = c.in_ok-place.ensures.place ∙ ap (λ (v : List ℕ). position_from (λ byte. byte == c.args.at) 0 v) e ∙ position_behind a b c.args.at 0 no in
    let place : c.in_ok-place.place ≡ 0 + length a = cc in
    parts_at c.args.bytes.now a b c.args.at c.in_ok-place.place e (omega arith)
