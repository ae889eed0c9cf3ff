use Rattle.std.proofs.Common.{◌∙◌, List, ℕ, ap, drop}
use Rattle.al_walk_cases.proofs.Branches.{send_made, two_taken}
use Rattle.al_walk_cases.proofs.alts.send_branch.Goals as goal

pub returns-clause-branch : goal.returns-clause-branch
returns-clause-branch c =
    send_made c.branch_on.result c.args.p.now c.args.ty.now c.first_word-chan.result c.first_value-sent.result c.args.values.now c.first_word-chan.new.values
    c.first_word-chan.ensures.word c.first_word-chan.ensures.rest c.first_value-sent.ensures.value c.branch_on.ensures

pub returns-clause-rest : goal.returns-clause-rest
returns-clause-rest c =
    c.first_value-sent.ensures.rest ∙ ap (λ (l : List (List ℕ)). drop 1 l) c.first_word-chan.ensures.rest ∙ two_taken c.args.values.now
