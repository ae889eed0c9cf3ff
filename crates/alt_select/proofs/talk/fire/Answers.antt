use Rattle.std.proofs.Common.{◌≡◌, List, ℕ, Option, slice_get, option_and_then, eqb, get_or, subst, subst₂, sym, ap, ◌∙◌}
use Rattle.al_event.specs.declared.act.Branch.{Branch}
use Rattle.al_world.specs.Channels.{Pair, channel, pairs_at, ready}
use Rattle.al_world.specs.Talks.{goes_with}
use Rattle.alt_select.specs.Answer.{IsFired, CanGo}
use Rattle.alt_select.specs.Place.{IsPairAt}
use Rattle.alt_select.proofs.Picks.{can_go, read_branch}
use Rattle.alt_select.proofs.talk.fire.Goals as goal

pub go-requires : goal.go-requires
go-requires c =
    let book = c.args.book.now.book in
    let bs = c.args.branches in
    let number = c.locate-number.result.0 in
    let place = c.locate-number.result.1 in
    let x = c.swap_remove-branch.result in
    let at : IsPairAt book bs c.args.pick number place = subst₂ (λ (l : List Branch) (n : ℕ). IsPairAt book l n number place) c.as_slice.ensures.value c.from.ensures c.locate-number.ensures in
    let read : x ≡ at.branch = read_branch bs number at.branch x at.is (subst (λ (l : List Branch). x ≡ get_or l number x) c.into_vec-branches.ensures c.swap_remove-branch.ensures.value) in
    subst (λ (b : Branch). CanGo book b place) (sym read) (can_go book bs c.args.pick number place at c.requires.usable c.requires.pick)

pub returns-clause-fired : goal.returns-clause-fired
returns-clause-fired c =
    let book = c.args.book.now.book in
    let bs = c.args.branches in
    let number = c.locate-number.result.0 in
    let place = c.locate-number.result.1 in
    let x = c.swap_remove-branch.result in
    let at : IsPairAt book bs c.args.pick number place = subst₂ (λ (l : List Branch) (n : ℕ). IsPairAt book l n number place) c.as_slice.ensures.value c.from.ensures c.locate-number.ensures in
    let read : x ≡ at.branch = read_branch bs number at.branch x at.is (subst (λ (l : List Branch). x ≡ get_or l number x) c.into_vec-branches.ensures c.swap_remove-branch.ensures.value) in
    let pairs : slice_get (pairs_at book.waiting number x (channel book.channels x.chan)) place ≡ slice_get (ready book bs) c.args.pick = ap (λ (b : Branch). slice_get (pairs_at book.waiting number b (channel book.channels b.chan)) place) read ∙ sym at.pair in
    subst (λ (o : Option (Pair ℕ)). IsFired (option_and_then (λ (p : Pair ℕ). goes_with eqb book c.args._task p.number p.branch p.partner) o) c.go.new.book.book c.go.result) pairs (c.go.ensures.gone c.args._task)
