use Rattle.std.proofs.Common.{sym, ap, ◌∙◌, Ok}
use Rattle.std.proofs.lemmas.Result.{err_from_is_err_and}
use Rattle.al_store.proofs.Lives.{load-memory, word_at}
use Rattle.al_store.proofs.Calls.{access_within}
use Rattle.al_store.proofs.store.Store.load.Goals as goal

pub returns-in_err-from : goal.returns-in_err-from
returns-in_err-from c =
    let m = c.self.inside.memory.items in
    let word = load-memory m c.self.inside.region.blocks c.args.at c.args.size c.self.invariant.held ∙ ap (word_at m c.args.size) (sym c.access.ensures ∙ c.in_err-from.was) in
    let p = err_from_is_err_and c.from_residual.result c.from_residual.ensures.1 in
    rw (p.1, p.2, ← c.self.view_is) (sym word)

-- an access that has a place lies in the memory
pub get_word-requires-clause-within : goal.get_word-requires-clause-within
get_word-requires-clause-within c =
    let within = access_within c.self.inside.region c.self.inside.memory.items c.self.invariant.sound c.self.invariant.held c.args.at c.args.size c.in_ok-from.from (sym c.access.ensures ∙ c.in_ok-from.was) in
    rw (c.from.ensures, c.deref.ensures.value) within.2

pub returns : goal.returns
returns c =
    let m = c.self.inside.memory.items in
    let word = load-memory m c.self.inside.region.blocks c.args.at c.args.size c.self.invariant.held ∙ ap (word_at m c.args.size) (sym c.access.ensures ∙ c.in_ok-from.was) in
    let got = rw (c.from.ensures, c.deref.ensures.value) at c.get_word.ensures in
    rw (← c.self.view_is) (ap Ok got ∙ sym word)
