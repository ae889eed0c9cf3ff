-- A body marks what its names stand for.
use Rattle.std.proofs.Common.{ℕ, ◌<◌, false, subst, sym}
use Rattle.std.specs.Prelude.{length, replicate}
use Rattle.std.proofs.lemmas.List.{length-replicate}
use Rattle.al_shared.specs.Statements.{shared}
use Rattle.al_sound_shared.specs.Marked.{SharedAreMarked}
use Rattle.al_sound_shared.proofs.StatementWays.{statement_is}

room : (n count : ℕ) → n < count → n < length (replicate count false)
room n count lt = subst (λ l. n < l) (sym (length-replicate count false)) lt

pub shared_are_marked : SharedAreMarked
unfolding shared
shared_are_marked = record {
  outer = λ names round count body b e at n among in_it named is lt. (statement_is names round n body).inner b among e in_it at named is (replicate count false) (room n count lt);
  addressed = λ names round count body e at n in_it named is lt. (statement_is names round n body).own e in_it at named is (replicate count false) (room n count lt);
}
