use Rattle.std.proofs.Common.{◌≡◌, ◌++◌, drop}
use Rattle.al_link_text.specs.Linked.{words}
use Rattle.al_link_text.proofs.words.push_words.Given as goal

abbrev pub invariant-loop-t : goal.invariant-loop-t
invariant-loop-t l = l.fn.text.items ++ words l.k l.file l.own ≡ l.text.items ++ words l.k l.file (drop l.t-index l.own)
