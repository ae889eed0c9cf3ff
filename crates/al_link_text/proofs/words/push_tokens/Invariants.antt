use Rattle.std.proofs.Common.{◌≡◌, ◌++◌, drop}
use Rattle.al_link_text.specs.Linked.{item_text}
use Rattle.al_link_text.proofs.words.push_tokens.Given as goal

abbrev pub invariant-loop-t : goal.invariant-loop-t
invariant-loop-t l = l.fn.text.items ++ item_text l.file l.own ≡ l.text.items ++ item_text l.file (drop l.t-index l.own)
