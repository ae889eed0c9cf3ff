use Rattle.std.proofs.Common.{◌≡◌, fold, drop}
use Rattle.al_link_text.specs.Items.{with_declarator}
use Rattle.al_link_text.proofs.items.add_declarators.Given as goal

abbrev pub invariant-loop-declarator : goal.invariant-loop-declarator
invariant-loop-declarator l = fold with_declarator l.fn.names l.list ≡ fold with_declarator l.names (drop l.declarator-index l.list)
