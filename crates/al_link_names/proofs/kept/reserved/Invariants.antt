use Rattle.std.proofs.Common.{◌≡◌, find, drop}
use Rattle.al_link_text.specs.Files.{own_tokens}
use Rattle.al_link_names.specs.Reserved.{is_reserved}
use Rattle.al_link_names.proofs.kept.reserved.Given as goal

abbrev pub invariant-loop-t : goal.invariant-loop-t
invariant-loop-t l = find (is_reserved l.file) (own_tokens l.file) ≡ find (is_reserved l.file) (drop l.t-index (own_tokens l.file))
