-- Lists from the other end.
use Rattle.std.proofs.lemmas.List.{reverse-reverse}

pub ruleset reversed = (reverse-reverse)
