-- Two lists of types, from a place on.
use Rattle.std.proofs.lemmas.List.{drop_all}
use Rattle.al_poly.proofs.ConcreteIs.{same_list-from, same_list-length}

pub ruleset lists = (same_list-from, same_list-length, drop_all)
