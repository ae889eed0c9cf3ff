-- Types by names and instances, one more.
use Rattle.std.proofs.Common.{◌≡◌, ℕ, ◌+◌, List, [], ◌∷◌, ◌++◌, refl, append_assoc, arith}
use Rattle.std.proofs.lemmas.List.{append-nil}
use Rattle.std.proofs.lemmas.List.FromFn.{map-range_with_len_more}
use Rattle.al_poly.specs.declared.names.Names.{Names}
use Rattle.al_form.specs.declared.form.Forms.{Forms}
use Rattle.al_layout.proofs.Fronts.{flat_here, flat_end}
use Rattle.al_build_types.specs.Built.{named, types}

pub types-none : (fs : Forms) (ns : List ℕ) (names : Names) → types fs ns names 0 ≡ []
unfolding types
types-none fs ns names = refl

pub types-more : (fs : Forms) (ns : List ℕ) (names : Names) (n : ℕ) → types fs ns names (n + 1) ≡ types fs ns names n ++ named fs ns names n ∷ []
unfolding types
types-more fs ns names n = map-range_with_len_more (named fs ns names) 0 n n (omega arith)

pub ruleset ranges_are = (types-none, types-more)

pub ruleset instances_are = (flat_here, flat_end, append_assoc, append-nil)
