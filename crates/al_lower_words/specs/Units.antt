-- Words of units.
use Rattle.std.specs.Prelude.{◌≡◌, ℕ, List}
use Rattle.al_typed.specs.declared.layout.Unit.{Unit}
use Rattle.al_meaning.specs.Words.{fitted_to}

abbrev pub AreOf : List Unit → List ℕ → Type 0
AreOf units words = fitted_to units words ≡ words
