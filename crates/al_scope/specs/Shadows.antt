-- What the names of entries stand for. The lists have the latest entry first.
use Rattle.std.specs.Prelude.{ℕ, ◌≡◌, ◌==◌, if◌then◌else◌, List, [], ◌∷◌, Option, Some, None}
use Rattle.al_scope.specs.declared.declaration.Declaration.{Declaration}
use Rattle.al_scope.specs.declared.known.Known.{Known}
use Rattle.al_scope.specs.declared.known.Entry.{Entry}

abbrev pub known_of : Entry → Known
known_of e = e.known

abbrev pub stands_for : List Entry → ℕ → Option Declaration
stands_for [] name = None
stands_for (e ∷ es) name = if e.known.name == name then Some e.known.declaration else stands_for es name

-- each entry tells what its name stood for before it
abbrev pub IsShadowing : List Entry → Type 0
IsShadowing [] = Unit {0}
IsShadowing (e ∷ es) = (e.before ≡ stands_for es e.known.name) × IsShadowing es

-- what names stand for, once one of them stands for that
abbrev pub put_at : ℕ → Option Declaration → (ℕ → Option Declaration) → ℕ → Option Declaration
put_at name declaration others q = if name == q then declaration else others q
