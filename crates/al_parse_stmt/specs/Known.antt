-- What the items so far declared, as the parser keeps it.
use Rattle.std.specs.Prelude.{◌≡◌, ◌≢◌, ℕ, ◌==◌, if◌then◌else◌, List, [], ◌∷◌, ◌++◌, Result, Ok, Err}
use Rattle.al_lex.specs.declared.token.Token.{Token}
use Rattle.al_tree.specs.Items.{Parametrised, Declared}
use Rattle.al_tree.specs.Reading.{Outcome}
use Rattle.al_tree.specs.declared.cursor.ParseError.{ParseError}
use Rattle.al_tree.specs.declared.cursor.ParseError.TheVariants.{NoMemory}
use Rattle.al_tree.specs.declared.item.Item.{Item}
use Rattle.al_parse_stmt.specs.declared.known.AdtParameters.{AdtParameters}
use Rattle.al_parse_stmt.specs.declared.known.Known.{Known}
use Rattle.al_parse_stmt.specs.Parse.{ReadItem}

abbrev pub parametrised : AdtParameters → Parametrised
parametrised x = record { adt = x.adt; parameters = x.parameters }

-- the adts, the last first
abbrev pub adts_of : List AdtParameters → List Parametrised
adts_of [] = []
adts_of (x ∷ xs) = adts_of xs ++ parametrised x ∷ []

-- the same with an adt's parameters, whose name is declared
abbrev pub with_own : ℕ → List ℕ → Declared → Declared
with_own n names d = record { types = d.types; adts = record { adt = n; parameters = names } ∷ d.adts }

-- its parameters before others, if it has that name
abbrev pub parameters_before : AdtParameters → ℕ → List ℕ → List ℕ
parameters_before x n others = if x.adt == n then x.parameters ++ others else others

abbrev pub declared_of : Known → Declared
declared_of known = record { types = known.types; adts = adts_of known.adts }

-- what a function ensures that reads an item and keeps what it declares, unless memory runs out
abbrev pub ReadsItem : Outcome ReadItem → Result (Item × ℕ) ParseError → Known → List Token → Type 0
ReadsItem outcome (Ok x) known new = outcome ≡ Ok (record { item = x.0; after = declared_of known; height = x.1 }, new)
ReadsItem outcome (Err e) known new = e ≢ NoMemory → outcome ≡ Err e

-- what a function ensures that declares names for a while, unless memory runs out
abbrev pub Restores : {A : Type 0} → Result A ParseError → Declared → Declared → Type 0
Restores (Ok a) old new = new ≡ old
Restores (Err e) old new = e ≢ NoMemory → new ≡ old
