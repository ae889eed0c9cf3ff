-- What a declaration begins with, as the grammar has it: a base type, stars and a name.
use Rattle.std.proofs.Common.{◌≡◌, ℕ, Bool, true, false, List, [], ◌∷◌, ◌++◌, Option, Some, None}
use Rattle.al_lex.specs.declared.token.Token.{Token}
use Rattle.al_tree.specs.Words.{start}
use Rattle.al_tree.specs.Types.{Leaves, known, with_names, IsTypeName, IsOtherName, AreStars}
use Rattle.al_tree.specs.Items.{Declared, parameters_of}
use Rattle.al_tree.specs.Reading.{kind}
use Rattle.al_parse_type.proofs.TypeLaw.{LBase}
use Rattle.al_parse_stmt.specs.Ahead.{some_parameters, inside_of}
use Rattle.al_parse_stmt.specs.Begun.{Begun, lends, may_be, agrees}

-- which name may follow where the parameters of that adt are types before it
abbrev pub NameIs : Leaves → Declared → Option ℕ → Bool → Token → Type 0
NameIs leaves d owner true t = IsTypeName leaves d.types t × (may_be owner t.name ≡ true)
NameIs leaves d owner false t = IsOtherName leaves d.types t × (owner ≡ None)

-- what a declaration begins with, where the parameters of that adt are types in the base type
pub record IsBegun (leaves : Leaves) (d : Declared) (owner : Option ℕ) (u : List Token) (x : Begun) : Type 0 where
  pub front : List Token
  pub starred : List Token
  pub cut : u ≡ front ++ (starred ++ x.1.name ∷ [])
  pub base : LBase leaves (with_names d.types (inside_of d owner)) true front x.0
  pub stars : AreStars leaves d.types starred x.1.stars
  pub place : start (starred ++ x.1.name ∷ []) ≡ x.1.at
  pub name : NameIs leaves d owner x.1.owned x.1.name

-- what is known of the token behind it
abbrev pub Agrees : Declared → Option ℕ → Begun → List Token → Type 0
Agrees d owner x r = x.1.owned ≡ true → agrees owner (lends d x.1.name.name (kind r)) ≡ true

-- an adt whose parameters may be types before its name has some, and its name is a type's
abbrev pub OwnerFits : Declared → Option ℕ → Type 0
OwnerFits d None = Unit {0}
OwnerFits d (Some n) = (known d.types n ≡ true) × (some_parameters (parameters_of d.adts n) ≡ true)
