-- Where the adt of a result's type is found. The parameters of the adt may stand as types before its name does, so the base type
-- and the stars are passed by their brackets first.
use Rattle.std.specs.Prelude.{ℕ, zero, suc, pred, Bool, true, false, if◌then◌else◌, List, [], ◌∷◌, Option, Some, None, Ok, Err}
use Rattle.al_lex.specs.declared.kind.TokenKind.{TokenKind}
use Rattle.al_lex.specs.declared.kind.TokenKind.TheVariants as k
use Rattle.al_lex.specs.declared.token.Token.{Token}
use Rattle.al_tree.specs.Items.{Declared, parameters_of}
use Rattle.al_tree.specs.Reading.{Outcome, Parser, ◌>>=◌, ◌>>◌, pure, refuse, same_kind, peek, take_if}
use Rattle.al_parse_type.specs.Parse.{stars_from}
use Rattle.al_parse_member.specs.Parameters.{type_name}

-- how many brackets are open behind that token
abbrev pub still_open : TokenKind → ℕ → ℕ
still_open k.LeftParen n = suc n
still_open k.LeftBracket n = suc n
still_open k.RightParen n = pred n
still_open k.RightBracket n = pred n
still_open _ n = n

-- up to where none of so many brackets is open
unfoldable pub pass_open : ℕ → ℕ → Parser ℕ
pass_open zero n = refuse
pass_open (suc turns) zero = pure 0
pass_open (suc turns) (suc n) = do
  t ← take_if true
  pass_open turns (still_open t.kind (suc n))

-- what stands in brackets that open so, or nothing
unfoldable pub pass_group : ℕ → TokenKind → Parser ℕ
pass_group turns opening = do
  next ← peek
  if same_kind next opening then (take_if true >> pass_open turns 1) else pure 0

-- a base type
abbrev pub pass_base_by : ℕ → TokenKind → Parser ℕ
pass_base_by turns k.LeftParen = pass_group turns k.LeftParen
pass_base_by turns k.Tuple = take_if true >> pass_group turns k.LeftParen
pass_base_by turns k.Chan = take_if true >> (pass_group turns k.LeftParen >> pass_group turns k.LeftBracket)
pass_base_by turns k.Name = take_if true >> pass_group turns k.LeftBracket
pass_base_by turns _ = take_if true >> pure 0

unfoldable pub pass_base : ℕ → Parser ℕ
pass_base turns = peek >>= pass_base_by turns

-- the number of the adt's name with a bracket behind it, past a base type and stars
unfoldable pub owner_ahead : List ℕ → ℕ → Parser ℕ
owner_ahead types turns = do
  pass_base turns
  stars_from turns 0
  a ← type_name types
  next ← peek
  if same_kind next k.LeftBracket then pure a.name else refuse

abbrev pub some_parameters : List ℕ → Bool
some_parameters [] = false
some_parameters (n ∷ ns) = true

abbrev pub owner_by : Declared → Outcome ℕ → Option ℕ
owner_by d (Ok x) = if some_parameters (parameters_of d.adts x.0) then Some x.0 else None
owner_by d (Err e) = None

-- the adt with parameters that the first declarator behind a base type names with a bracket, where there is one
unfoldable pub owner_of : Declared → ℕ → List Token → Option ℕ
owner_of d turns ts = owner_by d (owner_ahead d.types turns ts)

-- the names that may stand as types in the type of a result, where its function is one of that adt
abbrev pub inside_of : Declared → Option ℕ → List ℕ
inside_of d None = []
inside_of d (Some n) = parameters_of d.adts n
