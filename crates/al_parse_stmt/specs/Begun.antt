-- The parser of what a declaration begins with: a base type, and the stars and the name of the first declarator.
--
-- The parameters of an adt may stand as types in the base type, before the adt's name does. So a declaration is read in several ways:
-- without parameters, and with those of each adt, which has to be the one that its first declarator names with a bracket. What is read
-- is read in one way alone. Where there is none, the fault is at the token that is furthest on, and too deep there only if some way goes on
-- with that token.
use Rattle.std.specs.Prelude.{ℕ, zero, suc, ◌+◌, ◌-◌, ◌==◌, min, Bool, true, false, not, if◌then◌else◌, List, [], ◌∷◌, ◌++◌, length, take, Option, Some, None, Ok, Err}
use Rattle.al_base.specs.declared.place.Place.{Place}
use Rattle.al_lex.specs.declared.kind.TokenKind.{TokenKind}
use Rattle.al_lex.specs.declared.kind.TokenKind.TheVariants as k
use Rattle.al_lex.specs.declared.token.Token.{Token}
use Rattle.al_tree.specs.Types.{Leaves, with_names}
use Rattle.al_tree.specs.Items.{Parametrised, Declared, parameters_of}
use Rattle.al_tree.specs.Reading.{Outcome, Parser, ◌>>=◌, pure, refuse, name_number, same_kind, looks, peek, here, take_if}
use Rattle.al_tree.specs.declared.cursor.ParseError.{ParseError}
use Rattle.al_tree.specs.declared.cursor.ParseError.TheVariants.{NoMemory, Stuck, Deep}
use Rattle.al_parse_type.specs.declared.part.ReadBase.{ReadBase}
use Rattle.al_parse_type.specs.Parse.{sees_type_name, other_name, stars_from}
use Rattle.al_parse_type.specs.Within.{base_within}
use Rattle.al_parse_stmt.specs.declared.heads.FirstName.{FirstName}
use Rattle.al_parse_stmt.specs.Ahead.{some_parameters, inside_of}

abbrev pub Begun : Type 0
Begun = ReadBase × FirstName

-- whether the parameters of the adt of that name are types from its bracket on
abbrev pub lends : Declared → ℕ → TokenKind → Bool
lends d n next = if same_kind next k.LeftBracket then some_parameters (parameters_of d.adts n) else false

-- which adt's name may come where the parameters of that adt are types before it
abbrev pub may_be : Option ℕ → ℕ → Bool
may_be None n = true
may_be (Some owner) n = n == owner

abbrev pub agrees : Option ℕ → Bool → Bool
agrees None lent = not lent
agrees (Some owner) lent = lent

abbrev pub first_name : Place → ℕ → Token → Bool → FirstName
first_name at stars n owned = record { at = at; stars = stars; name = n; owned = owned }

-- the names of the adts with parameters, the first first
abbrev pub owners : List Parametrised → List ℕ
owners [] = []
owners (a ∷ rest) = owners rest ++ a.adt ∷ []

-- how many tokens are left with the one that a fault names
abbrev pub left_with : ParseError → ℕ
left_with NoMemory = 0
left_with (Stuck n) = n
left_with (Deep n) = n + 1

abbrev pub nearer : ParseError → ℕ → ℕ
nearer e n = min (left_with e) n

abbrev pub less_left : Outcome Begun → ℕ → ℕ
less_left (Ok x) n = n
less_left (Err e) n = nearer e n

-- the least of that and of what the faults of these ways leave
unfoldable pub least_left : (Option ℕ → Outcome Begun) → List ℕ → ℕ → ℕ
least_left f [] n = n
least_left f (x ∷ xs) n = least_left f xs (less_left (f (Some x)) n)

-- the tokens up to and with the one that leaves so many
abbrev pub up_to : ℕ → List Token → List Token
up_to left ts = take (length ts - (left - 1)) ts

-- whether the tokens are read or can go on
abbrev pub can_go_on : Outcome Begun → Bool
can_go_on (Ok x) = true
can_go_on (Err (Stuck zero)) = true
can_go_on (Err e) = false

-- whether a way goes on with the token that leaves so many, by its outcome and by the one of the tokens up to there with more levels
abbrev pub alive_by : ℕ → Outcome Begun → Outcome Begun → Bool
alive_by left (Err (Deep m)) deeper = if m + 1 == left then true else can_go_on deeper
alive_by left o deeper = false

unfoldable pub some_alive : (Option ℕ → Bool) → List ℕ → Bool
some_alive f [] = false
some_alive f (x ∷ xs) = if f (Some x) then true else some_alive f xs

-- the fault at the token that leaves so many
abbrev pub fault_at : ℕ → Bool → ParseError
fault_at zero alive = Stuck 0
fault_at (suc n) true = Deep n
fault_at (suc n) false = Stuck (suc n)

module _ (d : Declared) (turns : ℕ) (owner : Option ℕ) where
  unfoldable pub lender : Place → ℕ → Parser FirstName
  lender at stars = do
    a ← take_if true
    next ← peek
    if agrees owner (lends d a.name next) then pure (first_name at stars a true) else refuse

  unfoldable pub adt_name : Place → ℕ → Parser FirstName
  adt_name at stars = do
    fits ← looks (λ ts. may_be owner (name_number ts))
    if fits then lender at stars else refuse

  abbrev pub new_name : Option ℕ → Place → ℕ → Parser FirstName
  new_name None at stars = do
    n ← other_name d.types
    pure (first_name at stars n false)
  new_name (Some n) at stars = refuse

  -- the stars and the name of the first declarator, where the parameters of that adt are types before it
  unfoldable pub begins : Parser FirstName
  begins = do
    at ← here
    stars ← stars_from turns 0
    is_type ← looks (sees_type_name d.types)
    if is_type then adt_name at stars else new_name owner at stars

unfoldable pub begun_as : Leaves → ℕ → ℕ → Declared → Option ℕ → Parser Begun
begun_as leaves turns depth d owner = do
  b ← base_within leaves (with_names d.types (inside_of d owner)) turns depth
  y ← begins d turns owner
  pure (b, y)

-- the same with as many levels as tokens may be left
abbrev pub deeper_as : Leaves → ℕ → Declared → Option ℕ → Parser Begun
deeper_as leaves turns d owner = begun_as leaves turns (turns - 1) d owner

-- ---- the fault of tokens that are read in no way

module _ (leaves : Leaves) (turns depth : ℕ) (d : Declared) (ts : List Token) where
  -- how many tokens the fault furthest on leaves, where some way has that fault
  unfoldable pub least : ParseError → ℕ
  least e = least_left (λ owner. begun_as leaves turns depth d owner ts) (owners d.adts) (less_left (begun_as leaves turns depth d None ts) (nearer e (length ts)))

  abbrev pub alive : ℕ → Option ℕ → Bool
  alive left owner = alive_by left (begun_as leaves turns depth d owner ts) (deeper_as leaves turns d owner (up_to left ts))

  -- whether some way goes on with the token that leaves so many
  unfoldable pub any_alive : ℕ → Bool
  any_alive left = if alive left None then true else some_alive (alive left) (owners d.adts)
