-- What parsers of larger parts read of types: with at most that many levels.
use Rattle.std.specs.Prelude.{ℕ, nat_lt, true, false, if◌then◌else◌, List}
use Rattle.al_base.specs.declared.place.Place.{Place}
use Rattle.al_lex.specs.declared.token.Token.{Token}
use Rattle.al_tree.specs.Types.{Leaves}
use Rattle.al_tree.specs.Reading.{Parser, ◌>>=◌, ◌>>◌, pure, refuse, looks, take_if}
use Rattle.al_parse_type.specs.declared.part.Part.TheVariants as part
use Rattle.al_parse_type.specs.declared.part.ReadBase.{ReadBase}
use Rattle.al_parse_type.specs.declared.part.Want.TheVariants as want
use Rattle.al_parse_type.specs.Parse.{SizedType, SizedPart, begins_part, bound, type_at, type_after, starred_at, base_at, arguments_after, tuple_after, below}

module _ (leaves : Leaves) (types : List ℕ) (turns depth : ℕ) where
  -- atype
  abbrev pub type_within : Parser SizedType
  type_within = type_at leaves types turns depth (below leaves types turns depth) true

  -- base "*"*, where a tuple that is not inside chan( ) has its word
  abbrev pub starred_within : Parser SizedType
  starred_within = starred_at leaves types turns depth (below leaves types turns depth) false

  -- base
  abbrev pub base_within : Parser ReadBase
  base_within = base_at leaves types turns depth (below leaves types turns depth) true

  -- ("," atype)+ ")", behind "(" atype
  abbrev pub tuple_within : Place → SizedType → Parser ReadBase
  tuple_within = tuple_after leaves types turns depth (below leaves types turns depth) true

  -- "*"* ("[" bound "]")*, behind a base type that begins at that place
  abbrev pub type_behind : Place → ReadBase → Parser SizedType
  type_behind = type_after leaves types turns depth (below leaves types turns depth)

  -- what stands in brackets behind the name of a type, behind the one that opens: a type argument, which has one level less, or a bound
  unfoldable pub inside_within : Parser SizedPart
  inside_within = do
    begins ← looks (begins_part types true)
    if begins then (if nat_lt 0 depth then below leaves types turns depth want.Either else (take_if false >> refuse)) else (bound leaves types turns depth >>= (λ x. pure (part.Bound x.0, x.1)))

  -- ("," atype)* "]", behind TNAME "[" atype
  abbrev pub arguments_within : Token → SizedType → Parser ReadBase
  arguments_within = arguments_after leaves types turns depth (below leaves types turns depth) true
