-- The log's line of a text that is refused.
use Rattle.std.specs.Prelude.{ℕ, List, ◌++◌, codes, decimal}
use Rattle.al_base.specs.declared.place.Place.{Place}
use Rattle.al_lex.specs.declared.fault.LexReason.{LexReason}
use Rattle.al_lex.specs.declared.fault.LexReason.TheVariants.{BadChar, OpenComment, OpenString, BadEscape, NumberTooBig}
use Rattle.al_tree.specs.declared.fault.ParseReason.{ParseReason}
use Rattle.al_tree.specs.declared.fault.ParseReason.TheVariants.{Unexpected, EndOfText, Deep}
use Rattle.al_type_limits.specs.declared.limit.TypeLimit.{TypeLimit}
use Rattle.al_type_limits.specs.declared.limit.TypeLimit.TheVariants.{Depth, Parts}
use Rattle.al_typed.specs.declared.limit.Limit.{Limit}
use Rattle.al_typed.specs.declared.limit.Limit.TheVariants.{Long, Instances, Wide, Weight, FunctionWeight, Slots}
use Rattle.al_front.specs.declared.refused.Refused.{Refused}
use Rattle.al_front.specs.declared.refused.Refused.TheVariants as because

-- ---- names

abbrev pub lex_name : LexReason → List ℕ
lex_name BadChar = codes "BadChar"
lex_name OpenComment = codes "OpenComment"
lex_name OpenString = codes "OpenString"
lex_name BadEscape = codes "BadEscape"
lex_name NumberTooBig = codes "NumberTooBig"

abbrev pub parse_name : ParseReason → List ℕ
parse_name Unexpected = codes "Unexpected"
parse_name EndOfText = codes "EndOfText"
parse_name Deep = codes "Deep"

abbrev pub limit_name : Limit → List ℕ
limit_name (Long n) = codes "Long"
limit_name (Instances n) = codes "Instances"
limit_name (Wide n) = codes "Wide"
limit_name (Weight n) = codes "Weight"
limit_name (FunctionWeight n) = codes "FunctionWeight"
limit_name (Slots n) = codes "Slots"

-- the number that is too great
abbrev pub limit_number : Limit → ℕ
limit_number (Long n) = n
limit_number (Instances n) = n
limit_number (Wide n) = n
limit_number (Weight n) = n
limit_number (FunctionWeight n) = n
limit_number (Slots n) = n

abbrev pub type_limit_name : TypeLimit → List ℕ
type_limit_name (Depth n) = codes "TypeDepth"
type_limit_name (Parts n) = codes "TypeParts"

abbrev pub type_limit_number : TypeLimit → ℕ
type_limit_number (Depth n) = n
type_limit_number (Parts n) = n

-- ---- lines

-- how a line begins that names a place
abbrev pub at_place : Place → List ℕ
at_place p = codes "alef: line " ++ decimal p.line ++ codes " col " ++ decimal p.col ++ codes ": "

-- with its line feed
abbrev pub text_line : Refused → List ℕ
text_line (because.Lex f) = codes "alef: byte " ++ decimal f.byte ++ codes ": " ++ lex_name f.reason ++ codes "\n"
text_line (because.Parse f) = at_place f.place ++ parse_name f.reason ++ codes "\n"
text_line (because.Types l) = codes "alef: limit " ++ type_limit_name l ++ codes " " ++ decimal (type_limit_number l) ++ codes "\n"
text_line (because.Typing f) = at_place f.place ++ codes "rule " ++ decimal f.rule ++ codes "\n"
text_line (because.Limit l) = codes "alef: limit " ++ limit_name l ++ codes " " ++ decimal (limit_number l) ++ codes "\n"
