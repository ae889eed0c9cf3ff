-- The log's lines of linking, with their line feeds.
use Rattle.std.specs.Prelude.{ℕ, List, ◌++◌, codes, decimal}
use Rattle.al_lex.specs.declared.fault.LexReason.{LexReason}
use Rattle.al_lex.specs.declared.fault.LexReason.TheVariants.{BadChar, OpenComment, OpenString, BadEscape, NumberTooBig}
use Rattle.al_tree.specs.declared.fault.ParseReason.{ParseReason}
use Rattle.al_tree.specs.declared.fault.ParseReason.TheVariants.{Unexpected, EndOfText, Deep}
use Rattle.al_link_faults.specs.declared.fault.FrontFault.{FrontFault}
use Rattle.al_link_faults.specs.declared.fault.FrontFault.TheVariants as front
use Rattle.al_link_faults.specs.declared.fault.LinkReason.{LinkReason}
use Rattle.al_link_faults.specs.declared.fault.LinkReason.TheVariants as reason
use Rattle.al_link_faults.specs.declared.fault.LinkFault.{LinkFault}

-- ---- names

abbrev pub lex_name : LexReason → List ℕ
lex_name BadChar = codes "BadChar"
lex_name OpenComment = codes "OpenComment"
lex_name OpenString = codes "OpenString"
lex_name BadEscape = codes "BadEscape"
lex_name NumberTooBig = codes "NumberTooBig"

abbrev pub parse_name : ParseReason → List ℕ
parse_name Unexpected = codes "Unexpected"
parse_name EndOfText = codes "EndOfText"
parse_name Deep = codes "Deep"

abbrev pub front_name : FrontFault → List ℕ
front_name front.Long = codes "Long"
front_name (front.Lex f) = lex_name f.reason
front_name (front.Parse f) = parse_name f.reason
front_name (front.Typing f) = codes "rule " ++ decimal f.rule

abbrev pub name : LinkReason → List ℕ
name (reason.Front f) = front_name f
name reason.Reserved = codes "Reserved"
name reason.Differs = codes "Differs"
name reason.Twice = codes "Twice"

-- ---- lines

-- a place of a file
abbrev pub at_place : LinkFault → List ℕ
at_place f = codes "alef: file " ++ decimal f.file ++ codes " line " ++ decimal f.place.line ++ codes " col " ++ decimal f.place.col ++ codes ": "

abbrev pub fault_line : LinkFault → List ℕ
fault_line f = at_place f ++ name f.reason ++ codes "\n"

-- line k of a list is wrong
abbrev pub list_line : ℕ → List ℕ
list_line k = codes "alef: list line " ++ decimal k ++ codes "\n"
