-- The tables of the code, seen as tables of bytes and kinds.
use Rattle.std.specs.Prelude.{List, map}
use Rattle.al_lex.specs.declared.spelling.Spelled.{Spelled as CodeRow}
use Rattle.al_lex.specs.Spelling.{Spelled}

abbrev pub row_of : CodeRow → Spelled
row_of row = (row.text.now, row.kind)

abbrev pub rows : List CodeRow → List Spelled
rows table = map row_of table
