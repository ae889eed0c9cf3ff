-- The tokens of files that were read.
use Rattle.std.specs.Prelude.{◌-◌, List, take, length}
use Rattle.al_lex.specs.declared.token.Token.{Token}
use Rattle.al_link_text.specs.declared.file.File.{File}

-- the tokens without the End token
abbrev pub own_tokens : File → List Token
own_tokens file = take (length file.tokens.list - 1) file.tokens.list
