-- What the text of one file is.
use Rattle.std.specs.Prelude.{◌≡◌, [], ◌∷◌}
use Rattle.al_link_text.specs.Items.{own_names}
use Rattle.al_link_text.specs.Files.{own_tokens}
use Rattle.al_link_text.specs.Linked.{item_text, linked}
use Rattle.al_link_text.specs.declared.file.File.{File}

-- One file that has no name of its own, intern or private, gives its own tokens. A tree without items is one of no tokens.
abbrev pub OwnText : Type 0
OwnText = (file : File) → own_names file.tree.items ≡ [] → (file.tree.items ≡ [] → own_tokens file ≡ []) → linked (file ∷ []) ≡ item_text file (own_tokens file)
