-- The command line, as `clap` reads it: three words by position and four options with a value, each at most once.
use Rattle.std.specs.Prelude.{Some, codes, true}
use Rattle.clap.specs.Walk.{Rule, Text}
use Rattle.clap.specs.Simple.{App, new_app, new_rule, on_top, with_rule}
use Rattle.clap.specs.declared.builder.action.ArgAction.TheVariants.{Set}

-- a word by its position
abbrev pub position : Text → Rule
position name = record (new_rule name) { action = Some Set }

-- `--NAME VALUE` or `--NAME=VALUE`
abbrev pub option : Text → Rule
option name = record (new_rule name) { long = Some name; action = Some Set }

-- all words are the caller's, the first too; there is no help and no version
abbrev pub bare : App
bare = on_top (λ s. record s { no_binary_name = true; disable_help_flag = true; disable_version_flag = true }) (new_app (codes "alef"))

abbrev pub with_positions : App
with_positions = with_rule (with_rule (with_rule bare (position (codes "mode"))) (position (codes "file"))) (position (codes "schedule"))

abbrev pub line : App
line = with_rule
    (with_rule (with_rule (with_rule with_positions (option (codes "workers"))) (option (codes "entries"))) (option (codes "region")))
    (option (codes "number"))
