-- What a getter of the matches reads.
use Rattle.std.proofs.Common.{◌≡◌, Option, ◌∙◌}
use Rattle.clap.specs.Walk.{Text, first_of, rows_of}
use Rattle.clap.specs.Words.{found_of, first_value}
use Rattle.clap.specs.declared.parser.matches.ArgMatches.{ArgMatches}
use Rattle.clap.proofs.WalkLemmas.{first_value-rows}

pub got : (m : ArgMatches) (id : Text) (text : Option Text) → text ≡ first_value (found_of m) id → text ≡ first_of id (rows_of (found_of m))
got m id text e = e ∙ first_value-rows (found_of m) id
