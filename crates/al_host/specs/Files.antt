-- Files in memory as texts with their names.
use Rattle.std.specs.Prelude.{ℕ, List, map, string_bytes}
use Rattle.std.specs.declared.string.String.{String}
use Rattle.std.specs.declared.vec.Vec.{Vec}
use Rattle.std.specs.declared.alloc.Global.{Global}

abbrev pub texts_of : List (String Global × Vec ℕ Global) → List (List ℕ × List ℕ)
texts_of files = map (λ file. (string_bytes file.0, file.1.items)) files
