-- What single words and numbers are shown as.
use Rattle.std.specs.Prelude.{ℕ, ◌-◌, false, List, ◌++◌, length, replicate, codes}
use Rattle.std.specs.Fmt.{digits}

-- at least eight digits
abbrev pub eight_digits : List ℕ → List ℕ
eight_digits ds = replicate (8 - length ds) 48 ++ ds

-- an address or the number of a channel: `0x` with eight hexadecimal digits
abbrev pub pointer : ℕ → List ℕ
pointer n = codes "0x" ++ eight_digits (digits 16 false n)
