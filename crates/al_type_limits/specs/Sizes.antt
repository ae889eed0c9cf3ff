-- How large types are. Levels and parts are counted no further than one past their limits.
use Rattle.std.specs.Prelude.{ℕ, ◌+◌, min, max}
use Rattle.al_type_limits.specs.declared.size.Size.{Size}

-- a type has at most 1,000 levels
abbrev pub past_levels : ℕ
past_levels = 1001

-- the types of a text have at most 2^20 parts together, as many as a text may have bytes
abbrev pub past_parts : ℕ
past_parts = 1048577

abbrev pub counted : ℕ → ℕ → ℕ
counted past n = min n past

abbrev pub sized : ℕ → ℕ → Size
sized levels parts = record { levels = counted past_levels levels; parts = counted past_parts parts }

abbrev pub nothing : Size
nothing = record { levels = 0; parts = 0 }

abbrev pub one : Size
one = record { levels = 1; parts = 1 }

-- two types beside one another: the levels of the higher, the parts of both
unfoldable pub beside : Size → Size → Size
beside a b = sized (max a.levels b.levels) (a.parts + b.parts)

-- a type with so many levels above it, each of which is a part
unfoldable pub above : ℕ → Size → Size
above count a = sized (a.levels + count) (a.parts + count)
