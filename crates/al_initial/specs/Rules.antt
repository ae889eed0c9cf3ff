-- The typing rules of initializers that numbers decide, one predicate for each sentence. `Start` says which values are constant
-- by rule 21.
use Rattle.std.specs.Prelude.{ℕ, nat_le, Bool}

-- 18. A type has at most 2^28 bytes, so no part of one stands further on.
unfoldable pub rule_18_stands : (offset : ℕ) → Bool
rule_18_stands offset = nat_le offset 268435456

-- 21. In braces there are no more than there are parts.
unfoldable pub rule_21_has_parts : (given parts : ℕ) → Bool
rule_21_has_parts given parts = nat_le given parts
