-- The log's line of a trap.
use Rattle.std.proofs.Common.{◌≡◌, ◌≢◌, ℕ, zero, suc, ◌-◌, ◌^◌, ◌<◌, ◌≤◌, List, ◌++◌, length, take, refl, arith, length-append}
use Rattle.std.specs.Prelude.{codes, decimal}
use Rattle.std.proofs.lemmas.Fmt.{length-decimal-le}
use Rattle.al_base.specs.declared.trap.Trap.{Trap}
use Rattle.al_base.specs.declared.trap.Trap.TheVariants.{Fault, Align, Divide, Memory, Unalloc, Chan, Busy, Check, Stack, Tasks, Print, Illegal, Call}
use Rattle.al_base.specs.declared.over.Over.TheVariants.{Trapped}
use Rattle.al_base.specs.Line.{line_of, name_of}
use Rattle.alef_texts.specs.Line.{naming}

pub naming_some : (line : ℕ) (text : List ℕ) → line ≢ 0 → naming line text ≡ take (length text - 1) text ++ codes ", line " ++ decimal line ++ codes "\n"
naming_some zero text some = absurd (some refl)
naming_some (suc n) text some = refl

pub short_name : (trap : Trap) → length (name_of trap) ≤ 7
short_name Fault = omega arith
short_name Align = omega arith
short_name Divide = omega arith
short_name Memory = omega arith
short_name Unalloc = omega arith
short_name Chan = omega arith
short_name Busy = omega arith
short_name Check = omega arith
short_name Stack = omega arith
short_name Tasks = omega arith
short_name Print = omega arith
short_name Illegal = omega arith
short_name Call = omega arith

short_number : (n : ℕ) → n < 2 ^ 32 → length (decimal n) ≤ 10
short_number n h = length-decimal-le 10 n (omega arith) (omega (arith, h)) (omega (arith, h))

pub short_trap : (trap : Trap) (proc at : ℕ) → proc < 2 ^ 32 → at < 2 ^ 32 → length (line_of (Trapped trap proc at)) ≤ 63
short_trap trap proc at h k =
    let n = short_name trap in
    let p = short_number proc h in
    let e = short_number at k in
    simp length-append (omega (arith, n, p, e))

pub some_trap : (trap : Trap) (proc at : ℕ) → 1 ≤ length (line_of (Trapped trap proc at))
some_trap trap proc at = simp length-append (omega arith)
