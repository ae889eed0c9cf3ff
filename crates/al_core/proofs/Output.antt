-- How much output there may be.
use Rattle.std.proofs.Common.{◌*◌, ◌^◌, ◌<◌, length, arith}
use Rattle.al_core.specs.Opening.{globals_of, main_of}
use Rattle.al_core.specs.History.{History}
use Rattle.al_core.specs.Stands.{Parts, Stands}
use Rattle.al_core.proofs.Main.{main_is}
use Rattle.al_core.proofs.Reached.{both_run, entries_run}

-- at most 1,024 bytes an entry, so that 64 bits count them
pub few_bytes : (h : History) (x : Parts) (s : Stands h x) → length s.world.shared.output < 2 ^ 64
few_bytes h x s =
    let start = main_is h.image s.limited.image in
    let b = (both_run h.image (h.region * 2 ^ 20) (globals_of h.image) (main_of h.image) h.entries s.world start s.runs).counts.output in
    let e = entries_run h.image (h.region * 2 ^ 20) (globals_of h.image) (main_of h.image) h.entries s.world start s.runs in
    let n = s.limited.entries in
    let q = s.limited.quota in
    let m = s.limited.limit in
    omega (arith, b, e, n, q, m)
