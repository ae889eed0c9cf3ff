-- Laws of stretches.
use Rattle.std.specs.Prelude.{◌≡◌, ℕ, ◌+◌, ◌^◌, ◌<◌}
use Rattle.rv_isa.specs.declared.image.Contents.{Contents}
use Rattle.rv_exec.specs.Hart.{Hart}
use Rattle.rv_exec.specs.Calls.{Privates}
use Rattle.rv_exec.specs.Machine.{ask, asked_within, longest_stretch}

-- no stretch comes to the bound on its words: under each greater bound it asks the same. So it ends by an ask of an
-- instruction, by one counted jump too many, or where the code has no word.
abbrev pub NeverComesToBound : Contents → Type 0
NeverComesToBound image =
    (h : Hart) (p : Privates) (more : ℕ) → h.pc < 2 ^ 32 → h.jumps ≡ 0 → h.work ≡ 0 → asked_within image (longest_stretch + more) h p ≡ ask image h p
