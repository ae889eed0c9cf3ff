-- Branches of talks whose slots lie in a frame that the stack has room for.
use Rattle.std.specs.Prelude.{ℕ, ◌^◌, ◌<◌}
use Rattle.al_ir.specs.declared.op.TalkBranch.{TalkBranch}
use Rattle.rv_form.specs.Acts.{words_place}

abbrev pub IsInFrame : (got : ℕ) → TalkBranch → Type 0
IsInFrame got b = (b.chan < 2 ^ 20) × (words_place got b.send < 2 ^ 20)
