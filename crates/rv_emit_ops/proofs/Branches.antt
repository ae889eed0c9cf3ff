-- Branches of talks lie in the frame.
use Rattle.std.proofs.Common.{ℕ, ◌+◌, ◌≤◌, ◌^◌, List, Option, Some, None, All, arith}
use Rattle.std.proofs.lemmas.List.Elements.{All-weaker}
use Rattle.al_ir.specs.declared.ir.Function.{Function}
use Rattle.al_ir.specs.declared.op.TalkBranch.{TalkBranch}
use Rattle.al_ir.specs.Bounds.{BranchFits}
use Rattle.rv_emit_starts.specs.Branches.{IsInFrame}

in_frame : (f : Function) (records count to got chan words : ℕ) (send : Option ℕ) → f.slots ≤ 2 ^ 14
    → BranchFits f records count to got (record { chan = chan; words = words; send = send }) → IsInFrame got (record { chan = chan; words = words; send = send })
in_frame f records count to got chan words None few h =
    let a : chan + 1 ≤ f.slots = h.0 in
    let b : got + words ≤ f.slots = h.1.1.1.0 in
    (omega (arith, a, few), omega (arith, b, few))
in_frame f records count to got chan words (Some t) few h =
    let a : chan + 1 ≤ f.slots = h.0 in
    let b : t + words ≤ f.slots = h.1.1.1.0 in
    (omega (arith, a, few), omega (arith, b, few))

pub all_in_frame : (f : Function) (records count to got : ℕ) (branches : List TalkBranch) → f.slots ≤ 2 ^ 14
    → All (BranchFits f records count to got) branches → All (IsInFrame got) branches
all_in_frame f records count to got branches few fit =
    All-weaker (BranchFits f records count to got) (IsInFrame got) (λ b h. in_frame f records count to got b.chan b.words b.send few h) branches fit
