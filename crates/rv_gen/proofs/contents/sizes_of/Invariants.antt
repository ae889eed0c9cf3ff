use Rattle.std.proofs.Common.{◌≡◌, ◌++◌, drop, map}
use Rattle.al_ir.specs.declared.ir.Global.{Global}
use Rattle.rv_gen.proofs.contents.sizes_of.Given as goal

abbrev pub invariant-loop-global : goal.invariant-loop-global
invariant-loop-global l =
    l.sizes ++ map (λ (g : Global). g.bytes) (drop l.global-index l.ir.globals) ≡ map (λ (g : Global). g.bytes) l.ir.globals
