use Rattle.std.proofs.Common.{◌<◌, ◌^◌, length, subst}
use Rattle.al_ir.specs.Bounds.{IsBounded}
use Rattle.al_typed.specs.WellTyped.{IsWellTyped}
use Rattle.al_lowering.specs.Addresses.{AddressesAreWords}
use Rattle.rv_isa.specs.declared.image.Contents.{Contents}
use Rattle.rv_gen.specs.Generating.{IsGenerated}
use Rattle.rv_meant.specs.Meant.{IsCompilable, RunsAlike, SimulatesAlike}
use Rattle.al_compile.proofs.Joined.{joined}
use Rattle.al_compile.proofs.program.compile.Goals as goal

pub returns-clause-runs : goal.returns-clause-runs
returns-clause-runs c =
    joined (IsGenerated c.in_ok-ir.ir) (λ (image : Contents). length image.code < 2 ^ 23) (λ image. IsCompilable c.args.p.now → RunsAlike c.args.p.now image)
    (λ image generated. c.images_run_as_meant.ensures.runs c.args.p.now image (subst (λ ir. IsGenerated ir image) c.in_ok-ir.ensures.lowered generated) (subst IsBounded c.in_ok-ir.ensures.lowered c.in_ok-ir.ensures.bounded))
    c.image_of.result c.image_of.ensures.generated c.image_of.ensures.small

pub returns-clause-simulates : goal.returns-clause-simulates
returns-clause-simulates c =
    joined (IsGenerated c.in_ok-ir.ir) (λ (image : Contents). length image.code < 2 ^ 23) (λ image. IsWellTyped c.args.p.now → AddressesAreWords c.args.p.now → SimulatesAlike c.args.p.now image)
    (λ image generated. c.images_run_as_meant.ensures.simulates c.args.p.now image (subst (λ ir. IsGenerated ir image) c.in_ok-ir.ensures.lowered generated) (subst IsBounded c.in_ok-ir.ensures.lowered c.in_ok-ir.ensures.bounded))
    c.image_of.result c.image_of.ensures.generated c.image_of.ensures.small
