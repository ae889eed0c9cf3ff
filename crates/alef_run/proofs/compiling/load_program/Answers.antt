use Rattle.std.proofs.Common.{◌∙◌}
use Rattle.alef_run.proofs.Compiled.{image_of_text, none_of_text}
use Rattle.alef_run.proofs.compiling.load_program.Goals as goal

pub returns-clause-image : goal.returns-clause-image
returns-clause-image g c =
    image_of_text _ _ _ _ _ c.in_ok-bytes.ensures.read c.as_slice.result.now (λ text is. c.as_slice.ensures.value ∙ c.in_ok-bytes.ensures.text text is)
    c.compiled.result c.compiled.ensures

pub returns-clause-none : goal.returns-clause-none
returns-clause-none g c =
    none_of_text _ _ _ _ _ c.in_ok-bytes.ensures.read c.as_slice.result.now (λ text is. c.as_slice.ensures.value ∙ c.in_ok-bytes.ensures.text text is)
    c.compiled.result c.compiled.ensures
