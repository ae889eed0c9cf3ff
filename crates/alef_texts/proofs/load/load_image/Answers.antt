use Rattle.std.proofs.Common.{ap, ◌∙◌, arith}
use Rattle.rv_image.specs.Front.{enough_of}
use Rattle.rv_image.proofs.Fronts.{suffices}
use Rattle.alef_texts.proofs.Loading.{loaded, found_there, reads_as, spells}
use Rattle.alef_texts.proofs.load.load_image.Goals as goal

pub read_on-requires-2 : goal.read_on-requires-2
read_on-requires-2 g c =
    let within = c.in_ok-read_on.ensures.within in
    let least = (suffices c.as_slice.result.now).least in
    let value = c.enough-most.ensures.value in
    omega (arith, within, least, value)

pub returns-in-Ok-read-clause-read : goal.returns-in-Ok-read-clause-read
returns-in-Ok-read-clause-read g c = record {
  whole = λ text is.
      (loaded _ _ _ _ _ _ _ _ _ c.new-bytes.ensures.items (c.enough-most.ensures.value ∙ ap enough_of c.as_slice.ensures.value) c.in-Ok.ensures.found c.in_ok-read_on.ensures.read c.in_ok-read_on-2.ensures.read text is).1;
  found = found_there _ _ _ c.in-Ok.ensures.found;
  calm = c.in_ok-read_on-2.ensures.calm ∙ c.in_ok-read_on.ensures.calm ∙ c.in-Ok.ensures.count.ok;
}

pub returns-in-Ok-read-clause-image : goal.returns-in-Ok-read-clause-image
returns-in-Ok-read-clause-image g c = λ text is.
    spells text c.as_slice-2.result.now _
    (c.as_slice-2.ensures.value ∙ (loaded _ _ _ _ _ _ _ _ _ c.new-bytes.ensures.items (c.enough-most.ensures.value ∙ ap enough_of c.as_slice.ensures.value) c.in-Ok.ensures.found c.in_ok-read_on.ensures.read c.in_ok-read_on-2.ensures.read text is).0)
    c.in-Ok-read.ensures.found

pub returns-in-Err-Fault-clause-none : goal.returns-in-Err-Fault-clause-none
returns-in-Err-Fault-clause-none g c = (
  record {
    whole = λ text is.
        (loaded _ _ _ _ _ _ _ _ _ c.new-bytes.ensures.items (c.enough-most.ensures.value ∙ ap enough_of c.as_slice.ensures.value) c.in-Ok.ensures.found c.in_ok-read_on.ensures.read c.in_ok-read_on-2.ensures.read text is).1;
    found = found_there _ _ _ c.in-Ok.ensures.found;
    calm = c.in_ok-read_on-2.ensures.calm ∙ c.in_ok-read_on.ensures.calm ∙ c.in-Ok.ensures.count.ok;
  },
  λ text is.
      reads_as text c.as_slice-2.result.now _
      (c.as_slice-2.ensures.value ∙ (loaded _ _ _ _ _ _ _ _ _ c.new-bytes.ensures.items (c.enough-most.ensures.value ∙ ap enough_of c.as_slice.ensures.value) c.in-Ok.ensures.found c.in_ok-read_on.ensures.read c.in_ok-read_on-2.ensures.read text is).0)
      (rw c.in-Err-Fault.field-0-is at c.in-Err-Fault.ensures.exact),
)
