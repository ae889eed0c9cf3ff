-- What a report has.
use Rattle.std.proofs.Common.{◌≡◌, Option, None, ap}
use Rattle.std.specs.Prelude.{option_map}
use Rattle.std.specs.declared.sync.Arc.{Arc}
use Rattle.std.specs.declared.alloc.Global.{Global}
use Rattle.rv_isa.specs.declared.image.Contents.{Contents}

pub no_image : (o : Option (Arc Contents Global)) → o ≡ None → option_map (λ (image : Arc Contents Global). image.value) o ≡ None
no_image o e = ap (option_map (λ (image : Arc Contents Global). image.value)) e
