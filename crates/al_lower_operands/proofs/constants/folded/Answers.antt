use Rattle.al_lower_base.specs.Spots.{spot_of}
use Rattle.al_lower_operands.proofs.ByForm.{place_folds, value_folds}
use Rattle.al_lower_operands.proofs.constants.folded.Goals as goal

pub returns-in_ok-bytes-in-SizeofPlace : goal.returns-in_ok-bytes-in-SizeofPlace
returns-in_ok-bytes-in-SizeofPlace c =
    place_folds (spot_of c.args.s) c.args.e.now _ _ _ _ _ c.in-SizeofPlace.is c.get.ensures c.ty.ensures c.in_ok-bytes-in-SizeofPlace.ensures

pub returns-in_ok-bytes-in-SizeofValue : goal.returns-in_ok-bytes-in-SizeofValue
returns-in_ok-bytes-in-SizeofValue c =
    value_folds (spot_of c.args.s) c.args.e.now _ _ _ _ _ c.in-SizeofValue.is c.get-in-SizeofValue.ensures c.ty-in-SizeofValue.ensures c.in_ok-bytes-in-SizeofValue.ensures
