use Rattle.al_sound_types.proofs.SoundIs.{all_so_far, function_is, one_more_is}
use Rattle.al_sound_types.proofs.types.+sound.Goals as goal

pub are_parts-loop-ty-preserved : goal.are_parts-loop-ty-preserved
are_parts-loop-ty-preserved t c =
    one_more_is c.args.rows.now c.args.tys.now c.loop-ty.ty-index c.ty-item.result c.is_sound.result c.is_whole.result c.loop-ty-test.true c.ty-item.is
    c.loop-ty.invariant c.is_sound.ensures c.if-not-is_sound.false c.is_whole.ensures c.if-not-is_whole.false

pub are_parts-returns : goal.are_parts-returns
are_parts-returns t c = all_so_far c.args.rows.now c.args.tys.now c.loop-ty.ty-index c.loop-ty-test.false c.loop-ty.invariant

pub is_sound-returns-then-is_returned : goal.is_sound-returns-then-is_returned
is_sound-returns-then-is_returned t c =
    function_is c.args.rows.now c.args.ty.now c.in-Function.returns c.get-in-Function.result.now c.get-in-Function-2.result.now c.in-Function.parameters
    c.as_slice-then-is_returned.result.now c.is_sound-in-Function.result c.is_returned.result c.are_parts-then-is_returned.result c.in-Function.is
    c.get-in-Function.ensures c.get-in-Function-2.ensures c.as_slice-then-is_returned.ensures.value c.is_sound-in-Function.ensures c.if-not-is_sound.false
    c.is_returned.ensures c.if-is_returned.true c.are_parts-then-is_returned.ensures
