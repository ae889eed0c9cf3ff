use Rattle.std.proofs.Common.{ap, ◌∙◌}
use Rattle.std.proofs.lemmas.List.{take_rest}
use Rattle.al_lex.specs.Scan.{constant_byte}
use Rattle.al_lex.proofs.Constants.{constant_is}
use Rattle.al_lex.proofs.constant.char_value.Goals as goal

pub returns-in-len1-up : goal.returns-in-len1-up
returns-in-len1-up c =
    let computed = c.constant_byte.ensures ∙ ap constant_byte (take_rest c.args.bytes.now 1) in
    record { value = λ v d. computed ∙ constant_is c.args.bytes.now v d; computed = computed }
