use Rattle.std.proofs.Common.{◌≡◌, ◌+◌, ◌<◌, ◌^◌, ◌++◌, ◌∙◌, ℕ, List, ◌-◌, min, take, drop, length, length-drop, ap, arith, rules}
use Rattle.std.proofs.lemmas.List.{take_all}
use Rattle.al_event.specs.Store.{bytes_of}
use Rattle.al_typed.specs.Capped.{capped}
use Rattle.al_control_values.proofs.SpelledBytes.{overwritten_is}
use Rattle.al_control_values.proofs.members.with_unit.Goals as goal

pub returns : goal.returns
returns c =
    let bytes = c.args.bytes.now in
    let few : length bytes < 2 ^ 64 = search rules in
    let start : c.min-start.result ≡ min c.args.at (length bytes) = omega (arith, c.min-start.ensures) in
    let end : c.min-end.result ≡ min (capped (c.args.at + c.args.size)) (length bytes) = omega (arith, c.min-end.ensures, c.saturating_add.ensures) in
    let front : c.in_ok-out.out ≡ take c.min-start.result bytes = search rules in
    let back : c.extend_from_slice.new.self ≡ c.put_bytes.new.out ++ drop c.min-end.result bytes =
    c.in_ok-extend_from_slice.ensures.ok
    ∙ ap (λ (rest : List ℕ). c.put_bytes.new.out ++ rest) (take_all (length bytes - c.min-end.result) (drop c.min-end.result bytes) (omega (arith, length-drop c.min-end.result bytes)))
    in
    back
    ∙ ap (λ (o : List ℕ). o ++ drop c.min-end.result bytes) (c.in_ok-put_bytes.ensures ∙ ap (λ (o : List ℕ). o ++ bytes_of c.args.size c.args.word) front)
    ∙ overwritten_is bytes c.args.at c.args.size c.args.word c.min-start.result c.min-end.result few start end
