use Rattle.std.proofs.Common.{◌≡◌, ◌≤◌, ◌-◌, ◌∷◌, [], length, slice_range, sym, ap, ◌∙◌, arith, length-append, length-drop}
use Rattle.al_tree.proofs.Ranges.{front_range}
use Rattle.al_tree.proofs.part.tokens_from.Goals as goal

pub returns : goal.returns
returns c =
    let value = c.as_slice-list.ensures.value in
    let good = c.as_slice-list.ensures.is in
    let ended = good.ended in
    let len = ap length ended.is in
    let h : c.args.at ≤ length ended.front = omega (arith, len, length-append ended.front (ended.last ∷ []), c.requires) in
    let is = ap (λ l. slice_range l c.args.at (length l - 1)) value ∙ front_range c.args.toks.now.list ended.front ended.last c.args.at ended.is h in
    record {
      tokens = record { front = ended.front; last = ended.last; is = ended.is; «from» = is };
      size = omega (arith, ap length is, length-drop c.args.at ended.front, h, len, length-append ended.front (ended.last ∷ []));
      few = good.few;
    }
