use Rattle.std.proofs.Common.{◌≡◌, ◌≤◌, ◌+◌, ◌-◌, ℕ, List, drop, sym, ap, ◌∙◌, arith}
use Rattle.std.proofs.lemmas.List.{drop-drop}
use Rattle.al_base.proofs.over.put_trap.Goals as goal

-- what is the same from one place on is the same from a later place on
further : (m n : ℕ) (xs ys : List ℕ) → drop m xs ≡ drop m ys → m ≤ n → drop n xs ≡ drop n ys
further m n xs ys e h =
    let apart : n ≡ m + (n - m) = omega arith in
    ap (λ (k : ℕ). drop k xs) apart ∙ sym (drop-drop (n - m) m xs) ∙ ap (drop (n - m)) e ∙ drop-drop (n - m) m ys
    ∙ ap (λ (k : ℕ). drop k ys) (sym apart)

pub returns-clause-rest : goal.returns-clause-rest
returns-clause-rest c =
    c.put.ensures.rest
    ∙ further c.put_number-end-2.result c.put.result c.put_number-end-2.new.line c.put-end-4.new.line c.put_number-end-2.ensures.rest (omega arith)
    ∙ further c.put-end-4.result c.put.result c.put-end-4.new.line c.put_number-end.new.line c.put-end-4.ensures.rest (omega arith)
    ∙ further c.put_number-end.result c.put.result c.put_number-end.new.line c.put-end-3.new.line c.put_number-end.ensures.rest (omega arith)
    ∙ further c.put-end-3.result c.put.result c.put-end-3.new.line c.put-end-2.new.line c.put-end-3.ensures.rest (omega arith)
    ∙ further c.put-end-2.result c.put.result c.put-end-2.new.line c.put-end.new.line c.put-end-2.ensures.rest (omega arith)
    ∙ further c.put-end.result c.put.result c.put-end.new.line c.args.buf.now c.put-end.ensures.rest (omega arith)
