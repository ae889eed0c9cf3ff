use Rattle.std.proofs.Common.{◌≡◌, ◌++◌, OnOk, option_map, ap, ◌∙◌, sym, subst, append_assoc}
use Rattle.al_poly.specs.Written.{of_part, in_expr, in_stmt}
use Rattle.al_poly.proofs.WrittenIs.{in_stmt-If}
use Rattle.al_poly.proofs.written.+statements.Goals as goal

pub in_stmt-returns-in_ok-in_stmt-in-If : goal.in_stmt-returns-in_ok-in_stmt-in-If
in_stmt-returns-in_ok-in_stmt-in-If t c =
    let types = c.args.types.now in
    let condition = in_expr c.in-If.condition in
    let met = in_stmt c.in-If.then in
    let other = of_part (option_map in_stmt c.in-If.other) in
    let whole = ap in_stmt c.in-If.is ∙ in_stmt-If c.in-If.at c.in-If.condition c.in-If.then c.in-If.other in
    let before = c.in_ok-in_stmt-in-If.ensures ∙ ap (λ l. l ++ in_stmt c.get-in-If.result.now) c.in_ok-in_expr-in-If.ensures ∙ ap (λ s. (types ++ condition) ++ in_stmt s) c.get-in-If.ensures in
    let is = ap (λ l. l ++ other) before ∙ ap (λ l. l ++ other) (append_assoc types condition met) ∙ append_assoc types (condition ++ met) other ∙ ap (λ l. types ++ l) (sym whole) in
    subst (λ l. OnOk c.in_other.result (c.in_other.new.types ≡ l)) is c.in_other.ensures
