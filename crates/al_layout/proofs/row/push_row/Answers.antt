use Rattle.std.proofs.Common.{sym}
use Rattle.std.proofs.lemmas.Bool.{false≢true}
use Rattle.al_layout.proofs.RowsAre.{row_pushed}
use Rattle.al_layout.proofs.row.push_row.Goals as goal

pub returns-in_ok-push-in-Some-clause-leads : goal.returns-in_ok-push-in-Some-clause-leads
returns-in_ok-push-in-Some-clause-leads c =
    let found = c.in-Some.ensures in
    row_pushed c.as_slice.result.now c.args.rows.now c.args.form.now c.args.types c.in-Some.row c.push.new.self
    c.as_slice.ensures.value found.is_union found.members found.keeps (λ h. false≢true (sym (found.none.1 h))) c.in_ok-push-in-Some.ensures.ok
