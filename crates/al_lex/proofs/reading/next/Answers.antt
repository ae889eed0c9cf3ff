use Rattle.std.proofs.Common.{take, drop, sym}
use Rattle.std.proofs.lemmas.List.{take-append-drop}
use Rattle.al_lex.proofs.Unique.{ok_is, err_is, only_token, only_fault, answers_stuck}
use Rattle.al_lex.proofs.reading.next.Goals as goal

pub returns : goal.returns
returns c =
    let text = c.args.text.now in
    let e = c.token_from.ensures in
    record {
      token = λ t. (ok_is c.token_from.result e.token t, only_token c.token_from.result e.token e.fault t);
      fault = λ f. (err_is c.token_from.result e.fault f, only_fault c.token_from.result e.token e.fault f);
      stuck = answers_stuck text (take c.args.at text) (drop c.args.at text) c.token_from.result (sym (take-append-drop c.args.at text)) e.fault;
    }
