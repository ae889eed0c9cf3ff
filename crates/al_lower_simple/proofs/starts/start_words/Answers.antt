use Rattle.std.proofs.Common.{◌≡◌, ℕ, IfOk, sym, ap, ◌∙◌, subst}
use Rattle.al_lower_base.specs.Spots.{spot_of}
use Rattle.al_lower_code.specs.Simple.{start_words}
use Rattle.al_lower_simple.proofs.Calls.{start_words-Call}
use Rattle.al_lower_simple.proofs.starts.start_words.Goals as goal

pub returns-in-Call : goal.returns-in-Call
returns-in-Call c =
    subst (λ (n : ℕ). IfOk c.call_words.result (λ k. k ≡ n))
    (sym (ap (start_words (spot_of c.args.s)) c.in-Call.is
    ∙ start_words-Call (spot_of c.args.s) c.in-Call.ty c.in-Call.function c.in-Call.receiver c.in-Call.arguments))
    c.call_words.ensures
