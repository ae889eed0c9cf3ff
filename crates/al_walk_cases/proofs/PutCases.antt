-- Communications, put from the last to the first.
use Rattle.std.proofs.Common.{◌≡◌, ℕ, ◌+◌, ◌<◌, List, [], ◌∷◌, ◌++◌, length, drop, get_or, Result, IfOk, sym, ap, ◌∙◌}
use Rattle.std.proofs.lemmas.List.{append-nil, map-append}
use Rattle.std.proofs.lemmas.Result.{IfOk-weaker}
use Rattle.std.proofs.lemmas.List.Concat.{flat_map-append}
use Rattle.al_typed.specs.declared.statement.TCommunication.{TCommunication}
use Rattle.al_typed.specs.declared.statement.TStmt.{TStmt}
use Rattle.al_meaning.specs.Calls.{evaluated}
use Rattle.al_meaning.specs.Evaluate.{alt_exprs, communication_exprs}
use Rattle.al_meaning.specs.Here.{Here, with_work}
use Rattle.al_meaning.specs.Items.{Eval}
use Rattle.al_control.specs.declared.control.Here.{Here as HereRow}
use Rattle.al_control.specs.Models.{here_of}
use Rattle.al_walk_cases.specs.CaseLists.{communication_of, communications_in}
use Rattle.al_walk_loops.proofs.PutLists.{flat_from}
use Rattle.al_walk_loops.proofs.WorkLists.{with_work-append}

pub talks-append : (a b : List TCommunication) (h : Here)
    → with_work (evaluated (alt_exprs (a ++ b))) h ≡ with_work (evaluated (alt_exprs a)) (with_work (evaluated (alt_exprs b)) h)
talks-append a b h =
    ap (λ es. with_work (evaluated es) h) (flat_map-append communication_exprs a b)
    ∙ ap (λ ws. with_work ws h) (map-append Eval (alt_exprs a) (alt_exprs b))
    ∙ with_work-append (evaluated (alt_exprs a)) (evaluated (alt_exprs b)) h

pub case_more : (body : List TStmt) (k : ℕ) (s : TStmt) (h now new : Here) → k < length body → s ≡ get_or body k s
    → now ≡ with_work (evaluated (alt_exprs (communications_in (drop (k + 1) body)))) h
    → new ≡ with_work (evaluated (alt_exprs (communication_of s))) now
    → new ≡ with_work (evaluated (alt_exprs (communications_in (drop k body)))) h
case_more body k s h now new below is before e =
    e ∙ ap (with_work (evaluated (alt_exprs (communication_of s)))) before
    ∙ sym (talks-append (communication_of s) (communications_in (drop (k + 1) body)) h)
    ∙ ap (λ cs. with_work (evaluated (alt_exprs cs)) h) (sym (flat_from communication_of body k s below is))

-- from the last to the first
pub case_before : (body : List TStmt) (k j : ℕ) (s : TStmt) (h now new : Here) → k ≡ j + 1 → j < length body → s ≡ get_or body j s
    → now ≡ with_work (evaluated (alt_exprs (communications_in (drop k body)))) h
    → new ≡ with_work (evaluated (alt_exprs (communication_of s))) now
    → new ≡ with_work (evaluated (alt_exprs (communications_in (drop j body)))) h
case_before body k j s h now new next below is before e =
    case_more body j s h now new below is (before ∙ ap (λ (n : ℕ). with_work (evaluated (alt_exprs (communications_in (drop n body)))) h) next) e

-- one case
pub case_put : {E : Type 0} (r : Result HereRow E) (s : TStmt) (c : TCommunication) (h : Here) → communication_of s ≡ c ∷ []
    → IfOk r (λ x. here_of x ≡ with_work (evaluated (communication_exprs c)) h)
    → IfOk r (λ x. here_of x ≡ with_work (evaluated (alt_exprs (communication_of s))) h)
case_put r s c h e put =
    IfOk-weaker r _ _
    (λ x (is : here_of x ≡ with_work (evaluated (communication_exprs c)) h).
    is ∙ ap (λ es. with_work (evaluated es) h) (sym (ap alt_exprs e ∙ append-nil (communication_exprs c))))
    put
