-- Branches of alts, one case after another.
use Rattle.std.proofs.Common.{◌≡◌, ℕ, ◌+◌, ◌<◌, ◌≤◌, List, [], ◌∷◌, ◌++◌, length, drop, get_or, Some, Option, Result, IfOk, refl, subst, sym, ap, ap₂, ◌∙◌, ◌^◌, append_assoc, add_assoc, add-zero, length-append}
use Rattle.std.proofs.lemmas.List.{append-nil}
use Rattle.std.proofs.lemmas.List.Concat.{flat_map-append}
use Rattle.std.specs.Prelude.{MatchOption, slice_index}
use Rattle.al_event.specs.declared.act.Branch.{Branch}
use Rattle.al_typed.specs.declared.expression.TExpr.{TExpr}
use Rattle.al_typed.specs.declared.expression.TTarget.{TTarget}
use Rattle.al_typed.specs.declared.program.Program.{Program}
use Rattle.al_typed.specs.declared.statement.TCommunication.{TCommunication}
use Rattle.al_typed.specs.declared.statement.TCommunication.TheVariants as talk
use Rattle.al_typed.specs.declared.statement.TStmt.{TStmt}
use Rattle.al_typed.specs.declared.ty.Ty.{Ty}
use Rattle.al_typed.specs.Typed.{type_of}
use Rattle.al_meaning.specs.Evaluate.{alt_branch, alt_branches, alt_exprs, communication_exprs, goes_into, receiving, sending, value_at, went_work}
use Rattle.al_meaning.specs.Here.{Here, moves, with_items, with_work}
use Rattle.al_meaning.specs.Items.{Aim, Assign, CasesEnd, Drop, Give, Item}
use Rattle.al_meaning.specs.Places.{words_in}
use Rattle.al_control.specs.declared.control.Here.{Here as HereRow}
use Rattle.al_control.specs.Models.{here_of}
use Rattle.al_walk_loops.proofs.Goings.{case_goes}
use Rattle.al_walk_loops.proofs.PutLists.{flat_from, flat_past}
use Rattle.al_walk_cases.specs.CaseLists.{communication_of, communications_in}
use Rattle.al_walk_cases.specs.Fits.{TalkFits}

-- ---- the branch of a case

branch_same : (r : Option Branch) (P : Type 0) (x y : Branch) → x ≡ y → MatchOption r P (λ b. b ≡ x) → MatchOption r P (λ b. b ≡ y)
branch_same r P x y e is = subst (λ (z : Branch). MatchOption r P (λ b. b ≡ z)) e is

second_value : (values : List (List ℕ)) → value_at (drop 1 values) 0 ≡ value_at values 1
second_value [] = refl
second_value (v ∷ values) = refl

pub two_taken : (values : List (List ℕ)) → drop 1 (drop 1 values) ≡ drop 2 values
two_taken [] = refl
two_taken (v ∷ values) = refl

-- of a receive
pub receive_made : (r : Option Branch) (p : Program) (t : Ty) (chan : ℕ) (values : List (List ℕ)) → chan ≡ slice_index (value_at values 0) 0
    → MatchOption r (words_in p t < 2 ^ 32 → ⊥) (λ b. b ≡ receiving p t chan)
    → MatchOption r (words_in p t < 2 ^ 32 → ⊥) (λ b. b ≡ receiving p t (slice_index (value_at values 0) 0))
receive_made r p t chan values chan_is made =
    branch_same r (words_in p t < 2 ^ 32 → ⊥) (receiving p t chan) (receiving p t (slice_index (value_at values 0) 0)) (ap (λ (n : ℕ). receiving p t n) chan_is) made

-- of a send
pub send_made : (r : Option Branch) (p : Program) (t : Ty) (chan : ℕ) (sent : List ℕ) (values mid : List (List ℕ)) → chan ≡ slice_index (value_at values 0) 0
    → mid ≡ drop 1 values → sent ≡ value_at mid 0
    → MatchOption r (words_in p t < 2 ^ 32 → ⊥) (λ b. b ≡ sending p t chan sent)
    → MatchOption r (words_in p t < 2 ^ 32 → ⊥) (λ b. b ≡ sending p t (slice_index (value_at values 0) 0) (value_at values 1))
send_made r p t chan sent values mid chan_is mid_is sent_is made =
    branch_same r (words_in p t < 2 ^ 32 → ⊥) (sending p t chan sent) (sending p t (slice_index (value_at values 0) 0) (value_at values 1))
    (ap₂ (λ (n : ℕ) (ws : List ℕ). sending p t n ws) chan_is (sent_is ∙ ap (λ (l : List (List ℕ)). value_at l 0) mid_is ∙ second_value values)) made

pub send_there : (r : Option Branch) (p : Program) (t : Ty) (chan value : TExpr) (c : TCommunication) (values : List (List ℕ)) → c ≡ talk.Send chan value
    → t ≡ type_of value
    → MatchOption r (words_in p t < 2 ^ 32 → ⊥) (λ b. b ≡ sending p t (slice_index (value_at values 0) 0) (value_at values 1))
    → MatchOption r (TalkFits p c → ⊥) (λ b. b ≡ alt_branch p c values)
send_there r p t chan value c values is same made =
    subst (λ (d : TCommunication). MatchOption r (TalkFits p d → ⊥) (λ b. b ≡ alt_branch p d values)) (sym is)
    (subst (λ (u : Ty). MatchOption r (words_in p u < 2 ^ 32 → ⊥) (λ b. b ≡ sending p u (slice_index (value_at values 0) 0) (value_at values 1))) same made)

-- behind the others
pub branch_more : (p : Program) (s : TStmt) (c : TCommunication) (old new : List Branch) (before after : List (List ℕ)) (more : List TCommunication)
    → communication_of s ≡ c ∷ [] → new ≡ old ++ alt_branch p c before ∷ [] → after ≡ drop (length (communication_exprs c)) before
    → new ++ alt_branches p more after ≡ old ++ alt_branches p (communication_of s ++ more) before
branch_more p s c old new before after more e put rest =
    ap (λ (bs : List Branch). bs ++ alt_branches p more after) put
    ∙ append_assoc old (alt_branch p c before ∷ []) (alt_branches p more after)
    ∙ ap (λ (vs : List (List ℕ)). old ++ alt_branch p c before ∷ alt_branches p more vs) rest
    ∙ ap (λ (cs : List TCommunication). old ++ alt_branches p (cs ++ more) before) (sym e)

pub branch_none : (p : Program) (s : TStmt) (old : List Branch) (values : List (List ℕ)) (more : List TCommunication)
    → communication_of s ≡ [] → old ++ alt_branches p more values ≡ old ++ alt_branches p (communication_of s ++ more) values
branch_none p s old values more e = ap (λ (cs : List TCommunication). old ++ alt_branches p (cs ++ more) values) (sym e)

-- all of them
pub branches_more : (p : Program) (body : List TStmt) (k : ℕ) (s : TStmt) (old new all : List Branch) (before after : List (List ℕ))
    → k < length body → s ≡ get_or body k s
    → new ++ alt_branches p (communications_in (drop (k + 1) body)) after ≡ old ++ alt_branches p (communication_of s ++ communications_in (drop (k + 1) body)) before
    → old ++ alt_branches p (communications_in (drop k body)) before ≡ all
    → new ++ alt_branches p (communications_in (drop (k + 1) body)) after ≡ all
branches_more p body k s old new all before after below is put so_far =
    put ∙ ap (λ (cs : List TCommunication). old ++ alt_branches p cs before) (sym (flat_from communication_of body k s below is)) ∙ so_far

pub branches_past : (p : Program) (body : List TStmt) (k : ℕ) (bs all : List Branch) (values : List (List ℕ)) → length body ≤ k
    → bs ++ alt_branches p (communications_in (drop k body)) values ≡ all → bs ≡ all
branches_past p body k bs all values past so_far =
    sym (append-nil bs) ∙ ap (λ (cs : List TCommunication). bs ++ alt_branches p cs values) (sym (flat_past communication_of body k past)) ∙ so_far

-- ---- how many expressions they have

pub count_more : (body : List TStmt) (k : ℕ) (s : TStmt) (before more all : ℕ) → k < length body → s ≡ get_or body k s
    → more ≡ length (alt_exprs (communication_of s)) → before + length (alt_exprs (communications_in (drop k body))) ≡ all
    → (before + more) + length (alt_exprs (communications_in (drop (k + 1) body))) ≡ all
count_more body k s before more all below is e so_far =
    let rest = communications_in (drop (k + 1) body) in
    add_assoc before more (length (alt_exprs rest))
    ∙ ap (λ (n : ℕ). before + (n + length (alt_exprs rest))) e
    ∙ ap (λ (n : ℕ). before + n) (sym (length-append (alt_exprs (communication_of s)) (alt_exprs rest)))
    ∙ ap (λ es. before + length es) (sym (flat_map-append communication_exprs (communication_of s) rest))
    ∙ ap (λ (cs : List TCommunication). before + length (alt_exprs cs)) (sym (flat_from communication_of body k s below is))
    ∙ so_far

pub count_past : (body : List TStmt) (k count all : ℕ) → length body ≤ k → count + length (alt_exprs (communications_in (drop k body))) ≡ all → count ≡ all
count_past body k count all past so_far =
    sym (add-zero count) ∙ ap (λ (cs : List TCommunication). count + length (alt_exprs cs)) (sym (flat_past communication_of body k past)) ∙ so_far

-- ---- a case that went

pub given_put : {E : Type 0} (r : Result HereRow E) (target : TTarget) (given meant : List ℕ) (h : Here) → given ≡ meant
    → IfOk r (λ x. here_of x ≡ with_work (Aim target ∷ Give given ∷ Assign target ∷ Drop ∷ []) h)
    → IfOk r (λ x. here_of x ≡ with_work (Aim target ∷ Give meant ∷ Assign target ∷ Drop ∷ []) h)
given_put r target given meant h e put =
    subst (λ (ws : List ℕ). IfOk r (λ x. here_of x ≡ with_work (Aim target ∷ Give ws ∷ Assign target ∷ Drop ∷ []) h)) e put

pub body_put : {E : Type 0} (r : Result HereRow E) (b : List Item) (after h : Here) → after ≡ with_work (CasesEnd ∷ []) h
    → IfOk r (λ x. here_of x ≡ with_items b after) → IfOk r (λ x. here_of x ≡ with_items b (with_work (CasesEnd ∷ []) h))
body_put r b after h e put = subst (λ (a : Here). IfOk r (λ x. here_of x ≡ with_items b a)) e put

pub case_entered : (c : TCommunication) (received : List ℕ) (b : List Item) (h after last : Here)
    → after ≡ with_items b (with_work (CasesEnd ∷ []) h) → last ≡ with_work (went_work after.program c received) after
    → moves last ≡ goes_into h (Some (record { communication = c; body = b })) received
case_entered c received b h after last e f =
    ap moves
    (case_goes (went_work h.program c received) b h after last e
    (f ∙ ap (λ (p : Program). with_work (went_work p c received) after) (ap (λ (x : Here). x.program) e)))
