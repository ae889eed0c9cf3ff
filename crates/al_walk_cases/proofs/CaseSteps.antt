-- What is done of the cases of switches and alts.
use Rattle.std.proofs.Common.{◌≡◌, ℕ, zero, suc, ◌+◌, ◌-◌, ◌<◌, ◌≤◌, List, [], ◌∷◌, ◌++◌, length, drop, get_or, Option, Some, None, refl, sym, ap, subst, ◌∙◌, arith}
use Rattle.std.proofs.lemmas.List.{drop_all, drop_more, get_or_default}
use Rattle.std.specs.Prelude.{All, option_map, slice_get, slice_index}
use Rattle.al_event.specs.declared.act.Act.TheVariants as act
use Rattle.al_typed.specs.declared.expression.TExpr.{TExpr}
use Rattle.al_typed.specs.declared.program.Program.{Program}
use Rattle.al_typed.specs.declared.statement.TCommunication.{TCommunication}
use Rattle.al_typed.specs.declared.statement.TStmt.{TStmt, AltCase}
use Rattle.al_typed.specs.declared.statement.TStmt.TheBlock.{hidden-the_row-TStmt-0}
use Rattle.al_typed.specs.declared.statement.TStmt.TheVariants as variant
use Rattle.al_meaning.specs.Evaluate.{alt_branches, alt_exprs, communications, goes_into}
use Rattle.al_meaning.specs.Execute.{alt_asks, cases_of, select, selects}
use Rattle.al_meaning.specs.Here.{Here, asks, with_values}
use Rattle.al_meaning.specs.Items.{AltWent}
use Rattle.al_meaning.specs.Parts.{Branching, behind_default, first_of_two}
use Rattle.al_walk_loops.specs.BodyParts.{statements_in}
use Rattle.al_walk_cases.specs.CaseLists.{IsPlaceOf, behind, branching_of, branchings_in, chosen, communication_of, communications_in, has_bits, is_default}
use Rattle.al_walk_cases.specs.Fits.{CasesFit, TalksFit, TalksFitIn, WentFits}
use Rattle.al_walk_cases.proofs.CaseRows.{branchings_are, cases_are, communications_are, default_is}

-- ---- switches

pub selected : (line bits : ℕ) (value : TExpr) (body : List TStmt) (h : Here)
    → select (variant.Switch line value body) bits h
    ≡ selects h (option_map statements_in (chosen bits body))
selected line bits value body h =
    ap (λ o. selects h (first_of_two o (behind_default (hidden-the_row-TStmt-0 body)))) (cases_are bits body)
    ∙ ap (λ o. selects h (first_of_two (option_map statements_in (behind (has_bits bits) body)) o)) (default_is body)
    ∙ ap (selects h) (mapped (behind (has_bits bits) body) (behind is_default body))
  where
    mapped : (a b : Option (List TStmt)) → first_of_two (option_map statements_in a) (option_map statements_in b) ≡ option_map statements_in (first_of_two a b)
    mapped (Some a) b = refl
    mapped None b = refl

pub select_step : (line bits : ℕ) (value : TExpr) (body b : List TStmt) (s : TStmt) (h : Here) → s ≡ variant.Switch line value body → b ≡ body
    → selects h (option_map statements_in (chosen bits b)) ≡ select s bits h
select_step line bits value body b s h is same =
    ap (λ (l : List TStmt). selects h (option_map statements_in (chosen bits l))) same
    ∙ sym (selected line bits value body h)
    ∙ ap (λ (t : TStmt). select t bits h) (sym is)

-- ---- alts

pub cases-Alt : (line : ℕ) (body : List TStmt) → cases_of (variant.Alt line body) ≡ branchings_in body
cases-Alt line body = branchings_are body

pub ruleset alts = (cases-Alt)

cases_are_those : (s : TStmt) (body : List TStmt) → cases_of s ≡ branchings_in body → communications_in body ≡ communications (cases_of s)
cases_are_those s body e = sym (communications_are body) ∙ ap communications (sym e)

pub talks_are : (s : TStmt) (body : List TStmt) (h : Here) → cases_of s ≡ branchings_in body
    → with_values (length (alt_exprs (communications_in body))) h
    (λ values h. asks h (act.Talk (alt_branches h.program (communications_in body) values)) (AltWent s ∷ []))
    ≡ alt_asks s h
talks_are s body h e =
    ap (λ (cs : List TCommunication). with_values (length (alt_exprs cs)) h (λ values h. asks h (act.Talk (alt_branches h.program cs values)) (AltWent s ∷ [])))
    (cases_are_those s body e)

pub talks_fit : (p : Program) (s : TStmt) (body : List TStmt) → cases_of s ≡ branchings_in body → TalksFit p s → TalksFitIn p (communications_in body)
talks_fit p s body e fit = subst (λ (cs : List TCommunication). TalksFitIn p cs) (sym (cases_are_those s body e)) fit

pub cases_fit : (p : Program) (s : TStmt) (body : List TStmt) → cases_of s ≡ branchings_in body → CasesFit p s → All (WentFits p) (communications_in body)
cases_fit p s body e fit = subst (λ (cs : List TCommunication). All (WentFits p) cs) (sym (cases_are_those s body e)) fit

pub went_are : (s : TStmt) (body : List TStmt) (h : Here) (number : ℕ) (received answer : List ℕ) → cases_of s ≡ branchings_in body
    → number ≡ slice_index answer 0 → received ≡ drop 1 answer
    → goes_into h (slice_get (branchings_in body) number) received ≡ goes_into h (slice_get (cases_of s) (slice_index answer 0)) (drop 1 answer)
went_are s body h number received answer e number_is received_is =
    ap (λ (bs : List Branching). goes_into h (slice_get bs number) received) (sym e)
    ∙ ap (λ (n : ℕ). goes_into h (slice_get (cases_of s) n) received) number_is
    ∙ ap (goes_into h (slice_get (cases_of s) (slice_index answer 0))) received_is

-- ---- the case of a number

branching_count : (s : TStmt) (rest : List TStmt) → length (branching_of s rest) ≡ length (communication_of s)
branching_count (AltCase c) rest = refl
branching_count s rest = refl

one_at_most : (s : TStmt) → length (communication_of s) ≤ 1
one_at_most (AltCase c) = omega arith
one_at_most s = omega arith

branchings_from : (cases : List TStmt) (k : ℕ) (s : TStmt) → k < length cases → s ≡ get_or cases k s
    → branchings_in (drop k cases) ≡ branching_of s (drop (k + 1) cases) ++ branchings_in (drop (k + 1) cases)
branchings_from cases k s below is =
    ap branchings_in (drop_more cases k s below)
    ∙ ap (λ (t : TStmt). branching_of t (drop (k + 1) cases) ++ branchings_in (drop (k + 1) cases)) (sym is)

left_behind : (a b : List Branching) (n : ℕ) → length a ≤ n → slice_get (a ++ b) n ≡ slice_get b (n - length a)
left_behind [] b n h = let e : n ≡ n - 0 = omega arith in ap (slice_get b) e
left_behind (x ∷ a) b zero h = absurd (omega arith)
left_behind (x ∷ a) b (suc n) h =
    let e : n - length a ≡ suc n - suc (length a) = omega arith in left_behind a b n (omega arith) ∙ ap (slice_get b) e

in_front : (a b : List Branching) (n : ℕ) → n < length a → slice_get (a ++ b) n ≡ slice_get a n
in_front [] b n h = absurd (omega arith)
in_front (x ∷ a) b zero h = refl
in_front (x ∷ a) b (suc n) h = in_front a b n (omega arith)

-- a statement is passed
pub place_passed : (cases : List TStmt) (k : ℕ) (s : TStmt) (number left passed : ℕ) → k < length cases → s ≡ get_or cases k s
    → slice_get (branchings_in cases) number ≡ slice_get (branchings_in (drop k cases)) left → passed ≡ length (communication_of s) → passed ≤ left
    → slice_get (branchings_in cases) number ≡ slice_get (branchings_in (drop (k + 1) cases)) (left - passed)
place_passed cases k s number left passed below is so_far count enough =
    let rest = drop (k + 1) cases in
    let same : passed ≡ length (branching_of s rest) = count ∙ sym (branching_count s rest) in
    let few : length (branching_of s rest) ≤ left = subst (λ (n : ℕ). n ≤ left) same enough in
    so_far
    ∙ ap (λ (bs : List Branching). slice_get bs left) (branchings_from cases k s below is)
    ∙ left_behind (branching_of s rest) (branchings_in rest) left few
    ∙ ap (λ (n : ℕ). slice_get (branchings_in rest) (left - n)) (sym same)

-- it is the case
pub place_found : (cases : List TStmt) (k : ℕ) (s : TStmt) (number left passed : ℕ) → k < length cases → s ≡ get_or cases k s
    → slice_get (branchings_in cases) number ≡ slice_get (branchings_in (drop k cases)) left → passed ≡ length (communication_of s) → left < passed
    → IsPlaceOf cases number k
place_found cases k s number left passed below is so_far count above t is_t =
    let rest = drop (k + 1) cases in
    let same : passed ≡ length (branching_of s rest) = count ∙ sym (branching_count s rest) in
    let within : left < length (branching_of s rest) = subst (λ (n : ℕ). left < n) same above in
    let few : passed ≤ 1 = subst (λ (n : ℕ). n ≤ 1) (sym count) (one_at_most s) in
    let first : left ≡ 0 = omega arith in
    let this : s ≡ t = is ∙ get_or_default cases k s t below ∙ sym is_t in
    so_far
    ∙ ap (λ (bs : List Branching). slice_get bs left) (branchings_from cases k s below is)
    ∙ in_front (branching_of s rest) (branchings_in rest) left within
    ∙ ap (slice_get (branching_of s rest)) first
    ∙ ap (λ (u : TStmt). slice_get (branching_of u rest) 0) this

-- there is none
pub place_none : (cases : List TStmt) (k number left : ℕ) → length cases ≤ k
    → slice_get (branchings_in cases) number ≡ slice_get (branchings_in (drop k cases)) left → slice_get (branchings_in cases) number ≡ None
place_none cases k number left past so_far =
    so_far ∙ ap (λ (l : List TStmt). slice_get (branchings_in l) left) (drop_all k cases past)

-- what stands at a place went
pub went_there : (cases rest : List TStmt) (number k : ℕ) (s : TStmt) (received : List ℕ) (h : Here) → rest ≡ drop (k + 1) cases → s ≡ get_or cases k s
    → IsPlaceOf cases number k
    → goes_into h (slice_get (branching_of s rest) 0) received ≡ goes_into h (slice_get (branchings_in cases) number) received
went_there cases rest number k s received h is_rest is place =
    ap (λ (l : List TStmt). goes_into h (slice_get (branching_of s l) 0) received) is_rest
    ∙ ap (λ o. goes_into h o received) (sym (place s is))

-- a statement that is a case, and one that is none
pub one_branching : (s : TStmt) (c : TCommunication) (rest : List TStmt) → communication_of s ≡ c ∷ []
    → slice_get (branching_of s rest) 0 ≡ Some (record { communication = c; body = statements_in rest })
one_branching (AltCase d) c rest e = let same : d ≡ c = cc in ap (λ (t : TCommunication). slice_get (branching_of (AltCase t) rest) 0) same
one_branching s c rest e = absurd (cc)

pub no_branching : (s : TStmt) (rest : List TStmt) → communication_of s ≡ [] → slice_get (branching_of s rest) 0 ≡ None
no_branching (AltCase c) rest e = absurd (cc)
no_branching s rest e = refl
