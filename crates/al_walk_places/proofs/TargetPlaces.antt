-- The places of targets.
use denote.Ref.{Bor}
use Rattle.std.proofs.Common.{◌≡◌, ℕ, ◌+◌, ◌<◌, ◌≤◌, List, [], ◌∷◌, ◌++◌, map, take, length, get_or, Result, Ok, Err, IfOk, OnOk, refl, sym, ap, subst, ◌∙◌, append_assoc}
use Rattle.std.specs.List.{flat_map}
use Rattle.std.proofs.lemmas.List.{append-nil, map-append, take_all, take_more}
use Rattle.std.proofs.lemmas.List.Concat.{flat_map-append}
use Rattle.al_typed.specs.declared.ty.Ty.{Ty}
use Rattle.al_typed.specs.declared.expression.TExpr.{Row_of-TTarget, end_of-TTarget, more_of-TTarget, items-the_row-TTarget, items_hidden-the_row-TTarget-5}
use Rattle.al_typed.specs.declared.expression.TExpr.TheBlock.{hidden-the_row-TPlace-0, hidden-the_row-TTarget-5}
use Rattle.al_typed.specs.declared.expression.TPlace.{TPlace}
use Rattle.al_typed.specs.declared.expression.TTarget.{TTarget}
use Rattle.al_typed.specs.declared.expression.TTarget.TheVariants as target
use denote.Hole.Carrier.{hidden}
use Rattle.al_typed.specs.Typed.{place_type}
use Rattle.al_meaning.specs.Items.{Aim, Find, Nowhere}
use Rattle.al_meaning.specs.Parts.{targets}
use Rattle.al_meaning.specs.Here.{Here, Next as Step, does, finds, moves, with_work}
use Rattle.al_control.specs.declared.control.Next.{Next}
use Rattle.al_control.specs.Models.{next_of}
use Rattle.al_meaning.specs.Evaluate.{aim_at, leaves_of, leaves_of_all}
use Rattle.al_walk_places.specs.Referred.{referred}

targets_items : {m : _} (row : Row_of-TTarget m) → targets row ≡ items-the_row-TTarget m row
targets_items end_of-TTarget = refl
targets_items (more_of-TTarget t rest) = ap (λ ts. t ∷ ts) (targets_items rest)

targets_are : (parts : List TTarget) → targets (hidden-the_row-TTarget-5 parts) ≡ parts
targets_are parts = targets_items (hidden-the_row-TTarget-5 parts) ∙ items_hidden-the_row-TTarget-5 parts

-- ---- where they are found

pub aim-Into : (place : TPlace) (h : Here) → aim_at (target.Into place) h ≡ does h (Find place ∷ [])
unfolding hidden-the_row-TPlace-0 hidden
aim-Into place h = refl

pub aim-Dropped : (t : Ty) (h : Here) → aim_at (target.Dropped t) h ≡ finds h Nowhere
aim-Dropped t h = refl

pub aim-Parts : (t : Ty) (parts : List TTarget) (h : Here) → aim_at (target.Parts t parts) h ≡ does h (map Aim parts)
aim-Parts t parts h = ap (λ ts. does h (map Aim ts)) (targets_are parts)

pub ruleset aims = (aim-Into, aim-Dropped, aim-Parts)

-- the parts of a target are to be found before the rest
pub parts_aimed : {E : Type 0} (r : Result Next E) (it : TTarget) (t : Ty) (parts given : List TTarget) (h after : Here) → it ≡ target.Parts t parts → given ≡ parts
    → after ≡ with_work (map Aim given) h → IfOk r (λ n. next_of n ≡ moves after) → IfOk r (λ n. next_of n ≡ aim_at it h)
parts_aimed r it t parts given h after is same e goes =
    subst (λ (s : Step). IfOk r (λ n. next_of n ≡ s))
    (ap moves e ∙ ap (λ (ts : List TTarget). does h (map Aim ts)) same ∙ sym (ap (λ (it : TTarget). aim_at it h) is ∙ aim-Parts t parts h))
    goes

-- ---- their types

leaves_items : {m : _} (row : Row_of-TTarget m) → leaves_of_all row ≡ flat_map leaves_of (items-the_row-TTarget m row)
leaves_items end_of-TTarget = refl
leaves_items (more_of-TTarget t rest) = ap (λ ts. leaves_of t ++ ts) (leaves_items rest)

pub leaves-Into : (place : TPlace) → leaves_of (target.Into place) ≡ place_type place ∷ []
unfolding hidden-the_row-TPlace-0 hidden
leaves-Into place = refl

pub leaves-Dropped : (t : Ty) → leaves_of (target.Dropped t) ≡ t ∷ []
leaves-Dropped t = refl

pub leaves-Parts : (t : Ty) (parts : List TTarget) → leaves_of (target.Parts t parts) ≡ flat_map leaves_of parts
leaves-Parts t parts = leaves_items (hidden-the_row-TTarget-5 parts) ∙ ap (flat_map leaves_of) (items_hidden-the_row-TTarget-5 parts)

pub ruleset leaves = (leaves-Into, leaves-Dropped, leaves-Parts)

-- those of one target more
pub leaves_more : (parts : List TTarget) (i : ℕ) (t : TTarget) (first so_far new : List Ty) → i < length parts → t ≡ get_or parts i t
    → new ≡ so_far ++ leaves_of t → so_far ≡ first ++ flat_map leaves_of (take i parts) → new ≡ first ++ flat_map leaves_of (take (i + 1) parts)
leaves_more parts i t first so_far new h is n e =
    let before = flat_map leaves_of (take i parts) in
    n
    ∙ ap (λ ts. ts ++ leaves_of t) e
    ∙ append_assoc first before (leaves_of t)
    ∙ ap (λ ts. first ++ ts)
    (sym
    (ap (flat_map leaves_of) (take_more parts i t h)
    ∙ flat_map-append leaves_of (take i parts) (get_or parts i t ∷ [])
    ∙ ap (λ (u : TTarget). before ++ (leaves_of u ++ [])) (sym is)
    ∙ ap (λ ts. before ++ ts) (append-nil (leaves_of t))))

pub leaves_over : (parts : List TTarget) (i : ℕ) (first new : List Ty) → length parts ≤ i → new ≡ first ++ flat_map leaves_of (take i parts)
    → new ≡ first ++ flat_map leaves_of parts
leaves_over parts i first new past e = e ∙ ap (λ (ts : List TTarget). first ++ flat_map leaves_of ts) (take_all i parts past)

-- a reference put behind others
pub put_behind : {A E : Type 0} (r : Result A E) (before new : List (Bor Ty)) (t : Bor Ty) (target : TTarget) → leaves_of target ≡ t.now ∷ []
    → OnOk r (new ≡ before ++ t ∷ []) → OnOk r (referred new ≡ referred before ++ leaves_of target)
put_behind (Ok x) before new t target e is = ap referred is ∙ map-append (λ (r : Bor Ty). r.now) before (t ∷ []) ∙ ap (λ ts. referred before ++ ts) (sym e)
put_behind (Err x) before new t target e is = tt

-- the types of the places of the parts of a target, behind others
pub put_each : {A E : Type 0} (r : Result A E) (before new : List Ty) (it : TTarget) (t : Ty) (parts given : List TTarget) → it ≡ target.Parts t parts → given ≡ parts
    → OnOk r (new ≡ before ++ flat_map leaves_of given) → OnOk r (new ≡ before ++ leaves_of it)
put_each r before new it t parts given is same put =
    subst (λ (ts : List Ty). OnOk r (new ≡ before ++ ts)) (ap (λ (ts : List TTarget). flat_map leaves_of ts) same ∙ sym (ap leaves_of is ∙ leaves-Parts t parts)) put
