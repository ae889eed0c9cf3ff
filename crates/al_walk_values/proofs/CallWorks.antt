-- Objects of calls, and calls by name.
use Rattle.std.proofs.Common.{◌≡◌, ℕ, ◌+◌, List, [], ◌∷◌, ◌++◌, map, length, Option, Some, None, Result, Ok, Err, IfOk, IfErr, refl, sym, ap, ◌∙◌, subst}
use Rattle.al_typed.specs.declared.ty.Ty.{Ty, out-Ty}
use Rattle.al_typed.specs.declared.ty.Ty.TheOpen.{Ty-F}
use Rattle.al_typed.specs.declared.expression.Passed.{Passed}
use Rattle.al_typed.specs.declared.expression.TExpr.{TExpr}
use Rattle.al_typed.specs.declared.expression.TExpr.TheBlock.{hidden-the_row-TPlace-0, hidden-the_row-TExpr-1, hidden-the_row-TExpr-3, hidden-the_row-TReceiver-4}
use Rattle.al_typed.specs.declared.expression.TExpr.TheVariants as expr
use Rattle.al_typed.specs.declared.expression.TPlace.{TPlace}
use Rattle.al_typed.specs.declared.expression.TReceiver.{TReceiver}
use Rattle.al_typed.specs.declared.expression.TReceiver.TheVariants as receiver
use Rattle.al_typed.specs.declared.program.Program.{Program}
use denote.Hole.Carrier.{hidden}
use Rattle.al_typed.specs.Typed.{type_of, place_type}
use Rattle.al_convert.specs.Same.{pointed, pointed_at}
use Rattle.al_meaning.specs.Items.{Work, Eval, Find, PassPlace, PassPointer, PassPart}
use Rattle.al_meaning.specs.Places.{path_offset}
use Rattle.al_meaning.specs.Here.{Here, member_type, pointee, pointee_at, with_work}
use Rattle.al_meaning.specs.Calls.{call_work, count_passed, evaluated, object_count, object_work}
use Rattle.al_variables.specs.Members.{Leads}
use Rattle.al_walk_values.specs.Fits.{CallFits, LeadsBehind, ObjectFits, ReceiverFits}
use Rattle.al_walk_values.proofs.Evaluations.{exprs_are}
use Rattle.al_walk_values.proofs.WorkLists.{put_before_both}
use Rattle.al_control.specs.declared.control.Here.{Here as At}
use Rattle.al_control.specs.declared.unmade.Unmade.{Unmade}
use Rattle.al_control.specs.declared.unmade.Unmade.TheVariants as unmade
use Rattle.al_control.specs.Fits.{Explains}
use Rattle.al_control.specs.Models.{here_of}

-- ---- objects

pub object-Place : (p : Program) (place : TPlace) (path : List ℕ) (how : Passed)
    → object_work p (Some (receiver.Place place path how))
    ≡ Find place ∷ PassPlace how (member_type p (place_type place) path) (path_offset p (place_type place) path) ∷ []
unfolding hidden-the_row-TPlace-0 hidden
object-Place p place path how = refl

pub object-Value : (p : Program) (value : TExpr) (path : List ℕ) (how : Passed)
    → object_work p (Some (receiver.Value value path how)) ≡ Eval value ∷ PassPart how (type_of value) path ∷ []
unfolding hidden-the_row-TExpr-1 hidden
object-Value p value path how = refl

pub object-Pointer : (p : Program) (pointer : TExpr) (path : List ℕ) (how : Passed)
    → object_work p (Some (receiver.Pointer pointer path how))
    ≡ Eval pointer ∷ PassPointer how (member_type p (pointee (type_of pointer)) path) (path_offset p (pointee (type_of pointer)) path) ∷ []
unfolding hidden-the_row-TExpr-1 hidden
object-Pointer p pointer path how = refl

-- the object of a kind, put before the rest
pub object_put : {E : Type 0} (r : Result At E) (p : Program) (it v : TReceiver) (works : List Work) (h : Here) → it ≡ v → object_work p (Some v) ≡ works
    → IfOk r (λ x. here_of x ≡ with_work works h) → IfOk r (λ x. here_of x ≡ with_work (object_work p (Some it)) h)
object_put r p it v works h is e put =
    subst (λ (ws : List Work). IfOk r (λ x. here_of x ≡ with_work ws h)) (sym (ap (λ (it : TReceiver). object_work p (Some it)) is ∙ e)) put

pub object_becomes : (p : Program) (it v : TReceiver) (works : List Work) (h : Here) → it ≡ v → object_work p (Some v) ≡ works
    → with_work works h ≡ with_work (object_work p (Some it)) h
object_becomes p it v works h is e = ap (λ (ws : List Work). with_work ws h) (sym (ap (λ (it : TReceiver). object_work p (Some it)) is ∙ e))

pub object_why : {T : Type 0} (r : Result T Unmade) (p : Program) (it v : TReceiver) → it ≡ v
    → IfErr r (λ x. Explains x (ReceiverFits p v)) → IfErr r (λ x. Explains x (ReceiverFits p it))
object_why r p it v is why = subst (λ (it : TReceiver). IfErr r (λ x. Explains x (ReceiverFits p it))) (sym is) why

pub object_why-Place : {T : Type 0} (r : Result T Unmade) (p : Program) (it : TReceiver) (place : TPlace) (path : List ℕ) (how : Passed)
    → it ≡ receiver.Place place path how → IfErr r (λ x. Explains x (Leads p (place_type place) path)) → IfErr r (λ x. Explains x (ReceiverFits p it))
unfolding hidden-the_row-TPlace-0 hidden
object_why-Place r p it place path how is why = object_why r p it (receiver.Place place path how) is why

-- ---- pointers to objects

nothing_behind : (p : Program) (x : Ty-F Ty) (path : List ℕ) → None ≡ pointed_at x → LeadsBehind p x path → ⊥
nothing_behind p (Ty-F.Pointer to) path e leads = absurd (cc)
nothing_behind p _ path e leads = leads

pub not_behind : (p : Program) (t : Ty) (path : List ℕ) → None ≡ pointed t → LeadsBehind p (out-Ty t) path → ⊥
unfolding pointed
not_behind p t path e = nothing_behind p (out-Ty t) path e

record Behind (p : Program) (x : Ty-F Ty) (to : Ty) (path : List ℕ) : Type 0 where
  pub pointee : pointee_at x ≡ to
  pub leads : LeadsBehind p x path → Leads p to path

something_behind : (p : Program) (x : Ty-F Ty) (to : Ty) (path : List ℕ) → Some to ≡ pointed_at x → Behind p x to path
something_behind p (Ty-F.Pointer u) to path e =
    let same : to ≡ u = cc in
    record { pointee = sym same; leads = λ h. subst (λ (t : Ty). Leads p t path) (sym same) h }
something_behind p _ to path e = absurd (cc)

pub behind_is : (p : Program) (t to : Ty) (path : List ℕ) → Some to ≡ pointed t → (pointee t ≡ to) × (LeadsBehind p (out-Ty t) path → Leads p to path)
unfolding pointed pointee
behind_is p t to path e = let b = something_behind p (out-Ty t) to path e in (b.pointee, b.leads)

-- ---- what explains that a step is not made

pub explained : {T : Type 0} (r : Result T Unmade) (fits needed : Type 0) → (needed → fits) → IfErr r (λ x. Explains x fits) → IfErr r (λ x. Explains x needed)
explained (Ok x) fits needed f why = tt
explained (Err unmade.NoMemory) fits needed f why = tt
explained (Err unmade.TooLarge) fits needed f why = λ there. why (f there)

-- ---- objects behind pointers

pub none_explained : (p : Program) (pointer : TExpr) (path : List ℕ) (how : Passed) → None ≡ pointed (type_of pointer)
    → ReceiverFits p (receiver.Pointer pointer path how) → ⊥
unfolding hidden-the_row-TExpr-1 hidden
none_explained p pointer path how e fits = not_behind p (type_of pointer) path e fits

pub behind_put : {E : Type 0} (r : Result At E) (p : Program) (pointer : TExpr) (to : Ty) (path : List ℕ) (how : Passed) (h : Here)
    → Some to ≡ pointed (type_of pointer)
    → IfOk r (λ x. here_of x ≡ with_work (Eval pointer ∷ PassPointer how (member_type p to path) (path_offset p to path) ∷ []) h)
    → IfOk r (λ x. here_of x ≡ with_work (object_work p (Some (receiver.Pointer pointer path how))) h)
behind_put (Ok x) p pointer to path how h e is =
    is
    ∙ ap (λ (t : Ty). with_work (Eval pointer ∷ PassPointer how (member_type p t path) (path_offset p t path) ∷ []) h) (sym (behind_is p (type_of pointer) to path e).0)
    ∙ ap (λ (ws : List Work). with_work ws h) (sym (object-Pointer p pointer path how))
behind_put (Err x) p pointer to path how h e is = tt

pub behind_explained : {T : Type 0} (r : Result T Unmade) (p : Program) (pointer : TExpr) (to : Ty) (path : List ℕ) (how : Passed)
    → Some to ≡ pointed (type_of pointer) → IfErr r (λ x. Explains x (Leads p to path))
    → IfErr r (λ x. Explains x (ReceiverFits p (receiver.Pointer pointer path how)))
unfolding hidden-the_row-TExpr-1 hidden
behind_explained r p pointer to path how e why =
    explained r (Leads p to path) (LeadsBehind p (out-Ty (type_of pointer)) path) (behind_is p (type_of pointer) to path e).1 why

-- ---- how many values they give

pub count-Place : (place : TPlace) (path : List ℕ) (how : Passed) → object_count (Some (receiver.Place place path how)) ≡ count_passed how
unfolding hidden-the_row-TPlace-0 hidden
count-Place place path how = refl

pub count-Value : (value : TExpr) (path : List ℕ) (how : Passed) → object_count (Some (receiver.Value value path how)) ≡ count_passed how
unfolding hidden-the_row-TExpr-1 hidden
count-Value value path how = refl

pub count-Pointer : (pointer : TExpr) (path : List ℕ) (how : Passed) → object_count (Some (receiver.Pointer pointer path how)) ≡ count_passed how
unfolding hidden-the_row-TExpr-1 hidden
count-Pointer pointer path how = refl

pub count_becomes : (it v : TReceiver) (n : ℕ) → it ≡ v → object_count (Some v) ≡ n → n ≡ object_count (Some it)
count_becomes it v n is e = sym (ap (λ (it : TReceiver). object_count (Some it)) is ∙ e)

-- ---- calls

pub call-named : (p : Program) (t : Ty) (function : ℕ) (r : Option TReceiver) (arguments : List TExpr) (then_do : ℕ → ℕ → Work)
    → call_work p (expr.Call t function r arguments) then_do
    ≡ object_work p r ++ evaluated arguments ++ then_do function (object_count r + length arguments) ∷ []
unfolding hidden-the_row-TReceiver-4 hidden
call-named p t function None arguments then_do = ap (λ es. evaluated es ++ then_do function (0 + length es) ∷ []) (exprs_are arguments)
call-named p t function (Some r) arguments then_do =
    ap (λ es. object_work p (Some r) ++ evaluated es ++ then_do function (object_count (Some r) + length es) ∷ []) (exprs_are arguments)

-- the object of a call, put before the arguments and what is done with them
pub call_put : {E : Type 0} (r : Result At E) (receiver : Option TReceiver) (es : List TExpr) (w done : Work) (h after : At)
    → here_of after ≡ with_work (evaluated es ++ w ∷ []) (here_of h) → w ≡ done
    → IfOk r (λ x. here_of x ≡ with_work (object_work after.program.now receiver) (here_of after))
    → IfOk r (λ x. here_of x ≡ with_work (object_work h.program.now receiver ++ evaluated es ++ done ∷ []) (here_of h))
call_put r receiver es w done h after e same is =
    put_before_both r (object_work h.program.now receiver) (evaluated es) (done ∷ []) (here_of h) (here_of after)
    (e ∙ ap (λ (w : Work). with_work (evaluated es ++ w ∷ []) (here_of h)) same)
    (subst (λ (p : Program). IfOk r (λ x. here_of x ≡ with_work (object_work p receiver) (here_of after))) (ap (λ (x : Here). x.program) e) is)

pub call_explained : {T : Type 0} (r : Result T Unmade) (receiver : Option TReceiver) (es : List TExpr) (w : Work) (h after : At)
    → here_of after ≡ with_work (evaluated es ++ w ∷ []) (here_of h)
    → IfErr r (λ x. Explains x (ObjectFits after.program.now receiver)) → IfErr r (λ x. Explains x (ObjectFits h.program.now receiver))
call_explained r receiver es w h after e is =
    subst (λ (p : Program). IfErr r (λ x. Explains x (ObjectFits p receiver))) (ap (λ (x : Here). x.program) e) is

-- a call by name, put before the rest
pub named_put : {E : Type 0} (r : Result At E) (p : Program) (e : TExpr) (t : Ty) (function : ℕ) (receiver : Option TReceiver) (given arguments : List TExpr)
    (then_do : ℕ → ℕ → Work) (h : Here)
    → e ≡ expr.Call t function receiver arguments → given ≡ arguments
    → IfOk r (λ x. here_of x ≡ with_work (object_work p receiver ++ evaluated given ++ then_do function (object_count receiver + length given) ∷ []) h)
    → IfOk r (λ x. here_of x ≡ with_work (call_work p e then_do) h)
named_put r p e t function receiver given arguments then_do h is same put =
    subst (λ (ws : List Work). IfOk r (λ x. here_of x ≡ with_work ws h))
    (ap (λ (es : List TExpr). object_work p receiver ++ evaluated es ++ then_do function (object_count receiver + length es) ∷ []) same
    ∙ sym (ap (λ (e : TExpr). call_work p e then_do) is ∙ call-named p t function receiver arguments then_do))
    put

named_needs : {T : Type 0} (r : Result T Unmade) (p : Program) (t : Ty) (function : ℕ) (receiver : Option TReceiver) (arguments : List TExpr)
    → IfErr r (λ x. Explains x (ObjectFits p receiver)) → IfErr r (λ x. Explains x (CallFits p (expr.Call t function receiver arguments)))
unfolding hidden-the_row-TReceiver-4 hidden
named_needs r p t function None arguments why = why
named_needs r p t function (Some it) arguments why = why

pub named_why : {T : Type 0} (r : Result T Unmade) (p : Program) (e : TExpr) (t : Ty) (function : ℕ) (receiver : Option TReceiver) (arguments : List TExpr)
    → e ≡ expr.Call t function receiver arguments → IfErr r (λ x. Explains x (ObjectFits p receiver)) → IfErr r (λ x. Explains x (CallFits p e))
named_why r p e t function receiver arguments is why =
    subst (λ (e : TExpr). IfErr r (λ x. Explains x (CallFits p e))) (sym is) (named_needs r p t function receiver arguments why)
