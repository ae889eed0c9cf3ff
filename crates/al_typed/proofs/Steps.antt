-- Running sums over a list, one element after another.
use Rattle.std.proofs.Common.{◌≡◌, ℕ, ◌+◌, ◌<◌, List, [], ◌∷◌, ◌++◌, Bool, false, Option, take, get_or, length, refl, ap, sym, ◌∙◌}
use Rattle.std.specs.List.{flat_map}
use Rattle.std.proofs.lemmas.Option.{slice_get-get_or}
use Rattle.std.proofs.lemmas.List.{take_more}
use Rattle.std.proofs.lemmas.Grind.{flat_map-append}
use Rattle.std.proofs.lemmas.List.{append-nil}
use Rattle.al_typed.specs.declared.ty.Ty.{Ty}
use Rattle.al_typed.specs.declared.tally.Tally.{Tally}
use Rattle.al_typed.specs.declared.piece.Piece.{Piece}
use Rattle.al_typed.specs.declared.piece.Piece.TheVariants as piece
use Rattle.al_typed.specs.declared.program.Program.{Program}
use Rattle.al_typed.specs.declared.expression.TExpr.{TExpr}
use Rattle.al_typed.specs.declared.expression.TExpr.TheVariants as expr
use Rattle.al_typed.specs.declared.expression.TReceiver.{TReceiver}
use Rattle.al_typed.specs.Typed.{type_of}
use Rattle.al_typed.specs.Measures.{pieces, whole_pieces, argument_pieces, given_pieces, node, counted, tallied}
use Rattle.al_typed.proofs.Tallies.{tallied-append, tallied-Call}

pub tallied-nil : (p : Program) (s : Tally) → s ≡ tallied p s []
unfolding tallied
tallied-nil p s = refl

pub tallied-cons : (p : Program) (s : Tally) (x : Piece) (xs : List Piece) → tallied p s (x ∷ xs) ≡ tallied p (counted p s x) xs
unfolding tallied
tallied-cons p s x xs = refl

pub counted_one : (p : Program) (s : Tally) (x : Piece) → counted p s x ≡ tallied p s (x ∷ [])
unfolding tallied
counted_one p s x = refl

flat_map_one_more : {A : Type 0} (f : A → List Piece) (xs : List A) (i : ℕ) (item : A) → i < length xs → item ≡ get_or xs i item
    → flat_map f (take (i + 1) xs) ≡ flat_map f (take i xs) ++ f item
flat_map_one_more f xs i item h is =
    ap (flat_map f) (take_more xs i item h) ∙ flat_map-append f (take i xs) (get_or xs i item ∷ [])
    ∙ ap (λ l. flat_map f (take i xs) ++ l) (append-nil (f (get_or xs i item)) ∙ ap f (sym is))

-- a number in a list, whatever would stand for one past its end
pub number_at : (xs : List ℕ) (i d : ℕ) → i < length xs → get_or xs i d ≡ get_or xs i (get_or xs i d)
number_at xs i d h = cc (slice_get-get_or xs i d h, slice_get-get_or xs i (get_or xs i d) h)

-- one element more
pub tallied_more :
    {A : Type 0} (p : Program) (s now new : Tally) (f : A → List Piece) (xs : List A) (i : ℕ) (item : A)
    → i < length xs → item ≡ get_or xs i item → now ≡ tallied p s (flat_map f (take i xs)) → new ≡ tallied p now (f item)
    → new ≡ tallied p s (flat_map f (take (i + 1) xs))
tallied_more p s now new f xs i item h is before step =
    step ∙ ap (λ z. tallied p z (f item)) before ∙ sym (tallied-append p s (flat_map f (take i xs)) (f item))
    ∙ ap (tallied p s) (sym (flat_map_one_more f xs i item h is))

pub argument_more :
    (p : Program) (now between new : Tally) (item : TExpr) (t : Ty) → t ≡ type_of item → between ≡ counted p now (piece.Copied t) → new ≡ tallied p between (pieces false item)
    → new ≡ tallied p now (argument_pieces item)
argument_more p now between new item t is first step =
    step ∙ ap (λ z. tallied p z (pieces false item)) (first ∙ ap (λ u. counted p now (piece.Copied u)) is)
    ∙ sym (tallied-cons p now (piece.Copied (type_of item)) (pieces false item))

pub call_is :
    (p : Program) (s s1 s2 new : Tally) (named : Bool) (e : TExpr) (t : Ty) (number : ℕ) (r : Option TReceiver) (xs : List TExpr)
    → e ≡ expr.Call t number r xs → s1 ≡ counted p s (node named t) → s2 ≡ tallied p s1 (given_pieces r)
    → new ≡ tallied p s2 (flat_map whole_pieces xs) → new ≡ tallied p s (pieces named e)
call_is p s s1 s2 new named e t number r xs is first given rest =
    rest ∙ ap (λ z. tallied p z (flat_map whole_pieces xs)) (given ∙ ap (λ z. tallied p z (given_pieces r)) first)
    ∙ sym (tallied-Call p s named t number r xs) ∙ ap (λ x. tallied p s (pieces named x)) (sym is)

pub ruleset lists = (tallied-nil, tallied-cons, tallied-append)
