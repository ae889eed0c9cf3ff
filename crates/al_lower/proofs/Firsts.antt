-- The first functions of their types among those before a place.
use Rattle.std.proofs.Common.{◌≡◌, ℕ, suc, ◌+◌, ◌<◌, List, [], ◌∷◌, ◌++◌, take, drop, length, get_or, Option, Some, None, refl, sym, ap, ap₂, ◌∙◌, arith}
use Rattle.std.specs.Prelude.{Bool, true, false, if◌then◌else◌, slice_get}
use Rattle.std.proofs.lemmas.List.{take_more, take-append-drop, length-take-le, drop_more}
use Rattle.std.proofs.lemmas.Option.{slice_get_read}
use Rattle.al_typed.specs.declared.ty.Ty.{Ty}
use Rattle.al_typed.specs.declared.program.Function.{Function as FunctionRow}
use Rattle.al_typed.specs.declared.program.Program.{Program}
use Rattle.al_typed.specs.Typed.{function_type}
use Rattle.al_typed.specs.Alike.{are_alike}
use Rattle.al_meaning.specs.Parts.{first_of_two}
use Rattle.al_meaning.specs.Calls.{has_type}
use Rattle.al_lower_code.specs.Classes.{first_of_type, class_number}
use Rattle.al_lower.specs.Alike.{own_class, class_of, is_typed, first_among, first_in, AreFirsts}
use Rattle.al_lower.proofs.AlikeTypes.{alike_itself, alike_same}

-- ---- one more at the end

in_more : (t : Ty) (n : ℕ) (fs : List FunctionRow) (f : FunctionRow)
    → first_in t n (fs ++ f ∷ []) ≡ first_of_two (first_in t n fs) (if has_type t f.around f then Some (n + length fs) else None)
in_more t n [] f = ap (λ k. if has_type t f.around f then Some k else None) (omega arith)
in_more t n (g ∷ fs) f = on (has_type t g.around g) (in_more t (n + 1) fs f)
  where
    next : n + 1 + length fs ≡ n + suc (length fs)
    next = omega arith

    on : (b : Bool) → first_in t (n + 1) (fs ++ f ∷ []) ≡ first_of_two (first_in t (n + 1) fs) (if has_type t f.around f then Some (n + 1 + length fs) else None)
        → (if b then Some n else first_in t (n + 1) (fs ++ f ∷ []))
        ≡ first_of_two (if b then Some n else first_in t (n + 1) fs) (if has_type t f.around f then Some (n + suc (length fs)) else None)
    on true h = refl
    on false h = h ∙ ap (λ k. first_of_two (first_in t (n + 1) fs) (if has_type t f.around f then Some k else None)) next

among_more : (fs : List FunctionRow) (t : Ty) (ns : List ℕ) (n : ℕ)
    → first_among fs t (ns ++ n ∷ []) ≡ first_of_two (first_among fs t ns) (if is_typed t (slice_get fs n) then Some n else None)
among_more fs t [] n = refl
among_more fs t (m ∷ ns) n = on (is_typed t (slice_get fs m)) (among_more fs t ns n)
  where
    on : (b : Bool) → first_among fs t (ns ++ n ∷ []) ≡ first_of_two (first_among fs t ns) (if is_typed t (slice_get fs n) then Some n else None)
        → (if b then Some m else first_among fs t (ns ++ n ∷ []))
        ≡ first_of_two (if b then Some m else first_among fs t ns) (if is_typed t (slice_get fs n) then Some n else None)
    on true h = refl
    on false h = h

-- types that are the same have the same first function
among_same : (fs : List FunctionRow) (t u : Ty) → are_alike t u ≡ true → (ns : List ℕ) → first_among fs t ns ≡ first_among fs u ns
among_same fs t u e [] = refl
among_same fs t u e (n ∷ ns) = ap₂ (λ b o. if b then Some n else o) (on (slice_get fs n)) (among_same fs t u e ns)
  where
    on : (o : Option FunctionRow) → is_typed t o ≡ is_typed u o
    on (Some f) = alike_same t u e (function_type f)
    on None = refl

-- ---- the next function

or_none : (o : Option ℕ) → o ≡ first_of_two o None
or_none (Some n) = refl
or_none None = refl

taken : (fs : List FunctionRow) (i : ℕ) (f : FunctionRow) → i < length fs → f ≡ get_or fs i f → take (i + 1) fs ≡ take i fs ++ f ∷ []
taken fs i f h is = take_more fs i f h ∙ ap (λ g. take i fs ++ g ∷ []) (sym is)

count : (fs : List FunctionRow) (i : ℕ) → i < length fs → 0 + length (take i fs) ≡ i
count fs i h = let e = length-take-le i fs (omega (arith, h)) in omega (arith, e)

-- what is first of a type among one more
more : (fs : List FunctionRow) (i : ℕ) (f : FunctionRow) (t : Ty) → i < length fs → f ≡ get_or fs i f
    → first_in t 0 (take (i + 1) fs) ≡ first_of_two (first_in t 0 (take i fs)) (if has_type t f.around f then Some i else None)
more fs i f t h is =
    ap (first_in t 0) (taken fs i f h is)
    ∙ in_more t 0 (take i fs) f
    ∙ ap (λ k. first_of_two (first_in t 0 (take i fs)) (if has_type t f.around f then Some k else None)) (count fs i h)

branch_untyped : (t : Ty) (around : List ℕ) (f : FunctionRow) → (around ≡ [] → true ≡ false) → has_type t around f ≡ false
branch_untyped t [] f some = absurd (let e = some refl in cc)
branch_untyped t (n ∷ around) f some = refl

-- a branch of a par is the first of no type
pub past_branch : (fs : List FunctionRow) (i : ℕ) (f : FunctionRow) (firsts : List ℕ) → i < length fs → f ≡ get_or fs i f
    → (f.around ≡ [] → true ≡ false) → AreFirsts fs i firsts → AreFirsts fs (i + 1) firsts
past_branch fs i f firsts h is some a = record {
  finds = λ t.
      a.finds t
      ∙ or_none (first_in t 0 (take i fs))
      ∙ ap (λ b. first_of_two (first_in t 0 (take i fs)) (if b then Some i else None)) (sym (branch_untyped t f.around f some))
      ∙ sym (more fs i f t h is);
}

own : (t : Ty) (around : List ℕ) (f : FunctionRow) → around ≡ [] → has_type t around f ≡ are_alike t (function_type f)
own t around f e = ap (λ a. has_type t a f) e

-- a function of a type that one before it has is the first of none
pub past_known : (fs : List FunctionRow) (i : ℕ) (f : FunctionRow) (firsts : List ℕ) (n : ℕ) → i < length fs → f ≡ get_or fs i f
    → f.around ≡ [] → first_among fs (function_type f) firsts ≡ Some n → AreFirsts fs i firsts → AreFirsts fs (i + 1) firsts
past_known fs i f firsts n h is none found a = record {
  finds = λ t. on t (are_alike t (function_type f)) refl ∙ ap (λ b. first_of_two (first_in t 0 (take i fs)) (if b then Some i else None)) (sym (own t f.around f none)) ∙ sym (more fs i f t h is);
}
  where
    on : (t : Ty) (b : Bool) → are_alike t (function_type f) ≡ b
        → first_among fs t firsts ≡ first_of_two (first_in t 0 (take i fs)) (if are_alike t (function_type f) then Some i else None)
    on t false e =
        a.finds t ∙ or_none (first_in t 0 (take i fs)) ∙ ap (λ c. first_of_two (first_in t 0 (take i fs)) (if c then Some i else None)) (sym e)
    on t true e =
        let there : first_among fs t firsts ≡ Some n = among_same fs t (function_type f) e firsts ∙ found in
        there ∙ ap (λ o. first_of_two o (if are_alike t (function_type f) then Some i else None)) (sym there ∙ a.finds t)

-- a function of a type that none before it has is the first of that type
pub past_new : (fs : List FunctionRow) (i : ℕ) (f : FunctionRow) (firsts : List ℕ) → i < length fs → f ≡ get_or fs i f
    → f.around ≡ [] → AreFirsts fs i firsts → AreFirsts fs (i + 1) (firsts ++ i ∷ [])
past_new fs i f firsts h is none a = record {
  finds = λ t.
      among_more fs t firsts i
      ∙ ap₂ (λ o b. first_of_two o (if b then Some i else None)) (a.finds t) (ap (is_typed t) (slice_get_read fs (length fs) i f refl h is) ∙ sym (own t f.around f none))
      ∙ sym (more fs i f t h is);
}

pub no_firsts : (fs : List FunctionRow) → AreFirsts fs 0 []
no_firsts fs = record { finds = λ t. refl }

-- ---- its class

in_front : (t : Ty) (n m : ℕ) (fs gs : List FunctionRow) → first_in t n fs ≡ Some m → first_of_type t n (fs ++ gs) ≡ m
in_front t n m [] gs e = absurd (cc)
in_front t n m (f ∷ fs) gs e = on (has_type t f.around f) (in_front t (n + 1) m fs gs) e
  where
    on : (b : Bool) → (first_in t (n + 1) fs ≡ Some m → first_of_type t (n + 1) (fs ++ gs) ≡ m) → (if b then Some n else first_in t (n + 1) fs) ≡ Some m
        → (if b then n else first_of_type t (n + 1) (fs ++ gs)) ≡ m
    on true h e = cc
    on false h e = h e

not_in_front : (t : Ty) (n : ℕ) (fs gs : List FunctionRow) → first_in t n fs ≡ None → first_of_type t n (fs ++ gs) ≡ first_of_type t (n + length fs) gs
not_in_front t n [] gs e = ap (λ k. first_of_type t k gs) (omega arith)
not_in_front t n (f ∷ fs) gs e = on (has_type t f.around f) (not_in_front t (n + 1) fs gs) e
  where
    next : n + 1 + length fs ≡ n + suc (length fs)
    next = omega arith

    on : (b : Bool) → (first_in t (n + 1) fs ≡ None → first_of_type t (n + 1) (fs ++ gs) ≡ first_of_type t (n + 1 + length fs) gs) → (if b then Some n else first_in t (n + 1) fs) ≡ None
        → (if b then n else first_of_type t (n + 1) (fs ++ gs)) ≡ first_of_type t (n + suc (length fs)) gs
    on true h e = absurd (cc)
    on false h e = h e ∙ ap (λ k. first_of_type t k gs) next

pub branch_class : (p : Program) (around : List ℕ) (f : FunctionRow) (n : ℕ) → (around ≡ [] → true ≡ false) → n ≡ length p.functions → n ≡ class_of p around f
branch_class p [] f n some e = absurd (let e = some refl in cc)
branch_class p (m ∷ around) f n some e = e

class_is : (p : Program) (f : FunctionRow) → f.around ≡ [] → class_number p (function_type f) ≡ own_class p f
class_is p f none = sym (ap (λ a. class_of p a f) none)

pub known_class : (p : Program) (i : ℕ) (f : FunctionRow) (firsts : List ℕ) (n : ℕ) → f.around ≡ []
    → first_among p.functions (function_type f) firsts ≡ Some n → AreFirsts p.functions i firsts → n ≡ own_class p f
known_class p i f firsts n none found a =
    let fs = p.functions in
    sym (ap (first_of_type (function_type f) 0) (sym (take-append-drop i fs)) ∙ in_front (function_type f) 0 n (take i fs) (drop i fs) (sym (a.finds (function_type f)) ∙ found))
    ∙ class_is p f none

pub new_class : (p : Program) (i : ℕ) (f : FunctionRow) (firsts : List ℕ) → i < length p.functions → f ≡ get_or p.functions i f → f.around ≡ []
    → first_among p.functions (function_type f) firsts ≡ None → AreFirsts p.functions i firsts → i ≡ own_class p f
new_class p i f firsts h is none found a =
    let fs = p.functions in
    let t = function_type f in
    let itself : has_type t f.around f ≡ true = own t f.around f none ∙ alike_itself t in
    let here : first_of_type t i (f ∷ drop (i + 1) fs) ≡ i = ap (λ b. if b then i else first_of_type t (i + 1) (drop (i + 1) fs)) itself in
    sym (ap (first_of_type t 0) (sym (take-append-drop i fs))
    ∙ not_in_front t 0 (take i fs) (drop i fs) (sym (a.finds t) ∙ found)
    ∙ ap (λ k. first_of_type t k (drop i fs)) (count fs i h)
    ∙ ap (first_of_type t i) (drop_more fs i f h ∙ ap (λ g. g ∷ drop (i + 1) fs) (sym is))
    ∙ here)
    ∙ class_is p f none

pub ruleset nexts = (branch_class, past_branch, known_class, past_known, new_class, past_new)
