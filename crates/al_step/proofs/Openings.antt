-- What the first proc begins with.
use Rattle.std.proofs.Common.{◌≡◌, ℕ, ◌+◌, ◌<◌, ◌≤◌, min, List, [], ◌∷◌, length, take, get_or, replicate, Option, Some, None, refl, ap, sym, ◌∙◌, arith}
use Rattle.std.specs.List.{sum_by}
use Rattle.std.proofs.Math.Seq.{take-length}
use Rattle.std.proofs.lemmas.List.{take_all, take_min}
use Rattle.std.proofs.lemmas.List.Sums.{sum_by-cons, sum_by_more}
use Rattle.al_event.specs.declared.act.Start.{Start}
use Rattle.al_typed.specs.Capped.{capped}
use Rattle.al_typed.specs.declared.program.Aggregate.{Aggregate}
use Rattle.al_typed.specs.declared.program.Function.{Function}
use Rattle.al_typed.specs.declared.program.Global.{Global}
use Rattle.al_typed.specs.declared.program.Local.{Local}
use Rattle.al_typed.specs.declared.program.Program.{Program}
use Rattle.al_typed.specs.Layout.{words_of}
use Rattle.al_typed.specs.Typed.{local_types}
use Rattle.al_meaning.specs.Places.{function_at, private_words_of, fresh_privates}
use Rattle.al_meaning.specs.Meaning.{main_start, main_words}
use Rattle.al_step.specs.Sources.{words_of_parameters, main_count}

-- ---- counts

-- one element more
pub one_more : {X : Type 0} (f : X → ℕ) (xs : List X) (i : ℕ) (x : X) (sum words next : ℕ) → i < length xs → x ≡ get_or xs i x → sum ≡ capped (sum_by f (take i xs)) → words ≡ capped (f x) → next ≡ min (sum + words) 18446744073709551615 → next ≡ capped (sum_by f (take (i + 1) xs))
one_more f xs i x sum words next l is so_far own e =
    let more : sum_by f (take (i + 1) xs) ≡ sum_by f (take i xs) + f x = sum_by_more f xs i x l ∙ ap (λ y. sum_by f (take i xs) + f y) (sym is) in
    omega (arith, more, so_far, own, e)

-- all elements
pub all_summed : {X : Type 0} (f : X → ℕ) (xs : List X) (i sum : ℕ) → length xs ≤ i → sum ≡ capped (sum_by f (take i xs)) → sum ≡ capped (sum_by f xs)
all_summed f xs i sum l e = e ∙ ap (λ ys. capped (sum_by f ys)) (take_all i xs l)

abbrev pub local_words : List Aggregate → Local → ℕ
local_words rows l = words_of rows l.ty

types_summed : (rows : List Aggregate) (locals : List Local) → sum_by (local_words rows) locals ≡ sum_by (words_of rows) (local_types locals)
types_summed rows [] = refl
types_summed rows (l ∷ ls) =
    sum_by-cons (local_words rows) l ls
    ∙ (ap (λ n. words_of rows l.ty + n) (types_summed rows ls) ∙ sym (sum_by-cons (words_of rows) l.ty (local_types ls)))

pub all_locals : (rows : List Aggregate) (locals : List Local) (i sum : ℕ) → length locals ≤ i → sum ≡ capped (sum_by (local_words rows) (take i locals)) → sum ≡ capped (sum_by (words_of rows) (local_types locals))
all_locals rows locals i sum l e = all_summed (local_words rows) locals i sum l e ∙ ap capped (types_summed rows locals)

pub ruleset parameters_are = (take_min)

-- ---- words

pub exact_words : (n count : ℕ) (words : List ℕ) → words ≡ replicate count 0 → count ≡ capped n → (count ≡ 18446744073709551615 → ⊥) → words ≡ replicate n 0
exact_words n count words w e h =
    let same : count ≡ n = omega (arith, e, h) in
    w ∙ ap (λ k. replicate k 0) same

pub too_many : (n count : ℕ) → count ≡ capped n → count ≡ 18446744073709551615 → n + 1 < 18446744073709551616 → ⊥
too_many n count e h below = omega (arith, e, h, below)

pub ruleset zeros_are = (exact_words, too_many)

pub fresh_are : (p : Program) (words : List ℕ) → words ≡ replicate (sum_by (private_words_of p) p.globals) 0 → words ≡ fresh_privates p
fresh_are p words w = w ∙ ap (λ (gs : List Global). replicate (sum_by (private_words_of p) gs) 0) (sym (take-length p.globals))

mains_are : (p : Program) (f : Option Function) → replicate (words_of_parameters p f) 0 ≡ main_words p f
mains_are p (Some f) = refl
mains_are p None = refl

abbrev pub main_with : Program → List ℕ → Start
main_with p words = record { code = p.main; words = words }

pub main_is : (p : Program) (words : List ℕ) → words ≡ replicate (main_count p) 0 → main_with p words ≡ main_start p
main_is p words w = ap (main_with p) (w ∙ mains_are p (function_at p p.main))
