-- Parameters with layouts of their own, and the stores of parameters, one parameter at a time.
use Rattle.std.proofs.Common.{◌≡◌, ℕ, zero, suc, ◌+◌, ◌<◌, List, [], ◌∷◌, ◌++◌, take, length, get_or, refl, sym, ap, ◌∙◌, arith}
use Rattle.std.specs.Prelude.{filter}
use Rattle.std.specs.List.{flat_map}
use Rattle.std.proofs.lemmas.List.{take_more, take-take, length-append, flat_map_more}
use Rattle.std.proofs.lemmas.List.Elements.{filter-append}
use Rattle.al_typed.specs.declared.program.Function.{Function as FunctionRow}
use Rattle.al_typed.specs.declared.program.Local.{Local as LocalRow}
use Rattle.al_typed.specs.declared.program.Program.{Program}
use Rattle.al_lower_code.specs.Homes.{Spot}
use Rattle.al_lower_code.specs.Functions.{is_wide_parameter, wide_among, wide_in, wide_number, stores_parameter, stores_parameters}
use Rattle.al_lower.specs.Stored.{stores_by, stores_all}

-- the wide ones of a function are those of its parameters
pub wide_ones : (p : Program) (f : FunctionRow) (ls : List LocalRow) → ls ≡ take f.parameters f.locals → filter (is_wide_parameter p) ls ≡ wide_in p f
wide_ones p f ls e = ap (filter (is_wide_parameter p)) (e ∙ sym (take-take f.parameters f.parameters f.locals (omega arith)))

-- stores of the first so many are those of all of the first so many
pub all_stored : (s : Spot) (f : FunctionRow) (number count : ℕ) (ls : List LocalRow) → stores_parameters s f number count ls ≡ stores_all s f number (take count ls)
all_stored s f number zero ls = refl
all_stored s f number (suc n) [] = refl
all_stored s f number (suc n) (l ∷ ls) = ap (λ os. stores_parameter s f number l ++ os) (all_stored s f (number + 1) n ls)

-- a parameter is stored by the next layout of its own
pub by_next : (s : Spot) (f : FunctionRow) (number next : ℕ) (l : LocalRow) → next ≡ wide_number s.program s.function number f
    → stores_by s number next l ≡ stores_parameter s f number l
by_next s f number next l e = ap (λ n. stores_by s number n l) e

-- the next layout behind one parameter more
pub next_number : (p : Program) (function : ℕ) (f : FunctionRow) (ls : List LocalRow) (i next : ℕ) (l : LocalRow) → ls ≡ take f.parameters f.locals → i < length ls → l ≡ get_or ls i l
    → next ≡ wide_number p function i f → next + length (filter (is_wide_parameter p) (l ∷ [])) ≡ wide_number p function (i + 1) f
next_number p function f ls i next l e h is so_far = omega (arith, so_far, more)
  where
    more : length (wide_among p (i + 1) f) ≡ length (wide_among p i f) + length (filter (is_wide_parameter p) (l ∷ []))
    more =
        ap (λ (xs : List LocalRow). length (filter (is_wide_parameter p) (take (i + 1) xs))) (sym e)
        ∙ ap (λ (xs : List LocalRow). length (filter (is_wide_parameter p) xs)) (take_more ls i l h ∙ ap (λ x. take i ls ++ x ∷ []) (sym is))
        ∙ ap (λ (xs : List LocalRow). length xs) (filter-append (is_wide_parameter p) (take i ls) (l ∷ []))
        ∙ length-append (filter (is_wide_parameter p) (take i ls)) (filter (is_wide_parameter p) (l ∷ []))
        ∙ ap (λ (xs : List LocalRow). length (filter (is_wide_parameter p) (take i xs)) + length (filter (is_wide_parameter p) (l ∷ []))) e

-- and behind one function more
pub next_function : (p : Program) (fs : List FunctionRow) (i first next : ℕ) (f : FunctionRow) → i < length fs → f ≡ get_or fs i f
    → first ≡ length p.aggregates + length (flat_map (wide_in p) (take i fs)) → next ≡ first + length (wide_in p f)
    → next ≡ length p.aggregates + length (flat_map (wide_in p) (take (i + 1) fs))
next_function p fs i first next f h is so_far e = omega (arith, e, so_far, more)
  where
    more : length (flat_map (wide_in p) (take (i + 1) fs)) ≡ length (flat_map (wide_in p) (take i fs)) + length (wide_in p f)
    more =
        ap (λ (xs : List FunctionRow). length (flat_map (wide_in p) xs)) (take_more fs i f h ∙ ap (λ x. take i fs ++ x ∷ []) (sym is))
        ∙ ap (λ (xs : List LocalRow). length xs) (sym (flat_map_more (wide_in p) [] (take i fs) f))
        ∙ length-append (flat_map (wide_in p) (take i fs)) (wide_in p f)

-- no layout is before those of the first function's parameters
pub first_layout : (p : Program) (n : ℕ) → n ≡ length p.aggregates → n ≡ length p.aggregates + length (flat_map (wide_in p) (take 0 p.functions))
first_layout p n e = omega (arith, e)

-- the layout of a function's first parameter with a layout of its own
pub own_layout : (p : Program) (function first : ℕ) (f : FunctionRow) → first ≡ length p.aggregates + length (flat_map (wide_in p) (take function p.functions))
    → first ≡ wide_number p function 0 f
own_layout p function first f e = omega (arith, e)

pub ruleset stored = (all_stored, by_next, next_number)

pub ruleset numbered = (first_layout, own_layout, next_function)
