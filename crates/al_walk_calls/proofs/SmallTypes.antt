-- Values of small types have few words.
use Rattle.std.proofs.Common.{◌≡◌, ◌≤◌, ◌^◌, List, length, if◌then◌else◌, true, false, arith}
use Rattle.al_typed.specs.declared.program.Aggregate.{Aggregate}
use Rattle.al_typed.specs.declared.ty.Ty.{Ty}
use Rattle.al_typed.specs.Capped.{capped}
use Rattle.al_typed.specs.Layout.{size_of, units_of, words_of}
use Rattle.al_typed.specs.Types.{is_array}
use Rattle.al_typed.proofs.Fitting.{layout_fits}

pub few_words : (rows : List Aggregate) (t : Ty) → size_of rows t ≤ 2 ^ 28 → words_of rows t ≤ 2 ^ 28
unfolding words_of
few_words rows t h =
    elim (is_array t) as (λ b. (if b then 1 else length (units_of rows t)) ≤ 2 ^ 28) [ true ↦ omega arith | false ↦ omega (arith, (layout_fits rows t).few, h) ]

pub words_whole : (rows : List Aggregate) (t : Ty) → size_of rows t ≤ 2 ^ 28 → capped (words_of rows t) ≡ words_of rows t
words_whole rows t h = omega (arith, few_words rows t h)

pub ruleset small_words = (few_words, words_whole)
