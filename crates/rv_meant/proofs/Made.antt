-- An image that was generated is made of its program, begins as the program does, and shows what the program means.
use Rattle.std.proofs.Common.{◌≡◌, ℕ, ◌<◌, ◌≤◌, inl, inr, List, [], length, Option, Some, None, refl, ap, sym, ◌∙◌, arith}
use Rattle.std.specs.Prelude.{◌^◌}
use Rattle.std.proofs.lemmas.Bool.{cases_lt}
use Rattle.std.proofs.lemmas.List.{length-map}
use Rattle.al_event.specs.declared.entry.Entry.{Entry}
use Rattle.al_event.specs.Store.{Live}
use Rattle.al_world.specs.Step.{opening, opening_with, with_globals}
use Rattle.al_world.specs.World.{World}
use Rattle.al_typed.specs.declared.program.Program.{Program}
use Rattle.al_typed.specs.WellTyped.{IsWellTyped}
use Rattle.al_meaning.specs.Meaning.{main_start, source}
use Rattle.al_meaning.specs.Places.{opening_blocks}
use Rattle.al_ir.specs.Bounds.{IsBounded}
use Rattle.al_ir.specs.Meaning as operations
use Rattle.al_lower_code.specs.Functions.{globals, lowered}
use Rattle.al_lowering.specs.Addresses.{AddressesAreWords}
use Rattle.al_lowering.specs.Runs.{StringsAreBytes, meant}
use Rattle.al_lowering.proofs.Opening.{blocks_same, main_same}
use Rattle.al_opened.specs.Opened.{HaveAddresses}
use Rattle.al_opened.proofs.Closed.{seen_closed}
use Rattle.al_core.specs.Opening.{globals_of, main_of}
use Rattle.rv_isa.specs.declared.image.Contents.{Contents}
use Rattle.rv_exec.specs.Machine.{machine}
use Rattle.rv_form.specs.Program.{Homes}
use Rattle.rv_regs.specs.Homes.{AreHomes}
use Rattle.rv_emit_ops.specs.Plans.{homes_of}
use Rattle.rv_gen.specs.Generating.{IsGenerated}
use Rattle.rv_alike.specs.LaidOut.{IsLaidOut}
use Rattle.rv_laid.proofs.Laying.{ended}
use Rattle.rv_laid.proofs.Whole.{is_laid_out}
use Rattle.rv_compiled.specs.Compiled.{IsCompiledTo, IsMadeOf, seen_of_image}
use Rattle.rv_meant.specs.Meant.{IsCompilable, RunsAlike, TakeEquallyMany}
use Rattle.rv_meant.proofs.Bounds.{few_functions, strings_are_bytes}
use Rattle.rv_meant.proofs.NoPlace.{too_many_have_no_place}
use Rattle.rv_meant.proofs.Opened.{globals_are, globals_have_no_place, main_is}
use Rattle.rv_meant.proofs.Homes.{all_homes}

module _ (p : Program) (image : Contents) (is : IsGenerated (lowered p) image) (bounded : IsBounded (lowered p)) (equally : TakeEquallyMany (lowered p)) (small : length image.code < 2 ^ 23) where
  abbrev homes : Homes
  homes = homes_of is.homes

  apart : (f : ℕ) → AreHomes (lowered p) f (homes f)
  apart = all_homes (lowered p) is.homes is.count is.are_homes

  pub made : IsMadeOf p image
  made = record { homes = homes; defined = is.is_image; bounded = bounded; small = small; apart = apart; equally = equally }

  laid : IsLaidOut (lowered p) image (ended homes (lowered p))
  laid = is_laid_out homes (lowered p) image is.is_image bounded small apart equally

  begins : IsWellTyped p → main_of image ≡ main_start p
  begins typed = main_is (lowered p) homes image is.is_image ∙ main_same p typed

  bytes : StringsAreBytes p
  bytes = strings_are_bytes p bounded

  pub compiled : IsWellTyped p → length (globals p) ≤ 65536 → IsCompiledTo p image
  compiled typed few = record {
    layout = ended homes (lowered p);
    laid_out = laid;
    globals = globals_are (lowered p) homes image is.is_image few ∙ blocks_same p bytes;
    main = begins typed;
  }

  -- ---- whole runs

  -- more blocks than have a place
  many_have_none : 65536 < length (globals p) → (region : ℕ) → with_globals region (opening_blocks p) [] ≡ None
  many_have_none many region =
      let count : length (opening_blocks p) ≡ length (globals p) = ap length (sym (blocks_same p bytes)) ∙ length-map (globals p) operations.global_bytes in
      too_many_have_no_place region (opening_blocks p) [] (omega arith) (omega (arith, many, count))

  -- where the program's blocks have no place, those of the image have none
  image_has_none : IsWellTyped p → (region : ℕ) → region ≤ 2 ^ 28 → with_globals region (opening_blocks p) [] ≡ None → with_globals region (globals_of image) [] ≡ None
  image_has_none typed region low none =
      elim (cases_lt 65536 (length (globals p))) [
        | inl many ↦ globals_have_no_place (lowered p) homes image is.is_image many region low
        | inr few ↦ ap (λ blocks. with_globals region blocks []) (compiled typed few).globals ∙ none
      ]

  -- Either the first world is over at its start, in both, or all addresses are words.
  pub runs : IsCompilable p → HaveAddresses → (AddressesAreWords p → IsCompiledTo p image → (region : ℕ) (h : List Entry) → meant p region h ≡ seen_of_image image region h) → RunsAlike p image
  runs ok addressed same region h low = on (with_globals region (opening_blocks p) []) refl
    where
      first : World (source p)
      first = opening (source p) region (opening_blocks p) (main_start p)

      words : (store : List Live) → with_globals region (opening_blocks p) [] ≡ Some store → AddressesAreWords p
      words store some =
          addressed p region [] first ok.sound (few_functions p bounded)
          (record { small = low; runs = refl; goes = ap (λ o. (opening_with region o).over) some })

      on : (o : Option (List Live)) → with_globals region (opening_blocks p) [] ≡ o → meant p region h ≡ seen_of_image image region h
      on None none =
          seen_closed (source p) region (opening_blocks p) (main_start p) none h
          ∙ sym (seen_closed (machine image) region (globals_of image) (main_of image) (image_has_none ok.well_typed region low none) h)
      on (Some store) some =
          elim (cases_lt 65536 (length (globals p))) [
            | inl many ↦ let none = many_have_none many region in absurd (let f : ⊥ = cc in f)
            | inr few ↦ same (words store some) (compiled ok.well_typed few) region h
          ]
