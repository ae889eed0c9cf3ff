-- What an image begins with: the bytes of its globals, and the task that runs main.
use Rattle.std.specs.Prelude.{ℕ, ◌+◌, ◌==◌, if◌then◌else◌, List, [], ◌∷◌, replicate, slice_get, Option, Some, None, fold}
use Rattle.al_event.specs.Store.{bytes_of, overwritten}
use Rattle.al_event.specs.declared.act.Start.{Start}
use Rattle.rv_isa.specs.declared.image.Contents.{Contents}
use Rattle.rv_isa.specs.declared.image.Item.{Item}
use Rattle.rv_isa.specs.declared.image.Row.{Row}

-- the bytes of a global with the value of an item, if that is one of this global
abbrev pub with_item : (global : ℕ) → List ℕ → Item → List ℕ
with_item global bytes item =
    if item.global == global then overwritten bytes item.offset (bytes_of item.size item.value) else bytes

-- the bytes of a global at the start: the values of its items, and else zeros
abbrev pub global_bytes : List Item → (global size : ℕ) → List ℕ
global_bytes items global size = fold (with_item global) (replicate size 0) items

-- the globals numbered from `global` on, which have these sizes
abbrev pub globals_from : List Item → (global : ℕ) → (sizes : List ℕ) → List (List ℕ)
globals_from items global [] = []
globals_from items global (size ∷ sizes) = global_bytes items global size ∷ globals_from items (global + 1) sizes

abbrev pub globals_of : Contents → List (List ℕ)
globals_of image = globals_from image.items 0 image.globals

-- the parameters of main, where it has any, are 0 and nil
abbrev pub zeros_for : Option Row → List ℕ
zeros_for None = []
zeros_for (Some row) = replicate row.words 0

abbrev pub main_of : Contents → Start
main_of image = record { code = image.main; words = zeros_for (slice_get image.functions image.main) }
