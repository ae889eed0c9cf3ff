-- An image of a program begins with the program's blocks and its main function.
use Rattle.std.proofs.Common.{◌≡◌, ℕ, zero, suc, ◌+◌, ◌<◌, ◌≤◌, Bool, true, false, List, [], ◌∷◌, ◌++◌, length, map, None, refl, ap, ap₂, sym, ◌∙◌, append_assoc, arith}
use Rattle.std.specs.Prelude.{◌==◌, ◌^◌, if◌then◌else◌, fold, replicate, slice_get}
use Rattle.std.specs.List.{AllByRecursion}
use Rattle.std.proofs.lemmas.Bool.Decides.{nat_tests}
use Rattle.std.proofs.lemmas.List.{length-replicate}
use Rattle.std.proofs.lemmas.List.Sums.{fold-append}
use Rattle.al_event.specs.declared.act.Start.{Start}
use Rattle.al_event.specs.Store.{bytes_of, overwritten}
use Rattle.al_world.specs.Step.{with_globals}
use Rattle.al_ir.specs.declared.ir.Function.{Function}
use Rattle.al_ir.specs.declared.ir.Global.{Global}
use Rattle.al_ir.specs.declared.ir.Ir.{Ir}
use Rattle.al_ir.specs.declared.ir.StartItem.{StartItem}
use Rattle.al_ir.specs.Control.{arguments_of}
use Rattle.al_ir.specs.Meaning as operations
use Rattle.rv_isa.specs.declared.image.Contents.{Contents}
use Rattle.rv_isa.specs.declared.image.Item.{Item}
use Rattle.rv_isa.specs.declared.image.Row.{Row}
use Rattle.rv_form.specs.Layout.{Layout}
use Rattle.rv_form.specs.Program.{Homes, IsImageOf, item_of, items_from, layout_of, most_globals, rows_from_number, too_many}
use Rattle.al_core.specs.Opening.{with_item, global_bytes, globals_from, globals_of, main_of, zeros_for}
use Rattle.rv_meant.proofs.NoPlace.{two_have_no_place}

-- ---- items

-- items of globals before one, and of globals from one on
abbrev AreBefore : (global : ℕ) → List Item → Type 0
AreBefore global items = AllByRecursion (λ (i : Item). i.global < global) items

abbrev AreFrom : (global : ℕ) → List Item → Type 0
AreFrom global items = AllByRecursion (λ (i : Item). global ≤ i.global) items

each_append : {A : Type 0} (P : A → Type 0) (xs ys : List A) → AllByRecursion P xs → AllByRecursion P ys → AllByRecursion P (xs ++ ys)
each_append P [] ys h k = k
each_append P (x ∷ xs) ys h k = (h.0, each_append P xs ys h.1 k)

below : (a b : ℕ) → a < b → (a == b) ≡ false
below a b lt = grind (arith, nat_tests)

above : (a b : ℕ) → b < a → (a == b) ≡ false
above a b lt = grind (arith, nat_tests)

same : (a : ℕ) → (a == a) ≡ true
same a = grind (arith, nat_tests)

own_before : (global : ℕ) (is : List StartItem) → AreBefore (global + 1) (map (item_of global) is)
own_before global [] = tt
own_before global (i ∷ is) = ((omega arith), own_before global is)

before_later : (global : ℕ) (items : List Item) → AreBefore global items → AreBefore (global + 1) items
before_later global [] h = tt
before_later global (i ∷ items) h = ((omega (arith, h.0)), before_later global items h.1)

own_from : (least global : ℕ) (is : List StartItem) → least ≤ global → AreFrom least (map (item_of global) is)
own_from least global [] le = tt
own_from least global (i ∷ is) le = (le, own_from least global is le)

all_from : (least global : ℕ) (gs : List Global) → least ≤ global → AreFrom least (items_from global gs)
all_from least global [] le = tt
all_from least global (g ∷ gs) le =
    each_append (λ (i : Item). least ≤ i.global) (map (item_of global) g.start) (items_from (global + 1) gs) (own_from least global g.start le) (all_from least (global + 1) gs (omega (arith, le)))

-- ---- bytes

-- an item of another global changes nothing
other_item : (global : ℕ) (bytes : List ℕ) (i : Item) → (i.global == global) ≡ false → with_item global bytes i ≡ bytes
other_item global bytes i e = ap (λ (b : Bool). if b then overwritten bytes i.offset (bytes_of i.size i.value) else bytes) e

before_change_nothing : (global : ℕ) (bytes : List ℕ) (items : List Item) → AreBefore global items → fold (with_item global) bytes items ≡ bytes
before_change_nothing global bytes [] h = refl
before_change_nothing global bytes (i ∷ items) h =
    ap (λ bs. fold (with_item global) bs items) (other_item global bytes i (below i.global global h.0)) ∙ before_change_nothing global bytes items h.1

later_change_nothing : (global : ℕ) (bytes : List ℕ) (items : List Item) → AreFrom (global + 1) items → fold (with_item global) bytes items ≡ bytes
later_change_nothing global bytes [] h = refl
later_change_nothing global bytes (i ∷ items) h =
    ap (λ bs. fold (with_item global) bs items) (other_item global bytes i (above i.global global (omega (arith, h.0)))) ∙ later_change_nothing global bytes items h.1

own_change : (global : ℕ) (bytes : List ℕ) (is : List StartItem) → fold (with_item global) bytes (map (item_of global) is) ≡ fold operations.with_item bytes is
own_change global bytes [] = refl
own_change global bytes (i ∷ is) =
    ap (λ (b : Bool). fold (with_item global) (if b then overwritten bytes i.at (bytes_of i.size i.word) else bytes) (map (item_of global) is)) (same global)
    ∙ own_change global (operations.with_item bytes i) is

-- a global has the bytes that its own items give, whatever items stand around them
bytes_same : (front : List Item) (global : ℕ) (g : Global) (gs : List Global) → AreBefore global front
    → global_bytes (front ++ (map (item_of global) g.start ++ items_from (global + 1) gs)) global g.bytes ≡ operations.global_bytes g
bytes_same front global g gs h =
    let zeros : List ℕ = replicate g.bytes 0 in
    let own : List Item = map (item_of global) g.start in
    let later : List Item = items_from (global + 1) gs in
    fold-append (with_item global) zeros front (own ++ later)
    ∙ (ap (λ bs. fold (with_item global) bs (own ++ later)) (before_change_nothing global zeros front h)
    ∙ (fold-append (with_item global) zeros own later
    ∙ (later_change_nothing global (fold (with_item global) zeros own) later (all_from (global + 1) (global + 1) gs (omega arith))
    ∙ own_change global zeros g.start)))

pub globals_same : (front : List Item) (global : ℕ) (gs : List Global) → AreBefore global front
    → globals_from (front ++ items_from global gs) global (map (λ (g : Global). g.bytes) gs) ≡ map operations.global_bytes gs
globals_same front global [] h = refl
globals_same front global (g ∷ gs) h =
    let own : List Item = map (item_of global) g.start in
    let later : List Item = items_from (global + 1) gs in
    ap₂ (λ (x : List ℕ) (xs : List (List ℕ)). x ∷ xs) (bytes_same front global g gs h)
    (ap (λ items. globals_from items (global + 1) (map (λ (g : Global). g.bytes) gs)) (sym (append_assoc front own later))
    ∙ globals_same (front ++ own) (global + 1) gs (each_append (λ (i : Item). i.global < global + 1) front own (before_later global front h) (own_before global g.start)))

-- ---- the first task

pub words_same : (l : Layout) (fs : List Function) (f number : ℕ) → zeros_for (slice_get (rows_from_number l f fs) number) ≡ replicate (arguments_of (slice_get fs number)) 0
words_same l [] f number = refl
words_same l (g ∷ fs) f zero = refl
words_same l (g ∷ fs) f (suc number) = words_same l fs (f + 1) number

-- ---- images

module _ (ir : Ir) (homes : Homes) (image : Contents) (is : IsImageOf homes ir image) where
  started : List Row → ℕ → Start
  started rows main = record { code = main; words = zeros_for (slice_get rows main) }

  pub main_is : main_of image ≡ operations.main_start ir
  unfolding started
  main_is =
      ap₂ started is.functions is.main
      ∙ ap (λ words. record { code = ir.main; words = words }) (words_same (layout_of homes ir) ir.functions 0 ir.main)

  -- the program's blocks, where an image has room for so many
  pub globals_are : length ir.globals ≤ most_globals → globals_of image ≡ operations.opening_blocks ir
  globals_are few =
      let fits : too_many ir ≡ false = grind (arith, nat_tests) in
      let sizes : image.globals ≡ map (λ (g : Global). g.bytes) ir.globals =
      is.globals ∙ ap (λ (b : Bool). if b then 2 ^ 28 ∷ 2 ^ 28 ∷ [] else map (λ (g : Global). g.bytes) ir.globals) fits in
      let items : image.items ≡ items_from 0 ir.globals = is.items ∙ ap (λ (b : Bool). if b then [] else items_from 0 ir.globals) fits in
      ap₂ (λ is sizes. globals_from is 0 sizes) items sizes ∙ globals_same [] 0 ir.globals tt

  two_large : (region n : ℕ) (items : List Item) (sizes : List ℕ) → items ≡ [] → sizes ≡ n ∷ n ∷ [] → 2 ^ 28 ≤ n → region ≤ 2 ^ 28 → with_globals region (globals_from items 0 sizes) [] ≡ None
  two_large region n items sizes none two large low =
      let zeros : List ℕ = replicate n 0 in
      let long : 2 ^ 28 ≤ length zeros = omega (arith, large, length-replicate {A = ℕ} n 0) in
      ap₂ (λ is ss. with_globals region (globals_from is 0 ss) []) none two ∙ two_have_no_place region zeros zeros low long long

  -- else blocks that have no place together
  pub globals_have_no_place : most_globals < length ir.globals → (region : ℕ) → region ≤ 2 ^ 28 → with_globals region (globals_of image) [] ≡ None
  globals_have_no_place many region low =
      let past : too_many ir ≡ true = grind (arith, nat_tests) in
      let sizes : image.globals ≡ 2 ^ 28 ∷ 2 ^ 28 ∷ [] =
      is.globals ∙ ap (λ (b : Bool). if b then 2 ^ 28 ∷ 2 ^ 28 ∷ [] else map (λ (g : Global). g.bytes) ir.globals) past in
      let items : image.items ≡ [] = is.items ∙ ap (λ (b : Bool). if b then [] else items_from 0 ir.globals) past in
      two_large region (2 ^ 28) image.items image.globals items sizes (omega arith) low
