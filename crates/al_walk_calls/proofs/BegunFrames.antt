-- The locals and the items of a function that begins, one local after another.
use Rattle.std.proofs.Common.{◌≡◌, ℕ, zero, suc, ◌+◌, ◌-◌, ◌<◌, ◌≤◌, min, nat_lt, Bool, true, false, if◌then◌else◌, List, [], ◌∷◌, ◌++◌, map, take, drop, length, Some, None, get_or, refl, sym, ap, ap₂, ◌∙◌, inl, inr, append_assoc, drop-cons, arith}
use Rattle.std.proofs.lemmas.Bool.{cases_lt, lt-ltb, le-ltb}
use Rattle.std.proofs.lemmas.List.{append-nil, drop_all, map-append, take_min}
use Rattle.al_typed.specs.declared.program.Aggregate.{Aggregate}
use Rattle.al_typed.specs.declared.program.Function.{Function}
use Rattle.al_typed.specs.declared.program.Local.{Local}
use Rattle.al_typed.specs.declared.program.Program.{Program}
use Rattle.al_typed.specs.Layout.{words_of}
use Rattle.al_meaning.specs.Calls.{begun_function, begun_items, begun_locals, block_work, local_words, parameter_work}
use Rattle.al_meaning.specs.Items as item
use Rattle.al_meaning.specs.Parts.{item as line_item, to_do}
use Rattle.al_meaning.specs.Places.{has_block, words_in}
use Rattle.al_control.specs.declared.control.Item.{Item}
use Rattle.al_control.specs.declared.work.Found.{Found}
use Rattle.al_control.specs.Models.{found_of, item_of}

at_hand : {A : Type 0} (xs : List A) (i : ℕ) (x : A) → i < length xs → x ≡ get_or xs i x → drop i xs ≡ x ∷ drop (i + 1) xs
at_hand xs i x h is = drop-cons xs i x h ∙ ap (λ y. y ∷ drop (suc i) xs) (sym is) ∙ ap (λ (k : ℕ). x ∷ drop k xs) (next i)
  where
    next : (i : ℕ) → suc i ≡ i + 1
    next i = omega arith

one_less : (n i : ℕ) → i < n → n - i ≡ suc (n - (i + 1))
one_less n i h = omega arith

none_left : (n i : ℕ) → n ≤ i → n - i ≡ 0
none_left n i h = omega arith

-- ---- locals

no_parameters : (p : Program) (ls : List Local) (ws vs : List ℕ) → begun_locals p 0 ls ws ≡ begun_locals p 0 ls vs
no_parameters p [] ws vs = refl
no_parameters p (l ∷ ls) ws vs = refl

parameter_begun : (p : Program) (n i : ℕ) (l : Local) (ls : List Local) (rest : List ℕ) → i < n
    → begun_locals p (n - i) (l ∷ ls) rest ≡ local_words p true l rest ∷ begun_locals p (n - (i + 1)) ls (drop (words_in p l.ty) rest)
parameter_begun p n i l ls rest h = ap (λ (k : ℕ). begun_locals p k (l ∷ ls) rest) (one_less n i h)

other_begun : (p : Program) (n i : ℕ) (l : Local) (ls : List Local) (rest : List ℕ) → n ≤ i
    → begun_locals p (n - i) (l ∷ ls) rest ≡ local_words p false l rest ∷ begun_locals p (n - (i + 1)) ls (drop (words_in p l.ty) rest)
other_begun p n i l ls rest h =
    ap (λ (k : ℕ). begun_locals p k (l ∷ ls) rest) (none_left n i h)
    ∙ ap (λ (r : List (List ℕ)). local_words p false l rest ∷ r)
    (no_parameters p ls [] (drop (words_in p l.ty) rest) ∙ ap (λ (k : ℕ). begun_locals p k ls (drop (words_in p l.ty) rest)) (sym (none_left n (i + 1) (omega (arith, h)))))

local_begun : (p : Program) (n i : ℕ) (l : Local) (ls : List Local) (rest : List ℕ)
    → begun_locals p (n - i) (l ∷ ls) rest ≡ local_words p (nat_lt i n) l rest ∷ begun_locals p (n - (i + 1)) ls (drop (words_in p l.ty) rest)
local_begun p n i l ls rest =
    elim (cases_lt i n) [
      | inl h ↦ parameter_begun p n i l ls rest h ∙ ap (λ b. local_words p b l rest ∷ begun_locals p (n - (i + 1)) ls (drop (words_in p l.ty) rest)) (sym (lt-ltb i n h))
      | inr h ↦ other_begun p n i l ls rest h ∙ ap (λ b. local_words p b l rest ∷ begun_locals p (n - (i + 1)) ls (drop (words_in p l.ty) rest)) (sym (le-ltb i n h))
    ]

-- one local more
pub local_more : (p : Program) (rows : List Aggregate) (n i : ℕ) (locals : List Local) (l : Local) (begun new all : List (List ℕ)) (rest behind words : List ℕ)
    → i < length locals → l ≡ get_or locals i l → rows ≡ p.aggregates → words ≡ local_words p (nat_lt i n) l rest
    → new ≡ begun ++ words ∷ [] → behind ≡ drop (words_of rows l.ty) rest
    → begun ++ begun_locals p (n - i) (drop i locals) rest ≡ all
    → new ++ begun_locals p (n - (i + 1)) (drop (i + 1) locals) behind ≡ all
local_more p rows n i locals l begun new all rest behind words h is same e pushed cut so_far =
    ap₂ (λ b r. b ++ begun_locals p (n - (i + 1)) (drop (i + 1) locals) r) pushed (cut ∙ ap (λ rs. drop (words_of rs l.ty) rest) same)
    ∙ append_assoc begun (words ∷ []) _
    ∙ ap (λ r. begun ++ r)
    (ap (λ w. w ∷ begun_locals p (n - (i + 1)) (drop (i + 1) locals) (drop (words_in p l.ty) rest)) e
    ∙ sym (local_begun p n i l (drop (i + 1) locals) rest) ∙ ap (λ ls. begun_locals p (n - i) ls rest) (sym (at_hand locals i l h is)))
    ∙ so_far

sub_zero : (n : ℕ) → n - 0 ≡ n
sub_zero n = omega arith

pub locals_begun : (p : Program) (n : ℕ) (locals : List Local) (begun : List (List ℕ)) (words : List ℕ) → begun ≡ []
    → begun ++ begun_locals p (n - 0) (drop 0 locals) words ≡ begun_locals p n locals words
locals_begun p n locals begun words e = ap₂ (λ b k. b ++ begun_locals p k locals words) e (sub_zero n)

pub locals_over : (p : Program) (n i : ℕ) (locals : List Local) (begun all : List (List ℕ)) (rest : List ℕ) → length locals ≤ i
    → begun ++ begun_locals p (n - i) (drop i locals) rest ≡ all → begun ≡ all
locals_over p n i locals begun all rest h so_far =
    sym (append-nil begun) ∙ ap (λ ls. begun ++ begun_locals p (n - i) ls rest) (sym (drop_all i locals h)) ∙ so_far

-- one of two
pub chosen : {A : Type 0} (b : Bool) (x y : A) → b ≡ true → x ≡ (if b then x else y)
chosen b x y e = ap (λ (c : Bool). if c then x else y) (sym e)

pub other : {A : Type 0} (b : Bool) (x y : A) → b ≡ false → y ≡ (if b then x else y)
other b x y e = ap (λ (c : Bool). if c then x else y) (sym e)

-- ---- stores of parameters

pub stored_there : (line number : ℕ) (l : Local) (own cut : List ℕ) (xs : List item.Item) → l.is_shared ≡ true → own ≡ cut
    → xs ++ line_item line (item.StoreParameter number own) ∷ [] ≡ xs ++ (if l.is_shared then line_item line (item.StoreParameter number cut) ∷ [] else [])
stored_there line number l own cut xs e is =
    ap (λ ws. xs ++ line_item line (item.StoreParameter number ws) ∷ []) is
    ∙ ap (λ (b : Bool). xs ++ (if b then line_item line (item.StoreParameter number cut) ∷ [] else [])) (sym e)

pub none_put : (l : Local) (more : List item.Item) (xs : List item.Item) → l.is_shared ≡ false → xs ≡ xs ++ (if l.is_shared then more else [])
none_put l more xs e = sym (append-nil xs) ∙ ap (λ (b : Bool). xs ++ (if b then more else [])) (sym e)

abbrev pub stored : Program → (number : ℕ) → Local → List ℕ → List item.Work
stored p number l words = if l.is_shared then item.StoreParameter number (take (words_in p l.ty) words) ∷ [] else []

parameter_stored : (p : Program) (i : ℕ) (locals : List Local) (l : Local) (rest : List ℕ) → i < length locals → l ≡ get_or locals i l
    → parameter_work p i (length locals - i) (drop i locals) rest
    ≡ stored p i l rest ++ parameter_work p (i + 1) (length locals - (i + 1)) (drop (i + 1) locals) (drop (words_in p l.ty) rest)
parameter_stored p i locals l rest h is =
    ap (λ ls. parameter_work p i (length locals - i) ls rest) (at_hand locals i l h is)
    ∙ ap (λ (k : ℕ). parameter_work p i k (l ∷ drop (i + 1) locals) rest) (one_less (length locals) i h)

-- one parameter more
pub parameter_more :
    (p : Program) (rows : List Aggregate) (line i : ℕ) (locals : List Local) (l : Local) (items more all : List item.Item) (rest behind : List ℕ)
    → i < length locals → l ≡ get_or locals i l → rows ≡ p.aggregates
    → more ≡ items ++ (if l.is_shared then line_item line (item.StoreParameter i (take (words_of rows l.ty) rest)) ∷ [] else [])
    → behind ≡ drop (words_of rows l.ty) rest
    → items ++ map (line_item line) (parameter_work p i (length locals - i) (drop i locals) rest) ≡ all
    → more ++ map (line_item line) (parameter_work p (i + 1) (length locals - (i + 1)) (drop (i + 1) locals) behind) ≡ all
parameter_more p rows line i locals l items more all rest behind h is same put cut so_far =
    let after = λ (r : List ℕ). parameter_work p (i + 1) (length locals - (i + 1)) (drop (i + 1) locals) r in
    let later = after (drop (words_in p l.ty) rest) in
    let put_here : more ≡ items ++ map (line_item line) (stored p i l rest) =
    put
    ∙ ap (λ rs. items ++ (if l.is_shared then line_item line (item.StoreParameter i (take (words_of rs l.ty) rest)) ∷ [] else [])) same
    ∙ ap (λ s. items ++ s) (put_in line (item.StoreParameter i (take (words_in p l.ty) rest)) l.is_shared)
    in
    ap₂ (λ m r. m ++ map (line_item line) (after r)) put_here (cut ∙ ap (λ rs. drop (words_of rs l.ty) rest) same)
    ∙ append_assoc items (map (line_item line) (stored p i l rest)) (map (line_item line) later)
    ∙ ap (λ r. items ++ r)
    (sym (map-append (line_item line) (stored p i l rest) later) ∙ ap (map (line_item line)) (sym (parameter_stored p i locals l rest h is)))
    ∙ so_far
  where
    put_in : (line : ℕ) (w : item.Work) (b : Bool) → (if b then line_item line w ∷ [] else []) ≡ map (line_item line) (if b then w ∷ [] else [])
    put_in line w true = refl
    put_in line w false = refl

pub parameters_begun : (p : Program) (line : ℕ) (locals : List Local) (items : List item.Item) (words : List ℕ) → items ≡ []
    → items ++ map (line_item line) (parameter_work p 0 (length locals - 0) (drop 0 locals) words) ≡ map (line_item line) (parameter_work p 0 (length locals) locals words)
parameters_begun p line locals items words e = ap₂ (λ i k. i ++ map (line_item line) (parameter_work p 0 k locals words)) e (sub_zero (length locals))

none_stored : (p : Program) (i : ℕ) (locals : List Local) (rest : List ℕ) → length locals ≤ i
    → parameter_work p i (length locals - i) (drop i locals) rest ≡ []
none_stored p i locals rest h = ap (λ (k : ℕ). parameter_work p i k (drop i locals) rest) (none_left (length locals) i h)

pub parameters_over : (p : Program) (line i : ℕ) (locals : List Local) (items all : List item.Item) (rest : List ℕ) → length locals ≤ i
    → items ++ map (line_item line) (parameter_work p i (length locals - i) (drop i locals) rest) ≡ all → items ≡ all
parameters_over p line i locals items all rest h so_far =
    sym (append-nil items) ∙ ap (λ (w : List item.Work). items ++ map (line_item line) w) (sym (none_stored p i locals rest h)) ∙ so_far

-- the locals that are parameters
work_cut : (p : Program) (number n : ℕ) (ls : List Local) (words : List ℕ)
    → parameter_work p number (length (take n ls)) (take n ls) words ≡ parameter_work p number n ls words
work_cut p number zero ls words = refl
work_cut p number (suc n) [] words = refl
work_cut p number (suc n) (l ∷ ls) words = ap (λ w. stored p number l words ++ w) (work_cut p (number + 1) n ls (drop (words_in p l.ty) words))

pub parameters_cut : (p : Program) (n k : ℕ) (locals slice cut : List Local) (words : List ℕ) → slice ≡ locals → k ≡ min n (length slice) → cut ≡ take k slice
    → parameter_work p 0 (length cut) cut words ≡ parameter_work p 0 n locals words
parameters_cut p n k locals slice cut words same e f =
    ap (λ ls. parameter_work p 0 (length ls) ls words) (f ∙ ap (λ m. take m slice) e ∙ take_min n slice ∙ ap (take n) same) ∙ work_cut p 0 n locals words

-- ---- a function begins

pub no_block_work : (line : ℕ) (ls slice : List Local) → slice ≡ ls → false ≡ has_block slice → [] ≡ map (line_item line) (block_work ls)
no_block_work line ls slice same e =
    ap (λ (b : Bool). map (line_item line) (if b then item.TakeBlock ∷ item.SetBlock ∷ [] else [])) (e ∙ ap has_block same)

pub some_block_work : (line : ℕ) (ls slice : List Local) → slice ≡ ls → true ≡ has_block slice
    → map (line_item line) (item.TakeBlock ∷ item.SetBlock ∷ []) ≡ map (line_item line) (block_work ls)
some_block_work line ls slice same e =
    ap (λ (b : Bool). map (line_item line) (if b then item.TakeBlock ∷ item.SetBlock ∷ [] else [])) (e ∙ ap has_block same)

pub items_begun : (p : Program) (f : Function) (words : List ℕ) (blocks stores joined all : List Item) (body : Item)
    → map item_of blocks ≡ map (line_item f.line) (block_work f.locals)
    → map item_of stores ≡ map (line_item f.line) (parameter_work p 0 f.parameters f.locals words)
    → item_of body ≡ to_do f.body → joined ≡ blocks ++ stores → all ≡ joined ++ body ∷ []
    → map item_of all ≡ begun_items p f words
items_begun p f words blocks stores joined all body b s e j a =
    ap (map item_of) (a ∙ ap (λ l. l ++ body ∷ []) j)
    ∙ map-append item_of (blocks ++ stores) (body ∷ [])
    ∙ ap₂ (λ l i. l ++ i ∷ [])
    (map-append item_of blocks stores
    ∙ ap₂ (λ x y. x ++ y) b s
    ∙ sym (map-append (line_item f.line) (block_work f.locals) (parameter_work p 0 f.parameters f.locals words)))
    e

abbrev pub new_frame : ℕ → List (List ℕ) → List ℕ → List ℕ → List item.Item → List item.Found → item.Frame
new_frame number locals around turns items found =
    record { function = number; locals = locals; block = 0; around = around; turns = turns; items = items; found = found }

pub frame_begun : (p : Program) (number k : ℕ) (f : Function) (words : List ℕ) (locals : List (List ℕ)) (around cut turns : List ℕ) (items : List Item) (found : List Found)
    (slice : List Local) → slice ≡ f.locals → locals ≡ begun_locals p f.parameters slice words
    → k ≡ min (length f.around) (length words) → cut ≡ take k words → around ≡ cut → turns ≡ [] → found ≡ []
    → map item_of items ≡ begun_items p f words
    → new_frame number locals around turns (map item_of items) (map found_of found) ≡ begun_function p number (Some f) words
frame_begun p number k f words locals around cut turns items found slice same l kept c a t fs i =
    ap₂ (λ ls ar. new_frame number ls ar turns (map item_of items) (map found_of found))
    (l ∙ ap (λ ls. begun_locals p f.parameters ls words) same)
    (a ∙ c ∙ ap (λ n. take n words) kept ∙ take_min (length f.around) words)
    ∙ ap₂ (λ ts is. new_frame number (begun_locals p f.parameters f.locals words) (take (length f.around) words) ts is (map found_of found)) t i
    ∙ ap (λ os. new_frame number (begun_locals p f.parameters f.locals words) (take (length f.around) words) [] (begun_items p f words) (map found_of os)) fs

pub none_begun : (p : Program) (number : ℕ) (words : List ℕ) (locals : List (List ℕ)) (around turns : List ℕ) (items : List Item) (found : List Found)
    → locals ≡ [] → around ≡ [] → turns ≡ [] → items ≡ [] → found ≡ []
    → new_frame number locals around turns (map item_of items) (map found_of found) ≡ begun_function p number None words
none_begun p number words locals around turns items found l a t i f =
    ap₂ (λ ls ar. new_frame number ls ar turns (map item_of items) (map found_of found)) l a
    ∙ ap₂ (λ ts is. new_frame number [] [] ts (map item_of is) (map found_of found)) t i
    ∙ ap (λ os. new_frame number [] [] [] [] (map found_of os)) f
