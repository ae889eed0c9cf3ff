-- Where a step goes on: with work laid down, with what was found taken, or with an answer.
use Rattle.std.proofs.Common.{ℕ, zero, suc, Bool, true, false, List, [], ◌∷◌, ◌++◌, map, Option, Some, None, inl, arith}
use Rattle.std.specs.Prelude.{if◌then◌else◌}
use Rattle.std.specs.List.{AllByRecursion, flat_map}
use Rattle.al_base.specs.declared.trap.Trap.{Trap}
use Rattle.al_event.specs.declared.act.Act.{Act}
use Rattle.al_event.specs.declared.act.Act.TheVariants as act
use Rattle.al_base.specs.declared.trap.Trap.TheVariants as trap
use Rattle.al_world.specs.Control.{fitted}
use Rattle.al_typed.specs.declared.program.Program.{Program}
use Rattle.al_meaning.specs.Items.{Found, Words, Address, Local, Private, Nowhere, Work, Answered, Item, Frame, Entering, Control}
use Rattle.al_meaning.specs.Parts.{item}
use Rattle.al_meaning.specs.Here.{Here, Next, asks, at_address, control_at, does, finds, gives, lost, moves, place_taken, places_before, traps, turns, value_taken, with_address, with_found, with_items, with_place, with_two, with_value, with_work, words_before}
use Rattle.al_meaning.specs.Calls.{with_given}
use Rattle.al_meaning.specs.Meaning.{resume}
use Rattle.al_fits.specs.Controls.{ActIs, WorkIs, ItemIs, FrameIs, TopIs, FramesAre, ControlIs, WaitIs, NextIs}

-- ---- lists

pub each_append : {A : Type 0} (P : A → Type 0) (xs ys : List A) → AllByRecursion P xs → AllByRecursion P ys → AllByRecursion P (xs ++ ys)
each_append P [] ys h k = k
each_append P (x ∷ xs) ys h k = (h.0, each_append P xs ys h.1 k)

pub each_flat : {A B : Type 0} (P : B → Type 0) (Q : A → Type 0) (f : A → List B) → ((a : A) → Q a → AllByRecursion P (f a)) → (xs : List A) → AllByRecursion Q xs → AllByRecursion P (flat_map f xs)
each_flat P Q f g [] h = tt
each_flat P Q f g (x ∷ xs) h = each_append P (f x) (flat_map f xs) (g x h.0) (each_flat P Q f g xs h.1)

-- ---- controls

abbrev pub HereIs : Here → Type 0
HereIs h = AllByRecursion (ItemIs h.program) h.frame.items × AllByRecursion (FrameIs h.program) h.below

abbrev pub WorksAre : Program → List Work → Type 0
WorksAre p ws = AllByRecursion (WorkIs p) ws

top_is : (p : Program) (f : Frame) (items : List Item) → AllByRecursion (ItemIs p) items → TopIs p f items
top_is p f [] h = tt
top_is p f (i ∷ items) h = (inl h.0, h.1)

pub controlled : (p : Program) (e : Option Entering) (frames : List Frame) → AllByRecursion (FrameIs p) frames → FramesAre p e frames
controlled p (Some e) frames h = h
controlled p None [] h = tt
controlled p None (f ∷ below) h = (top_is p f f.items h.0, h.1)

pub given_is : (p : Program) (o : Option (List ℕ)) (frames : List Frame) → AllByRecursion (FrameIs p) frames → AllByRecursion (FrameIs p) (with_given o frames)
given_is p None frames h = h
given_is p (Some ws) [] h = tt
given_is p (Some ws) (f ∷ frames) h = h

pub resumed : (p : Program) (c : Control) (words : List ℕ) → AllByRecursion (FrameIs p) c.frames → ControlIs p (resume c words)
resumed p c [] h = controlled p c.entering c.frames h
resumed p c (w ∷ words) h = controlled p c.entering (with_given (Some (w ∷ words)) c.frames) (given_is p (Some (w ∷ words)) c.frames h)

pub items_are : (p : Program) (line : ℕ) (ws : List Work) (items : List Item) → WorksAre p ws → AllByRecursion (ItemIs p) items
    → AllByRecursion (ItemIs p) (map (item line) ws ++ items)
items_are p line [] items h k = k
items_are p line (w ∷ ws) items h k = (h.0, items_are p line ws items h.1 k)

-- ---- how a step goes on

pub goes_on : (h : Here) → HereIs h → ControlIs h.program (control_at h)
goes_on h K = (top_is h.program h.frame h.frame.items K.0, K.1)

pub finds_it : (h : Here) (f : Found) → HereIs h → NextIs h.program (finds h f)
finds_it h f K = goes_on (with_found (f ∷ h.frame.found) h) K

pub gives_it : (h : Here) (words : List ℕ) → HereIs h → NextIs h.program (gives h words)
gives_it h words K = finds_it h (Words words) K

pub laid : (h : Here) (work : List Work) → HereIs h → WorksAre h.program work → HereIs (with_work work h)
laid h work K w = (items_are h.program h.line work h.frame.items w K.0, K.1)

pub does_it : (h : Here) (work : List Work) → HereIs h → WorksAre h.program work → NextIs h.program (does h work)
does_it h work K w = goes_on (with_work work h) (laid h work K w)

pub laid_items : (h : Here) (items : List Item) → HereIs h → AllByRecursion (ItemIs h.program) items → HereIs (with_items items h)
laid_items h items K k = (each_append (ItemIs h.program) items h.frame.items k K.0, K.1)

pub does_items : (h : Here) (items : List Item) → HereIs h → AllByRecursion (ItemIs h.program) items → NextIs h.program (moves (with_items items h))
does_items h items K k = goes_on (with_items items h) (laid_items h items K k)

pub waits : (h : Here) (a : Act) → HereIs h → WaitIs h.program a (control_at h)
waits h a K = λ words. resumed h.program (control_at h) (fitted a words) K

pub asks_it : (h : Here) (a : Act) (work : List Work) → ActIs a → HereIs h → WorksAre h.program work → NextIs h.program (asks h a work)
asks_it h a work A K w = (A, waits (with_work work h) a (laid h work K w))

pub traps_it : (h : Here) (t : Trap) → HereIs h → NextIs h.program (traps h t)
traps_it h t K = asks_it h (act.Trap t) (Answered ∷ []) (tt, omega arith) K (tt, tt)

pub lost_it : (h : Here) → HereIs h → NextIs h.program (lost h)
lost_it h K = traps_it h trap.Illegal K

pub turns_it : (h : Here) (work : List Work) → HereIs h → WorksAre h.program work → NextIs h.program (turns h work)
turns_it h work K w = goes_on (with_work work h) (laid h work K w)

pub either : (p : Program) (b : Bool) (x y : Next) → NextIs p x → NextIs p y → NextIs p (if b then x else y)
either p true x y f g = f
either p false x y f g = g

-- ---- what was found is taken

pub value_it : (h : Here) (k : List ℕ → Here → Next) → HereIs h
    → ((ws : List ℕ) (found : List Found) → NextIs h.program (k ws (with_found found h))) → NextIs h.program (with_value h k)
value_it h k K f = on h.frame.found
  where
    on : (found : List Found) → NextIs h.program (value_taken found h k)
    on [] = lost_it h K
    on (Words ws ∷ found) = f ws found
    on (Address at ∷ found) = lost_it h K
    on (Local number ∷ found) = lost_it h K
    on (Private number ∷ found) = lost_it h K
    on (Nowhere ∷ found) = lost_it h K

pub place_it : (h : Here) (k : Found → Here → Next) → HereIs h
    → ((f : Found) (found : List Found) → NextIs h.program (k f (with_found found h))) → NextIs h.program (with_place h k)
place_it h k K f = on h.frame.found
  where
    on : (found : List Found) → NextIs h.program (place_taken found h k)
    on [] = lost_it h K
    on (x ∷ found) = f x found

pub address_it : (h : Here) (k : ℕ → Here → Next) → HereIs h
    → ((at : ℕ) (found : List Found) → NextIs h.program (k at (with_found found h))) → NextIs h.program (with_address h k)
address_it h k K f = place_it h (at_address k) K on
  where
    on : (x : Found) (found : List Found) → NextIs h.program (at_address k x (with_found found h))
    on (Words ws) found = lost_it (with_found found h) K
    on (Address at) found = f at found
    on (Local number) found = lost_it (with_found found h) K
    on (Private number) found = lost_it (with_found found h) K
    on Nowhere found = lost_it (with_found found h) K

pub values_it : (c : ℕ) (values : List (List ℕ)) (h : Here) (k : List (List ℕ) → Here → Next) → HereIs h
    → ((values : List (List ℕ)) (found : List Found) → NextIs h.program (k values (with_found found h))) → NextIs h.program (words_before c values h k)
values_it zero values h k K f = f values h.frame.found
values_it (suc c) values h k K f =
    value_it h (λ ws h. words_before c (ws ∷ values) h k) K (λ ws found. values_it c (ws ∷ values) (with_found found h) k K f)

pub places_it : (c : ℕ) (places : List Found) (h : Here) (k : List Found → Here → Next) → HereIs h
    → ((places : List Found) (found : List Found) → NextIs h.program (k places (with_found found h))) → NextIs h.program (places_before c places h k)
places_it zero places h k K f = f places h.frame.found
places_it (suc c) places h k K f =
    place_it h (λ x h. places_before c (x ∷ places) h k) K (λ x found. places_it c (x ∷ places) (with_found found h) k K f)

pub two_it : (h : Here) (k : List ℕ → List ℕ → Here → Next) → HereIs h
    → ((a b : List ℕ) (found : List Found) → NextIs h.program (k a b (with_found found h))) → NextIs h.program (with_two h k)
two_it h k K f =
    value_it h (λ second h. with_value h (λ first h. k first second h)) K
    (λ second found. value_it (with_found found h) (λ first h. k first second h) K (λ first found. f first second found))
