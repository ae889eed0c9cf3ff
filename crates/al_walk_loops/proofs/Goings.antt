-- How a step goes on with what was put before the rest.
use Rattle.std.proofs.Common.{◌≡◌, List, [], ◌∷◌, ◌++◌, map, Result, IfOk, sym, ap, ◌∙◌, append_assoc}
use Rattle.std.proofs.lemmas.Result.{IfOk-weaker}
use Rattle.al_meaning.specs.Items as item
use Rattle.al_meaning.specs.Items.{Work, CasesEnd}
use Rattle.al_meaning.specs.Parts as parts
use Rattle.al_meaning.specs.Here as step
use Rattle.al_meaning.specs.Here.{does, moves, with_items, with_work}
use Rattle.al_control.specs.declared.control.Here.{Here}
use Rattle.al_control.specs.declared.control.Item.{Item}
use Rattle.al_control.specs.declared.control.Next.{Next}
use Rattle.al_control.specs.Models.{here_of, item_of, next_of}
use Rattle.al_walk_loops.proofs.WorkLists.{put_both}

-- the frame with these items
with_these : step.Here → List item.Item → step.Here
with_these h items = record h { frame = record h.frame { items = items } }

pub items_put : (h : Here) (items : List Item) (its : List item.Item) → map item_of items ≡ its ++ map item_of h.frame.items
    → here_of (record h { frame = record h.frame { items = items } }) ≡ with_items its (here_of h)
unfolding with_these
items_put h items its e = ap (with_these (here_of h)) e

pub with_items-append : (a b : List item.Item) (h : step.Here) → with_items (a ++ b) h ≡ with_items a (with_items b h)
unfolding with_these
with_items-append a b h = ap (with_these h) (append_assoc a b h.frame.items)

-- ---- a step that is the same

pub goes_same : {E : Type 0} (r : Result Next E) (x y : step.Next) → x ≡ y → IfOk r (λ n. next_of n ≡ x) → IfOk r (λ n. next_of n ≡ y)
goes_same r x y e goes = IfOk-weaker r _ _ (λ n (is : next_of n ≡ x). is ∙ e) goes

-- ---- a step moves

-- with two lists of work, of which the second was put first
pub goes_both : {E : Type 0} (r : Result Next E) (a b : List Work) (h after last : Here)
    → here_of after ≡ with_work b (here_of h) → here_of last ≡ with_work a (here_of after)
    → IfOk r (λ n. next_of n ≡ moves (here_of last)) → IfOk r (λ n. next_of n ≡ does (here_of h) (a ++ b))
goes_both r a b h after last e f goes =
    IfOk-weaker r _ _ (λ n (is : next_of n ≡ moves (here_of last)). is ∙ ap moves (put_both a b (here_of h) (here_of after) (here_of last) e f)) goes

-- with the statements behind a label, and then the end of the body round them
pub case_chosen : (b : List item.Item) (h after last : step.Here)
    → after ≡ with_work (CasesEnd ∷ []) h → last ≡ with_items b after → last ≡ with_items (b ++ parts.item h.line CasesEnd ∷ []) h
case_chosen b h after last e f = f ∙ ap (with_items b) e ∙ sym (with_items-append b (parts.item h.line CasesEnd ∷ []) h)

pub goes_chosen : {E : Type 0} (r : Result Next E) (b : List item.Item) (h after last : Here)
    → here_of after ≡ with_work (CasesEnd ∷ []) (here_of h) → here_of last ≡ with_items b (here_of after)
    → IfOk r (λ n. next_of n ≡ moves (here_of last)) → IfOk r (λ n. next_of n ≡ moves (with_items (b ++ parts.item h.line CasesEnd ∷ []) (here_of h)))
goes_chosen r b h after last e f goes =
    IfOk-weaker r _ _ (λ n (is : next_of n ≡ moves (here_of last)). is ∙ ap moves (case_chosen b (here_of h) (here_of after) (here_of last) e f)) goes

-- with what was received, the statements behind the case, and then the end of the body round them
pub case_goes : (w : List Work) (b : List item.Item) (h after last : step.Here)
    → after ≡ with_items b (with_work (CasesEnd ∷ []) h) → last ≡ with_work w after
    → last ≡ with_items (map (parts.item h.line) w ++ b ++ parts.item h.line CasesEnd ∷ []) h
unfolding with_these
case_goes w b h after last e f =
    f ∙ ap (with_work w) e
    ∙ ap (with_these h)
    (sym (append_assoc (map (parts.item h.line) w ++ b) (parts.item h.line CasesEnd ∷ []) h.frame.items
    ∙ append_assoc (map (parts.item h.line) w) b (parts.item h.line CasesEnd ∷ h.frame.items)))

pub goes_on_into : {E : Type 0} (r : Result Next E) (w : List Work) (b : List item.Item) (h after last : Here)
    → here_of after ≡ with_items b (with_work (CasesEnd ∷ []) (here_of h)) → here_of last ≡ with_work w (here_of after)
    → IfOk r (λ n. next_of n ≡ moves (here_of last))
    → IfOk r (λ n. next_of n ≡ moves (with_items (map (parts.item h.line) w ++ b ++ parts.item h.line CasesEnd ∷ []) (here_of h)))
goes_on_into r w b h after last e f goes =
    IfOk-weaker r _ _ (λ n (is : next_of n ≡ moves (here_of last)). is ∙ ap moves (case_goes w b (here_of h) (here_of after) (here_of last) e f)) goes
