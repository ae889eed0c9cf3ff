-- A text is a list, or wrong at a line, in one way.
use Rattle.std.proofs.Common.{◌≡◌, ◌≢◌, ℕ, zero, suc, ◌-◌, ◌≤◌, IfOk, List, [], ◌∷◌, ◌++◌, length, All, Result, Ok, Err, refl, sym, ap, ◌∙◌, append_assoc, arith}
use Rattle.std.proofs.lemmas.List.{append-nil}
use Rattle.std.proofs.lemmas.List.Elements.{All-head, All-tail}
use Rattle.al_link_lists.specs.declared.stop.ListStop.{ListStop}
use Rattle.al_link_lists.specs.declared.stop.ListStop.TheVariants.{Line, NoMemory}
use Rattle.al_link_lists.specs.Lists.{line_feed, most, IsFileName, line_of, list_text, IsList, HasNoLine, IsWrongAfter, IsWrongLine, IsReading}
use Rattle.al_link_lists.proofs.Cuts.{cut_once}

regroup : (e t x : List ℕ) → (line_of e ++ t) ++ x ≡ e ++ line_feed ∷ (t ++ x)
regroup e t x = simp append_assoc

-- where no line follows the one list, the other is no longer, and the same where it is as long
peeled : (h k : List (List ℕ)) (x y : List ℕ) → All IsFileName h → All IsFileName k → list_text h ++ x ≡ list_text k ++ y → HasNoLine y
    → (length h ≤ length k) × (length h ≡ length k → (h ≡ k) × (x ≡ y))
peeled [] [] x y p q same none = (omega arith, λ e. (refl, same))
peeled [] (f ∷ k) x y p q same none = (omega arith, λ e. absurd (omega arith))
peeled (e ∷ h) [] x y p q same none = absurd (none e (list_text h ++ x) (All-head IsFileName e h p) (sym same ∙ regroup e (list_text h) x))
peeled (e ∷ h) (f ∷ k) x y p q same none =
    let first = All-head IsFileName e h p in let second = All-head IsFileName f k q in
    let one = cut_once line_feed e f (list_text h ++ x) (list_text k ++ y) first.one_line second.one_line
    (sym (regroup e (list_text h) x) ∙ same ∙ regroup f (list_text k) y) in
    let rest = peeled h k x y (All-tail IsFileName e h p) (All-tail IsFileName f k q) one.1 none in
    let fewer = rest.0 in
    let head : e ≡ f = one.0 in
    (omega arith, λ size. let r = rest.1 (omega arith) in let tail : h ≡ k = r.0 in (cc, r.1))

no_line_at_end : HasNoLine []
no_line_at_end [] more is e = absurd (let some = is.some in omega arith)
no_line_at_end (b ∷ bs) more is e = absurd (let f : ⊥ = cc in f)

list_once : (text : List ℕ) (a b : List (List ℕ)) → IsList text a → IsList text b → a ≡ b
list_once text a b is js =
    let same : list_text a ++ [] ≡ list_text b ++ [] = append-nil (list_text a) ∙ sym is.whole ∙ js.whole ∙ sym (append-nil (list_text b)) in
    let there = peeled a b [] [] is.right js.right same no_line_at_end in
    let back = peeled b a [] [] js.right is.right (sym same) no_line_at_end in
    let fewer = there.0 in let more = back.0 in
    (there.1 (omega arith)).0

by_rest : {A : Type 0} (n : ℕ) → (n ≡ 0 → A) → (n ≢ 0 → A) → A
by_rest zero p q = p refl
by_rest (suc n) p q = q (λ e. let f : ⊥ = cc in f)

wrong_is_no_list : (text : List ℕ) (a b : List (List ℕ)) → IsList text a → IsWrongAfter text b → ⊥
wrong_is_no_list text a b is js =
    let same : list_text b ++ js.rest ≡ list_text a ++ [] = sym js.parts ∙ is.whole ∙ sym (append-nil (list_text a)) in
    let back = peeled b a js.rest [] js.right is.right same no_line_at_end in
    let more = back.0 in let some = is.some in let few = is.few in
    let ends : length b ≡ length a → ⊥ = λ size. let none : b ≡ [] = js.next ((back.1 size).1) in let count : length b ≡ 0 = ap length none in omega (arith, size, count, some) in
    by_rest (most - length b) (λ full. ends (omega (arith, full, few, more)))
    (λ short. let there = peeled a b [] js.rest is.right js.right (sym same) (js.wrong (λ e. short (omega (arith, e)))) in let fewer = there.0 in ends (omega (arith, fewer, more)))

wrong_once : (text : List ℕ) (a b : List (List ℕ)) → IsWrongAfter text a → IsWrongAfter text b → length a ≤ length b
wrong_once text a b is js =
    let same : list_text a ++ is.rest ≡ list_text b ++ js.rest = sym is.parts ∙ js.parts in
    let few = is.few in
    by_rest (most - length b) (λ full. omega (arith, full, few))
    (λ short. (peeled a b is.rest js.rest is.right js.right same (js.wrong (λ e. short (omega (arith, e))))).0)

pub reading_of : (text : List ℕ) (r : Result (List (List ℕ)) ListStop) → IfOk r (IsList text) → ((k : ℕ) → r ≡ Err (Line k) → IsWrongLine text k) → IsReading text r
reading_of text (Ok names) list wrong = list
reading_of text (Err (Line k)) list wrong = wrong k refl
reading_of text (Err NoMemory) list wrong = tt

pub reading_once : (text : List ℕ) (r s : Result (List (List ℕ)) ListStop) → IsReading text r → IsReading text s → r ≢ Err NoMemory → s ≢ Err NoMemory → r ≡ s
reading_once text (Ok a) (Ok b) is js p q = ap (λ l. let o : Result (List (List ℕ)) ListStop = Ok l in o) (list_once text a b is js)
reading_once text (Ok a) (Err (Line k)) is js p q = absurd (wrong_is_no_list text a js.names is js.is)
reading_once text (Err (Line k)) (Ok b) is js p q = absurd (wrong_is_no_list text b is.names js is.is)
reading_once text (Err (Line k)) (Err (Line j)) is js p q =
    let there = wrong_once text is.names js.names is.is js.is in
    let back = wrong_once text js.names is.names js.is is.is in
    let first = is.number in let second = js.number in
    let same : k ≡ j = omega (arith, there, back, first, second) in
    ap (λ n. let o : Result (List (List ℕ)) ListStop = Err (Line n) in o) same
reading_once text (Err NoMemory) s is js p q = absurd (p refl)
reading_once text r (Err NoMemory) is js p q = absurd (q refl)
