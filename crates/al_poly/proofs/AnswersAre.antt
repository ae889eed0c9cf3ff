-- The first misuse is a fault.
use Rattle.std.proofs.Common.{◌≡◌, ◌<◌, ◌≤◌, List, [], ◌∷◌, Result, Err, length, refl, ap, ◌∙◌, subst, sym, arith}
use Rattle.std.specs.List.{Contains}
use Rattle.al_tree.specs.declared.item.Item.{Item}
use Rattle.al_poly.specs.declared.fault.Misuse.{Misuse}
use Rattle.al_poly.specs.declared.fault.Misuse.TheVariants as misuse
use Rattle.al_poly.specs.Instances.{instances, misuses}
use Rattle.al_poly.specs.declared.fault.PolyFault.TheVariants as poly
use Rattle.al_poly.specs.declared.fault.PolyStop.{PolyStop}
use Rattle.al_poly.specs.declared.fault.PolyStop.TheVariants as stop
use Rattle.al_poly.specs.declared.instance.Instance.{Instance}
use Rattle.al_poly.specs.declared.instances.Instances.{Instances}
use Rattle.al_poly.specs.Answers.{IsFault, IsAnswer, answer_of, fault_of}

first_is_there : (m : Misuse) (rest : List Misuse) → Contains (m ∷ rest) m
first_is_there m rest = (0, omega arith, refl)

is_there : (items : List Item) (m : Misuse) (rest : List Misuse) → misuses items ≡ m ∷ rest → Contains (misuses items) m
is_there items m rest is = let P : List Misuse → Type 0 = λ l. Contains l m in subst P (sym is) (first_is_there m rest)

IsFault-first : (items : List Item) (m : Misuse) (rest : List Misuse) → length (instances items) ≤ 256 → misuses items ≡ m ∷ rest → IsFault items (fault_of m)
IsFault-first items (misuse.UnknownParameter at) rest few is = (few, is_there items (misuse.UnknownParameter at) rest is)
IsFault-first items (misuse.WrongCount at) rest few is = (few, is_there items (misuse.WrongCount at) rest is)

answers : (items : List Item) (ms : List Misuse) → length (instances items) ≤ 256 → misuses items ≡ ms → IsAnswer items (answer_of (instances items) ms)
answers items [] few is = (refl, few, is)
answers items (m ∷ rest) few is = IsFault-first items m rest few is

pub IsAnswer-of : (items : List Item) (list : List Instance) (ms : List Misuse) (r : Result Instances PolyStop) → r ≡ answer_of list ms → list ≡ instances items → ms ≡ misuses items → length list < 257 → IsAnswer items r
IsAnswer-of items list ms r is listed asked few =
    let short : length (instances items) ≤ 256 = subst (λ l. length l ≤ 256) listed (omega (arith, few)) in
    subst (IsAnswer items) (sym (is ∙ ap (λ l. answer_of l ms) listed)) (answers items ms short (sym asked))

pub IsAnswer-limit : (items : List Item) (list : List Instance) → list ≡ instances items → 257 ≤ length list → IsAnswer items (Err (stop.Fault poly.Limit))
IsAnswer-limit items list listed many = subst (λ l. 257 ≤ length l) listed many

pub ruleset answered = (IsAnswer-of, IsAnswer-limit)
