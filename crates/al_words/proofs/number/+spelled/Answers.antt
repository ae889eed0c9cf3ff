use Rattle.std.proofs.Common.{◌≡◌, ℕ, List, ◌∷◌, ◌+◌, ◌*◌, ◌^◌, ◌≤◌, suc, length, arith, ap, subst}
use Rattle.al_words.proofs.Digits.{below, first_digit, room_next}
use Rattle.al_words.proofs.number.+spelled.Goals as goal

pub overflow_mul-value : goal.overflow_mul-value
overflow_mul-value t c = let small = below _ _ _ c.requires.room in omega arith

pub overflow_add-value : goal.overflow_add-value
overflow_add-value t c =
    let small = below _ _ _ c.requires.room in
    let d = first_digit _ _ _ c.in-Some.ensures.cases.0 c.requires.digits in
    omega (arith, d.1)

-- the room for the first digit and the others
room_of : (v n : ℕ) (ds rest : List ℕ) (d : ℕ) → ds ≡ d ∷ rest → (v + 1) * 10 ^ length ds ≤ n → (v + 1) * 10 ^ suc (length rest) ≤ n
room_of v n ds rest d e h = subst (λ l. (v + 1) * 10 ^ length l ≤ n) e h

pub spelled-requires : goal.spelled-requires
spelled-requires t c =
    let d = first_digit _ _ _ c.in-Some.ensures.cases.0 c.requires.digits in
    let room = room_next c.args.value c.in-Some.digit.now (length c.in-Some.rest.now) _ (room_of _ _ _ _ _ c.in-Some.ensures.cases.0 c.requires.room) d.1 in
    let shorter : length c.args.digits.now ≡ suc (length c.in-Some.rest.now) = ap length c.in-Some.ensures.cases.0 in
    (omega (arith, shorter), (d.2, room))
