use Rattle.std.proofs.Common.{◌≡◌, ℕ, zero, suc, ◌/◌, ◌≤◌, List, take, length, refl, ap, ◌∙◌, arith}
use Rattle.std.specs.Int.{w32, to_le_bytes}
use Rattle.std.proofs.lemmas.List.{drop-drop}
use Rattle.al_event.specs.Store.{bytes_of, overwritten}
use borrow.Rule.Slice.PartMut.{put_mid}
use Rattle.al_opening.proofs.global.put.Goals as goal

twice : (n : ℕ) → n / 65536 ≡ n / 256 / 256
twice n = omega arith

thrice : (n : ℕ) → n / 16777216 ≡ n / 256 / 256 / 256
thrice n = omega arith

-- the lowest bytes of a word are the first of its four
first_bytes : (n word : ℕ) → n ≤ 4 → take n (to_le_bytes w32 word) ≡ bytes_of n word
first_bytes zero word le = refl
first_bytes (suc zero) word le = refl
first_bytes (suc (suc zero)) word le = refl
first_bytes (suc (suc (suc zero))) word le = rw (twice word) refl
first_bytes (suc (suc (suc (suc zero)))) word le = rw (twice word, thrice word) refl
first_bytes (suc (suc (suc (suc (suc n))))) word le = absurd (omega arith)

count : (n word : ℕ) → length (bytes_of n word) ≡ n
count zero word = refl
count (suc n) word = ap suc (count n (word / 256))

put_mid-overwritten : (xs ys : List ℕ) (a k : ℕ) → k ≡ length ys → put_mid a k xs ys ≡ overwritten xs a ys
put_mid-overwritten xs ys a k is = rw (is, drop-drop) refl

pub returns : goal.returns
returns c =
    let copied : c.copy_from_slice.new.self ≡ bytes_of c.args.size c.args.word = rw c.to_le_bytes.ensures at c.copy_from_slice.ensures.after ∙ first_bytes c.args.size c.args.word c.requires.few in
    rw copied (put_mid-overwritten c.args.bytes.now (bytes_of c.args.size c.args.word) c.args.at _ (let size = count c.args.size c.args.word in omega arith))
