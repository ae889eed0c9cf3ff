-- Slots of the branches of a talk, one after the other.
use Rattle.std.proofs.Common.{◌≡◌, ℕ, ◌+◌, Bool, true, false, ◌&&◌, ◌||◌, nat_le, nat_lt, List, [], ◌∷◌, ◌++◌, refl, ap, ◌∙◌, sym}
use Rattle.al_ir.specs.declared.op.TalkBranch.{TalkBranch}
use Rattle.rv_regs.specs.Uses.{Range, sent, sent_by, received}
use Rattle.rv_regs.specs.Marks.{is_in, received_by}

or_assoc : (a b c : Bool) → ((a || b) || c) ≡ (a || (b || c))
or_assoc true b c = refl
or_assoc false b c = refl

pub is_in_append : (t : ℕ) (xs ys : List Range) → is_in t (xs ++ ys) ≡ (is_in t xs || is_in t ys)
is_in_append t [] ys = refl
is_in_append t (x ∷ xs) ys = ap (λ b. (nat_le x.from t && nat_lt t (x.from + x.count)) || b) (is_in_append t xs ys) ∙ sym (or_assoc (nat_le x.from t && nat_lt t (x.from + x.count)) (is_in t xs) (is_in t ys))

pub in_three : (t : ℕ) (xs ys zs : List Range) → is_in t (xs ++ ys ++ zs) ≡ (is_in t xs || (is_in t ys || is_in t zs))
in_three t xs ys zs = is_in_append t (xs ++ ys) zs ∙ (ap (λ b. b || is_in t zs) (is_in_append t xs ys) ∙ or_assoc (is_in t xs) (is_in t ys) (is_in t zs))

pub sent_more : (t : ℕ) (b : TalkBranch) (bs : List TalkBranch) → is_in t (sent_by (b ∷ bs)) ≡ (is_in t (sent b.send b.words) || is_in t (sent_by bs))
sent_more t b bs = is_in_append t (sent b.send b.words) (sent_by bs)

pub received_more : (got t : ℕ) (b : TalkBranch) (bs : List TalkBranch) → is_in t (received got (b ∷ bs)) ≡ (is_in t (received_by got b) || is_in t (received got bs))
received_more got t b bs = is_in_append t (received_by got b) (received got bs)
