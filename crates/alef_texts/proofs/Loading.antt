-- The reading of an image or a text, piece by piece.
use Rattle.std.proofs.Common.{◌≡◌, ℕ, ◌<◌, ◌≤◌, List, [], ◌∷◌, ◌++◌, length, take, drop, Option, Some, None, Err, refl, sym, ap, ap₂, ◌∙◌, subst, arith, append_assoc, append-nil, inl, inr}
use Rattle.std.specs.Prelude.{◌⊎◌}
use Rattle.std.proofs.lemmas.List.{take_all, drop_all, take-append-drop, drop_at}
use Rattle.al_host.specs.Outside.{Content, WhereTold, Finds, Reads}
use Rattle.rv_isa.specs.declared.image.Contents.{Contents}
use Rattle.rv_image.specs.declared.fault.ImageFault.{ImageFault}
use Rattle.rv_image.specs.Spelling.{IsImage}
use Rattle.rv_image.specs.Reading.{reading}
use Rattle.rv_image.specs.Front.{enough_of}
use Rattle.rv_image.proofs.Fronts.{suffices}
use Rattle.alef_texts.specs.Call.{LacksText, LeavesRest, text_in}
use Rattle.alef_texts.specs.Load.{ReadsOn}
use Rattle.alef_texts.proofs.Told.{told_as, told_then, told_at_once}

-- ---- one piece after another

-- more bytes were read behind those that there were
pub record SoFar (old new : List ℕ) (before after : Content) : Type 0 where
  pub part : List ℕ
  pub bytes : new ≡ old ++ part
  pub left : before.left ≡ part ++ after.left
  pub same : after.texts ≡ before.texts

pub so_far_none : (bytes : List ℕ) (o : Option Content) → WhereTold (SoFar bytes bytes) o o
so_far_none bytes o = told_at_once (SoFar bytes bytes) o (λ a. record { part = []; bytes = sym (append-nil bytes); left = refl; same = refl })

pub so_far_on : (old new new' : List ℕ) (n : ℕ) (buffer : List ℕ) (o o' o'' : Option Content) → WhereTold (SoFar old new) o o' → WhereTold (Reads n buffer) o' o''
    → new' ≡ new ++ take n buffer → WhereTold (SoFar old new') o o''
so_far_on old new new' n buffer o o' o'' s r e =
    told_then (SoFar old new) (Reads n buffer) (SoFar old new') o o' o''
    (λ a b c p q. record {
      part = p.part ++ take n b.left;
      bytes = e ∙ ap₂ (λ (u v : List ℕ). u ++ v) p.bytes q.bytes ∙ append_assoc old p.part (take n b.left);
      left = p.left ∙ ap (λ (l : List ℕ). p.part ++ l) (sym (take-append-drop n b.left) ∙ ap (λ (l : List ℕ). take n b.left ++ l) (sym q.rest)) ∙ sym (append_assoc p.part (take n b.left) c.left);
      same = q.same ∙ p.same;
    }) s r

pub reads_full : (most : ℕ) (old new : List ℕ) (o o' : Option Content) → length new ≤ most → most ≤ length new → WhereTold (SoFar old new) o o' → WhereTold (ReadsOn most old new) o o'
reads_full most old new o o' within full s =
    told_as (SoFar old new) (ReadsOn most old new) o o'
    (λ a b p. record { part = p.part; bytes = p.bytes; left = p.left; within = within; end = inl (omega (arith, within, full)); same = p.same }) s

-- a read of nothing into a buffer with room is the end
pub reads_end : (most : ℕ) (old new : List ℕ) (n : ℕ) (buffer : List ℕ) (o o' o'' : Option Content) → length new ≤ most → n ≡ 0 → 0 < length buffer
    → WhereTold (SoFar old new) o o' → WhereTold (Reads n buffer) o' o'' → WhereTold (ReadsOn most old new) o o''
reads_end most old new n buffer o o' o'' within none room s r =
    told_then (SoFar old new) (Reads n buffer) (ReadsOn most old new) o o' o''
    (λ a b c p q.
    let nothing : b.left ≡ [] = (q.end room).0 none in
    let rest : c.left ≡ [] = q.rest ∙ ap (drop n) nothing ∙ drop_none n in
    record { part = p.part; bytes = p.bytes; left = p.left ∙ ap (λ (l : List ℕ). p.part ++ l) (nothing ∙ sym rest); within = within; end = inr rest; same = q.same ∙ p.same }) s r
  where
    drop_none : (n : ℕ) → drop n (let none : List ℕ = [] in none) ≡ []
    drop_none n = drop_all n [] (omega arith)

-- ---- an image

front_is : (most : ℕ) (text bytes rest : List ℕ) → text ≡ bytes ++ rest → length bytes ≤ most → (length bytes ≡ most) ⊎ (rest ≡ []) → (bytes ≡ take most text) × (rest ≡ drop most text)
front_is most text bytes rest e within (inl full) =
    (sym (ap₂ (λ (n : ℕ) (t : List ℕ). take n t) (sym full) e ∙ take_front bytes), sym (ap₂ (λ (n : ℕ) (t : List ℕ). drop n t) (sym full) e ∙ drop_at bytes rest (length bytes) refl))
  where
    take_front : (bytes : List ℕ) → take (length bytes) (bytes ++ rest) ≡ bytes
    take_front [] = refl
    take_front (b ∷ bs) = ap (λ (l : List ℕ). b ∷ l) (take_front bs)
front_is most text bytes rest e within (inr none) =
    let same : text ≡ bytes = e ∙ ap (λ (l : List ℕ). bytes ++ l) none ∙ append-nil bytes in
    let short : length text ≤ most = let l = ap length same in omega (arith, l, within) in
    (sym (take_all most text short ∙ same), none ∙ sym (drop_all most text short))

pub same_text : {A : Type 0} (o : Option A) (a b : A) → o ≡ Some a → o ≡ Some b → a ≡ b
same_text o a b e f = cc

pub loaded : (name : List ℕ) (o o1 o2 o3 : Option Content) (none front bytes : List ℕ) (most : ℕ) → none ≡ [] → most ≡ enough_of front → WhereTold (Finds name) o o1 → WhereTold (ReadsOn 36 none front) o1 o2
    → WhereTold (ReadsOn most front bytes) o2 o3 → (text : List ℕ) → text_in o name ≡ Some text → (bytes ≡ take (enough_of text) text) × LeavesRest (drop (enough_of text) text) o3
loaded name (Some a) (Some b) (Some c) (Some d) none front bytes most z e f r s text is =
    let found : text ≡ b.left = same_text _ _ _ is f.text in
    let first : front ≡ r.part = r.bytes ∙ ap (λ (l : List ℕ). l ++ r.part) z in
    let left : text ≡ front ++ c.left = found ∙ r.left ∙ ap (λ (l : List ℕ). l ++ c.left) (sym first) in
    let head : front ≡ take 36 text = (front_is 36 text front c.left left r.within r.end).0 in
    let enough : most ≡ enough_of text = e ∙ ap enough_of head ∙ (suffices text).told in
    let all : text ≡ bytes ++ d.left = left ∙ ap (λ (l : List ℕ). front ++ l) s.left ∙ sym (append_assoc front s.part d.left) ∙ ap (λ (l : List ℕ). l ++ d.left) (sym s.bytes) in
    let read = front_is most text bytes d.left all s.within s.end in
    (read.0 ∙ ap (λ (n : ℕ). take n text) enough, read.1 ∙ ap (λ (n : ℕ). drop n text) enough)
loaded name None o1 o2 o3 none front bytes most z e f r s text is = absurd (cc)
loaded name (Some a) None o2 o3 none front bytes most z e f r s text is = absurd f
loaded name (Some a) (Some b) None o3 none front bytes most z e f r s text is = absurd r
loaded name (Some a) (Some b) (Some c) None none front bytes most z e f r s text is = absurd s

pub found_there : (name : List ℕ) (o o1 : Option Content) → WhereTold (Finds name) o o1 → LacksText o name → ⊥
found_there name (Some a) (Some b) f lacks = let t = f.text in cc
found_there name (Some a) None f lacks = f
found_there name None o1 f lacks = lacks

-- so many bytes are read as the text is
pub reads_as : (text bytes : List ℕ) (fault : ImageFault) → bytes ≡ take (enough_of text) text → reading bytes ≡ Err fault → reading text ≡ Err fault
reads_as text bytes fault e r = sym (suffices text).read ∙ ap reading (sym e) ∙ r

pub spells : (text bytes : List ℕ) (image : Contents) → bytes ≡ take (enough_of text) text → IsImage bytes image → IsImage text image
spells text bytes image e is =
    let P : List ℕ → Type 0 = λ bytes. IsImage bytes image in
    let front : IsImage (take (enough_of text) text) image = subst P e is in
    subst P ((suffices text).whole image front) front

-- ---- a text

pub text_loaded : (name : List ℕ) (o o1 o2 : Option Content) (none bytes : List ℕ) (most : ℕ) → none ≡ [] → WhereTold (Finds name) o o1 → WhereTold (ReadsOn most none bytes) o1 o2
    → (text : List ℕ) → text_in o name ≡ Some text → (bytes ≡ take most text) × LeavesRest (drop most text) o2
text_loaded name (Some a) (Some b) (Some c) none bytes most z f r text is =
    let found : text ≡ b.left = same_text _ _ _ is f.text in
    let read : bytes ≡ r.part = r.bytes ∙ ap (λ (l : List ℕ). l ++ r.part) z in
    front_is most text bytes c.left (found ∙ r.left ∙ ap (λ (l : List ℕ). l ++ c.left) (sym read)) r.within r.end
text_loaded name None o1 o2 none bytes most z f r text is = absurd (cc)
text_loaded name (Some a) None o2 none bytes most z f r text is = absurd f
text_loaded name (Some a) (Some b) None none bytes most z f r text is = absurd r
