-- Lists of parts that add to what was gathered.
use Rattle.std.proofs.Common.{◌≡◌, Bool, true, false, if◌then◌else◌, List, [], ◌∷◌, map, refl}
use Rattle.al_body_parts.specs.declared.parts.Parts.{Parts}
use Rattle.al_body_parts.specs.Expressions.{Way, each, behind_format}

-- the parts of a list by what they are made of
pub each_map : {A B : Type 0} (f : B → Way) (g : A → B) (xs : List A) (inside : Bool) (q : Parts) → each f (map g xs) inside q ≡ each (λ x. f (g x)) xs inside q
each_map f g [] inside q = refl
each_map f g (x ∷ xs) inside q = each_map f g xs inside (f (g x) inside q)

map-if : {A B : Type 0} (g : A → B) (b : Bool) (xs ys : List A) → (if b then map g xs else map g ys) ≡ map g (if b then xs else ys)
map-if g true xs ys = refl
map-if g false xs ys = refl

-- what stands behind a format, by what it is made of
pub behind_format_map : {A B : Type 0} (is_text : B → Bool) (g : A → B) (is_print : Bool) (xs : List A) → behind_format is_text is_print (map g xs) ≡ map g (behind_format (λ x. is_text (g x)) is_print xs)
behind_format_map is_text g false xs = refl
behind_format_map is_text g true [] = refl
behind_format_map is_text g true (x ∷ xs) = map-if g (is_text (g x)) xs (x ∷ xs)
