-- Where a text stands among files in memory.
use Rattle.std.proofs.Common.{◌≡◌, ℕ, zero, suc, ◌<◌, List, [], ◌∷◌, length, drop, get_or, Some, refl, sym, ap, arith, true, false, Bool, ◌∙◌}
use Rattle.std.specs.Prelude.{string_bytes, if◌then◌else◌}
use Rattle.std.specs.declared.string.String.{String}
use Rattle.std.specs.declared.vec.Vec.{Vec}
use Rattle.std.specs.declared.alloc.Global.{Global}
use Rattle.std.specs.Str.{bytes_eq}
use Rattle.al_host.specs.Outside.{text_under}
use Rattle.al_host.specs.Memory.{text_at}
use Rattle.al_host.specs.Files.{texts_of}

abbrev pub File : Type 0
File = String Global × Vec ℕ Global

-- the file at a place, as a text with its name
opened : (files : List File) (at : ℕ) (x : File) → at < length files → x ≡ get_or files at x
    → drop at (texts_of files) ≡ (string_bytes x.0, x.1.items) ∷ drop (suc at) (texts_of files)
opened [] at x h e = absurd (omega arith)
opened (f ∷ files) zero x h e = ap (λ (y : File). (string_bytes y.0, y.1.items) ∷ texts_of files) (sym e)
opened (f ∷ files) (suc at) x h e = opened files at x (omega arith) e

at_place : (files : List File) (at : ℕ) (x : File) → at < length files → x ≡ get_or files at x → text_at at (texts_of files) ≡ x.1.items
at_place [] at x h e = absurd (omega arith)
at_place (f ∷ files) zero x h e = ap (λ (y : File). y.1.items) (sym e)
at_place (f ∷ files) (suc at) x h e = at_place files at x (omega arith) e

chosen : (b : Bool) {A : Type 0} (x y z : A) → b ≡ true → x ≡ z → (if b then x else y) ≡ z
chosen true x y z e f = f
chosen false x y z e f = cc

passed : (b : Bool) {A : Type 0} (x y : A) → b ≡ false → (if b then x else y) ≡ y
passed true x y e = cc
passed false x y e = refl

-- the file at a place has the name
pub found_here : (name : List ℕ) (files : List File) (at : ℕ) (x : File) → at < length files → x ≡ get_or files at x
    → text_under name (texts_of files) ≡ text_under name (drop at (texts_of files)) → bytes_eq (string_bytes x.0) name ≡ true
    → text_under name (texts_of files) ≡ Some (text_at at (texts_of files))
found_here name files at x h e i t =
    i ∙ ap (text_under name) (opened files at x h e) ∙ chosen _ _ _ _ t (ap Some (sym (at_place files at x h e)))

-- the file at a place has another name
pub not_here : (name : List ℕ) (files : List File) (at : ℕ) (x : File) → at < length files → x ≡ get_or files at x
    → text_under name (texts_of files) ≡ text_under name (drop at (texts_of files)) → bytes_eq (string_bytes x.0) name ≡ false
    → text_under name (texts_of files) ≡ text_under name (drop (suc at) (texts_of files))
not_here name files at x h e i t = i ∙ ap (text_under name) (opened files at x h e) ∙ passed _ _ _ t
