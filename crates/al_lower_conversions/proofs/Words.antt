-- Values that are those of another type as they stand: single words and aggregates.
use Rattle.std.proofs.Common.{◌≡◌, ℕ, List, [], ◌∷◌, length, Option, refl, sym, ap, ◌∙◌, subst, inl, inr, arith}
use Rattle.std.specs.Prelude.{Bool, true, false, ◌&&◌, nat_eq}
use Rattle.std.proofs.lemmas.Grind.{common_steps}
use Rattle.al_base.specs.declared.arith.Kind.TheVariants as kind
use Rattle.al_typed.specs.declared.program.Program.{Program}
use Rattle.al_typed.specs.declared.ty.Ty.{Ty, Void, Integer, Pointer', Array', Chan', Tuple', Aggregate, Function', Row_of-Ty, end_of-Ty, more_of-Ty}
use Rattle.al_typed.specs.declared.ty.Ty.TheViews.{out-Ty}
use denote.Hole.Carrier.{out}
use Rattle.al_typed.specs.Types.{is_void, is_array, is_scalar}
use Rattle.al_typed.specs.Layout.{unit_at, layout, layout_of}
use Rattle.al_typed.specs.WellTyped.{is_word, converts}
use Rattle.al_meaning.specs.Words.{integer_words, converted}
use Rattle.al_meaning.specs.Shown.{kind_of}
use Rattle.al_meaning.specs.Here.{units_in}
use Rattle.al_meaning.specs.Tasks.{Task}
use Rattle.al_lower_words.specs.Units.{AreOf}
use Rattle.al_lower_words.proofs.Integers.{words_are}
use Rattle.al_lower_code.specs.Coded.{Coded}
use Rattle.al_lower_code.specs.Values.{converted_coded}
use Rattle.al_lower_claims.proofs.Claims.{Setting, spot, UnitsOf, count_of, IsTest, IsAddress, CodedDoes}
use Rattle.al_lower_claims.proofs.Operands.{both_true}
use Rattle.al_lower_conversions.proofs.Same.{mapped, Same, same_does}
use Rattle.al_lower_conversions.proofs.Integers.{integers_convert}

-- ---- single words

-- what a type of single words has
pub record IsSingle (p : Program) (t : Ty) : Type 0 where
  pub units : units_in p t ≡ unit_at 0 4 ∷ []
  pub not_void : is_void t ≡ false
  pub not_array : is_array t ≡ false
  pub scalar : is_scalar t ≡ true
  pub number : (bits : ℕ) → integer_words (kind_of t) bits ≡ bits ∷ []

pub single : (p : Program) (t : Ty) → is_word t ≡ true → IsSingle p t
unfolding layout layout_of is_word is_void is_array is_scalar kind_of out-Ty out
single p (Integer kind.Int) e = record { units = refl; not_void = refl; not_array = refl; scalar = refl; number = λ bits. refl }
single p (Integer kind.Uint) e = record { units = refl; not_void = refl; not_array = refl; scalar = refl; number = λ bits. refl }
single p (Integer kind.Byte) e = absurd (cc)
single p (Integer kind.Sint) e = absurd (cc)
single p (Integer kind.Usint) e = absurd (cc)
single p (Integer kind.Lint) e = absurd (cc)
single p (Integer kind.Ulint) e = absurd (cc)
single p (Pointer' _ (more_of-Ty to end_of-Ty)) e = record { units = refl; not_void = refl; not_array = refl; scalar = refl; number = λ bits. refl }
single p (Chan' _ (more_of-Ty element end_of-Ty) capacity) e = record { units = refl; not_void = refl; not_array = refl; scalar = refl; number = λ bits. refl }
single p Void e = absurd (cc)
single p (Array' _ element count) e = absurd (cc)
single p (Tuple' _ parts) e = absurd (cc)
single p (Aggregate number) e = absurd (cc)
single p (Function' _ returns _ parameters) e = absurd (cc)

module _ (k : Setting) where
  words_same : (t u : Ty) (f : List ℕ → List ℕ) → is_word t ≡ true → is_word u ≡ true → ((v : List ℕ) → f v ≡ v) → Same k t u f
  words_same t u f et eu same =
      let x = single k.ways.program t et in
      let y = single k.ways.program u eu in
      let units : units_in k.ways.program t ≡ units_in k.ways.program u = x.units ∙ sym y.units in
      let ct : count_of k t ≡ length (units_in k.ways.program t) = words_are k.ways.program t x.not_array in
      record {
        not_void = x.not_void;
        not_void_either = y.not_void;
        count = ct ∙ (ap length units ∙ sym (words_are k.ways.program u y.not_array));
        units = ap length units;
        same = λ v h. same v;
        fits = λ v h. subst (λ us. AreOf us v) units h;
        test = λ q. record { not_void = x.not_void; scalar = x.scalar; counts = ct; words = inl x.units };
        address = λ q. record { not_void = x.not_void; scalar = x.scalar; size = 4; small = omega arith; units = x.units };
        number = λ bits h. x.number bits ∙ sym (y.number bits);
      }

  pub words_convert : {m : Task (Option (List ℕ))} {c : Coded} (t u : Ty) (f : List ℕ → List ℕ) → (is_word t && is_word u) ≡ true → ((v : List ℕ) → f v ≡ v) → CodedDoes k m t c → CodedDoes k (mapped f m) u c
  words_convert t u f e same h = let b = both_true (is_word t) (is_word u) e in same_does k (words_same t u f b.0 b.1 same) h

  -- ---- aggregates

  -- a value of the type itself
  pub equal_same : (t : Ty) (f : List ℕ → List ℕ) → is_void t ≡ false → ((v : List ℕ) → f v ≡ v) → Same k t t f
  equal_same t f nv same = record {
    not_void = nv;
    not_void_either = nv;
    count = refl;
    units = refl;
    same = λ v h. same v;
    fits = λ v h. h;
    test = λ q. q;
    address = λ q. q;
    number = λ bits h. refl;
  }

  aggregate_not_void : (a : ℕ) → is_void (Aggregate a) ≡ false
  unfolding is_void out-Ty out
  aggregate_not_void a = refl

  pub aggregates_convert : {m : Task (Option (List ℕ))} {c : Coded} (a b : ℕ) (f : List ℕ → List ℕ) → nat_eq a b ≡ true → ((v : List ℕ) → f v ≡ v) → CodedDoes k m (Aggregate a) c → CodedDoes k (mapped f m) (Aggregate b) c
  aggregates_convert {m} {c} a b f e same h =
      let is : a ≡ b = grind (arith, common_steps, e) in
      subst (λ n. CodedDoes k (mapped f m) (Aggregate n) c) is (same_does k (equal_same (Aggregate a) f (aggregate_not_void a) same) h)
