-- An expression whose value is that of another, as it stands.
use Rattle.std.proofs.Common.{◌≡◌, ℕ, ◌+◌, List, [], ◌∷◌, length, Option, Some, None, refl, sym, ap, ◌∙◌, subst, inl, inr, ⊎_elim}
use Rattle.std.specs.Prelude.{Bool, true, false}
use Rattle.al_typed.specs.declared.ty.Ty.{Ty}
use Rattle.al_typed.specs.Types.{is_void}
use Rattle.al_meaning.specs.Words.{integer_words}
use Rattle.al_meaning.specs.Shown.{kind_of}
use Rattle.al_meaning.specs.Here.{units_in}
use Rattle.al_meaning.specs.Tasks.{Still, Env, Rest, Task}
use Rattle.al_meaning.specs.Told.{value, needed}
use Rattle.al_ir.specs.Control.{Slots}
use Rattle.al_lower_code.specs.Coded.{Coded}
use Rattle.al_lower_steps.specs.Slots.{Holds}
use Rattle.al_lower_steps.proofs.Steps.{comes_out}
use Rattle.al_lower_claims.proofs.Variables.{Stays, Dest, Put}
use Rattle.al_lower_claims.proofs.Claims.{Setting, scene, site, Run, HasVars, UnitsOf, count_of, Gave, IsTest, IsAddress, GoesOn, ValueDoes, EffectDoes, UnlessDoes, PointerDoes, IsKnown, IsStanding, CodedDoes}

true_is_not : (b : Bool) → b ≡ true → b ≡ false → ⊥
true_is_not true h k = cc
true_is_not false h k = cc

-- what an expression gives is made into something
abbrev pub mapped : (List ℕ → List ℕ) → Task (Option (List ℕ)) → Task (Option (List ℕ))
mapped f m env s next = value m env s (λ v env s. next (Some (f v)) env s)

-- which leaves each value of one type as it is, a value of the other
pub record Same (k : Setting) (t u : Ty) (f : List ℕ → List ℕ) : Type 0 where
  pub not_void : is_void t ≡ false
  pub not_void_either : is_void u ≡ false
  pub count : count_of k t ≡ count_of k u
  pub units : length (units_in k.ways.program t) ≡ length (units_in k.ways.program u)
  pub same : (v : List ℕ) → UnitsOf k t v → f v ≡ v
  pub fits : (v : List ℕ) → UnitsOf k t v → UnitsOf k u v
  pub test : IsTest k u → IsTest k t
  pub address : IsAddress k u → IsAddress k t
  pub number : (bits : ℕ) → UnitsOf k t (integer_words (kind_of t) bits) → integer_words (kind_of t) bits ≡ integer_words (kind_of u) bits

module _ (k : Setting) {m : Task (Option (List ℕ))} {t u : Ty} {f : List ℕ → List ℕ} {c : Coded} (x : Same k t u f) (h : CodedDoes k m t c) where
  same_means : (o : Option (List ℕ)) → (v : List ℕ) → o ≡ Some v → UnitsOf k t v → ((env : Env) (s : Still) (next : Option (List ℕ) → Rest) → m env s next ≡ next o env s) → (env : Env) (s : Still) (next : Option (List ℕ) → Rest) → mapped f m env s next ≡ next (Some v) env s
  same_means o v e fits means env s next =
      means env s (λ p env s. needed p env s (λ v env s. next (Some (f v)) env s)) ∙ (ap (λ p. needed p env s (λ v env s. next (Some (f v)) env s)) e ∙ ap (λ w. next (Some w) env s) (x.same v fits))

  same_value : ValueDoes k (mapped f m) u c.keeps c.is_truth c.value
  same_value = record {
    by = λ dest to pc slots last env s next d room vars has go.
        h.value.by dest to pc slots last env s (λ o env s. needed o env s (λ v env s. next (Some (f v)) env s)) (subst (λ n. Dest (scene k) n dest to) (sym x.count) d) room vars has (on dest to pc slots env next go);
  }
    where
      on : (dest to pc : ℕ) (slots : Slots) (env : Env) (next : Option (List ℕ) → Rest) → GoesOn k u c.keeps c.is_truth env slots next dest to (pc + length (c.value dest to)) → GoesOn k t c.keeps c.is_truth env slots (λ o env s. needed o env s (λ v env s. next (Some (f v)) env s)) dest to (pc + length (c.value dest to))
      on dest to pc slots env next go None env2 s was now last g vars st put holds same truth = absurd (true_is_not (is_void t) g x.not_void)
      on dest to pc slots env next go (Some v) env2 s was now last g vars st put holds same truth =
          comes_out (site k) (ap (λ w. next (Some w) env2 s) (x.same v g.1))
          (go (Some v) env2 s was now last (x.not_void_either, x.fits v g.1) vars st (subst (λ n. Put n dest to now was) x.count put) holds same truth)

  same_effect : EffectDoes k (mapped f m) u c.keeps c.effect
  same_effect = record {
    by = λ to pc slots last env s next room vars has go.
        h.effect.by to pc slots last env s (λ o env s. needed o env s (λ v env s. next (Some (f v)) env s)) room vars has (λ o env2 s now last g vars2 st same. on to pc slots env next go o env2 s now last g vars2 st same);
  }
    where
      on : (to pc : ℕ) (slots : Slots) (env : Env) (next : Option (List ℕ) → Rest) → ((o : Option (List ℕ)) (env2 : Env) (s : Still) (now last : Slots) → Gave k u o → HasVars k env2 now → Stays (scene k) to now slots → (c.keeps ≡ true → env2 ≡ env) → Run k (next o env2 s) (pc + length (c.effect to)) now last s) → (o : Option (List ℕ)) (env2 : Env) (s : Still) (now last : Slots) → Gave k t o → HasVars k env2 now → Stays (scene k) to now slots → (c.keeps ≡ true → env2 ≡ env) → Run k (needed o env2 s (λ v env s. next (Some (f v)) env s)) (pc + length (c.effect to)) now last s
      on to pc slots env next go None env2 s now last g vars st same = absurd (true_is_not (is_void t) g x.not_void)
      on to pc slots env next go (Some v) env2 s now last g vars st same =
          comes_out (site k) (ap (λ w. next (Some w) env2 s) (x.same v g.1)) (go (Some v) env2 s now last (x.not_void_either, x.fits v g.1) vars st same)

  same_unless : IsTest k u → UnlessDoes k (mapped f m) u c.keeps c.unless
  same_unless test = record {
    by = λ to count pc slots last env s next room vars has go.
        (h.unless (x.test test)).by to count pc slots last env s (λ v env s. next (f v) env s) room vars has (λ v env2 s now last fits vars2 st same.
        comes_out (site k) (ap (λ w. next w env2 s) (x.same v fits)) (go v env2 s now last (x.fits v fits) vars2 st same));
  }

  same_pointer : IsAddress k u → PointerDoes k (mapped f m) u c.keeps c.pointer c.leads
  same_pointer address = record {
    by = λ lasting to pc slots last env s next room vars has go.
        (h.pointer (x.address address)).by lasting to pc slots last env s (λ v env s. next (f v) env s) room vars has (λ a env2 s now last small fits p vars2 st same.
        comes_out (site k) (ap (λ w. next w env2 s) (x.same (a ∷ []) fits)) (go a env2 s now last small (x.fits (a ∷ []) fits) p vars2 st same));
  }

  same_known : (bits : ℕ) → c.known ≡ Some bits → IsKnown k (mapped f m) u bits
  same_known bits e =
      let y = h.known bits e in
      let is = x.number bits y.fits in
      record {
        means = λ env s next. same_means (Some (integer_words (kind_of t) bits)) (integer_words (kind_of t) bits) refl y.fits y.means env s next ∙ ap (λ w. next (Some w) env s) is;
        not_void = x.not_void_either;
        fits = subst (UnitsOf k u) is (x.fits (integer_words (kind_of t) bits) y.fits);
      }

  same_stands : (slot : ℕ) → c.stands ≡ Some slot → IsStanding k (mapped f m) u slot
  same_stands slot e =
      let y = h.stands slot e in
      record {
        is = λ env. f (y.is env);
        means = λ env s next. y.means env s (λ p env s. needed p env s (λ v env s. next (Some (f v)) env s));
        not_void = x.not_void_either;
        fits = λ env slots vars. let fit = y.fits env slots vars in subst (UnitsOf k u) (sym (x.same (y.is env) fit)) (x.fits (y.is env) fit);
        holds = λ env slots vars. subst (Holds slots slot) (sym (x.same (y.is env) (y.fits env slots vars))) (y.holds env slots vars);
        where_is = ⊎_elim (λ n. inl (n.0, (n.1.0, (n.1.1.0, (n.1.1.1.0, n.1.1.1.1 ∙ x.units))))) (λ i. inr (i.0, (i.1.0, (i.1.1.0, sym x.units ∙ i.1.1.1)))) y.where_is;
      }

  pub same_does : CodedDoes k (mapped f m) u c
  same_does = record {
    value = same_value;
    effect = same_effect;
    unless = same_unless;
    pointer = same_pointer;
    stored = λ address lasting to slot e. h.stored (x.address address) lasting to slot e;
    known = same_known;
    stands = same_stands;
  }
