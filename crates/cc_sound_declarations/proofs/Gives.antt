-- What is left, with what holds of the expressions that are given, over all that the function declares.
use Rattle.std.proofs.Common.{◌≡◌, ℕ, Bool, true, false, ◌&&◌, List, [], ◌∷◌, ◌++◌, refl, ap, sym, ◌∙◌, subst, append_assoc}
use Rattle.std.specs.Prelude.{is_some}
use Rattle.std.specs.List.{list_all}
use Rattle.cc_program.specs.declared.expr.Expr.{Expr}
use Rattle.cc_typed_bodies.specs.CcScopes.State.{State, Name}
use Rattle.cc_sound_declarations.specs.Assigns.{AssignsTyped, HasObjects}
use Rattle.cc_sound_declarations.proofs.Given.{Finds, Leaves, behind_goes}
use Rattle.cc_sound_declarations.proofs.Declaring.{declares_through, given_from, known_before, known_behind, of_extends}
use Rattle.cc_sound_declarations.specs.Declaring.{DeclaresGiven, lowered}
use Rattle.cc_sound_terms.proofs.Behind.{known_first}
use Rattle.cc_sound_terms.specs.Behind.{Extends}
use Rattle.cc_sound_terms.specs.Typing.{Knows}
use Rattle.cc_typed_bodies.specs.CcSyntax.Expressions.{type_of}
use Rattle.cc_typed_bodies.specs.CcSyntax.Types.{Named}
use Rattle.cc_typed_bodies.specs.CcSyntax.Views.{View}

module _ (v : View) (defined : List Name) (k : ℕ) where
  -- where P is known of the parts
  pub record Gives (T : List Named → List Expr → Type 0) (P : Type 0) (D : List Named) (s : State) (r : List Expr × State) : Type 0 where
    pub objects : List Named
    pub goes : DeclaresGiven v defined P s D r.1 objects
    pub typed : (L more : List Named) → L ≡ objects ++ more → P → Knows v D s r.1 → T L r.0

  abbrev pub Typed : List Named → List Expr → Type 0
  Typed L es = AssignsTyped v k L es

  pub nothing_typed : (P : Type 0) (D : List Named) (s : State) (r : List Expr × State) → r.0 ≡ [] → Leaves v defined P D s r.1 → Gives Typed P D s r
  nothing_typed P D s r e l = record { objects = l.0; goes = l.1; typed = λ L more g p w. subst (Typed L) (sym e) refl }

  pub gives_less : (T : List Named → List Expr → Type 0) (P Q : Type 0) (D : List Named) (s : State) (r : List Expr × State) → (P → Q) → Gives T Q D s r → Gives T P D s r
  gives_less T P Q D s r f o = record { objects = o.objects; goes = given_from v defined P Q s r.1 D o.objects f o.goes; typed = λ L more g p w. o.typed L more g (f p) w }

  -- behind what gives nothing
  pub after_goes : (T : List Named → List Expr → Type 0) (P : Type 0) (D E : List Named) (s t : State) (r : List Expr × State) → DeclaresGiven v defined P s D t E → Gives T P E t r → Gives T P D s r
  after_goes T P D E s t r a o = record {
    objects = o.objects;
    goes = declares_through v defined P s t r.1 D E o.objects a o.goes;
    typed = λ L more g p w. o.typed L more g p (known_behind v defined P s t r.1 D E o.objects a o.goes (p, w)).1;
  }

  pub after_types : (T : List Named → List Expr → Type 0) (P A : Type 0) (U : A → Type 0) (D : List Named) (s : State) (x : A × State) (r : List Expr × State) → Finds v defined A (λ y. P → U y) s x →
      Gives T (P × U x.0) D x.1 r → Gives T P D s r
  after_types T P A U D s x r a o = record {
    objects = o.objects;
    goes = behind_goes v defined P A U D o.objects s x r.1 a o.goes;
    typed = λ L more g p w.
        let q : P × U x.0 = (p, a.holds (known_first v s x.1 r.1 o.goes.structures w.types) p) in
        o.typed L more g q (known_behind v defined (P × U x.0) s x.1 r.1 D D o.objects (of_extends v defined (P × U x.0) s x.1 D a.grows) o.goes (q, w)).1;
  }

  -- behind others in a list
  pub behind_others : (P : Type 0) (before es : List Expr) (D : List Named) (s t : State) (r : List Expr × State) (a : Gives Typed P D s (es, t)) → Gives (λ L fs. Typed L (before ++ es) → Typed L fs) P a.objects t r →
      Gives (λ L fs. Typed L before → Typed L fs) P D s r
  behind_others P before es D s t r a b =
      let m = b.goes.front in
      record {
        objects = b.objects;
        goes = declares_through v defined P s t r.1 D a.objects b.objects a.goes b.goes;
        typed = λ L more g p w prior.
            b.typed L more g p (known_behind v defined P s t r.1 D a.objects b.objects a.goes b.goes (p, w)).1
            (both_typed L before es prior
            (a.typed L (m.0 ++ more) (g ∙ ap (λ (xs : List Named). xs ++ more) m.1 ∙ append_assoc a.objects m.0 more) p (known_before v defined P s t r.1 D a.objects b.objects a.goes b.goes (p, w)).1));
      }
    where
      all_both : (test : Expr → Bool) (xs ys : List Expr) → list_all test xs ≡ true → list_all test ys ≡ true → list_all test (xs ++ ys) ≡ true
      all_both test [] ys h k = k
      all_both test (x ∷ xs) ys h k = of_first (test x) h (λ g. all_both test xs ys g k)
        where
          of_first : (b : Bool) → b && list_all test xs ≡ true → (list_all test xs ≡ true → list_all test (xs ++ ys) ≡ true) → b && list_all test (xs ++ ys) ≡ true
          of_first true h f = f h
          of_first false h f = absurd (cc)

      both_typed : (L : List Named) (xs ys : List Expr) → Typed L xs → Typed L ys → Typed L (xs ++ ys)
      both_typed L xs ys h g = all_both (λ e. is_some (type_of v (lowered k L) e)) xs ys h g
