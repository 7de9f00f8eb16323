-- Two ascending lists, walked side by side: whether one has what the other has.
use Rattle.std.proofs.Common.{◌≡◌, ◌↔◌, ◌<◌, ◌≤◌, ℤ, ◌<ℤ◌, Bool, true, false, IsTrue, List, [], ◌∷◌, Ordering, length, refl, sym, ap, inl, inr, ⊎_elim, ◌∙◌, arith}
use Rattle.std.specs.List.{Contains, slice_index_or}
use Rattle.std.specs.Ordering.{int_cmp}
use Rattle.std.specs.declared.cmp.Ordering.TheVariants.{Less, Equal, Greater}
use Rattle.std.proofs.lemmas.Cmp.{int_ranked}
use Rattle.std.proofs.lemmas.Int.{ints}
use Rattle.cc_lattice.specs.Domains.{Ascends}
use Rattle.cc_explicit.proofs.Lists.{In, Rises, Within, in_list, in_contains, rises, tails}

-- how the walk goes on: the first numbers are compared, and `both` and `right` are the answers behind both and behind the right one
abbrev pub walk_on : Ordering → Bool → Bool → Bool
walk_on Less both right = false
walk_on Equal both right = both
walk_on Greater both right = right

abbrev pub walk : List ℤ → List ℤ → Bool
walk [] ys = true
walk (x ∷ xs) [] = false
walk (x ∷ xs) (y ∷ ys) = walk_on (int_cmp x y) (walk xs ys) (walk (x ∷ xs) ys)

record Tells (told : Bool) (xs ys : List ℤ) : Type 0 where
  to : IsTrue told → Within xs ys
  back : Within xs ys → IsTrue told

not_both : {A : Type 0} → false ≡ true → A
not_both e = cc

not_less : (a b : ℤ) → a <ℤ b → b <ℤ a → ⊥
not_less a b h k = omega (arith, ints)

not_itself : (a b : ℤ) → a <ℤ b → a ≡ b → ⊥
not_itself a b h e = omega (arith, ints)

through : (a b c : ℤ) → a <ℤ b → b <ℤ c → a ≡ c → ⊥
through a b c h k e = omega (arith, ints)

told_on : (o : Ordering) (both right : Bool) (x y : ℤ) (xs ys : List ℤ) → o ≡ int_cmp x y → Rises (x ∷ xs) → Rises (y ∷ ys)
    → Tells both xs ys → Tells right (x ∷ xs) ys → Tells (walk_on o both right) (x ∷ xs) (y ∷ ys)
told_on Less both right x y xs ys o r s b t =
    let less : x <ℤ y = int_ranked x y Less o in
    record {
      to = λ e. not_both e;
      back = λ h. absurd (⊎_elim (λ (e : y ≡ x). not_itself x y less (sym e)) (λ (u : In x ys). not_less x y less (s.0 x u)) (h x (inl refl)));
    }
told_on Equal both right x y xs ys o r s b t =
    let same : x ≡ y = int_ranked x y Equal o in
    record {
      to = λ e v. ⊎_elim (λ (f : x ≡ v). inl (sym same ∙ f)) (λ (u : In v xs). inr (b.to e v u));
      back = λ h. b.back (tails x y xs ys r s h);
    }
told_on Greater both right x y xs ys o r s b t =
    let more : y <ℤ x = int_ranked x y Greater o in
    record {
      to = λ e v h. inr (t.to e v h);
      back = λ h. t.back (λ v k. ⊎_elim
          (λ (e : y ≡ v). absurd (⊎_elim (λ (f : x ≡ v). not_itself y x more (e ∙ sym f)) (λ (u : In v xs). through y x v more (r.0 v u) e) k))
          (λ (u : In v ys). u)
          (h v k));
    }

told : (xs ys : List ℤ) → Rises xs → Rises ys → Tells (walk xs ys) xs ys
told [] ys r s = record { to = λ e v h. absurd h; back = λ h. refl }
told (x ∷ xs) [] r s = record { to = λ e. not_both e; back = λ h. absurd (h x (inl refl)) }
told (x ∷ xs) (y ∷ ys) r s = told_on (int_cmp x y) (walk xs ys) (walk (x ∷ xs) ys) x y xs ys refl r s (told xs ys r.1 s.1) (told (x ∷ xs) ys r s.1)

-- the answer of the walk
pub walked : (b : Bool) (xs ys : List ℤ) → b ≡ walk xs ys → Ascends xs → Ascends ys → IsTrue b ↔ ((v : ℤ) → Contains xs v → Contains ys v)
walked b xs ys is h k =
    let t = told xs ys (rises xs h) (rises ys k) in (
      (λ e v c. in_contains ys v (t.to (sym is ∙ e) v (in_list xs v c))),
      (λ w. is ∙ t.back (λ v u. in_list ys v (w v (in_contains xs v u)))),
    )

-- where the walk ends

pub none_left : (xs ys : List ℤ) → length xs < 1 → walk xs ys ≡ true
none_left [] ys l = refl
none_left (x ∷ xs) ys l = absurd (omega arith)

pub none_beside : (xs ys : List ℤ) → 1 ≤ length xs → length ys < 1 → walk xs ys ≡ false
none_beside [] ys l m = absurd (omega arith)
none_beside (x ∷ xs) [] l m = refl
none_beside (x ∷ xs) (y ∷ ys) l m = absurd (omega arith)

pub less_first : (xs ys : List ℤ) (d e : ℤ) → 1 ≤ length xs → 1 ≤ length ys → int_cmp (slice_index_or xs 0 d) (slice_index_or ys 0 e) ≡ Less → walk xs ys ≡ false
less_first [] ys d e l m is = absurd (omega arith)
less_first (x ∷ xs) [] d e l m is = absurd (omega arith)
less_first (x ∷ xs) (y ∷ ys) d e l m is = ap (λ (o : Ordering). walk_on o (walk xs ys) (walk (x ∷ xs) ys)) is
