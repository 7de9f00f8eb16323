-- What flows to a point from several statements, or from one by several ways, grows with what each lets flow.
use Rattle.std.proofs.Common.{◌≡◌, ℕ, Bool, true, false, List, [], ◌∷◌, map, cond, Contains, Option, Some, None, refl, sym, ◌∙◌, subst}
use Rattle.std.specs.Prelude.{◌==◌}
use Rattle.std.specs.List.{filter, list_all, list_any}
use Rattle.std.proofs.lemmas.Option.{same_Some}
use Rattle.cc_rules.specs.CcPlaces.Abstract.{IsBelowAbs}
use Rattle.cc_rules.specs.CcPlaces.declared.abs.Abs.{Abs}
use Rattle.cc_rules.specs.CcPlaces.laws.ListLaws.{all_at, all_from, any_at, any_from}
use Rattle.cc_rules_grow.proofs.Below.{AreSomeBelow, IsFullBelow, IsFlowBelow}
use Rattle.cc_rules_grow.proofs.Elements.{Each, each_at, in_map, map_contained, in_filter}
use Rattle.cc_rules.specs.CcRulesNeeds.Flowing.{Flowing, IsUpper, IsLeastOver, IsJoined}
use Rattle.cc_rules.specs.CcRulesNeeds.Needs.{AreValuesBelow}
use Rattle.cc_rules.specs.CcStateOperators.Domains.{Domain}
use Rattle.cc_state_points.proofs.CcStateValuesGrow.Images.{kind_below}

module _ {I : Type 0} (d : Domain I) (through : (x y z : Abs I) → IsBelowAbs d.below x y → IsBelowAbs d.below y z → IsBelowAbs d.below x z) (registers cells : ℕ) where
  abbrev FullBelow : Flowing I → Flowing I → Type 0
  FullBelow a b = IsFullBelow d registers cells a b

  -- each is below one of others
  abbrev pub AreBelow : List (Flowing I) → List (Flowing I) → Type 0
  AreBelow flows others = Each (λ (a : Flowing I). (b : Flowing I) × Contains others b × FullBelow a b) flows

  -- ---- the least sets above those of all

  module _ (part : Flowing I → Option (Abs I)) (parts : (a b : Flowing I) → FullBelow a b → AreSomeBelow d (part a) (part b)) where
    upper : (flows others : List (Flowing I)) → AreBelow flows others → (w : Abs I) → IsUpper d.below (map part others) w → IsUpper d.below (map part flows) w
    upper flows others h w u x c =
        let (a, in_flows, is) = map_contained part flows (Some x) c in
        let (b, in_others, l) = each_at (λ (a : Flowing I). (b : Flowing I) × Contains others b × FullBelow a b) flows a h in_flows in
        let (y, z, of_a, of_b, g) = parts a b l in
        let same : y ≡ x = same_Some y x (sym of_a ∙ is) in
        let v = u z (subst (λ (s : Option (Abs I)). Contains (map part others) s) of_b (in_map part others b in_others)) in
        let i = through x z w (subst (λ (s : Abs I). IsBelowAbs d.below s z) same g) v.1 in
        (kind_below d.below x w i, i)

    least_below : (first : Flowing I) (flows others : List (Flowing I)) → AreBelow (first ∷ flows) others → (x y : Option (Abs I)) → IsLeastOver d.below (map part (first ∷ flows)) x → IsLeastOver d.below (map part others) y → AreValuesBelow d.below x y
    least_below first flows others h None y l m = tt
    least_below first flows others h (Some x) None l m =
        let (b, in_others, g) = h.0 in
        let (v, w, of_a, of_b, i) = parts first b g in
        absurd (m w (subst (λ (s : Option (Abs I)). Contains (map part others) s) of_b (in_map part others b in_others)))
    least_below first flows others h (Some x) (Some y) l m = l.1 y (upper (first ∷ flows) others h y m.0)

  -- ---- flags and pairs

  any_below : (flag : Flowing I → Bool) → ((a b : Flowing I) → FullBelow a b → flag a ≡ true → flag b ≡ true) → (flows others : List (Flowing I)) → AreBelow flows others → list_any flag flows ≡ true → list_any flag others ≡ true
  any_below flag less flows others h e =
      let (a, in_flows, is) = any_at flag flows e in
      let (b, in_others, l) = each_at (λ (a : Flowing I). (b : Flowing I) × Contains others b × FullBelow a b) flows a h in_flows in
      any_from flag others b in_others (less a b l is)

  all_below : (flag : Flowing I → Bool) → ((a b : Flowing I) → FullBelow a b → flag b ≡ true → flag a ≡ true) → (flows others : List (Flowing I)) → AreBelow flows others → list_all flag others ≡ true → list_all flag flows ≡ true
  all_below flag less flows others h e = all_from flag flows each
    where
      each : (a : Flowing I) → Contains flows a → flag a ≡ true
      each a c = let (b, in_others, l) = each_at (λ (a : Flowing I). (b : Flowing I) × Contains others b × FullBelow a b) flows a h c in less a b l (all_at flag others b e in_others)

  pub joined_below : (first : Flowing I) (flows others : List (Flowing I)) (a b : Flowing I) → AreBelow (first ∷ flows) others → IsJoined d.below (first ∷ flows) a → IsJoined d.below others b → IsFlowBelow d registers cells a b
  joined_below first flows others a b h l m = record {
    off = λ e. m.off ∙ any_below (λ (x : Flowing I). x.off) (λ x y i. i.off) (first ∷ flows) others h (sym l.off ∙ e);
    on = λ e. m.on ∙ any_below (λ (x : Flowing I). x.on) (λ x y i. i.on) (first ∷ flows) others h (sym l.on ∙ e);
    locals = λ r i. least_below (λ (x : Flowing I). x.local r) (λ x y g. g.locals r i) first flows others h (a.local r) (b.local r) (l.locals r) (m.locals r);
    cells_below = λ j i. least_below (λ (x : Flowing I). x.cell j) (λ x y g. g.cells_below j i) first flows others h (a.cell j) (b.cell j) (l.cells j) (m.cells j);
    pairs = λ r j e. l.pairs r j ∙ all_below (λ (x : Flowing I). x.pair r j) (λ x y i. i.pairs r j) (first ∷ flows) others h (sym (m.pairs r j) ∙ e);
  }

  -- ---- those that go to one point

  abbrev pub AreAllBelow : List (ℕ × Flowing I) → List (ℕ × Flowing I) → Type 0
  AreAllBelow flows others = Each (λ (a : ℕ × Flowing I). (b : Flowing I) × Contains others (a.0, b) × FullBelow a.1 b) flows

  abbrev goes : ℕ → ℕ × Flowing I → Bool
  goes m a = a.0 == m

  pub going_below : (m : ℕ) (flows others : List (ℕ × Flowing I)) → AreAllBelow flows others → AreBelow (map (λ (a : ℕ × Flowing I). a.1) (filter (goes m) flows)) (map (λ (a : ℕ × Flowing I). a.1) (filter (goes m) others))
  going_below m [] others h = tt
  going_below m (a ∷ flows) others h = by (going_below m flows others h.1) (a.0 == m) refl
    where
      there : List (Flowing I)
      there = map (λ (a : ℕ × Flowing I). a.1) (filter (goes m) others)

      by : AreBelow (map (λ (a : ℕ × Flowing I). a.1) (filter (goes m) flows)) there → (b : Bool) → (a.0 == m) ≡ b → AreBelow (map (λ (a : ℕ × Flowing I). a.1) (cond b (a ∷ filter (goes m) flows) (filter (goes m) flows))) there
      by rest true e =
          let (b, c, l) = h.0 in
          ((b, in_map (λ (a : ℕ × Flowing I). a.1) (filter (goes m) others) (a.0, b) (in_filter (goes m) others (a.0, b) c e), l), rest)
      by rest false e = rest
