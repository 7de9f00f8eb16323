-- What accesses ask.
use Rattle.std.proofs.Common.{◌≡◌, ℕ, Bool, true, false, cond, List, [], ◌∷◌, ◌++◌, map, Option, Some, None, refl, ap, sym, subst, ◌∙◌}
use Rattle.cc_rules.specs.CcPlaces.declared.abs.Abs.{Abs}
use Rattle.cc_program.specs.declared.expr.Expr.{Expr}
use Rattle.cc_program.specs.declared.expr.Place.{Place}
use Rattle.cc_rules.specs.Constraints.{Touch}
use Rattle.cc_rules.specs.Rules.{ByRead, ByWrite, ByNone}
use Rattle.cc_rules_asked.specs.declared.asked.Asked.{Asked}
use Rattle.cc_rules_asked.specs.declared.asked.Asked.TheVariants as asked
use Rattle.cc_rules_asked.specs.Asked.{all_needs}
use Rattle.cc_rules_asked.specs.Asks.{AsksHere, ArePureHere, AreKeysHere, touched, mark_slot, level_slot, list_touched}
use Rattle.cc_rules_asked.proofs.Listed.{parts, parts_behind}
use Rattle.cc_rules.specs.CcRulesFlows.declared.after.Here.{Here}
use Rattle.cc_rules.specs.CcRulesFlows.Acts.{Act, Sets, Reads, Writes, Calls, Saves, Turns, Restores, Tests, Chooses, Returns, Passes}
use Rattle.cc_rules.specs.CcRulesNeeds.declared.needs.Part.TheVariants.{Mark, LevelSet}
use Rattle.cc_rules.specs.CcRulesNeeds.Needs.{Needs}
use Rattle.cc_rules.specs.CcStateFacts.Facts.{mark_of, levels_of}
use Rattle.cc_rules.specs.CcStateOperators.Domains.{Domain}
use Rattle.cc_rules.specs.CcStateValues.Contexts.{IsPurePlaceIn}

same : {X : Type 0} (x y : X) → Some x ≡ Some y → x ≡ y
same x y h = cc

same_flag : (v w : Bool) (b a : Place) → ◌≡◌ {A = Option (Bool × Place)} (Some (v, b)) (Some (w, a)) → v ≡ w
same_flag v w b a h = ap (λ (t : Bool × Place). t.0) (same {X = Bool × Place} (v, b) (w, a) h)

same_place : (v w : Bool) (b a : Place) → ◌≡◌ {A = Option (Bool × Place)} (Some (v, b)) (Some (w, a)) → b ≡ a
same_place v w b a h = ap (λ (t : Bool × Place). t.1) (same {X = Bool × Place} (v, b) (w, a) h)

module _ {I : Type 0} (d : Domain I) (here : Here I) where
  pub none_touched : (act : Act) → touched act ≡ None → AsksHere d here Touch act []
  none_touched (Sets r x) h = ByNone (λ r a k. absurd (cc)) (λ a e k. absurd (cc)) refl
  none_touched (Reads r b) h = absurd (cc)
  none_touched (Writes b x) h = absurd (cc)
  none_touched (Calls result g args) h = ByNone (λ r a k. absurd (cc)) (λ a e k. absurd (cc)) refl
  none_touched (Saves result) h = ByNone (λ r a k. absurd (cc)) (λ a e k. absurd (cc)) refl
  none_touched (Turns on) h = ByNone (λ r a k. absurd (cc)) (λ a e k. absurd (cc)) refl
  none_touched (Restores x) h = ByNone (λ r a k. absurd (cc)) (λ a e k. absurd (cc)) refl
  none_touched (Tests x these those) h = ByNone (λ r a k. absurd (cc)) (λ a e k. absurd (cc)) refl
  none_touched (Chooses x cases) h = ByNone (λ r a k. absurd (cc)) (λ a e k. absurd (cc)) refl
  none_touched (Returns x) h = ByNone (λ r a k. absurd (cc)) (λ a e k. absurd (cc)) refl
  none_touched Passes h = ByNone (λ r a k. absurd (cc)) (λ a e k. absurd (cc)) refl

  pub pure_touched : (act : Act) (writes : Bool) (a : Place) → touched act ≡ Some (writes, a) → ArePureHere d here act → IsPurePlaceIn d here.context a
  pure_touched (Sets r x) writes a h pure = absurd (cc)
  pure_touched (Reads r b) writes a h pure = subst (IsPurePlaceIn d here.context) (same_place false writes b a h) pure
  pure_touched (Writes b x) writes a h pure = subst (IsPurePlaceIn d here.context) (same_place true writes b a h) pure.0
  pure_touched (Calls result g args) writes a h pure = absurd (cc)
  pure_touched (Saves result) writes a h pure = absurd (cc)
  pure_touched (Turns on) writes a h pure = absurd (cc)
  pure_touched (Restores x) writes a h pure = absurd (cc)
  pure_touched (Tests x these those) writes a h pure = absurd (cc)
  pure_touched (Chooses x cases) writes a h pure = absurd (cc)
  pure_touched (Returns x) writes a h pure = absurd (cc)
  pure_touched Passes writes a h pure = absurd (cc)

  abbrev pub needs_touched : Bool → List ℕ → ℕ → Needs I
  needs_touched writes keys levels = map (λ k. (mark_slot writes k, Mark true)) keys ++ map (λ k. (level_slot writes k, LevelSet levels)) keys

  needs_of_touched : (writes : Bool) (keys : List ℕ) (levels : ℕ) → all_needs here.context.program.now (list_touched writes keys levels) ≡ needs_touched writes keys levels
  needs_of_touched writes keys levels =
      parts_behind here.context.program.now _ _ ∙ (ap (λ xs. xs ++ all_needs here.context.program.now (map (λ k. asked.Part (level_slot writes k) (LevelSet levels)) keys)) (parts here.context.program.now (mark_slot writes) (λ k. Mark true) keys)
      ∙ ap (λ ys. map (λ k. (mark_slot writes k, Mark true)) keys ++ ys) (parts here.context.program.now (level_slot writes) (λ k. LevelSet levels) keys))

  abbrev pub marked : Bool
  marked = mark_of here.facts.now.by_handler here.context.id

  abbrev pub from : ℕ
  from = levels_of here.facts.now.from here.context.id

  touches : (act : Act) (writes : Bool) (a : Place) (keys : List ℕ) (list : List (Asked I)) → touched act ≡ Some (writes, a) → AreKeysHere d here a keys →
      all_needs here.context.program.now list ≡ cond marked (needs_touched writes keys from) [] → AsksHere d here Touch act list
  touches (Sets r x) writes a keys list h ks l = absurd (cc)
  touches (Reads r b) writes a keys list h ks l =
      let e : a ≡ b = sym (same_place false writes b a h) in
      let w : writes ≡ false = sym (same_flag false writes b a h) in
      ByRead r b keys refl (subst (λ a. AreKeysHere d here a keys) e ks) (l ∙ ap (λ writes. cond marked (needs_touched writes keys from) []) w)
  touches (Writes b x) writes a keys list h ks l =
      let e : a ≡ b = sym (same_place true writes b a h) in
      let w : writes ≡ true = sym (same_flag true writes b a h) in
      ByWrite b x keys refl (subst (λ a. AreKeysHere d here a keys) e ks) (l ∙ ap (λ writes. cond marked (needs_touched writes keys from) []) w)
  touches (Calls result g args) writes a keys list h ks l = absurd (cc)
  touches (Saves result) writes a keys list h ks l = absurd (cc)
  touches (Turns on) writes a keys list h ks l = absurd (cc)
  touches (Restores x) writes a keys list h ks l = absurd (cc)
  touches (Tests x these those) writes a keys list h ks l = absurd (cc)
  touches (Chooses x cases) writes a keys list h ks l = absurd (cc)
  touches (Returns x) writes a keys list h ks l = absurd (cc)
  touches Passes writes a keys list h ks l = absurd (cc)

  needs_if : (b writes : Bool) (keys : List ℕ) (levels : ℕ) → all_needs here.context.program.now (cond b (list_touched writes keys levels) []) ≡ cond b (needs_touched writes keys levels) []
  needs_if true writes keys levels = needs_of_touched writes keys levels
  needs_if false writes keys levels = refl

  pub touches_asked : (act : Act) (writes : Bool) (a : Place) (keys : List ℕ) (b : Bool) (levels : ℕ) (list : List (Asked I)) → touched act ≡ Some (writes, a) → AreKeysHere d here a keys → b ≡ marked → levels ≡ from →
      list ≡ cond b (list_touched writes keys levels) [] → AsksHere d here Touch act list
  touches_asked act writes a keys b levels list h ks m f l =
      touches act writes a keys list h ks
      (ap (all_needs here.context.program.now) l ∙ (needs_if b writes keys levels ∙ (ap (λ b. cond b (needs_touched writes keys levels) []) m ∙ ap (λ n. cond marked (needs_touched writes keys n) []) f)))
