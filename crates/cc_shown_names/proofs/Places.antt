-- The items of objects, and those of functions, begin at offsets that never fall, where all items of the unit do.
use Rattle.std.proofs.Common.{arith, ◌≡◌, ◌<◌, ◌≤◌, ℕ, zero, suc, List, [], ◌∷◌, ◌++◌, map, length, Some, refl, ap, sym, ◌∙◌, subst, append_assoc}
use Rattle.std.proofs.lemmas.List.{length-map}
use Rattle.cc_item_offsets.specs.Offsets.{declared_at, all_declared_at, NeverFall}
use Rattle.cc_program.specs.declared.func.Func.{Func}
use Rattle.cc_program.specs.declared.object.Object.{Object}
use Rattle.cc_program.specs.declared.program.Program.{Program}
use Rattle.cc_tree.specs.declared.at.At.{At}
use Rattle.cc_tree.specs.declared.unit.Decl.{Decl}
use Rattle.cc_tree.specs.declared.unit.Item.{Item}
use Rattle.cc_tree.specs.declared.unit.Item.TheVariants as item
use Rattle.cc_unit_trees.specs.Externals.{AnObject, AFunction}
use Rattle.cc_unit_trees.specs.Items.{ShowsObject, AnObject as AnObjectItem}
use Rattle.cc_unit_trees.specs.Programs.{ShowsExternals, NoExternal, MoreExternals}
use Rattle.cc_unit_trees.specs.Units.{ShowsDecl, ShowsOne, ShowsFunction, ShowsDefinition}
use Rattle.cc_expression_trees.specs.Types.{Core, Plain}
use Rattle.cc_program.specs.declared.types.CType.{CType}
use Rattle.cc_program.specs.CcWords.declared.word.Word.{Word}
use Rattle.cc_program.specs.CcWords.declared.word.Word.TheVariants as w
use Rattle.cc_shown_names.specs.Parts.{HasParts}
use Rattle.cc_shown_names.specs.States.{place_in, places, place_at}

-- ---- offsets that never fall, in parts

lower : (n m : ℕ) (os : List ℕ) → n ≤ m → NeverFall m os → NeverFall n os
lower n m [] l h = tt
lower n m (o ∷ os) l h = let k = h.0 in (omega (arith, l, k), h.1)

front : (n : ℕ) (os ps : List ℕ) → NeverFall n (os ++ ps) → NeverFall n os
front n [] ps h = tt
front n (o ∷ os) ps h = (h.0, front o os ps h.1)

back : (n : ℕ) (os ps : List ℕ) → NeverFall n (os ++ ps) → NeverFall n ps
back n [] ps h = h
back n (o ∷ os) ps h = lower n o ps h.0 (back o os ps h.1)

above : (n : ℕ) (os : List ℕ) (j : ℕ) → NeverFall n os → j < length os → n ≤ place_at os j
above n [] j h l = absurd (omega (arith, l))
above n (o ∷ os) zero h l = h.0
above n (o ∷ os) (suc j) h l = let k = h.0 in let m = above o os j h.1 (omega (arith, l)) in omega (arith, k, m)

in-order : (n : ℕ) (os : List ℕ) (i j : ℕ) → NeverFall n os → i ≤ j → j < length os → place_at os i ≤ place_at os j
in-order n [] i j h l k = absurd (omega (arith, k))
in-order n (o ∷ os) zero zero h l k = omega arith
in-order n (o ∷ os) zero (suc j) h l k = above o os j h.1 (omega (arith, k))
in-order n (o ∷ os) (suc i) zero h l k = absurd (omega (arith, l))
in-order n (o ∷ os) (suc i) (suc j) h l k = in-order o os i j h.1 (omega (arith, l)) (omega (arith, k))

-- ---- of items

all-parted : (xs ys : List (At Item)) → all_declared_at (xs ++ ys) ≡ all_declared_at xs ++ all_declared_at ys
all-parted [] ys = refl
all-parted (x ∷ xs) ys = ap (λ os. declared_at x.node ++ os) (all-parted xs ys) ∙ sym (append_assoc (declared_at x.node) (all_declared_at xs) (all_declared_at ys))

module _ (p : Program) where
  decl-place : (lead : List Word) (core : Core) (t : CType) (c : Decl) → ShowsDecl p.structures lead core t c → declared_at (item.Decl c) ≡ place_in (item.Decl c) ∷ []
  decl-place lead core t _ (ShowsOne b qs ss d at words base h) = refl

  object-place : (o : Object) (c : Item) → ShowsObject p o c → declared_at c ≡ place_in c ∷ []
  object-place o _ (AnObjectItem c h) = decl-place (w.Static ∷ []) (Plain (Some o.name)) o.ctype c h

  function-place : (f : Func) (c : Item) → ShowsFunction p f c → declared_at c ≡ place_in c ∷ []
  function-place f _ (ShowsDefinition b ss d xs ys h k l m) = refl

  object-places : (os : List Object) (xs : List (At Item)) → ShowsExternals p (map AnObject os) xs → all_declared_at xs ≡ places xs
  object-places [] _ NoExternal = refl
  object-places (o ∷ os) _ (MoreExternals _ _ c cs h r) = ap (λ ns. ns ++ all_declared_at cs) (object-place o c.node h) ∙ ap (λ ns. place_in c.node ∷ ns) (object-places os cs r)

  function-places : (fs : List Func) (xs : List (At Item)) → ShowsExternals p (map AFunction fs) xs → all_declared_at xs ≡ places xs
  function-places [] _ NoExternal = refl
  function-places (f ∷ fs) _ (MoreExternals _ _ c cs h r) = ap (λ ns. ns ++ all_declared_at cs) (function-place f c.node h) ∙ ap (λ ns. place_in c.node ∷ ns) (function-places fs cs r)

  placed-in : (xs : List (At Item)) (i j : ℕ) → NeverFall 0 (places xs) → i ≤ j → j < length xs → place_at (places xs) i ≤ place_at (places xs) j
  placed-in xs i j h l k = let n = length-map xs (λ (x : At Item). place_in x.node) in in-order 0 (places xs) i j h l (omega (arith, k, n))

  pub places-ascend : (xs : List (At Item)) → NeverFall 0 (all_declared_at xs) → (parts : HasParts p xs) →
      ((i j : ℕ) → i ≤ j → j < length parts.objects → place_at (places parts.objects) i ≤ place_at (places parts.objects) j)
      × ((i j : ℕ) → i ≤ j → j < length parts.functions → place_at (places parts.functions) i ≤ place_at (places parts.functions) j)
  places-ascend xs h parts =
      let rest = parts.objects ++ (parts.values ++ parts.functions) in
      let behind : NeverFall 0 (all_declared_at rest) =
      back 0 (all_declared_at parts.front) (all_declared_at rest) (subst (NeverFall 0) (ap all_declared_at parts.whole ∙ all-parted parts.front rest) h) in
      let split : NeverFall 0 (all_declared_at parts.objects ++ all_declared_at (parts.values ++ parts.functions)) = subst (NeverFall 0) (all-parted parts.objects (parts.values ++ parts.functions)) behind in
      let last : NeverFall 0 (all_declared_at parts.functions) =
      back 0 (all_declared_at parts.values) (all_declared_at parts.functions) (subst (NeverFall 0) (all-parted parts.values parts.functions) (back 0 (all_declared_at parts.objects) (all_declared_at (parts.values ++ parts.functions)) split)) in
      let objects = subst (NeverFall 0) (object-places p.objects parts.objects parts.show_objects) (front 0 (all_declared_at parts.objects) (all_declared_at (parts.values ++ parts.functions)) split) in
      let functions = subst (NeverFall 0) (function-places p.funcs parts.functions parts.show_functions) last in
      (λ i j l k. placed-in parts.objects i j objects l k, λ i j l k. placed-in parts.functions i j functions l k)
