-- A structure stands in RAM no more often than RAM has bytes, where it has any itself.
use Rattle.std.proofs.Common.{arith, ◌≡◌, ◌≤◌, ◌+◌, ◌*◌, ℕ, zero, suc, Bool, true, false, nat_eq, List, [], ◌∷◌, ◌++◌, length, length-append, map, fold, sum_by, Some, unwrap_or, slice_get, refl, sym, subst, if◌then◌else◌}
use Rattle.std.proofs.Math.Nat.{mul-le-mul_left}
use Rattle.std.proofs.lemmas.List.Sums.{sum_by-cons}
use Rattle.cc_layout.specs.Seats.{end_with, layout_in, ram}
use Rattle.cc_program.specs.CcNum.declared.target.Target.{Target}
use Rattle.cc_program.specs.Qualifiers.{is_const}
use Rattle.cc_program.specs.declared.object.Object.{Object}
use Rattle.cc_program.specs.declared.program.Program.{Program}
use Rattle.cc_program.specs.declared.types.CType.{CType}
use Rattle.cc_program.specs.declared.types.Shape.{Shape, roll-Shape}
use Rattle.cc_program.specs.declared.types.Shape.TheOpen as shape
use Rattle.cc_program.specs.declared.types.Sig.{Sig}
use Rattle.cc_program.specs.declared.types.Structure.{Structure}
use Rattle.cc_program.proofs.Each.{Each}
use Rattle.cc_program.proofs.TypeInduction.{with_shape, TypeParts, by_type}
use Rattle.cc_slots_structures.specs.Copies.{copies_at, copies_step, copies_in, copies_in_members, copies_in_ram, copies_of, next_copies, copies}
use Rattle.cc_slots_structures.proofs.CopyLemmas.{parts, copies-roll}
use Rattle.cc_syntax.specs.declared.sizes.Layout.{Layout}
use Rattle.cc_syntax.specs.Layout.{end_behind, end_of, greatest_align, layouts, next_layout, nothing, shape_layout, structure, type_layout}
use Rattle.cc_syntax.specs.Types.{Named}
use Rattle.cc_syntax.proofs.Alignment.{aligned_low}
use Rattle.cc_syntax.proofs.TypeLayouts.{layout-roll, parts_layout}
use Rattle.cc_syntax.proofs.Whole.{IsWhole, structure-whole, type-whole}

times : (c n s : ℕ) → c ≤ s → c * n ≤ n * s
times c n s h = let k : n * c ≤ n * s = mul-le-mul_left n h in omega (arith, k)

abbrev size_at : List Layout → ℕ → ℕ
size_at ls i = (unwrap_or (slice_get ls i) nothing).size

module _ (target : Target) (cs : List ℕ) (ls : List Layout) (below : (i : ℕ) → copies_at cs i ≤ size_at ls i) (wholes : Each IsWhole ls) where
  -- ---- in a type no more often than that has bytes

  IsLess : CType → Type 0
  IsLess t = copies_in cs t ≤ (type_layout target ls t).size

  step-less : (x : shape.Shape-F Shape CType Sig) → TypeParts IsLess (λ s. Unit {0}) x → copies_step cs (parts cs x) ≤ (shape_layout target ls (parts_layout target ls x)).size
  unfolding IsLess
  step-less shape.Void h = omega arith
  step-less (shape.Int i) h = omega arith
  step-less (shape.Pointer to) h = omega arith
  step-less (shape.Array of n) h = times (copies_in cs of) n (type_layout target ls of).size h
  step-less (shape.Struct s) h = below s
  step-less (shape.Func sig) h = omega arith

  made : (constant volatile : Bool) (x : shape.Shape-F Shape CType Sig) → TypeParts IsLess (λ s. Unit {0}) x → IsLess (with_shape constant volatile (roll-Shape x))
  unfolding IsLess
  made constant volatile x h =
      subst (λ (n : ℕ). n ≤ (type_layout target ls (with_shape constant volatile (roll-Shape x))).size) (sym (copies-roll cs constant volatile x))
      (subst (λ (l : Layout). copies_step cs (parts cs x) ≤ l.size) (sym (layout-roll target ls constant volatile x)) (step-less x h))

  pub type_less : (t : CType) → copies_in cs t ≤ (type_layout target ls t).size
  unfolding IsLess
  type_less t = by_type IsLess (λ s. Unit {0}) made (λ x h. tt) t

  -- ---- in a structure

  abbrev own : Named → Layout
  own m = type_layout target ls m.1

  each_whole : (members : List Named) → Each IsWhole (map own members)
  each_whole [] = tt
  each_whole (m ∷ members) = (type-whole target ls wholes m.1, each_whole members)

  members_less : (members : List Named) (end : ℕ) → end + copies_in_members cs members ≤ fold end_behind end (map own members)
  members_less [] end = omega arith
  members_less (m ∷ members) end =
      let head = type_less m.1 in
      let low = aligned_low (own m).align end (type-whole target ls wholes m.1).align in
      let rest = members_less members (end_behind end (own m)) in
      let all = sum_by-cons (λ (m : Named). copies_in cs m.1) m members in
      omega (arith, head, low, rest, all)

  pub structure_less : (s : Structure) → copies_in_members cs s.members ≤ (next_layout target ls s).size
  unfolding structure
  structure_less s =
      let ends = members_less s.members 0 in
      let low = aligned_low (greatest_align (map own s.members)) (end_of (map own s.members)) (structure-whole (map own s.members) (each_whole s.members)).align in
      omega (arith, ends, low)

  pub next_whole : (s : Structure) → IsWhole (next_layout target ls s)
  next_whole s = structure-whole (map own s.members) (each_whole s.members)

-- ---- structure by structure

pushed : (cs : List ℕ) (ls : List Layout) (c : ℕ) (l : Layout) → length cs ≡ length ls → ((i : ℕ) → copies_at cs i ≤ size_at ls i) → c ≤ l.size → (i : ℕ) → copies_at (cs ++ c ∷ []) i ≤ size_at (ls ++ l ∷ []) i
pushed [] [] c l same below le zero = le
pushed [] [] c l same below le (suc i) = omega arith
pushed [] (y ∷ ls) c l same below le i = absurd (omega (arith, same))
pushed (x ∷ cs) [] c l same below le i = absurd (omega (arith, same))
pushed (x ∷ cs) (y ∷ ls) c l same below le zero = below 0
pushed (x ∷ cs) (y ∷ ls) c l same below le (suc i) = pushed cs ls c l (omega (arith, same)) (λ j. below (suc j)) le i

each_pushed : (ls : List Layout) (l : Layout) → Each IsWhole ls → IsWhole l → Each IsWhole (ls ++ l ∷ [])
each_pushed [] l h w = (w, tt)
each_pushed (y ∷ ls) l h w = (h.0, each_pushed ls l h.1 w)

module _ (target : Target) (s : ℕ) where
  -- it has a byte wherever its structures stand
  abbrev pub IsLarge : Structure → Type 0
  IsLarge x = (ls : List Layout) → Each IsWhole ls → 1 ≤ (next_layout target ls x).size

  pub record AreLess (cs : List ℕ) (ls : List Layout) : Type 0 where
    pub same : length cs ≡ length ls
    pub wholes : Each IsWhole ls
    pub below : (i : ℕ) → copies_at cs i ≤ size_at ls i

  equal : (m n : ℕ) → nat_eq m n ≡ true → m ≡ n
  equal m n h = grind (arith, h)

  next_less : (cs : List ℕ) (ls : List Layout) (x : Structure) → AreLess cs ls → (length cs ≡ s → IsLarge x) → (b : Bool) → nat_eq (length cs) s ≡ b → (if b then 1 else copies_in_members cs x.members) ≤ (next_layout target ls x).size
  next_less cs ls x h large true e = large (equal (length cs) s e) ls h.wholes
  next_less cs ls x h large false e = structure_less target cs ls h.below h.wholes x

  all_less : (xs : List Structure) (cs : List ℕ) (ls : List Layout) → AreLess cs ls → ((k : ℕ) (x : Structure) → slice_get xs k ≡ Some x → length cs + k ≡ s → IsLarge x) →
      AreLess (fold (λ (before : List ℕ) (structure : Structure). before ++ next_copies s before structure ∷ []) cs xs) (fold (λ before x. before ++ next_layout target before x ∷ []) ls xs)
  all_less [] cs ls h large = h
  all_less (x ∷ xs) cs ls h large =
      let le = next_less cs ls x h (λ e. large 0 x refl (omega (arith, e))) (nat_eq (length cs) s) refl in
      all_less xs (cs ++ next_copies s cs x ∷ []) (ls ++ next_layout target ls x ∷ []) (record {
        same = (let a = length-append cs (next_copies s cs x ∷ []) in let b = length-append ls (next_layout target ls x ∷ []) in let e = h.same in omega (arith, a, b, e));
        wholes = each_pushed ls (next_layout target ls x) h.wholes (next_whole target cs ls h.below h.wholes x);
        below = pushed cs ls (next_copies s cs x) (next_layout target ls x) h.same h.below le;
      }) (λ k y there e. large (suc k) y there (let a = length-append cs (next_copies s cs x ∷ []) in omega (arith, a, e)))

  pub copies_less : (xs : List Structure) → ((x : Structure) → slice_get xs s ≡ Some x → IsLarge x) → AreLess (copies s xs) (layouts target xs)
  unfolding copies layouts
  copies_less xs large = all_less xs [] [] (record { same = refl; wholes = tt; below = λ i. omega arith }) (λ k x there e. large x (subst (λ (n : ℕ). slice_get xs n ≡ Some x) (omega (arith, e)) there))

-- ---- in RAM

module _ (p : Program) (s : ℕ) (h : AreLess p.target s (copies s p.structures) (layouts p.target p.structures)) where
  abbrev cs : List ℕ
  cs = copies s p.structures

  one_less : (o : Object) (end : ℕ) (b : Bool) → is_const o.ctype ≡ b → end + (if b then 0 else copies_in cs o.ctype) ≤ (if b then end else end_behind end (layout_in p o))
  one_less o end true e = omega arith
  one_less o end false e =
      let head = type_less p.target cs (layouts p.target p.structures) h.below h.wholes o.ctype in
      let low = aligned_low (layout_in p o).align end (type-whole p.target (layouts p.target p.structures) h.wholes o.ctype).align in
      omega (arith, head, low)

  objects_less : (objects : List Object) (end : ℕ) → end + sum_by (copies_of cs) objects ≤ fold (end_with p) end objects
  objects_less [] end = omega arith
  objects_less (o ∷ objects) end =
      let head = one_less o end (is_const o.ctype) refl in
      let rest = objects_less objects (end_with p end o) in
      let all = sum_by-cons (copies_of cs) o objects in
      omega (arith, head, rest, all)

  pub ram_copies : copies_in_ram p s ≤ ram p
  unfolding ram
  ram_copies = let w = objects_less p.objects 0 in omega (arith, w)
