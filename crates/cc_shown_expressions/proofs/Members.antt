-- A member is found by its name where the program has it by its position.
use Rattle.std.proofs.Common.{◌≡◌, ◌<◌, ℕ, zero, suc, Bool, true, false, not, ◌||◌, cond, List, [], ◌∷◌, map, length, Option, Some, None, Ok, refl, ap, sym, ◌∙◌, slice_get, arith}
use Rattle.std.specs.Prelude.{position, option_map, nat_lt}
use Rattle.std.specs.List.{list_any, list_all, position_or_len}
use Rattle.std.specs.Str.{bytes_eq}
use Rattle.std.proofs.lemmas.Bool.Decides.{nat_tests}
use Rattle.std.proofs.lemmas.List.{length-map}
use Rattle.std.proofs.lemmas.Option.{slice_get-map, slice_get_within}
use Rattle.std.proofs.lemmas.Slice.Eq.{bytes_eq-Decides}
use Rattle.cc_bodies.specs.Names.{local_name, member_name, member_shape as name_in_shape, member_at as name_at}
use Rattle.cc_terms.specs.CcDesignators.Designators.{IsPlace}
use Rattle.cc_terms.specs.CcDesignators.Postfix.{position_in, position_at, position_of, member_at, member_by, dot}
use Rattle.cc_terms.specs.CcOperands.declared.rule.Rule.TheVariants as rule
use Rattle.cc_program.specs.Qualifiers.{is_const, is_volatile}
use Rattle.cc_program.specs.declared.expr.Place.{Place, Member}
use Rattle.cc_program.specs.declared.func.Func.{Func}
use Rattle.cc_program.specs.declared.program.Program.{Program}
use Rattle.cc_program.specs.declared.types.CType.{CType}
use Rattle.cc_program.specs.declared.types.Shape.{Shape, out-Shape}
use Rattle.cc_program.specs.declared.types.Shape.TheOpen as shape
use Rattle.cc_program.specs.declared.types.Sig.{Sig}
use Rattle.cc_program.specs.declared.types.Structure.{Structure}
use Rattle.cc_terms.specs.CcScopes.State.{State, structures_of}
use Rattle.cc_terms.specs.CcSyntax.Names.{local_names}
use Rattle.cc_terms.specs.CcSyntax.Types.{Named}
use Rattle.cc_terms.specs.CcSyntax.Values.{PlaceType, DevicePlace, ObjectPlace, FunctionPlace, member_of}
use Rattle.cc_terms.specs.CcSyntax.Values.{member_at as place_at_member, member_in as place_in_structure, member_shape as place_in_shape}
use Rattle.cc_terms.proofs.CcSyntax.Prefixes.{both_true}
use Rattle.cc_program.specs.CcWords.Names.{is_name, are_distinct}
use Rattle.cc_shown_expressions.specs.KnownNames.{TypesStand}
use Rattle.cc_shown_expressions.specs.Known.{KnowsStructures}
use Rattle.cc_shown_expressions.specs.Numbers.{place_type_numbered, named_numbered, type_numbered}
use Rattle.cc_shown_expressions.proofs.Kept.{const-numbered, volatile-numbered}
use Rattle.cc_shown_expressions.proofs.Numbering.{level, shape-level}

-- ---- positions

not-any : {A : Type 0} → (test : A → Bool) (xs : List A) (k : ℕ) (z : A) → list_any test xs ≡ false → slice_get xs k ≡ Some z → test z ≡ false
not-any test [] k z h e = absurd (cc)
not-any test (x ∷ xs) zero z h e = let same : x ≡ z = cc in ap test (sym same) ∙ first (test x) (list_any test xs) h where
  first : (a b : Bool) → (a || b) ≡ false → a ≡ false
  first false b h = refl
  first true b h = absurd (cc)
not-any test (x ∷ xs) (suc k) z h e = not-any test xs k z (rest (test x) (list_any test xs) h) e where
  rest : (a b : Bool) → (a || b) ≡ false → b ≡ false
  rest false b h = h
  rest true b h = absurd (cc)

not-true : (b : Bool) → not b ≡ true → b ≡ false
not-true false h = refl
not-true true h = absurd (cc)

other-name : (x y : List ℕ) (b : Bool) → bytes_eq x y ≡ b → bytes_eq y x ≡ false → b ≡ false
other-name x y false e h = refl
other-name x y true e h = let same = (bytes_eq-Decides x y).0 e in let g : true ≡ false = sym ((bytes_eq-Decides y x).1 (sym same)) ∙ h in absurd (cc)

module _ (number : ℕ → ℕ) where
  abbrev has : List ℕ → Named → Bool
  has x l = bytes_eq x l.0

  place-len : (ls : List Named) (m : ℕ) (l : Named) → slice_get ls m ≡ Some l → are_distinct (local_names ls) ≡ true → position_or_len (has l.0) (map (named_numbered number) ls) ≡ m
  place-len [] m l e h = absurd (cc)
  place-len (y ∷ ys) zero l e h =
      let same : y ≡ l = cc in
      let t : bytes_eq l.0 y.0 ≡ true = (bytes_eq-Decides l.0 y.0).1 (ap (λ (z : Named). z.0) (sym same)) in
      rw t refl
  place-len (y ∷ ys) (suc k) l e h =
      let b = both_true (not (list_any (bytes_eq y.0) (local_names ys))) (are_distinct (local_names ys)) h in
      let there : slice_get (local_names ys) k ≡ Some l.0 = slice_get-map (λ (z : Named). z.0) ys k ∙ ap (option_map (λ (z : Named). z.0)) e in
      let f = not-any (bytes_eq y.0) (local_names ys) k l.0 (not-true (list_any (bytes_eq y.0) (local_names ys)) b.0) there in
      let g : bytes_eq l.0 y.0 ≡ false = other-name l.0 y.0 (bytes_eq l.0 y.0) refl f in
      let next = place-len ys k l e b.1 in
      rw (g, next) (omega arith)

  below : (n m : ℕ) → m < n → nat_lt m n ≡ true
  below n m h = grind (arith, nat_tests)

  pub place-is : (ls : List Named) (m : ℕ) (l : Named) → slice_get ls m ≡ Some l → are_distinct (local_names ls) ≡ true → position (has l.0) (map (named_numbered number) ls) ≡ Some m
  place-is ls m l e h =
      ap (λ (k : ℕ). cond (nat_lt k (length (map (named_numbered number) ls))) (Some k) None) (place-len ls m l e h)
      ∙ ap (λ (k : ℕ). cond (nat_lt m k) (Some m) None) (length-map ls (named_numbered number))
      ∙ ap (λ (b : Bool). cond b (Some m) None) (below (length ls) m (slice_get_within ls m l e))

module _ (p : Program) (f : Func) (number : ℕ → ℕ) (s : State) (known : KnowsStructures p number s) (stand : TypesStand p f) where
  abbrev place : PlaceType → PlaceType
  place a = place_type_numbered number a

  -- a member, and what it is called
  pub record MemberIs (m : ℕ) (a b : PlaceType) (x : List ℕ) : Type 0 where
    pub position : position_of (structures_of s) x (place a) ≡ Some m
    pub type : member_of (structures_of s) m (place a) ≡ Some (place b)

  placed : (c v : Bool) (l : Named) → ObjectPlace (c || is_const (type_numbered number l.1)) (v || is_volatile (type_numbered number l.1)) (type_numbered number l.1) ≡ place (ObjectPlace (c || is_const l.1) (v || is_volatile l.1) l.1)
  placed c v l = ap (λ (b : Bool). ObjectPlace (c || b) (v || is_volatile (type_numbered number l.1)) (type_numbered number l.1)) (const-numbered number l.1)
      ∙ ap (λ (b : Bool). ObjectPlace (c || is_const l.1) (v || b) (type_numbered number l.1)) (volatile-numbered number l.1)

  member-there : (c v : Bool) (i m : ℕ) (t : Structure) (o : Option Named) (b : PlaceType) (x : List ℕ) → slice_get p.structures i ≡ Some t → slice_get t.members m ≡ o → place_at_member c v o ≡ Some b → local_name o ≡ Some x →
      (position_in x (slice_get (structures_of s) (number i)) ≡ Some m) × (place_in_structure c v m (slice_get (structures_of s) (number i)) ≡ Some (place b))
  member-there c v i m t None b x e g h k = absurd (cc)
  member-there c v i m t (Some l) b x e g h k =
      let named : l.0 ≡ x = cc in
      let same : ObjectPlace (c || is_const l.1) (v || is_volatile l.1) l.1 ≡ b = cc in
      let names = both_true (list_all is_name (local_names t.members)) (are_distinct (local_names t.members)) (stand.names i t e) in (
        ap (position_in x) (known.structures i t e)
            ∙ ap (λ (y : List ℕ). position (λ (z : Named). bytes_eq y z.0) (map (named_numbered number) t.members)) (sym named)
            ∙ place-is number t.members m l g names.1,
        ap (place_in_structure c v m) (known.structures i t e)
            ∙ ap (place_at_member c v) (slice_get-map (named_numbered number) t.members m ∙ ap (option_map (named_numbered number)) g)
            ∙ ap (λ (z : PlaceType). Some z) (placed c v l ∙ ap place same),
      )

  member-in : (c v : Bool) (i m : ℕ) (o : Option Structure) (b : PlaceType) (x : List ℕ) → slice_get p.structures i ≡ o → place_in_structure c v m o ≡ Some b → name_at m o ≡ Some x →
      (position_in x (slice_get (structures_of s) (number i)) ≡ Some m) × (place_in_structure c v m (slice_get (structures_of s) (number i)) ≡ Some (place b))
  member-in c v i m None b x e h k = absurd (cc)
  member-in c v i m (Some t) b x e h k = member-there c v i m t (slice_get t.members m) b x e refl h k

  member-level : (c v : Bool) (t : CType) (m : ℕ) (y : shape.Shape-F Shape CType Sig) (b : PlaceType) (x : List ℕ) → out-Shape t.shape ≡ y → place_in_shape p.structures c v m y ≡ Some b → name_in_shape p.structures m y ≡ Some x → MemberIs m (ObjectPlace c v t) b x
  member-level c v t m (shape.Struct i) b x e h k =
      let q = member-in c v i m (slice_get p.structures i) b x refl h k in
      let o = shape-level number t ∙ ap (level number) e in
      record { position = ap (position_at (structures_of s) x) o ∙ q.0; type = ap (place_in_shape (structures_of s) c v m) o ∙ q.1 }
  member-level c v t m shape.Void b x e h k = absurd (cc)
  member-level c v t m (shape.Int i) b x e h k = absurd (cc)
  member-level c v t m (shape.Pointer to) b x e h k = absurd (cc)
  member-level c v t m (shape.Array of n) b x e h k = absurd (cc)
  member-level c v t m (shape.Func g) b x e h k = absurd (cc)

  pub member-is : (m : ℕ) (a b : PlaceType) (x : List ℕ) → member_of p.structures m a ≡ Some b → member_name p.structures m (Some a) ≡ Some x → MemberIs m a b x
  member-is m (DevicePlace c t) b x h k = absurd (cc)
  member-is m (ObjectPlace c v t) b x h k = member-level c v t m (out-Shape t.shape) b x refl h k
  member-is m (FunctionPlace g) b x h k = absurd (cc)

  -- `a.m`
  pub dot-is : (q : Place) (m : ℕ) (a b : PlaceType) (x : List ℕ) → member_of p.structures m a ≡ Some b → member_name p.structures m (Some a) ≡ Some x → dot (structures_of s) x (IsPlace q (place a)) ≡ Ok (IsPlace (Member q m) (place b))
  dot-is q m a b x h k =
      let r = member-is m a b x h k in
      ap (member_at (structures_of s) rule.Member q (place a)) r.position ∙ ap (member_by rule.Member q m) r.type
