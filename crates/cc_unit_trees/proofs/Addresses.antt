-- The text of an address is read as a tree that shows it: a name, and behind it members and indexes, from the left.
use Rattle.std.proofs.Common.{arith, ◌≡◌, ◌+◌, ◌≤◌, ℕ, Bool, true, false, ◌||◌, not, List, [], ◌∷◌, ◌++◌, length, Option, Some, None, slice_get, nat_le, nat_eq, refl, ap, sym, subst, append_assoc, append-nil, true≢false, lit≤}
use Rattle.std.proofs.lemmas.Bool.{eqb-true}
use Rattle.std.proofs.lemmas.Bool.Decides.{nat_tests}
use Rattle.std.specs.Prelude.{option_map}
use Rattle.cc_lex.specs.declared.token.Kind.TheVariants as kind
use Rattle.cc_lex.specs.declared.token.Mark.TheVariants as m
use Rattle.cc_lex.proofs.Booleans.{and-true, not-true}
use Rattle.cc_bodies.specs.Exprs.{spaced}
use Rattle.cc_bodies.specs.Names.{named, func_name}
use Rattle.cc_expression_trees.specs.ReadExpressions.{ReadsTree}
use Rattle.cc_expression_trees.proofs.Forms.{showing, name-read, prefix-read, binary-read, subscript-read, member-read}
use Rattle.cc_expression_trees.proofs.Integers.{zero-read}
use Rattle.cc_pieces.specs.Pieces.{Pieces, punct, ident, plain_number, spelled}
use Rattle.cc_print.specs.Values.{has_elements, last_index, one_past, step_text, path_text, object_path, root_path, address_text}
use Rattle.cc_program.specs.declared.func.Func.{Func}
use Rattle.cc_program.specs.declared.object.Object.{Object}
use Rattle.cc_program.specs.declared.program.Program.{Program}
use Rattle.cc_program.specs.declared.types.CType.{CType}
use Rattle.cc_program.specs.declared.value.Address.{Address}
use Rattle.cc_program.specs.declared.value.Address.TheVariants as address
use Rattle.cc_program.specs.declared.value.Part.{Part}
use Rattle.cc_program.specs.declared.value.Part.TheVariants as part
use Rattle.cc_program.specs.declared.value.Root.{Root}
use Rattle.cc_program.specs.declared.value.Root.TheVariants as root
use Rattle.cc_typed.specs.CcSyntax.Expressions.{of_one}
use Rattle.cc_typed.specs.CcSyntax.Initial.{bound_of, step_into, place_at, leads_to_element, names_element, names_whole, names}
use Rattle.cc_typed.specs.CcSyntax.Programs.{is_address}
use Rattle.cc_typed.specs.CcSyntax.Lists.{is_count}
use Rattle.cc_typed.specs.CcSyntax.Operators.{function_type}
use Rattle.cc_typed.specs.CcSyntax.Values.{ValueType, PlaceType, object_place, pointer_to, element_of, address_of, is_assignable_some}
use Rattle.cc_tree.specs.declared.tree.Tree as tree
use Rattle.cc_tree.specs.declared.tree.Tree.{Tree}
use Rattle.cc_tree.specs.Terms.{ANumber}
use Rattle.cc_expression_trees.specs.Types.{plain_suffix}
use Rattle.cc_unit_trees.specs.Values.{IsIndex, Index, ShowsPart, ShowsObject, ShowsMember, ShowsElement, ShowsAtIndex, AtIndex, ShowsAddress, ShowsNull, ShowsFunction, ShowsElementAddress, ShowsWholeAddress, ShowsPast}
use Rattle.cc_unit_trees.proofs.Elements.{element-named, whole-named}
use Rattle.cc_unit_trees.proofs.Known.{member-step}

-- ---- what an address names

-- where an element is named, and where the whole
pub data IsNamed (to : CType) (path : List Part) (index count : ℕ) (a : PlaceType) : Type 0 where
  NamesElement : has_elements to (Some a) ≡ true → bound_of a ≡ Some count → index ≤ count → is_assignable_some (Some (pointer_to to)) (of_one (element_of a) address_of) ≡ true → IsNamed to path index count a
  NamesWhole : has_elements to (Some a) ≡ false → leads_to_element path ≡ false → count ≡ 1 → index ≤ 1 → is_assignable_some (Some (pointer_to to)) (address_of a) ≡ true → IsNamed to path index count a

at-most : (n m : ℕ) → nat_le n m ≡ true → n ≤ m
at-most n m h = grind (arith, nat_tests)

count-is : (n : ℕ) (o : Option ℕ) → is_count n o ≡ true → o ≡ Some n
count-is n None h = absurd (true≢false (sym h))
count-is n (Some k) h = ap Some (sym (eqb-true n k h))

named-by : (to : CType) (path : List Part) (index count : ℕ) (a : PlaceType) (b : Bool) → names_element (pointer_to to) index count a ≡ b → (b || names_whole (pointer_to to) path index count a) ≡ true → IsNamed to path index count a
named-by to path index count a true e h =
    let f = and-true (is_count count (bound_of a)) _ e in
    let g = and-true (nat_le index count) _ f.1 in
    NamesElement (element-named to a g.1) (count-is count (bound_of a) f.0) (at-most index count g.0) g.1
named-by to path index count a false e h =
    let f = and-true (not (leads_to_element path)) _ h in
    let g = and-true (nat_eq count 1) _ f.1 in
    let k = and-true (nat_le index 1) _ g.1 in
    NamesWhole (whole-named to a k.1) (not-true (leads_to_element path) f.0) (eqb-true count 1 g.0) (at-most index 1 k.0) k.1

-- the object, and what is at the end of the path
pub record Names (p : Program) (to : CType) (object : ℕ) (path : List Part) (index count : ℕ) : Type 0 where
  pub owner : Object
  pub there : slice_get p.objects object ≡ Some owner
  pub target : PlaceType
  pub leads : place_at p.structures path (object_place owner.ctype) ≡ Some target
  pub is : IsNamed to path index count target

names-place : (p : Program) (to : CType) (i : ℕ) (path : List Part) (index count : ℕ) (o : Object) → slice_get p.objects i ≡ Some o → (a : Option PlaceType) → place_at p.structures path (object_place o.ctype) ≡ a → names (pointer_to to) path index count a ≡ true →
    Names p to i path index count
names-place p to i path index count o e None f h = absurd (true≢false (sym h))
names-place p to i path index count o e (Some a) f h = record { owner = o; there = e; target = a; leads = f; is = named-by to path index count a (names_element (pointer_to to) index count a) refl h }

names-object : (p : Program) (to : CType) (i : ℕ) (path : List Part) (index count : ℕ) (o : Option Object) → slice_get p.objects i ≡ o → names (pointer_to to) path index count (of_one (option_map (λ o. object_place o.ctype) o) (place_at p.structures path)) ≡ true →
    Names p to i path index count
names-object p to i path index count None e h = absurd (true≢false (sym h))
names-object p to i path index count (Some o) e h = names-place p to i path index count o e (place_at p.structures path (object_place o.ctype)) refl h

pub names-of : (p : Program) (to : CType) (i : ℕ) (path : List Part) (index count : ℕ) → is_address p (pointer_to to) (address.At (root.Static i) path index count) ≡ true → Names p to i path index count
names-of p to i path index count h = names-object p to i path index count (slice_get p.objects i) refl h

pub function-there : (o : Option Func) (to : ValueType) → is_assignable_some (Some to) (function_type o) ≡ true → (g : Func) × (o ≡ Some g)
function-there None to h = absurd (true≢false (sym h))
function-there (Some g) to h = (g, refl)

-- a path's first step
pub first-step : (o : Option PlaceType) (rest : PlaceType → Option PlaceType) (b : PlaceType) → of_one o rest ≡ Some b → (c : PlaceType) × (o ≡ Some c) × (rest c ≡ Some b)
first-step None rest b h = absurd (cc)
first-step (Some c) rest b h = (c, refl, h)

-- ---- numbers

pub index-read : (n l at : ℕ) (ps : Pieces) → ReadsTree (IsIndex n) l at (plain_number n ∷ ps) ps
index-read n l at ps =
    let size = length (spelled (kind.Number n (plain_suffix n))) in
    record { tree = record { at = at; node = tree.Number n (plain_suffix n) }; shows = Index n; next = at + size; is = ANumber [] l n (plain_suffix n) (at, size) _ }

module _ (p : Program) where
  -- ---- a path, from the left

  -- what is in front is read at each level up to that of postfix operators
  abbrev Chain : (Tree → Type 0) → ℕ → Pieces → Pieces → Type 0
  Chain S at qs ps = (l : ℕ) → l ≤ 15 → ReadsTree S l at qs ps

  stepped : (i : ℕ) (step : Part) (done : List Part) (a c : PlaceType) → step_into p.structures step a ≡ Some c → (at : ℕ) (qs rest : Pieces) → Chain (ShowsPart p i done a) at qs (step_text p.structures (Some a) step rest) →
      Chain (ShowsPart p i (done ++ step ∷ []) c) at qs rest
  stepped i (part.Member k) done a c e at qs rest h l le =
      let s = member-step p.structures k a c e in
      let g = subst (λ o. Chain (ShowsPart p i done a) at qs (punct m.Dot ∷ named o rest)) s.named h in
      member-read (ShowsPart p i (done ++ part.Member k ∷ []) c) (ShowsPart p i done a) s.member.0 (λ x y. ShowsMember done a c k s.member.0 x y e s.named) qs rest l at le (g 15 (lit≤ tt))
  stepped i (part.Index k) done a c e at qs rest h l le =
      subscript-read (ShowsPart p i (done ++ part.Index k ∷ []) c) (ShowsPart p i done a) (IsIndex k) (λ x y z w. ShowsElement done a c k x y z e w) qs (plain_number k ∷ punct m.RBracket ∷ rest) rest l at le
      (h 15 (lit≤ tt)) (λ at. index-read k 0 at (punct m.RBracket ∷ rest))

  path-read : (to : CType) (index count i : ℕ) (path done : List Part) (a b : PlaceType) → place_at p.structures path a ≡ Some b → (at : ℕ) (qs ps : Pieces) → Chain (ShowsPart p i done a) at qs (path_text p.structures to index count (Some a) path ps) →
      Chain (ShowsPart p i (done ++ path) b) at qs (last_index (has_elements to (Some b)) index count ps)
  path-read to index count i [] done a b h at qs ps k =
      let same : a ≡ b = cc in
      subst (λ xs. Chain (ShowsPart p i xs b) at qs (last_index (has_elements to (Some b)) index count ps)) (sym (append-nil done))
      (subst (λ c. Chain (ShowsPart p i done c) at qs (last_index (has_elements to (Some c)) index count ps)) same k)
  path-read to index count i (step ∷ path) done a b h at qs ps k =
      let c = first-step (step_into p.structures step a) (place_at p.structures path) b h in
      let g = subst (λ o. Chain (ShowsPart p i done a) at qs (step_text p.structures (Some a) step (path_text p.structures to index count o path ps))) c.1 k in
      subst (λ xs. Chain (ShowsPart p i xs b) at qs (last_index (has_elements to (Some b)) index count ps)) (append_assoc done (step ∷ []) path)
      (path-read to index count i path (done ++ step ∷ []) c.0 b c.2 at qs ps (stepped i step done a c.0 c.1 at qs (path_text p.structures to index count (Some c.0) path ps) g))

  -- ---- `&` in front of it

  abbrev ReadsAddress : CType → Address → ℕ → ℕ → Pieces → Pieces → Type 0
  ReadsAddress to a l at qs ps = ReadsTree (ShowsAddress p to a) l at qs ps

  element-read : (to : CType) (i : ℕ) (path : List Part) (index count : ℕ) (b : PlaceType) → bound_of b ≡ Some count → is_assignable_some (Some (pointer_to to)) (of_one (element_of b) address_of) ≡ true → (at : ℕ) (qs ps : Pieces) → Chain (ShowsPart p i path b) (at + 1) qs (punct m.LBracket ∷ plain_number index ∷ punct m.RBracket ∷ ps) →
      ReadsAddress to (address.At (root.Static i) path index count) 1 at (punct m.Amp ∷ qs) ps
  element-read to i path index count b e t at qs ps h =
      prefix-read (ShowsAddress p to (address.At (root.Static i) path index count)) (ShowsAtIndex p to i path index count) m.Amp refl (λ x y. ShowsElementAddress i path index count x y) qs ps 1 at (lit≤ tt)
      (subscript-read (ShowsAtIndex p to i path index count) (ShowsPart p i path b) (IsIndex index) (λ x y z w. AtIndex b x y z e t w) qs (plain_number index ∷ punct m.RBracket ∷ ps) ps 13 (at + 1) (lit≤ tt)
      (h 15 (lit≤ tt)) (λ at. index-read index 0 at (punct m.RBracket ∷ ps)))

  whole-read : (to : CType) (i : ℕ) (path : List Part) (b : PlaceType) → leads_to_element path ≡ false → is_assignable_some (Some (pointer_to to)) (address_of b) ≡ true → (l at : ℕ) (qs ps : Pieces) → l ≤ 14 → Chain (ShowsPart p i path b) (at + 1) qs ps → ReadsAddress to (address.At (root.Static i) path 0 1) l at (punct m.Amp ∷ qs) ps
  whole-read to i path b e t l at qs ps le h =
      prefix-read (ShowsAddress p to (address.At (root.Static i) path 0 1)) (ShowsPart p i path b) m.Amp refl (λ x y. ShowsWholeAddress i path b x e t y) qs ps l at le (h 13 (lit≤ tt))

  past-read : (to : CType) (i : ℕ) (path : List Part) (b : PlaceType) → leads_to_element path ≡ false → is_assignable_some (Some (pointer_to to)) (address_of b) ≡ true → (at : ℕ) (qs ps : Pieces) → Chain (ShowsPart p i path b) (at + 1) qs (spaced m.Plus (plain_number 1 ∷ ps)) → ReadsAddress to (address.At (root.Static i) path 1 1) 1 at (punct m.Amp ∷ qs) ps
  past-read to i path b e t at qs ps h =
      binary-read (ShowsAddress p to (address.At (root.Static i) path 1 1)) (ShowsAddress p to (address.At (root.Static i) path 0 1)) (IsIndex 1) m.Plus 11 (refl, (lit≤ tt, lit≤ tt)) (λ x y z w. ShowsPast i path x y z w)
      (punct m.Amp ∷ qs) (plain_number 1 ∷ ps) ps 1 at (lit≤ tt) (whole-read to i path b e t 11 at qs (spaced m.Plus (plain_number 1 ∷ ps)) (lit≤ tt) h) (λ at. index-read 1 12 at ps)

  one-read : (to : CType) (i : ℕ) (path : List Part) (b : PlaceType) → leads_to_element path ≡ false → is_assignable_some (Some (pointer_to to)) (address_of b) ≡ true → (index : ℕ) → index ≤ 1 → (at : ℕ) (qs ps : Pieces) → (t : Bool) → nat_eq index 1 ≡ t → Chain (ShowsPart p i path b) (at + 1) qs (one_past t ps) →
      ReadsAddress to (address.At (root.Static i) path index 1) 1 at (punct m.Amp ∷ qs) ps
  one-read to i path b e u index le at qs ps true f h =
      subst (λ n. ReadsAddress to (address.At (root.Static i) path n 1) 1 at (punct m.Amp ∷ qs) ps) (sym (eqb-true index 1 f)) (past-read to i path b e u at qs ps h)
  one-read to i path b e u index le at qs ps false f h =
      subst (λ n. ReadsAddress to (address.At (root.Static i) path n 1) 1 at (punct m.Amp ∷ qs) ps) (sym (none index le f)) (whole-read to i path b e u 1 at qs ps (lit≤ tt) h) where
        none : (n : ℕ) → n ≤ 1 → nat_eq n 1 ≡ false → n ≡ 0
        none n h e = grind (arith, nat_tests)

  end-read : (to : CType) (i : ℕ) (path : List Part) (index count : ℕ) (b : PlaceType) → IsNamed to path index count b → (at : ℕ) (qs ps : Pieces) → Chain (ShowsPart p i path b) (at + 1) qs (last_index (has_elements to (Some b)) index count ps) →
      ReadsAddress to (address.At (root.Static i) path index count) 1 at (punct m.Amp ∷ qs) ps
  end-read to i path index count b (NamesElement e f g u) at qs ps h =
      element-read to i path index count b f u at qs ps (subst (λ t. Chain (ShowsPart p i path b) (at + 1) qs (last_index t index count ps)) e h)
  end-read to i path index count b (NamesWhole e f g k u) at qs ps h =
      let one = subst (λ t. Chain (ShowsPart p i path b) (at + 1) qs (last_index t index count ps)) e h in
      subst (λ n. ReadsAddress to (address.At (root.Static i) path index n) 1 at (punct m.Amp ∷ qs) ps) (sym g)
      (one-read to i path b f u index k at qs ps (nat_eq index 1) refl (subst (λ n. Chain (ShowsPart p i path b) (at + 1) qs (one_past (nat_eq index n) ps)) g one))

  -- ---- the law of addresses

  static-read : (to : CType) (i : ℕ) (path : List Part) (index count : ℕ) → Names p to i path index count → (at : ℕ) (ps : Pieces) →
      ReadsAddress to (address.At (root.Static i) path index count) 1 at (punct m.Amp ∷ object_path p to path index count (slice_get p.objects i) ps) ps
  static-read to i path index count r at ps =
      let o = r.owner in
      let text = path_text p.structures to index count (Some (object_place o.ctype)) path ps in
      let start : Chain (ShowsPart p i [] (object_place o.ctype)) (at + 1) (ident o.name ∷ text) text = λ l le. name-read (ShowsPart p i [] (object_place o.ctype)) o.name (ShowsObject o r.there) l (at + 1) text in
      subst (λ x. ReadsAddress to (address.At (root.Static i) path index count) 1 at (punct m.Amp ∷ object_path p to path index count x ps) ps) (sym r.there)
      (end-read to i path index count r.target r.is at (ident o.name ∷ text) ps (path-read to index count i path [] (object_place o.ctype) r.target r.leads (at + 1) (ident o.name ∷ text) ps start))

  root-read : (to : CType) (object : Root) (path : List Part) (index count : ℕ) → is_address p (pointer_to to) (address.At object path index count) ≡ true → (at : ℕ) (ps : Pieces) →
      ReadsAddress to (address.At object path index count) 1 at (root_path p to path index count object ps) ps
  root-read to (root.Auto activation f local) path index count h at ps = absurd (true≢false (sym h))
  root-read to (root.Static i) path index count h at ps = static-read to i path index count (names-of p to i path index count h) at ps

  pub address-read : (to : CType) (a : Address) → is_address p (pointer_to to) a ≡ true → (at : ℕ) (ps : Pieces) → ReadsAddress to a 1 at (address_text p to a ps) ps
  address-read to address.Null h at ps = showing (λ x i. ShowsNull x i) (zero-read 1 at ps)
  address-read to (address.Func i) h at ps =
      let g = function-there (slice_get p.funcs i) (pointer_to to) h in
      subst (λ o. ReadsAddress to (address.Func i) 1 at (named (func_name o) ps) ps) (sym g.1) (name-read (ShowsAddress p to (address.Func i)) g.0.name (ShowsFunction i g.0 g.1) 1 at ps)
  address-read to (address.At object path index count) h at ps = root-read to object path index count h at ps
