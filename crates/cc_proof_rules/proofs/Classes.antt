-- Places lead to objects of their classes: by induction over how the classes come about.
use Rattle.std.proofs.Common.{◌≡◌, ℕ, ℤ, Bool, true, List, [], ◌∷◌, ◌++◌, Contains, Option, Some, None, refl, ap, sym, ◌∙◌, subst}
use Rattle.std.specs.Prelude.{is_some, option_map, option_and_then}
use Rattle.std.specs.List.{flat_map}
use Rattle.cc_state_values_sound.proofs.CcEval.Links.{place_type_linked}
use Rattle.cc_state_values_sound.proofs.CcEval.MeaningUses.{meaning_uses}
use Rattle.cc_state_values_sound.proofs.CcEval.Opened.{designation_at}
use Rattle.cc_state_values_sound.proofs.CcEval.Works.{works_known, works_bind}
use Rattle.cc_state_values_sound.specs.CcEval.Context.{Context, object_type, designated, element_in, element, member}
use Rattle.cc_state_values_sound.specs.CcEval.declared.action.Action.{Action}
use Rattle.cc_state_values_sound.specs.CcEval.declared.mark.Mark.{Mark}
use Rattle.cc_state_values_sound.specs.CcEval.declared.spots.Spot.{Spot}
use Rattle.cc_state_values_sound.specs.CcEval.declared.spots.Spot.TheVariants as spot
use Rattle.cc_state_values_sound.specs.CcEval.Eval.{Designation, meaning, designation, place_opened, place_and_value, element_at}
use Rattle.cc_state_values_sound.specs.CcEval.Marks.{AnswerSteps, Works}
use Rattle.cc_state_values_sound.specs.CcEval.Progress.{Get, known, bind}
use Rattle.cc_state_values_sound.specs.CcPlaces.declared.abs.Abs.{Abs}
use Rattle.cc_state_values_sound.specs.CcPlaces.declared.abs.Abs.TheVariants as abs
use Rattle.cc_state_values_sound.specs.CcPlaces.declared.addrs.Addrs.{Addrs}
use Rattle.cc_program.specs.declared.expr.Expr.{Expr}
use Rattle.cc_program.specs.declared.expr.Expr.TheOpen as one
use Rattle.cc_program.specs.declared.expr.Place.{Place as PlaceOf, out-Place, roll-Place, roll-out-Place}
use Rattle.cc_program.specs.declared.program.Program.{Program}
use Rattle.cc_program.specs.declared.types.CType.{CType}
use Rattle.cc_program.specs.declared.types.Shape.{Shape, out-Shape}
use Rattle.cc_program.specs.declared.types.Shape.TheOpen as shape
use Rattle.cc_program.specs.declared.types.Sig.{Sig}
use Rattle.cc_program.specs.declared.value.Address.{Address}
use Rattle.cc_program.specs.declared.value.Address.TheVariants as address
use Rattle.cc_program.specs.declared.value.Part.{Part}
use Rattle.cc_program.specs.declared.value.Part.TheVariants as part
use Rattle.cc_program.specs.declared.value.Root.{Root}
use Rattle.cc_program.specs.declared.value.Root.TheVariants as root
use Rattle.cc_program.specs.declared.value.Value.{Value}
use Rattle.cc_program.specs.declared.value.Value.TheVariants.{Int, Place}
use Rattle.cc_proof_rules.proofs.Keys.{key_end, key_of_part, IsReal, target_classes, designated_class}
use Rattle.cc_proof_rules.proofs.Lists.{in_first}
use Rattle.cc_proof_rules.specs.Operands.{HasClass}
use Rattle.cc_rules.specs.CcStateFacts.declared.facts.Key.{Key}
use Rattle.cc_rules.specs.CcStateFacts.declared.facts.Key.TheVariants as key
use Rattle.cc_rules.specs.CcStateKeys.Keys.{root_key, structure_shape, structure_of, cell_key}
use Rattle.cc_rules.specs.CcStateKeys.Lists.{only}
use Rattle.cc_state_values_sound.specs.CcStateOperators.Domains.{Domain}
use Rattle.cc_rules.specs.CcStateReads.Named.{target_class, member_class, AreClasses, OfLocal, OfStatic, OfDevice, OfElement, OfMember, OfTarget}
use Rattle.cc_state_values_sound.specs.CcStateValues.Values.{IsVal}
use Rattle.cc_state_values_sound.proofs.Choices.{GivesAll}
use Rattle.cc_state_values_sound.proofs.InStates.{value_in_states}
use Rattle.cc_state_values_sound.specs.Steps.{MayGive, IsOwnStep}
use Rattle.cc_state_values_sound.specs.Typed.{IsTypedAnswer}
use Rattle.cc_state_values_sound.proofs.CcStates.AddressLemmas.{place_parts_at, rolled_place_takes}
use Rattle.cc_state_values_sound.proofs.CcStates.EvalTypes.{designation_typed, meaning_typed}
use Rattle.cc_state_values_sound.proofs.CcStates.Options.{with_one, with_two, one_as_then}
use Rattle.cc_state_values_sound.proofs.CcStates.PlaceLemmas.{real}
use Rattle.cc_state_values_sound.proofs.CcStates.SpotLemmas.{designates}
use Rattle.cc_state_values_sound.specs.CcStates.Answers.{IsActivation, IsMarkOf, IsStep, TakesAddressesOf, PlaceTakesAddressesOf}
use Rattle.cc_state_values_sound.specs.CcStates.Typed.{place_in, IsAddress, HasType, MayHave, MayLead}
use Rattle.cc_state_values_sound.proofs.CcSyntax.AlikeLemmas.{alike-struct}
use Rattle.cc_state_values_sound.specs.CcSyntax.Effects.{Registers, also}
use Rattle.cc_state_values_sound.specs.CcSyntax.Expressions.{of_two}
use Rattle.cc_state_values_sound.specs.CcSyntax.Initial.{bound_of, place_at, names}
use Rattle.cc_state_values_sound.specs.CcSyntax.Operators as rule
use Rattle.cc_state_values_sound.specs.CcSyntax.Values.{ValueType, NoValue, Integer, ToObject, ToFunction, PlaceType, DevicePlace, ObjectPlace, FunctionPlace, member_shape, member_of, pointed_to}
use Rattle.cc_state_values_sound.specs.CcValues.Values.{integer, index_in, address_in}

-- ---- what is typed is there

names_some : (to : ValueType) (path : List Part) (index count : ℕ) (x : Option PlaceType) → names to path index count x ≡ true → is_some x ≡ true
names_some to path index count None h = absurd (cc)
names_some to path index count (Some a) h = refl

module _ (p : Program) (openings : List ℕ) where
  named_real : (to : ValueType) (object : Root) (path : List Part) (index count : ℕ) → IsAddress p openings to (address.At object path index count) → IsReal p object path
  named_real to object path index count h = ap is_some (sym (one_as_then (object_type p object) (place_at p.structures path))) ∙ names_some to path index count (place_in p object path) h.1

  pointer_real : (t : ValueType) (u : PlaceType) (a : Address) → pointed_to t ≡ Some u → HasType p openings t (Place a) → (object : Root) (path : List Part) (index count : ℕ) → a ≡ address.At object path index count → IsReal p object path
  pointer_real NoValue u a e h object path index count is = absurd (cc)
  pointer_real (Integer t) u a e h object path index count is = absurd h
  pointer_real (ToObject c v t) u a e h object path index count is = named_real (ToObject c v t) object path index count (subst (IsAddress p openings (ToObject c v t)) is h)
  pointer_real (ToFunction sig) u a e h object path index count is = named_real (ToFunction sig) object path index count (subst (IsAddress p openings (ToFunction sig)) is h)

  -- ---- a member of what a place of a structure's type designates

  struct_member : (m : ℕ) (c v : Bool) (x : shape.Shape-F Shape CType Sig) (w : PlaceType) → member_shape p.structures c v m x ≡ Some w → (s : ℕ) × (x ≡ shape.Struct s)
  struct_member m c v (shape.Struct s) w h = (s, refl)
  struct_member m c v shape.Void w h = absurd (cc)
  struct_member m c v (shape.Int t) w h = absurd (cc)
  struct_member m c v (shape.Pointer to) w h = absurd (cc)
  struct_member m c v (shape.Array of n) w h = absurd (cc)
  struct_member m c v (shape.Func sig) w h = absurd (cc)

  abbrev MemberSpot : ℕ → Root × List Part → Spot
  MemberSpot m o = spot.Object o.0 (o.1 ++ part.Member m ∷ [])

  member_by : (m s : ℕ) (c v : Bool) (t : CType) → out-Shape t.shape ≡ shape.Struct s → (x : Option (Root × List Part)) → ((o : Root × List Part) → x ≡ Some o → (u : PlaceType) × (place_in p o.0 o.1 ≡ Some u) × (structure_of u ≡ Some s)) →
      HasClass p (member_class (Some (ObjectPlace c v t)) m) (option_map (MemberSpot m) x)
  member_by m s c v t e None h = tt
  member_by m s c v t e (Some o) h =
      let w = h o refl in
      let class : member_class (Some (ObjectPlace c v t)) m ≡ key.Member s m ∷ [] = ap (λ (y : shape.Shape-F Shape CType Sig). only (option_map (λ i. key.Member i m) (structure_shape y))) e in
      let is : cell_key p o.0 (o.1 ++ part.Member m ∷ []) ≡ key.Member s m =
      key_of_part p.structures o.1 m s (object_type p o.0) w.0 (root_key o.0) (sym (one_as_then (object_type p o.0) (place_at p.structures o.1)) ∙ w.1) w.2 in
      subst (λ (ks : List Key). Contains ks (cell_key p o.0 (o.1 ++ part.Member m ∷ []))) (sym class) (subst (Contains (key.Member s m ∷ [])) (sym is) (in_first (key.Member s m) []))

  pub member_has_class : (m : ℕ) (u w : PlaceType) (there : Option Spot) → member_of p.structures m u ≡ Some w → MayLead p openings u there → HasClass p (member_class (Some u) m) (of_two (Some u) there (member p m))
  member_has_class m u w None e h = tt
  member_has_class m (DevicePlace constant t) w (Some there) e h = absurd (cc)
  member_has_class m (FunctionPlace sig) w (Some there) e h = absurd (cc)
  member_has_class m (ObjectPlace c v t) w (Some there) e h =
      let s = struct_member m c v (out-Shape t.shape) w e in
      member_by m s.0 c v t s.1 (designated p (ObjectPlace c v t) there)
      (λ o k.
      let r = real c v t (place_in p o.0 o.1) (designates p openings c v t there o h k).1 in
      (ObjectPlace r.const r.volat r.to, r.is, ap structure_shape (alike-struct t r.to r.one s.0 s.1)))

  -- ---- an element

  element_by : (classes : List Key) (bound : Option ℕ) (n : ℤ) (x : Option (Root × List Part)) → ((o : Root × List Part) → x ≡ Some o → Contains classes (cell_key p o.0 o.1)) → HasClass p classes (option_and_then (element_in bound n) x)
  element_by classes bound n None h = tt
  element_by classes None n (Some o) h = tt
  element_by classes (Some count) n (Some o) h = by (index_in n count)
    where
      by : (x : Option ℕ) → HasClass p classes (option_map spot.Address (option_map (λ (i : ℕ). address.At o.0 o.1 i count) x))
      by None = tt
      by (Some i) = h o refl

pub element_has_class : (c : Context) (classes : List Key) (t : Option PlaceType) (there : Option Spot) (v : Option Value) → HasClass c.program classes there → HasClass c.program classes (element_at c t there v)
element_has_class c classes None there v h = tt
element_has_class c classes (Some t) None v h = tt
element_has_class c classes (Some t) (Some there) v h = by (integer v)
  where
    by : (n : Option ℤ) → HasClass c.program classes (option_and_then (λ n. element c.program n t there) n)
    by None = tt
    by (Some n) = element_by c.program [] classes (bound_of t) n (designated c.program t there) (λ o e. designated_class c.program classes t there o h e)

-- ---- places

module _ {I : Type 0} (d : Domain I) (all : GivesAll d) (c : Context) (openings : List ℕ) (here : IsActivation c openings) (register : ℕ → Option (Abs I)) where
  abbrev IsIt : Action → Mark → Type 0
  IsIt = IsTypedAnswer d.has c openings register

  abbrev AnyStep : Action → Type 0
  AnyStep action = Unit {0}

  abbrev Leads : List Key → PlaceOf → Registers → Type 0
  Leads classes a later = Works IsIt AnyStep (HasClass c.program classes) ((designation c a).leads later)

  typed_only : {A : Type 0} (g : Get A) (ms : List Mark) → AnswerSteps IsIt g ms → AnswerSteps (IsMarkOf c.program openings) g ms
  typed_only g ms answers front back m action split w = (answers front back m action split w).typed

  -- what holds of what is given where marks have their types
  pub by_types : {A : Type 0} (P : A → Type 0) (g : Get A) → Works (IsMarkOf c.program openings) (IsStep c.program openings c.number) P g → Works IsIt AnyStep P g
  by_types P g works = record { known = λ ms rest a answers e. works.known ms rest a (typed_only g ms answers) e; waits = λ ms action answers e. tt }

  widened : {A : Type 0} (S : Action → Type 0) (P : A → Type 0) (g : Get A) → Works IsIt S P g → Works IsIt AnyStep P g
  widened S P g works = record { known = works.known; waits = λ ms action answers e. tt }

  both_hold : {A : Type 0} (P Q : A → Type 0) (g : Get A) → Works IsIt AnyStep P g → Works IsIt AnyStep Q g → Works IsIt AnyStep (λ a. P a × Q a) g
  both_hold P Q g h k = record {
    known = λ ms rest a answers e. (let u = h.known ms rest a answers e in (u.0, (u.1, (k.known ms rest a answers e).1)));
    waits = λ ms action answers e. tt;
  }

  pub anything : (e : Expr) (later : Registers) → Works IsIt AnyStep (λ (v : Option Value). Unit {0}) ((meaning c e).next later)
  anything e later = record { known = λ ms rest a answers k. ((meaning_uses c e later).known a ms rest k, tt); waits = λ ms action answers k. tt }

  leads_as : (classes : List Key) (a : PlaceOf) (x : one.Place-F Expr PlaceOf) (later : Registers) → out-Place a ≡ x → Works IsIt AnyStep (HasClass c.program classes) ((place_opened c x).leads later) → Leads classes a later
  leads_as classes a x later e h = subst (λ (z : Designation). Works IsIt AnyStep (HasClass c.program classes) (z.leads later)) (sym (designation_at c a x e)) h

  place_parts_taken : (a : PlaceOf) (x : one.Place-F Expr PlaceOf) → out-Place a ≡ x → PlaceTakesAddressesOf c.func a → PlaceTakesAddressesOf c.func (roll-Place x)
  place_parts_taken a x e h = subst (PlaceTakesAddressesOf c.func) (sym (roll-out-Place a) ∙ ap roll-Place e) h

  abbrev Taken : Expr → Type 0
  Taken e = TakesAddressesOf c.func e

  abbrev PlaceTaken : PlaceOf → Type 0
  PlaceTaken a = PlaceTakesAddressesOf c.func a

  element_taken : (a b : PlaceOf) (i : Expr) → out-Place a ≡ one.Element b i → PlaceTaken a → PlaceTaken b × Taken i
  element_taken a b i e h = place_parts_at c.func Taken PlaceTaken (one.Element b i) ((λ k. k), (λ k. k)) (rolled_place_takes c.func Taken PlaceTaken (one.Element b i) (place_parts_taken a (one.Element b i) e h))

  member_taken : (a b : PlaceOf) (m : ℕ) → out-Place a ≡ one.Member b m → PlaceTaken a → PlaceTaken b
  member_taken a b m e h = place_parts_at c.func Taken PlaceTaken (one.Member b m) (λ k. k) (rolled_place_takes c.func Taken PlaceTaken (one.Member b m) (place_parts_taken a (one.Member b m) e h))

  target_taken : (a : PlaceOf) (x : Expr) → out-Place a ≡ one.Deref x → PlaceTaken a → Taken x
  target_taken a x e h = place_parts_at c.func Taken PlaceTaken (one.Deref x) (λ k. k) (rolled_place_takes c.func Taken PlaceTaken (one.Deref x) (place_parts_taken a (one.Deref x) e h))

  -- the type of a place, by its form
  type_as : (a : PlaceOf) (x : one.Place-F Expr PlaceOf) (u : PlaceType) → out-Place a ≡ x → (designation c a).ctype ≡ Some u → (place_opened c x).ctype ≡ Some u
  type_as a x u e h = ap (λ (z : Designation). z.ctype) (sym (designation_at c a x e)) ∙ h

  element_works : (b : PlaceOf) (i : Expr) (classes : List Key) (later : Registers) → ((l : Registers) → Leads classes b l) →
      Works IsIt AnyStep (HasClass c.program classes) (bind (place_and_value (designation c b) (meaning c i) later) (λ q. known (element_at c (designation c b).ctype q.0 q.1)))
  element_works b i classes later h =
      works_bind IsIt AnyStep First (HasClass c.program classes) (place_and_value (designation c b) (meaning c i) later) (λ q. known (element_at c (designation c b).ctype q.0 q.1))
      (works_bind IsIt AnyStep (HasClass c.program classes) First ((designation c b).leads (also (meaning c i).effects.assigned later)) (λ s. bind ((meaning c i).next later) (λ v. known (s, v))) (h (also (meaning c i).effects.assigned later))
      (λ s k. works_bind IsIt AnyStep (λ (v : Option Value). Unit {0}) First ((meaning c i).next later) (λ v. known (s, v)) (anything i later) (λ v t. works_known IsIt AnyStep First (s, v) k)))
      (λ q k. works_known IsIt AnyStep (HasClass c.program classes) (element_at c (designation c b).ctype q.0 q.1) (element_has_class c classes (designation c b).ctype q.0 q.1 k))
    where
      First : Option Spot × Option Value → Type 0
      First q = HasClass c.program classes q.0

  abbrev TypedSpot : PlaceType → Option Spot → Type 0
  TypedSpot u there = MayLead c.program openings u there

  spot_typed : (b : PlaceOf) (u : PlaceType) → PlaceTaken b → (designation c b).ctype ≡ Some u → (later : Registers) → Works IsIt AnyStep (TypedSpot u) ((designation c b).leads later)
  spot_typed b u taken e later =
      let w = designation_typed c openings here b taken u e later in
      record { known = λ ms rest a answers k. (let g = w.known ms rest a (typed_only ((designation c b).leads later) ms answers) k in (g.0, g.1.0)); waits = λ ms action answers k. tt }

  member_works : (b : PlaceOf) (m : ℕ) (u w : PlaceType) (later : Registers) → PlaceTaken b → (designation c b).ctype ≡ Some u → member_of c.program.structures m u ≡ Some w → (classes : List Key) → classes ≡ member_class (Some u) m →
      Works IsIt AnyStep (HasClass c.program classes) (bind ((designation c b).leads later) (λ s. known (of_two (designation c b).ctype s (member c.program m))))
  member_works b m u w later taken e k classes is =
      works_bind IsIt AnyStep (TypedSpot u) (HasClass c.program classes) ((designation c b).leads later) (λ s. known (of_two (designation c b).ctype s (member c.program m))) (spot_typed b u taken e later)
      (λ s h. works_known IsIt AnyStep (HasClass c.program classes) (of_two (designation c b).ctype s (member c.program m))
      (subst (λ (ks : List Key). HasClass c.program ks (of_two (designation c b).ctype s (member c.program m))) (sym is)
      (subst (λ (t : Option PlaceType). HasClass c.program (member_class (Some u) m) (of_two t s (member c.program m))) (sym e) (member_has_class c.program openings m u w s k h))))

  abbrev Given : Addrs → ValueType → Option Value → Type 0
  Given s t v = MayGive d.has (abs.Addrs s) v × MayHave c.program openings t v

  pointed_class : (s : Addrs) (t : ValueType) (u : PlaceType) (v : Option Value) → pointed_to t ≡ Some u → Given s t v → HasClass c.program (flat_map (target_class c.program) s.members) (option_map spot.Address (address_in v))
  pointed_class s t u None e h = tt
  pointed_class s t u (Some (Int n)) e h = absurd h.0
  pointed_class s t u (Some (Place a)) e h = target_classes c.program s a h.0 (pointer_real c.program openings t u a e h.1)

  target_works : (x : Expr) (s : Addrs) (t : ValueType) (u : PlaceType) (later : Registers) → Taken x → (meaning c x).ctype ≡ Some t → pointed_to t ≡ Some u → IsVal d c.program c.id c.func register x (abs.Addrs s) →
      Works IsIt AnyStep (HasClass c.program (flat_map (target_class c.program) s.members)) (bind ((meaning c x).next later) (λ v. known (option_map spot.Address (address_in v))))
  target_works x s t u later taken e k val =
      works_bind IsIt AnyStep (Given s t) (HasClass c.program (flat_map (target_class c.program) s.members)) ((meaning c x).next later) (λ v. known (option_map spot.Address (address_in v)))
      (both_hold (MayGive d.has (abs.Addrs s)) (MayHave c.program openings t) ((meaning c x).next later)
      (widened (IsOwnStep c) (MayGive d.has (abs.Addrs s)) ((meaning c x).next later) (value_in_states d all c openings here register x taken (abs.Addrs s) val later))
      (by_types (MayHave c.program openings t) ((meaning c x).next later) (meaning_typed c openings here x taken t e later)))
      (λ v h. works_known IsIt AnyStep (HasClass c.program (flat_map (target_class c.program) s.members)) (option_map spot.Address (address_in v)) (pointed_class s t u v k h))

  pub class_works : (a : PlaceOf) (u : PlaceType) → (designation c a).ctype ≡ Some u → PlaceTaken a → (classes : List Key) → AreClasses d c.program c.id c.func register a classes → (later : Registers) → Leads classes a later
  class_works a u e taken classes (OfLocal r o is) later =
      leads_as classes a (one.Local r) later o
      (works_known IsIt AnyStep (HasClass c.program classes) (Some (spot.Object (root.Auto c.number c.id r) []))
      (subst (λ (ks : List Key). Contains ks (cell_key c.program (root.Auto c.number c.id r) [])) (sym is)
      (subst (Contains (key.Local c.id r ∷ [])) (sym (key_end c.program.structures (object_type c.program (root.Auto c.number c.id r)) (key.Local c.id r))) (in_first (key.Local c.id r) []))))
  class_works a u e taken classes (OfStatic i o is) later =
      leads_as classes a (one.Static i) later o
      (works_known IsIt AnyStep (HasClass c.program classes) (Some (spot.Object (root.Static i) []))
      (subst (λ (ks : List Key). Contains ks (cell_key c.program (root.Static i) [])) (sym is)
      (subst (Contains (key.Object i ∷ [])) (sym (key_end c.program.structures (object_type c.program (root.Static i)) (key.Object i))) (in_first (key.Object i) []))))
  class_works a u e taken classes (OfDevice n o is) later = leads_as classes a (one.Device n) later o (works_known IsIt AnyStep (HasClass c.program classes) (Some (spot.Device n)) tt)
  class_works a u e taken classes (OfElement b i o h) later =
      leads_as classes a (one.Element b i) later o
      (with_two (Works IsIt AnyStep (HasClass c.program classes) ((place_opened c (one.Element b i)).leads later)) (designation c b).ctype (meaning c i).ctype rule.subscript_type u (type_as a (one.Element b i) u o e)
      (λ w t x y z. element_works b i classes later (λ l. class_works b w x (element_taken a b i o taken).0 classes h l)))
  class_works a u e taken classes (OfMember b m o is) later =
      leads_as classes a (one.Member b m) later o
      (with_one (Works IsIt AnyStep (HasClass c.program classes) ((place_opened c (one.Member b m)).leads later)) (designation c b).ctype (member_of c.program.structures m) u (type_as a (one.Member b m) u o e)
      (λ w x y. member_works b m w u later (member_taken a b m o taken) x y classes (is ∙ ap (λ t. member_class t m) (sym (place_type_linked c b) ∙ x))))
  class_works a u e taken classes (OfTarget x s o val is) later =
      leads_as classes a (one.Deref x) later o
      (with_one (Works IsIt AnyStep (HasClass c.program classes) ((place_opened c (one.Deref x)).leads later)) (meaning c x).ctype pointed_to u (type_as a (one.Deref x) u o e)
      (λ t y z. subst (λ (ks : List Key). Works IsIt AnyStep (HasClass c.program ks) ((place_opened c (one.Deref x)).leads later)) (sym is) (target_works x s t u later (target_taken a x o taken) y z val)))
