-- The unit of a text's tree accesses its devices without a name.
use Rattle.std.proofs.Common.{◌≡◌, ◌⊎◌, inl, inr, ◌+◌, ◌||◌, ◌&&◌, ℕ, zero, suc, Bool, true, false, true≢false, not, List, [], ◌∷◌, map, Option, Some, None, option_map, refl, ap, sym, ◌∙◌, subst, arith}
use Rattle.std.specs.Prelude.{is_some, nat_lt, slice_get}
use Rattle.std.specs.List.{list_any}
use Rattle.std.specs.Str.{bytes_eq}
use Rattle.std.proofs.lemmas.Option.{slice_get-map}
use Rattle.std.proofs.lemmas.Slice.Eq.{bytes_eq-Decides}
use Rattle.cc_accessed_terms.specs.Accounted.{is_numbered_entry, is_numbered_kind}
use Rattle.cc_type.specs.CcLex.Tokens.{Tokens}
use Rattle.cc_type.specs.CcLex.declared.token.Token.{Token}
use Rattle.cc_linked_programs.proofs.Shapes.{register_is, register_kept}
use Rattle.cc_program.specs.CcNum.declared.target.Target.{Target}
use Rattle.cc_type.specs.CcNumbering.Names.{count_of, function_in, kind_in, name_in, own_id, own_ids}
use Rattle.cc_type.specs.CcNumbering.Numbers.{numbers_of}
use Rattle.cc_type.specs.CcNumbering.Units.{ids_of, unit_left}
use Rattle.cc_program.proofs.Each.{Each}
use Rattle.cc_program.specs.declared.func.Func.{Func}
use Rattle.cc_program.specs.declared.program.Roles.{Roles}
use Rattle.cc_program.specs.declared.types.CType.{CType}
use Rattle.cc_program.specs.declared.types.Shape.{Shape, out-Shape}
use Rattle.cc_program.specs.declared.types.Shape.TheOpen as shape
use Rattle.cc_program.specs.declared.types.Sig.{Sig}
use Rattle.cc_program.specs.declared.value.Leaf.{Leaf}
use Rattle.cc_read_accessed.proofs.Accounted.{AreAccounted, IsAccessedAt, IsDoubled}
use Rattle.cc_read_accessed.proofs.Items.{unit_left_by}
use Rattle.cc_read_accessed.proofs.Renumbered.{body_accesses}
use Rattle.cc_read_accessed.specs.Accessed.{AccessesItsDevices, FitsKind, HasTwice, IsAccessedIn, IsFit}
use Rattle.cc_read_sound.proofs.Items.{Any}
use Rattle.cc_read_sound.proofs.Statements.{sentence_fits}
use Rattle.cc_read_sound.proofs.Texts.{text_fits}
use Rattle.cc_read_sound.proofs.Units.{typed_is}
use Rattle.cc_read_sound.specs.Entries.{AreWell, IsAwaited, IsDone, IsWellKind, is_counted, is_function_kind}
use Rattle.cc_relocated_units.specs.Units.{is_integer_shape}
use Rattle.cc_type.specs.CcScopes.Linked.{is_linked}
use Rattle.cc_type.specs.CcScopes.State.{State, Name}
use Rattle.cc_type.specs.CcScopes.declared.unit.Declared.{Declared}
use Rattle.cc_sound_declarations.specs.Entries.{IsEntryOf}
use Rattle.cc_standing_units.specs.Views.{view_of}
use Rattle.cc_type.specs.CcSyntax.SameTypes.{is_func_shape}
use Rattle.cc_type.specs.CcSyntax.Views.{View}
use Rattle.cc_things.specs.Things.{is_device_kind}
use Rattle.cc_tree.specs.Sentences.{IsSentence}
use Rattle.cc_tree.specs.declared.unit.Unit.{Unit as UnitTree}
use Rattle.cc_type.specs.Defined.{defined_names}
use Rattle.cc_type.specs.Typed.{IsTyped}
use Rattle.cc_type.specs.CcTypedTerms.Primary.{is_intrinsic}
use Rattle.cc_type.specs.CcUnit.declared.ids.Id.{Id}
use Rattle.cc_type.specs.CcUnit.declared.ids.Id.TheVariants as id
use Rattle.cc_type.specs.CcUnit.declared.ids.Ids.{Ids}
use Rattle.cc_type.specs.CcUnit.declared.unit.TypedUnit.{TypedUnit}
use Rattle.cc_type.specs.CcUnit.declared.unit.UnitKind.{UnitKind}
use Rattle.cc_type.specs.CcUnit.declared.unit.UnitKind.TheVariants as kind
use Rattle.cc_type.specs.CcUnit.declared.unit.UnitName.{UnitName}

some_is : {A : Type 0} (a b : A) → Some a ≡ Some b → a ≡ b
some_is a b h = cc

true_false : (b : Bool) → b ≡ true → b ≡ false → ⊥
true_false b e f = true≢false (sym e ∙ f)

record Mapped {A B : Type 0} (f : A → B) (xs : List A) (i : ℕ) (y : B) : Type 0 where
  from : A
  there : slice_get xs i ≡ Some from
  gives : f from ≡ y

mapped_at : {A B : Type 0} (f : A → B) (xs : List A) (i : ℕ) (y : B) → slice_get (map f xs) i ≡ Some y → Mapped f xs i y
mapped_at f [] i y h = absurd (cc)
mapped_at f (x ∷ xs) zero y h = record { from = x; there = refl; gives = some_is (f x) y h }
mapped_at f (x ∷ xs) (suc i) y h = let m = mapped_at f xs i y h in record { from = m.from; there = m.there; gives = m.gives }

-- ---- ids

own_at : (from : ℕ) (ds : List Declared) (i : ℕ) (d : Declared) → slice_get ds i ≡ Some d → slice_get (own_ids from ds) i ≡ Some (own_id (from + i) d.kind)
own_at from [] i d h = absurd (cc)
own_at from (x ∷ ds) zero d h =
    let z : from ≡ from + 0 = omega arith in
    ap (λ (y : Declared). Some (own_id from y.kind)) (some_is x d h) ∙ ap (λ (n : ℕ). Some (own_id n d.kind)) z
own_at from (x ∷ ds) (suc i) d h =
    let z : suc from + i ≡ from + suc i = omega arith in
    own_at (suc from) ds i d h ∙ ap (λ (n : ℕ). Some (own_id n d.kind)) z

zero_plus : (n : ℕ) → 0 + n ≡ n
zero_plus n = omega arith

-- a device is told by its own number
device_id : (i : ℕ) (k : UnitKind) → is_numbered_kind k ≡ true → own_id i k ≡ id.Device i
device_id i (kind.Device d) h = refl
device_id i (kind.Object leaves) h = absurd (true≢false (sym h))
device_id i (kind.Func by f) h = absurd (true≢false (sym h))

numbered_in : (ids : Ids) (k : UnitKind) → is_numbered_kind (kind_in ids k) ≡ true → is_numbered_kind k ≡ true
numbered_in ids (kind.Device d) h = h
numbered_in ids (kind.Object leaves) h = h
numbered_in ids (kind.Func by f) h = h

-- ---- types and counts

no_register : (t : CType) (y : shape.Shape-F Shape CType Sig) → is_func_shape (λ sig. true) y ≡ true → t.volatile && is_integer_shape y ≡ false
no_register t (shape.Func sig) h = none t.volatile
  where
    none : (b : Bool) → b && false ≡ false
    none true = refl
    none false = refl
no_register t shape.Void h = absurd (true≢false (sym h))
no_register t (shape.Int i) h = absurd (true≢false (sym h))
no_register t (shape.Pointer to) h = absurd (true≢false (sym h))
no_register t (shape.Array of n) h = absurd (true≢false (sym h))
no_register t (shape.Struct i) h = absurd (true≢false (sym h))

some_mapped : {A B : Type 0} (f : A → B) (o : Option A) → is_some (option_map f o) ≡ is_some o
some_mapped f None = refl
some_mapped f (Some x) = refl

twice_counts : (b : Bool) (n : ℕ) → nat_lt 1 n ≡ true → nat_lt 1 (count_of b n) ≡ true
twice_counts b zero h = absurd (true≢false (sym h))
twice_counts b (suc n) h = h

among_at : (Q : Name → Type 0) (xs : List Name) (x : Name) → Each Q xs → list_any (bytes_eq x) xs ≡ true → Q x
among_at Q [] x h g = absurd (true≢false (sym g))
among_at Q (y ∷ ys) x h g = of_test (bytes_eq x y) refl g (λ k. among_at Q ys x h.1 k)
  where
    of_test : (b : Bool) → bytes_eq x y ≡ b → b || list_any (bytes_eq x) ys ≡ true → (list_any (bytes_eq x) ys ≡ true → Q x) → Q x
    of_test true e g f = subst Q (sym ((bytes_eq-Decides x y).0 e)) h.0
    of_test false e g f = f g

module _ (v : View) (roles : Roles) (defined : List Name) (s : State) (well : AreWell v.target roles defined (Any v roles defined) defined s) (accounted : AreAccounted s) where
  abbrev ids : Ids
  ids = ids_of s

  abbrev named : Declared → UnitName
  named d = name_in ids d

  abbrev Settled : Name → Type 0
  Settled x = IsDone v.target roles defined (Any v roles defined) s x

  -- ---- an object that the unit defines is defined in the end

  settled_is : (i : ℕ) (d : Declared) (leaves : List Leaf) → slice_get s.names i ≡ Some d → d.kind ≡ kind.Object leaves → (x : Name) → d.name ≡ Some x → is_linked d.linkage ≡ true → Settled x → is_counted d ≡ true
  settled_is i d leaves h e x n l (inl b) = absurd (true_false (is_intrinsic roles x) b ((well.well i d h).plain x n l))
  settled_is i d leaves h e x n l (inr c) =
      let here : c.number ≡ i = some_is c.number i (sym c.linked ∙ well.unique i d x h l n) in
      let same : c.declared ≡ d = some_is c.declared d (sym c.there ∙ ap (slice_get s.names) here ∙ h) in
      by_kind same c.settled
    where
      by_kind : c.declared ≡ d → (is_function_kind c.declared.kind ≡ true) ⊎ (is_counted c.declared ≡ true) → is_counted d ≡ true
      by_kind same (inl f) = absurd (true≢false (sym f ∙ ap (λ (z : Declared). is_function_kind z.kind) same ∙ ap is_function_kind e))
      by_kind same (inr g) = ap is_counted (sym same) ∙ g

  here_by : (i : ℕ) (d : Declared) (leaves : List Leaf) → slice_get s.names i ≡ Some d → d.kind ≡ kind.Object leaves → (is_counted d ≡ true) ⊎ IsAwaited v.target roles defined (Any v roles defined) d → is_counted d ≡ true
  here_by i d leaves h e (inl c) = c
  here_by i d leaves h e (inr a) = settled_is i d leaves h e a.name a.named a.linked (among_at Settled defined a.name well.complete a.among)

  -- ---- each name

  kind_fits : (i : ℕ) (d : Declared) → slice_get s.names i ≡ Some d → (k : UnitKind) → d.kind ≡ k → IsEntryOf v.target defined d.name d.ctype k → IsWellKind v.target roles defined (Any v roles defined) d k → FitsKind (named d) (kind_in ids k)
  kind_fits i d h (kind.Object leaves) e t w = λ r. here_by i d leaves h e (w.here (sym (register_kept (numbers_of s) d.ctype) ∙ r))
  kind_fits i d h (kind.Device c) e t w = record { named = t.named; register = register_kept (numbers_of s) d.ctype ∙ register_is d.ctype c.int t.int t.volatile }
  kind_fits i d h (kind.Func by f) e t w = record {
    named = w.named;
    plain = register_kept (numbers_of s) d.ctype ∙ no_register d.ctype (out-Shape d.ctype.shape) t;
    defined = w.counted ∙ sym (some_mapped (function_in ids by) f);
  }

  nameless_kind : (d : Declared) (k : UnitKind) → IsWellKind v.target roles defined (Any v roles defined) d k → is_some d.name ≡ false → is_counted d ≡ not (is_device_kind (kind_in ids k))
  nameless_kind d (kind.Object leaves) w n = w.nameless n
  nameless_kind d (kind.Device e) w n = w n
  nameless_kind d (kind.Func by f) w n = absurd (true_false (is_some d.name) w.named n)

  name_fits : (i : ℕ) (d : Declared) → slice_get s.names i ≡ Some d → IsFit (named d)
  name_fits i d h =
      let w = well.well i d h in
      record {
        kind = kind_fits i d h d.kind refl w.entry w.kind;
        external = w.external;
        nameless = λ n. nameless_kind d d.kind w.kind n;
        once = λ n. accounted.once i d h n;
      }

  -- ---- devices without a name

  named_there : (i : ℕ) (d : Declared) → slice_get s.names i ≡ Some d → slice_get (unit_left s).names i ≡ Some (named d)
  named_there i d h = slice_get-map named s.names i ∙ ap (option_map named) h

  accessed_by : (i : ℕ) → slice_get ids.names i ≡ Some (id.Device i) → IsAccessedAt s i ⊎ IsDoubled s → IsAccessedIn (unit_left s).names i ⊎ HasTwice (unit_left s).names
  accessed_by i own (inl a) = inl (record {
    number = a.number;
    name = named a.declared;
    entry = a.entry;
    func = function_in ids a.entry a.func;
    there = named_there a.number a.declared a.there;
    defined = ap (kind_in ids) a.defined;
    accesses = body_accesses ids i i own a.func.body a.accesses;
  })
  accessed_by i own (inr a) = inr (record {
    number = a.number;
    name = named a.declared;
    there = named_there a.number a.declared a.there;
    twice = twice_counts a.declared.tentative a.declared.definitions a.twice;
  })

  device_accessed : (i : ℕ) (n : UnitName) → slice_get (unit_left s).names i ≡ Some n → is_numbered_kind n.kind ≡ true → IsAccessedIn (unit_left s).names i ⊎ HasTwice (unit_left s).names
  device_accessed i n h k =
      let m = mapped_at named s.names i n h in
      let numbered : is_numbered_kind m.from.kind ≡ true = numbered_in ids m.from.kind (ap (λ (z : UnitName). is_numbered_kind z.kind) m.gives ∙ k) in
      let own : slice_get ids.names i ≡ Some (id.Device i) =
      own_at 0 s.names i m.from m.there ∙ (ap (λ (j : ℕ). Some (own_id j m.from.kind)) (zero_plus i) ∙ ap (λ (z : Id). Some z) (device_id i m.from.kind numbered)) in
      accessed_by i own (accounted.accessed i (ap is_numbered_entry m.there ∙ numbered))

  pub unit_accesses : AccessesItsDevices (unit_left s)
  unit_accesses = record {
    fit = λ i n h. let m = mapped_at named s.names i n h in subst IsFit m.gives (name_fits i m.from m.there);
    accessed = device_accessed;
  }

pub text_accesses : (text : List ℕ) (ts : List Token) (u : UnitTree) (target : Target) (roles : Roles) (t : TypedUnit) → Tokens text ts → IsSentence ts u → IsTyped u target roles t → AccessesItsDevices t
text_accesses text ts u target roles t spelled sentence h =
    let fits = sentence_fits ts u sentence (text_fits text ts spelled) in
    let c = typed_is target roles u t h in
    let left = unit_left_by target roles u c.0 fits c.1 in
    subst AccessesItsDevices c.2 (unit_accesses (view_of target c.0.1) roles (defined_names u) c.0.1 left.well left.accounted)
