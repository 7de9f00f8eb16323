-- What the tests on all accesses of a key say of it: its class, its reads and writes, and the reasons.
use Rattle.std.proofs.Common.{arith, ◌≡◌, ◌≢◌, ◌<◌, ℕ, Bool, true, false, true≢false, not, nat_lt, ◌&&◌, List, Option, Some, None, refl, ap, sym, subst, ◌∙◌, inl, inr}
use Rattle.std.specs.Prelude.{is_some}
use Rattle.std.specs.List.{AllPairs, Contains, filter, list_any}
use Rattle.std.proofs.lemmas.List.Kept.{AllPairs-filter}
use Rattle.cc_program.specs.declared.expr.Place.{Place}
use Rattle.cc_program.specs.declared.func.Func.{Func}
use Rattle.cc_program.specs.declared.program.Program.{Program}
use Rattle.cc_sets.specs.declared.vals.Vals.{Vals}
use Rattle.cc_slots.proofs.Formed.{formed, own_element}
use Rattle.cc_slots.proofs.LevelLemmas.{entered, enters_from}
use Rattle.cc_slots.proofs.Listed.{in_map, inside, kept, of_map, pairs_map}
use Rattle.cc_slots.specs.Judged.{class_by, class_of, is_entered, is_lone, is_reached_read, is_reached_write, is_torn, is_unbounded, is_volatile_somewhere, levels_from, points_of, reads_in_handler, writes_in_handler}
use Rattle.cc_slots.specs.Reasons.{IsTorn, IsUnbounded, IsVolatile, IsAccessedVolatile}
use Rattle.cc_slots_accesses.proofs.Listed.{passes}
use Rattle.cc_slots_accesses.proofs.NamedLemmas.{own_named}
use Rattle.cc_slots_accesses.specs.declared.access.Access.{Access}
use Rattle.cc_slots_accesses.specs.Accesses.{AccessesAt, AreAccesses, IsAccess, IsClass, IsHandlerAccess, MayName, NamesByForm}
use Rattle.cc_slots_accesses.specs.Known.{is_volatile_in, may_be_on}
use Rattle.cc_slots_accesses.specs.Outside.{MayBeOutside}
use Rattle.cc_slots_points.proofs.Acting.{one_access, same_func, same_id}
use Rattle.cc_slots_points.proofs.Tests.{here, there}
use Rattle.cc_slots_points.specs.Lists.{AreAccessesOf, IsAccessAt, Names}
use Rattle.cc_slots_types.specs.declared.class.Class.{Class}
use Rattle.cc_slots_types.specs.declared.class.Class.TheVariants.{Lone, Read, Written}
use Rattle.cc_state_points.proofs.CcState.Sets.{known}
use Rattle.cc_state_points.specs.CcStateFacts.declared.facts.Facts.{Facts}
use Rattle.cc_state_points.specs.CcStateFacts.declared.facts.Key.{Key}
use Rattle.cc_state_points.specs.CcStateFacts.declared.facts.PointFact.{PointFact}
use Rattle.cc_state_points.specs.CcStateFacts.Facts.{fact_at, levels_of, mark_of}
use Rattle.cc_state_points.specs.CcStateFacts.Levels.{one_may_enter}
use Rattle.cc_state_points.specs.CcStateKeys.Keys.{key_number}
use Rattle.cc_state_points.specs.CcStateOperators.Domains.{Domain}
use Rattle.cc_state_points.specs.CcStateReads.Reads.{registers_at}
use Rattle.cc_state_points.specs.CcSyntax.Programs.{place_type}

-- ---- tests

both : (a b : Bool) → (a && b) ≡ true → (a ≡ true) × (b ≡ true)
both true b h = (refl, h)
both false b h = absurd (true≢false (sym h))

as_both : (a b : Bool) → a ≡ true → b ≡ true → (a && b) ≡ true
as_both a b h k = ap (λ x. x && b) h ∙ k

isnt : (b : Bool) → not b ≡ true → b ≡ false
isnt true h = absurd (true≢false (sym h))
isnt false h = refl

as_isnt : (b : Bool) → b ≡ false → not b ≡ true
as_isnt b h = ap not h

lone : (c : Class) → is_lone c ≡ false → c ≢ Lone
lone Lone h = absurd (true≢false h)
lone Read h = λ e. true≢false (sym (ap is_lone e))
lone Written h = λ e. true≢false (sym (ap is_lone e))

not_lone : (c : Class) → c ≢ Lone → is_lone c ≡ false
not_lone Lone h = absurd (h refl)
not_lone Read h = refl
not_lone Written h = refl

less : (m n : ℕ) → nat_lt m n ≡ true → m < n
less m n h = grind (arith, h)

as_less : (m n : ℕ) → m < n → nat_lt m n ≡ true
as_less m n h = grind (arith, h)

on_of : {I : Type 0} (o : Option (PointFact I)) → may_be_on o ≡ true → (fact : PointFact I) × (o ≡ Some fact) × (fact.on ≡ true)
on_of None h = absurd (true≢false (sym h))
on_of (Some fact) h = (fact, refl, h)

module _ (p : Program) (d : Domain Vals) (facts : Facts Vals) (k : Key) (number : ℕ) (numbered : key_number p k ≡ Some number) (accesses : List Access) (own : AreAccessesOf d p facts k accesses) where
  abbrev Named : ℕ → ℕ → Func → Place → Type 0
  Named n id f a = Names d p facts k n id f a

  may_name : (n id : ℕ) (f : Func) (a : Place) → is_some (fact_at facts n) ≡ true → Named n id f a → MayName p d facts n id f a k
  may_name n id f a reached (inl e) = formed d p facts k number numbered n id f a reached e
  may_name n id f a reached (inr m) = m

  -- ---- from what is listed

  abbrev access_of : (n : ℕ) (writes : Bool) (it : Access) → IsAccessAt d p facts k n writes it → it.is_reached ≡ true → IsAccess p d facts writes k n
  access_of n writes it x r = record { place = x.place; at = x.at; names = may_name n x.at.id x.at.func x.place (sym x.reached ∙ r) x.names }

  one_of : (it : Access) → Contains accesses it → (writes : Bool) → it.writes ≡ writes → IsAccessAt d p facts k it.point writes it
  one_of it m writes e = subst (λ (b : Bool). IsAccessAt d p facts k it.point b it) e (own.each it m)

  -- ---- to what is listed: what is known there is of the access itself

  pub record IsSame (n : ℕ) (writes : Bool) (a : Place) (at : AccessesAt p n writes a) (it : Access) : Type 0 where
    pub one : Contains accesses it
    pub stands : it.point ≡ n
    pub kind : it.writes ≡ writes
    pub volatile : it.is_volatile ≡ is_volatile_in (place_type p at.func.locals a)
    pub outside : (array : Key) → is_some (fact_at facts n) ≡ true → MayBeOutside d p at.id at.func (registers_at facts at.func n) a array → it.may_be_outside ≡ true
    pub reached : it.is_reached ≡ is_some (fact_at facts n)
    pub on : it.may_be_on ≡ may_be_on (fact_at facts n)
    pub by_handler : it.by_handler ≡ mark_of facts.by_handler at.id
    pub levels : it.levels ≡ levels_of facts.levels at.id
    pub from : it.from ≡ levels_of facts.from at.id

  same_of : (n : ℕ) (writes : Bool) (a : Place) (at : AccessesAt p n writes a) (it : Access) → Contains accesses it → it.point ≡ n → it.writes ≡ writes → IsAccessAt d p facts k n writes it → IsSame n writes a at it
  same_of n writes a at it m e w x =
      let place : a ≡ x.place = (one_access p n writes writes a x.place at x.at).place in
      let func : at.func ≡ x.at.func = same_func p n writes writes a x.place at x.at in
      let id : at.id ≡ x.at.id = same_id p n writes writes a x.place at x.at in
      record {
        one = m;
        stands = e;
        kind = w;
        volatile = x.volatile ∙ sym (ap (λ (g : Func). is_volatile_in (place_type p g.locals a)) func ∙ ap (λ (b : Place). is_volatile_in (place_type p x.at.func.locals b)) place);
        outside = λ array r o. x.outside.1 (
          r,
          (
            array,
            subst (λ (b : Place). MayBeOutside d p x.at.id x.at.func (registers_at facts x.at.func n) b array) place
                (subst (λ (g : Func). MayBeOutside d p x.at.id g (registers_at facts g n) a array) func
                (subst (λ (i : ℕ). MayBeOutside d p i at.func (registers_at facts at.func n) a array) id o)),
          ),
        );
        reached = x.reached;
        on = x.on;
        by_handler = x.by_handler ∙ ap (mark_of facts.by_handler) (sym id);
        levels = x.levels ∙ ap (levels_of facts.levels) (sym id);
        from = x.from ∙ ap (levels_of facts.from) (sym id);
      }

  listed : (n : ℕ) (writes : Bool) (a : Place) (at : AccessesAt p n writes a) → Named n at.id at.func a → (it : Access) × IsSame n writes a at it
  listed n writes a at names =
      let w = own.all n writes a at names in
      (w.0, same_of n writes a at w.0 w.1 w.2 w.3 (subst (λ (m : ℕ). IsAccessAt d p facts k m writes w.0) w.2 (one_of w.0 w.1 writes w.3)))

  there_reached : (n id : ℕ) (f : Func) (a : Place) → MayName p d facts n id f a k → is_some (fact_at facts n) ≡ true
  there_reached n id f a m = ap is_some m.reached

  of_access : (n : ℕ) (writes : Bool) (x : IsAccess p d facts writes k n) → (it : Access) × IsSame n writes x.place x.at it
  of_access n writes x = listed n writes x.place x.at (inr x.names)

  reached_there : (n : ℕ) (writes : Bool) (x : IsAccess p d facts writes k n) (it : Access) → IsSame n writes x.place x.at it → it.is_reached ≡ true
  reached_there n writes x it s = s.reached ∙ there_reached n x.at.id x.at.func x.place x.names

  -- ---- reads and writes

  ascending : (test : Access → Bool) → AllPairs (λ m n. m < n) (points_of test accesses)
  ascending test = pairs_map (λ (x : Access). x.point) (filter test accesses) (AllPairs-filter (λ (x y : Access). x.point < y.point) test accesses own.ascend)

  point_of : (test : Access → Bool) (writes : Bool) → ((it : Access) → test it ≡ true → (it.is_reached ≡ true) × (it.writes ≡ writes)) → (n : ℕ) → Contains (points_of test accesses) n → IsAccess p d facts writes k n
  point_of test writes means n c =
      let w = of_map (λ (x : Access). x.point) (filter test accesses) n c in
      let m = inside test accesses w.0 w.1 in
      let t = means w.0 (passes test accesses w.0 w.1) in
      subst (λ (i : ℕ). IsAccess p d facts writes k i) w.2 (access_of w.0.point writes w.0 (one_of w.0 m writes t.1) t.0)

  in_points : (test : Access → Bool) (writes : Bool) → ((it : Access) → it.is_reached ≡ true → it.writes ≡ writes → test it ≡ true) → (n : ℕ) → IsAccess p d facts writes k n → Contains (points_of test accesses) n
  in_points test writes means n x =
      let (it, s) = of_access n writes x in
      subst (λ (i : ℕ). Contains (points_of test accesses) i) s.stands
      (in_map (λ (y : Access). y.point) (filter test accesses) it (kept test accesses it s.one (means it (reached_there n writes x it s) s.kind)))

  pub are_reads : AreAccesses p d facts false k (points_of is_reached_read accesses)
  are_reads = record {
    all = λ n. (
      point_of is_reached_read false (λ it t. let w = both it.is_reached (not it.writes) t in (w.0, isnt it.writes w.1)) n,
      in_points is_reached_read false (λ it r e. as_both it.is_reached (not it.writes) r (as_isnt it.writes e)) n,
    );
    ascend = ascending is_reached_read;
  }

  pub are_writes : AreAccesses p d facts true k (points_of is_reached_write accesses)
  are_writes = record {
    all = λ n. (
      point_of is_reached_write true (λ it t. both it.is_reached it.writes t) n,
      in_points is_reached_write true (λ it r e. as_both it.is_reached it.writes r e) n,
    );
    ascend = ascending is_reached_write;
  }

  -- ---- the class

  in_handler : (test : Access → Bool) (writes : Bool) → ((it : Access) → test it ≡ true → (it.is_reached ≡ true) × (it.writes ≡ writes)) → list_any (λ (x : Access). test x && x.by_handler) accesses ≡ true → IsHandlerAccess p d facts writes k
  in_handler test writes means h =
      let (it, m, t) = there (λ (x : Access). test x && x.by_handler) accesses h in
      let w = both (test it) it.by_handler t in
      let v = means it w.0 in
      let x = one_of it m writes v.1 in
      (it.point, access_of it.point writes it x v.0, sym x.by_handler ∙ w.1)

  none_in_handler : (test : Access → Bool) (writes : Bool) → ((it : Access) → it.is_reached ≡ true → it.writes ≡ writes → test it ≡ true) → list_any (λ (x : Access). test x && x.by_handler) accesses ≡ false → IsHandlerAccess p d facts writes k → ⊥
  none_in_handler test writes means h (n, x, mark) =
      let (it, s) = of_access n writes x in
      true≢false (sym (here (λ (y : Access). test y && y.by_handler) accesses it s.one (as_both (test it) it.by_handler (means it (reached_there n writes x it s) s.kind) (s.by_handler ∙ mark))) ∙ h)

  read_means : (it : Access) → is_reached_read it ≡ true → (it.is_reached ≡ true) × (it.writes ≡ false)
  read_means it t = let w = both it.is_reached (not it.writes) t in (w.0, isnt it.writes w.1)

  means_read : (it : Access) → it.is_reached ≡ true → it.writes ≡ false → is_reached_read it ≡ true
  means_read it r e = as_both it.is_reached (not it.writes) r (as_isnt it.writes e)

  by_tests : (r w : Bool) → list_any reads_in_handler accesses ≡ r → list_any writes_in_handler accesses ≡ w → IsClass p d facts k (class_by r w)
  by_tests true true h m = in_handler is_reached_write true (λ it t. both it.is_reached it.writes t) m
  by_tests false true h m = in_handler is_reached_write true (λ it t. both it.is_reached it.writes t) m
  by_tests true false h m = (in_handler is_reached_read false read_means h, none_in_handler is_reached_write true (λ it r e. as_both it.is_reached it.writes r e) m)
  by_tests false false h m = (none_in_handler is_reached_read false means_read h, none_in_handler is_reached_write true (λ it r e. as_both it.is_reached it.writes r e) m)

  pub is_class : IsClass p d facts k (class_of accesses)
  is_class = by_tests (list_any reads_in_handler accesses) (list_any writes_in_handler accesses) refl refl

  -- ---- volatile accesses

  pub volatile_found : is_volatile_somewhere accesses ≡ true → IsVolatile p d facts k
  volatile_found h =
      let (it, m, t) = there (λ (x : Access). x.is_volatile) accesses h in
      let x = own.each it m in
      IsAccessedVolatile it.point it.writes x.place x.at (sym x.volatile ∙ t) x.names

  pub volatile_there : (n : ℕ) (writes : Bool) (a : Place) (at : AccessesAt p n writes a) → is_volatile_in (place_type p at.func.locals a) ≡ true → Named n at.id at.func a → is_volatile_somewhere accesses ≡ true
  volatile_there n writes a at volatile names =
      let (it, s) = listed n writes a at names in
      here (λ (x : Access). x.is_volatile) accesses it s.one (s.volatile ∙ volatile)

  -- ---- elements outside the array

  array_is : (n id : ℕ) (f : Func) (a : Place) (array : Key) → is_some (fact_at facts n) ≡ true → Named n id f a → MayBeOutside d p id f (registers_at facts f n) a array → array ≡ k
  array_is n id f a array reached names o =
      let m = may_name n id f a reached names in
      own_named d p id f (registers_at facts f n) a m.keys array k (own_element p id f a o.array o.subscript o.form ∙ o.names) m.named m.one

  pub unbounded_found : is_unbounded accesses ≡ true → IsUnbounded p d facts k
  unbounded_found h =
      let (it, m, t) = there (λ (x : Access). x.may_be_outside) accesses h in
      let x = own.each it m in
      let o = x.outside.0 t in
      let fact = known (fact_at facts it.point) o.0 in
      record {
        point = it.point;
        writes = it.writes;
        place = x.place;
        at = x.at;
        fact = fact.0;
        reached = fact.1;
        may_be = subst (MayBeOutside d p x.at.id x.at.func (registers_at facts x.at.func it.point) x.place) (array_is it.point x.at.id x.at.func x.place o.1.0 o.0 x.names o.1.1) o.1.1;
      }

  pub unbounded_there : IsUnbounded p d facts k → is_unbounded accesses ≡ true
  unbounded_there u =
      let form : NamesByForm p u.at.id u.at.func u.place k = own_element p u.at.id u.at.func u.place u.may_be.array u.may_be.subscript u.may_be.form ∙ u.may_be.names in
      let (it, s) = listed u.point u.writes u.place u.at (inl form) in
      here (λ (x : Access). x.may_be_outside) accesses it s.one (s.outside k (ap is_some u.reached) u.may_be)

  -- ---- accesses that an interrupt divides

  pub torn_found : (class : Class) (bytes : ℕ) → is_torn accesses class bytes p.target.atomic_bytes ≡ true → IsTorn p d facts k class bytes
  torn_found class bytes h =
      let some = list_any (is_entered (levels_from accesses)) accesses in
      let w = both (nat_lt p.target.atomic_bytes bytes) (not (is_lone class) && some) h in
      let v = both (not (is_lone class)) some w.1 in
      let (it, m, t) = there (is_entered (levels_from accesses)) accesses v.1 in
      let u = both it.is_reached (it.may_be_on && one_may_enter it.levels (levels_from accesses)) t in
      let e = both it.may_be_on (one_may_enter it.levels (levels_from accesses)) u.1 in
      let x = own.each it m in
      let other = entered it.levels accesses e.1 in
      let y = own.each other.it other.one in
      let on = on_of (fact_at facts it.point) (sym x.on ∙ e.0) in
      record {
        wide = less p.target.atomic_bytes bytes w.0;
        shared = lone class (isnt (is_lone class) v.0);
        point = it.point;
        writes = it.writes;
        access = access_of it.point it.writes it x u.0;
        fact = on.0;
        reached = on.1;
        may_be_on = on.2;
        entered = other.it.point;
        other_writes = other.it.writes;
        other = access_of other.it.point other.it.writes other.it y other.reached;
        enters = sym (ap (λ l. one_may_enter l other.it.from) x.levels ∙ ap (one_may_enter (levels_of facts.levels x.at.id)) y.from) ∙ other.enters;
      }

  pub torn_there : (class : Class) (bytes : ℕ) → IsTorn p d facts k class bytes → is_torn accesses class bytes p.target.atomic_bytes ≡ true
  torn_there class bytes u =
      let (it, s) = of_access u.point u.writes u.access in
      let (other, o) = of_access u.entered u.other_writes u.other in
      let levels : one_may_enter it.levels other.from ≡ true = ap (λ l. one_may_enter l other.from) s.levels ∙ (ap (one_may_enter (levels_of facts.levels u.access.at.id)) o.from ∙ u.enters) in
      let enters : one_may_enter it.levels (levels_from accesses) ≡ true =
      enters_from it.levels accesses (record { it = other; one = o.one; reached = reached_there u.entered u.other_writes u.other other o; enters = levels }) in
      let on : it.may_be_on ≡ true = s.on ∙ (ap may_be_on u.reached ∙ u.may_be_on) in
      let some : list_any (is_entered (levels_from accesses)) accesses ≡ true =
      here (is_entered (levels_from accesses)) accesses it s.one
      (as_both it.is_reached (it.may_be_on && one_may_enter it.levels (levels_from accesses)) (reached_there u.point u.writes u.access it s) (as_both it.may_be_on (one_may_enter it.levels (levels_from accesses)) on enters)) in
      as_both (nat_lt p.target.atomic_bytes bytes) (not (is_lone class) && list_any (is_entered (levels_from accesses)) accesses) (as_less p.target.atomic_bytes bytes u.wide)
      (as_both (not (is_lone class)) (list_any (is_entered (levels_from accesses)) accesses) (as_isnt (is_lone class) (not_lone class u.shared)) some)
