-- What is asked at a point is the same of facts that are the same in what is read.
use Rattle.std.proofs.Common.{◌≡◌, ℕ, Bool, List, [], ◌∷◌, cond, Contains, Option, Some, None, slice_get, refl, ap, sym, ◌∙◌, subst}
use Rattle.std.specs.Prelude.{option_and_then}
use Rattle.std.specs.List.{filter}
use Rattle.cc_rules.specs.CcFlow.declared.types.Point.{Point}
use Rattle.cc_rules.specs.CcPlaces.declared.abs.Abs.{Abs}
use Rattle.cc_program.specs.declared.expr.Expr.{Expr}
use Rattle.cc_program.specs.declared.expr.Place.{Place, out-Place}
use Rattle.cc_program.specs.declared.func.Func.{Func}
use Rattle.cc_program.specs.declared.program.Program.{Program}
use Rattle.cc_rules.specs.Rules.{AreValues, AreNumbers, AreKeys}
use Rattle.cc_rules.specs.CcRulesFlows.Acts.{Act}
use Rattle.cc_rules.specs.CcRulesFlows.Flows.{Flows, OfSets, OfReads, OfWrites, OfTurns, OfSaves, OfSavesAlone, OfRestores, OfTests, OfReturns, OfPasses, OfCalls, Side, Taken, Barred, Untaken, IsSide, IsTaken, AreSides, equals, equal_to}
use Rattle.cc_rules.specs.CcRulesFlows.Tests.{Test, MayPass, IsLeft, IsLeftBy}
use Rattle.cc_rules.specs.CcRulesNeeds.Flowing.{Flowing}
use Rattle.cc_rules_reads.specs.Reads.{MayName, AreSameRead}
use Rattle.cc_rules_reads.proofs.Formed.{named_formed}
use Rattle.cc_state.proofs.Lists.{from_filter}
use Rattle.cc_rules.specs.CcStateFacts.declared.facts.Facts.{Facts}
use Rattle.cc_rules.specs.CcStateFacts.declared.facts.Key.{Key}
use Rattle.cc_rules.specs.CcStateFacts.declared.facts.PointFact.{PointFact}
use Rattle.cc_rules.specs.CcStateFacts.Facts.{fact_at, cell_of, local_of}
use Rattle.cc_rules.specs.CcStateKeys.Keys.{keys_of, key_number}
use Rattle.cc_rules.specs.CcStateKeys.Tracked.{registers, register_number}
use Rattle.cc_rules.specs.CcStateOperators.Domains.{Domain, IsUnion}
use Rattle.cc_rules.specs.CcStateReads.Named.{is_among}
use Rattle.cc_rules.specs.CcStateReads.Reads.{registers_at, whole_of, tracked_in, IsOfKeys, AreNamed, IsByKeys, IsRead, OfTracked, OfDevice, OfOther}
use Rattle.cc_rules.specs.CcStateValues.Values.{IsVal}

pub filter_same : {A : Type 0} (test other : A → Bool) (xs : List A) → ((x : A) → test x ≡ other x) → filter test xs ≡ filter other xs
filter_same test other [] same = refl
filter_same test other (x ∷ xs) same = ap (λ rest. cond (test x) (x ∷ rest) rest) (filter_same test other xs same) ∙ ap (λ b. cond b (x ∷ filter other xs) (filter other xs)) (same x)

-- a union of values of which others are the same
union_same : {I : Type 0} (d : Domain I) (kind y : Abs I) (values others : Abs I → Type 0) → ((z : Abs I) → values z → others z) → ((z : Abs I) → others z → values z) → IsUnion d kind values y → IsUnion d kind others y
union_same d kind y values others there back h = record {
  alike = h.alike;
  above = λ z o. h.above z (back z o);
  least = λ u alike upper. h.least u alike (λ z v. upper z (there z v));
}

module _ {I : Type 0} (d : Domain I) (p : Program) (n id : ℕ) (f : Func) (point : Point) (fact : PointFact I) where
  registers_same : (facts others : Facts I) → fact_at facts n ≡ fact_at others n → registers_at facts f n ≡ registers_at others f n
  registers_same facts others same = ap (λ (known : Option (PointFact I)). λ (r : ℕ). option_and_then (λ (q : ℕ). option_and_then (λ (x : PointFact I). local_of x q) known) (register_number f r)) same

  pub value_same : (facts others : Facts I) → fact_at facts n ≡ fact_at others n → (e : Expr) (y : Abs I) → IsVal d p id f (registers_at facts f n) e y → IsVal d p id f (registers_at others f n) e y
  value_same facts others same e y h = subst (λ (sets : ℕ → Option (Abs I)). IsVal d p id f sets e y) (registers_same facts others same) h

  pub values_same : (facts others : Facts I) → fact_at facts n ≡ fact_at others n → (es : List Expr) (ys : List (Abs I)) → AreValues d p facts n id f point fact es ys → AreValues d p others n id f point fact es ys
  values_same facts others same [] ys h = h
  values_same facts others same (e ∷ es) ys (y, rest, val, vals, is) = (y, rest, value_same facts others same e y val, values_same facts others same es rest vals, is)

  named_same : (facts others : Facts I) → fact_at facts n ≡ fact_at others n → (a : Place) (keys : List Key) → AreNamed d p id f (registers_at facts f n) a keys → AreNamed d p id f (registers_at others f n) a keys
  named_same facts others same a keys h = subst (λ (sets : ℕ → Option (Abs I)). AreNamed d p id f sets a keys) (registers_same facts others same) h

  numbers_same : (facts others : Facts I) (keys : List Key) (ks : List ℕ) → AreNumbers d p facts n id f point fact keys ks → AreNumbers d p others n id f point fact keys ks
  numbers_same facts others [] ks h = h
  numbers_same facts others (k ∷ keys) ks (number, rest, is, more, e) = (number, rest, is, numbers_same facts others keys rest more, e)

  pub keys_same : (facts others : Facts I) → fact_at facts n ≡ fact_at others n → (a : Place) (ks : List ℕ) → AreKeys d p facts n id f point fact a ks → AreKeys d p others n id f point fact a ks
  keys_same facts others same a ks (keys, named, numbers) = (keys, named_same facts others same a keys named, numbers_same facts others keys ks numbers)

  -- ---- what is read

  module _ (facts others : Facts I) (same : fact_at facts n ≡ fact_at others n) where
    abbrev AreSameWholes : Place → Type 0
    AreSameWholes a = (k : Key) (number : ℕ) → MayName p id f k a → key_number p k ≡ Some number → slice_get facts.whole number ≡ slice_get others.whole number

    whole_same : (a : Place) → AreSameWholes a → (k : Key) → MayName p id f k a → whole_of p facts k ≡ whole_of p others k
    whole_same a wholes k may = by (key_number p k) refl
      where
        by : (number : Option ℕ) → key_number p k ≡ number → option_and_then (slice_get facts.whole) number ≡ option_and_then (slice_get others.whole) number
        by None e = refl
        by (Some number) e = wholes k number may e

    by_keys_same : (a : Place) (y : Abs I) → AreSameWholes a → IsByKeys d p id f (registers_at facts f n) facts a y → IsByKeys d p id f (registers_at others f n) others a y
    by_keys_same a y wholes h = record {
      type = h.type;
      kind = h.kind;
      keys = h.keys;
      is_type = h.is_type;
      is_kind = h.is_kind;
      named = named_same facts others same a h.keys h.named;
      union = union_same d h.kind y (IsOfKeys p facts h.keys) (IsOfKeys p others h.keys) (λ z o. (o.0, o.1, sym (of_key o.0 o.1) ∙ o.2)) (λ z o. (o.0, o.1, of_key o.0 o.1 ∙ o.2)) h.union;
    }
      where
        of_key : (k : Key) → Contains h.keys k → whole_of p facts k ≡ whole_of p others k
        of_key k c =
            let (classes, are, is) = h.named in
            whole_same a wholes k (named_formed d p id f (registers_at facts f n) a classes are k (from_filter (is_among classes) (keys_of p) k (subst (λ (l : List Key). Contains l k) is c)).1)

    read_same : (a : Place) (y : Abs I) → (tracked_in p (out-Place a) ≡ None → AreSameWholes a) → IsRead d p id f (registers_at facts f n) facts n a y → IsRead d p id f (registers_at others f n) others n a y
    read_same a y wholes (OfTracked cell is known) = OfTracked cell is (subst (λ (x : Option (PointFact I)). option_and_then (λ fact. cell_of fact cell) x ≡ Some y) same known)
    read_same a y wholes (OfDevice q is h) = OfDevice q is h
    read_same a y wholes (OfOther untracked no_device h) = OfOther untracked no_device (by_keys_same a y (wholes untracked) h)

  -- ---- where tests pass

  equals_same : (facts others : Facts I) (number : Option ℕ) (cell : ℕ) → equals d p id f facts point n fact number cell ≡ equals d p id f others point n fact number cell
  equals_same facts others None cell = refl
  equals_same facts others (Some number) cell = refl

  equal_same : (facts others : Facts I) (cell : ℕ) → equal_to d p id f facts point n fact cell ≡ equal_to d p id f others point n fact cell
  equal_same facts others cell = filter_same (λ r. equals d p id f facts point n fact (register_number f r) cell) (λ r. equals d p id f others point n fact (register_number f r) cell) (registers f) (λ r. equals_same facts others (register_number f r) cell)

  may_pass : (facts others : Facts I) → fact_at facts n ≡ fact_at others n → (e : Expr) (test : Test) → MayPass d p id f (registers_at facts f n) e test → MayPass d p id f (registers_at others f n) e test
  may_pass facts others same e test h = subst (λ (sets : ℕ → Option (Abs I)). MayPass d p id f sets e test) (registers_same facts others same) h

  side_same : (facts others : Facts I) → fact_at facts n ≡ fact_at others n → (e : Expr) (test : Test) (flow : Flowing I) → IsSide d p id f facts point n fact e test flow → IsSide d p id f others point n fact e test flow
  side_same facts others same e test flow h = record {
    off = h.off;
    on = h.on;
    locals = λ number r y at known. let (z, is, left) = h.locals number r y at known in (z, is, subst (λ (sets : ℕ → Option (Abs I)). IsLeft d p id f sets e test r y z) (registers_same facts others same) left);
    cells = λ cell y known. let (z, is, left) = h.cells cell y known in (
      z,
      is,
      subst (λ (rs : List ℕ). IsLeftBy d p id f (registers_at others f n) e test rs y z) (equal_same facts others cell)
          (subst (λ (sets : ℕ → Option (Abs I)). IsLeftBy d p id f sets e test (equal_to d p id f facts point n fact cell) y z) (registers_same facts others same) left),
    );
    pairs = h.pairs;
  }

  taken_same : (facts others : Facts I) → fact_at facts n ≡ fact_at others n → (e : Expr) (test : Test) (flow : Flowing I) → IsTaken d p id f facts point n fact e test flow → IsTaken d p id f others point n fact e test flow
  taken_same facts others same e test flow h = record { passes = may_pass facts others same e test h.passes; left = h.left }

  one_side_same : (facts others : Facts I) → fact_at facts n ≡ fact_at others n → (e : Expr) (test : Test) (k : ℕ) (flows : List (ℕ × Flowing I)) → Side d p id f facts point n fact e test k flows → Side d p id f others point n fact e test k flows
  one_side_same facts others same e test k flows (Taken flow side taken is) = Taken flow (side_same facts others same e test flow side) (taken_same facts others same e test flow taken) is
  one_side_same facts others same e test k flows (Barred barred is) = Barred (λ may. barred (may_pass others facts (sym same) e test may)) is
  one_side_same facts others same e test k flows (Untaken flow side untaken is) = Untaken flow (side_same facts others same e test flow side) (λ taken. untaken (taken_same others facts (sym same) e test flow taken)) is

  sides_same : (facts others : Facts I) → fact_at facts n ≡ fact_at others n → (e : Expr) (tests : List (Test × ℕ)) (flows : List (ℕ × Flowing I)) → AreSides d p id f facts point n fact e tests flows → AreSides d p id f others point n fact e tests flows
  sides_same facts others same e [] flows h = h
  sides_same facts others same e (t ∷ tests) flows (first, rest, side, sides, is) = (first, rest, one_side_same facts others same e t.0 t.1 first side, sides_same facts others same e tests rest sides, is)

  -- ---- what flows

  pub flows_same : (facts others : Facts I) → fact_at facts n ≡ fact_at others n → (act : Act) (flows : List (ℕ × Flowing I)) → AreSameRead p facts others id f act → Flows d p id f facts point n fact act flows → Flows d p id f others point n fact act flows
  flows_same facts others same act flows read (OfSets r number e y is at val flow) = OfSets r number e y is at (value_same facts others same e y val) flow
  flows_same facts others same act flows read (OfReads r number a y is at h flow) = OfReads r number a y is at (read_same facts others same a y (λ untracked k q may at. read r a k q is untracked may at) h) flow
  flows_same facts others same act flows read (OfWrites a e y is val flow) = OfWrites a e y is (value_same facts others same e y val) flow
  flows_same facts others same act flows read (OfTurns on is flow) = OfTurns on is flow
  flows_same facts others same act flows read (OfSaves r number x is at hull flow) = OfSaves r number x is at hull flow
  flows_same facts others same act flows read (OfSavesAlone is flow) = OfSavesAlone is flow
  flows_same facts others same act flows read (OfRestores e y off on is val says_off says_on flow) = OfRestores e y off on is (value_same facts others same e y val) says_off says_on flow
  flows_same facts others same act flows read (OfTests e tests is sides) = OfTests e tests is (sides_same facts others same e tests flows sides)
  flows_same facts others same act flows read (OfReturns e is flow) = OfReturns e is flow
  flows_same facts others same act flows read (OfPasses is flow) = OfPasses is flow
  flows_same facts others same act flows read (OfCalls result g args is flow) = OfCalls result g args is flow
