-- Places that are added for the members of structures, for objects and for locals, one after the other.
use Rattle.std.proofs.Common.{arith, ◌≡◌, ◌<◌, ◌+◌, ◌*◌, ℕ, Bool, true, false, ◌&&◌, ◌||◌, List, [], length, take, get_or, sum_by, refl, ap, sym, ◌∙◌, if◌then◌else◌}
use Rattle.std.specs.List.{list_any}
use Rattle.std.proofs.Math.Nat.{mul-add}
use Rattle.std.proofs.lemmas.List.Folds.{list_any_more}
use Rattle.std.proofs.lemmas.List.Sums.{sum_by_more}
use Rattle.cc_program.specs.Qualifiers.{is_const}
use Rattle.cc_program.specs.declared.func.Func.{Func}
use Rattle.cc_program.specs.declared.object.Object.{Object}
use Rattle.cc_slots_structures.specs.declared.standing.Standing.{Standing}
use Rattle.cc_slots_structures.specs.Added.{AreAdded}
use Rattle.cc_slots_structures.specs.Copies.{capped, copies_in, copies_in_members, copies_of}
use Rattle.cc_slots_structures.specs.Stands.{stands_in, stands_in_locals, stands_in_objects}
use Rattle.cc_slots_structures.proofs.AddedLemmas.{added_as, added_both, none_added}
use Rattle.cc_syntax.specs.Types.{Named}

both_or : (o a b : Bool) → ((o && a) || (o && b)) ≡ (o && (a || b))
both_or true a b = refl
both_or false a b = refl

-- a test that one more of a list may pass
any_more : {A : Type 0} (test : A → Bool) (xs : List A) (i : ℕ) (x : A) → i < length xs → x ≡ get_or xs i x → (list_any test (take i xs) || test x) ≡ list_any test (take (i + 1) xs)
any_more test xs i x lt is = sym (list_any_more test xs i x lt ∙ ap (λ y. list_any test (take i xs) || test y) (sym is))

sum_more : {A : Type 0} (f : A → ℕ) (xs : List A) (i : ℕ) (x : A) → i < length xs → x ≡ get_or xs i x → sum_by f (take i xs) + f x ≡ sum_by f (take (i + 1) xs)
sum_more f xs i x lt is = sym (sum_by_more f xs i x lt ∙ ap (λ y. sum_by f (take i xs) + f y) (sym is))

module _ (first : ℕ) (place : Standing) where
  -- for some members or locals
  abbrev pub ForMembers : List Named → List Standing → List Standing → Type 0
  ForMembers members old new =
      AreAdded first (λ counts. place.copies * copies_in_members counts members) (λ there. place.is_open && list_any (λ (m : Named). stands_in false there m.1) members)
      (λ there. place.is_automatic && list_any (λ (m : Named). stands_in true there m.1) members) old new

  pub no_members : (old : List Standing) → ForMembers [] old old
  no_members old =
      none_added first old old (λ counts. place.copies * copies_in_members counts []) (λ there. place.is_open && list_any (λ (m : Named). stands_in false there m.1) []) (λ there. place.is_automatic && list_any (λ (m : Named). stands_in true there m.1) []) refl
      (λ counts same. let none : place.copies * 0 ≡ 0 = omega arith in none) (λ there same. none_of place.is_open) (λ there same. none_of place.is_automatic)
    where
      none_of : (b : Bool) → (b && false) ≡ false
      none_of true = refl
      none_of false = refl

  pub members_more : (members : List Named) (i : ℕ) (m : Named) (old mid new : List Standing) → i < length members → m ≡ get_or members i m → ForMembers (take i members) old mid →
      AreAdded first (λ counts. place.copies * copies_in counts m.1) (λ there. place.is_open && stands_in false there m.1) (λ there. place.is_automatic && stands_in true there m.1) mid new → ForMembers (take (i + 1) members) old new
  members_more members i m old mid new lt is h k =
      added_as first old new
      (λ counts. place.copies * copies_in_members counts (take i members) + place.copies * copies_in counts m.1) (λ counts. place.copies * copies_in_members counts (take (i + 1) members))
      (λ there. (place.is_open && list_any (λ (m : Named). stands_in false there m.1) (take i members)) || (place.is_open && stands_in false there m.1)) (λ there. place.is_open && list_any (λ (m : Named). stands_in false there m.1) (take (i + 1) members))
      (λ there. (place.is_automatic && list_any (λ (m : Named). stands_in true there m.1) (take i members)) || (place.is_automatic && stands_in true there m.1)) (λ there. place.is_automatic && list_any (λ (m : Named). stands_in true there m.1) (take (i + 1) members))
      (added_both first old new (λ counts. place.copies * copies_in_members counts (take i members)) (λ counts. place.copies * copies_in counts m.1)
      (λ there. place.is_open && list_any (λ (m : Named). stands_in false there m.1) (take i members)) (λ there. place.is_open && stands_in false there m.1)
      (λ there. place.is_automatic && list_any (λ (m : Named). stands_in true there m.1) (take i members)) (λ there. place.is_automatic && stands_in true there m.1) mid h k)
      (λ counts. ap capped (sym (mul-add place.copies (copies_in_members counts (take i members)) (copies_in counts m.1)) ∙ ap (λ n. place.copies * n) (sum_more (λ (m : Named). copies_in counts m.1) members i m lt is)))
      (λ there. both_or place.is_open (list_any (λ (m : Named). stands_in false there m.1) (take i members)) (stands_in false there m.1) ∙ ap (λ b. place.is_open && b) (any_more (λ (m : Named). stands_in false there m.1) members i m lt is))
      (λ there. both_or place.is_automatic (list_any (λ (m : Named). stands_in true there m.1) (take i members)) (stands_in true there m.1) ∙ ap (λ b. place.is_automatic && b) (any_more (λ (m : Named). stands_in true there m.1) members i m lt is))

module _ (first : ℕ) where
  -- for some static objects
  abbrev pub ForObjects : List Object → List Standing → List Standing → Type 0
  ForObjects objects old new = AreAdded first (λ counts. sum_by (copies_of counts) objects) (λ there. stands_in_objects false there objects) (λ there. false) old new

  pub no_objects : (old : List Standing) → ForObjects [] old old
  no_objects old = none_added first old old (λ counts. sum_by (copies_of counts) []) (λ there. stands_in_objects false there []) (λ there. false) refl (λ counts same. refl) (λ there same. refl) (λ there same. refl)

  once : (c : Bool) (n k : ℕ) → k ≡ (if c then 0 else 1) → k * n ≡ (if c then 0 else n)
  once true n k e = ap (λ m. m * n) e ∙ (let z : 0 * n ≡ 0 = omega arith in z)
  once false n k e = ap (λ m. m * n) e ∙ (let z : 1 * n ≡ n = omega arith in z)

  pub objects_more : (objects : List Object) (i : ℕ) (o : Object) (place : Standing) (old mid new : List Standing) → i < length objects → o ≡ get_or objects i o → place.copies ≡ (if is_const o.ctype then 0 else 1) → place.is_open ≡ true → place.is_automatic ≡ false →
      ForObjects (take i objects) old mid →
      AreAdded first (λ counts. place.copies * copies_in counts o.ctype) (λ there. place.is_open && stands_in false there o.ctype) (λ there. place.is_automatic && stands_in true there o.ctype) mid new → ForObjects (take (i + 1) objects) old new
  objects_more objects i o place old mid new lt is copied opened automatic h k =
      added_as first old new
      (λ counts. sum_by (copies_of counts) (take i objects) + place.copies * copies_in counts o.ctype) (λ counts. sum_by (copies_of counts) (take (i + 1) objects))
      (λ there. stands_in_objects false there (take i objects) || (place.is_open && stands_in false there o.ctype)) (λ there. stands_in_objects false there (take (i + 1) objects))
      (λ there. false || (place.is_automatic && stands_in true there o.ctype)) (λ there. false)
      (added_both first old new (λ counts. sum_by (copies_of counts) (take i objects)) (λ counts. place.copies * copies_in counts o.ctype)
      (λ there. stands_in_objects false there (take i objects)) (λ there. place.is_open && stands_in false there o.ctype) (λ there. false) (λ there. place.is_automatic && stands_in true there o.ctype) mid h k)
      (λ counts. ap capped (ap (λ n. sum_by (copies_of counts) (take i objects) + n) (once (is_const o.ctype) (copies_in counts o.ctype) place.copies copied) ∙ sum_more (copies_of counts) objects i o lt is))
      (λ there. ap (λ b. stands_in_objects false there (take i objects) || (b && stands_in false there o.ctype)) opened ∙ any_more (λ (o : Object). stands_in false there o.ctype) objects i o lt is)
      (λ there. ap (λ b. b && stands_in true there o.ctype) automatic)

  -- for the locals of some functions
  abbrev pub ForLocals : List Func → List Standing → List Standing → Type 0
  ForLocals funcs old new = AreAdded first (λ counts. 0) (λ there. stands_in_locals false there funcs) (λ there. stands_in_locals true there funcs) old new

  pub no_locals : (old : List Standing) → ForLocals [] old old
  no_locals old = none_added first old old (λ counts. 0) (λ there. stands_in_locals false there []) (λ there. stands_in_locals true there []) refl (λ counts same. refl) (λ there same. refl) (λ there same. refl)

  pub locals_more : (funcs : List Func) (i : ℕ) (f : Func) (place : Standing) (old mid new : List Standing) → i < length funcs → f ≡ get_or funcs i f → place.copies ≡ 0 → place.is_open ≡ true → place.is_automatic ≡ true →
      ForLocals (take i funcs) old mid → ForMembers first place f.locals mid new → ForLocals (take (i + 1) funcs) old new
  locals_more funcs i f place old mid new lt is copied opened automatic h k =
      added_as first old new
      (λ counts. 0 + place.copies * copies_in_members counts f.locals) (λ counts. 0)
      (λ there. stands_in_locals false there (take i funcs) || (place.is_open && list_any (λ (m : Named). stands_in false there m.1) f.locals)) (λ there. stands_in_locals false there (take (i + 1) funcs))
      (λ there. stands_in_locals true there (take i funcs) || (place.is_automatic && list_any (λ (m : Named). stands_in true there m.1) f.locals)) (λ there. stands_in_locals true there (take (i + 1) funcs))
      (added_both first old new (λ counts. 0) (λ counts. place.copies * copies_in_members counts f.locals)
      (λ there. stands_in_locals false there (take i funcs)) (λ there. place.is_open && list_any (λ (m : Named). stands_in false there m.1) f.locals)
      (λ there. stands_in_locals true there (take i funcs)) (λ there. place.is_automatic && list_any (λ (m : Named). stands_in true there m.1) f.locals) mid h k)
      (λ counts. ap capped (ap (λ n. 0 + n * copies_in_members counts f.locals) copied ∙ (let z : 0 + 0 * copies_in_members counts f.locals ≡ 0 = omega arith in z)))
      (λ there. ap (λ b. stands_in_locals false there (take i funcs) || (b && list_any (λ (m : Named). stands_in false there m.1) f.locals)) opened ∙ any_more (λ (f : Func). list_any (λ (m : Named). stands_in false there m.1) f.locals) funcs i f lt is)
      (λ there. ap (λ b. stands_in_locals true there (take i funcs) || (b && list_any (λ (m : Named). stands_in true there m.1) f.locals)) automatic ∙ any_more (λ (f : Func). list_any (λ (m : Named). stands_in true there m.1) f.locals) funcs i f lt is)
