-- The names of a normal program may name something: each stands in a list of names that are tested.
use Rattle.std.proofs.Common.{◌≡◌, ℕ, zero, suc, true, List, [], ◌∷◌, ◌++◌, map, Option, Some, None, ap, sym, ◌∙◌, subst, slice_get}
use Rattle.std.specs.List.{list_all}
use Rattle.std.proofs.lemmas.List.Folds.{list_all-append}
use Rattle.cc_program.specs.CcWords.Names.{is_name, are_distinct}
use Rattle.cc_lex.proofs.Booleans.{and-true}
use Rattle.cc_bodies.specs.Stmts.{intrinsic_name}
use Rattle.cc_expression_trees.specs.Names.{HasNames}
use Rattle.cc_program.specs.declared.expr.Intr.{Intr}
use Rattle.cc_program.specs.declared.expr.Intr.TheVariants as intr
use Rattle.cc_program.specs.declared.func.Func.{Func}
use Rattle.cc_program.specs.declared.object.Device.{Device}
use Rattle.cc_program.specs.declared.object.Object.{Object}
use Rattle.cc_program.specs.declared.program.Program.{Program}
use Rattle.cc_program.specs.declared.program.Roles.{Roles}
use Rattle.cc_program.specs.declared.types.Structure.{Structure}
use Rattle.cc_typed.specs.CcSyntax.Names.{are_names, with_name, device_names, intrinsic_names, file_names, tags, local_names}
use Rattle.cc_typed.specs.CcSyntax.Sound.{IsFunc, IsSound}
use Rattle.cc_typed.specs.CcSyntax.Types.{Named}
use Rattle.cc_unit_trees.proofs.Structures.{structure-at}

abbrev pub AreNames : List (List ℕ) → Type 0
AreNames names = list_all is_name names ≡ true

pub named-all : (names : List (List ℕ)) → are_names names ≡ true → AreNames names
named-all names h = (and-true (list_all is_name names) (are_distinct names) h).0

pub both-named : (xs ys : List (List ℕ)) → AreNames (xs ++ ys) → AreNames xs × AreNames ys
both-named xs ys h = and-true (list_all is_name xs) (list_all is_name ys) (sym (list_all-append is_name xs ys) ∙ h)

-- a name that an element has
pub mapped-at : {A : Type 0} (name : A → List ℕ) (xs : List A) → AreNames (map name xs) → (i : ℕ) (x : A) → slice_get xs i ≡ Some x → is_name (name x) ≡ true
mapped-at name [] h i x e = absurd (cc)
mapped-at name (y ∷ ys) h zero x e = let k : y ≡ x = cc in subst (λ z. is_name (name z) ≡ true) k (and-true (is_name (name y)) (list_all is_name (map name ys)) h).0
mapped-at name (y ∷ ys) h (suc i) x e = mapped-at name ys (and-true (is_name (name y)) (list_all is_name (map name ys)) h).1 i x e

behind-name : (o : Option (List ℕ)) (names : List (List ℕ)) → AreNames (with_name o names) → AreNames names
behind-name None names h = h
behind-name (Some x) names h = (and-true (is_name x) (list_all is_name names) h).1

first-name : (o : Option (List ℕ)) (names : List (List ℕ)) → AreNames (with_name o names) → (x : List ℕ) → o ≡ Some x → is_name x ≡ true
first-name None names h x e = absurd (cc)
first-name (Some y) names h x e = let k : y ≡ x = cc in subst (λ z. is_name z ≡ true) k (and-true (is_name y) (list_all is_name names) h).0

pub device-named : (ds : List Device) → AreNames (device_names ds) → (i : ℕ) (d : Device) (x : List ℕ) → slice_get ds i ≡ Some d → d.name ≡ Some x → is_name x ≡ true
device-named [] h i d x e k = absurd (cc)
device-named (c ∷ ds) h zero d x e k = let q : c ≡ d = cc in first-name c.name (device_names ds) h x (ap (λ (z : Device). z.name) q ∙ k)
device-named (c ∷ ds) h (suc i) d x e k = device-named ds (behind-name c.name (device_names ds) h) i d x e k

-- the four intrinsics
pub intrinsic-named : (roles : Roles) → AreNames (intrinsic_names roles) → (i : Intr) → is_name (intrinsic_name roles i) ≡ true
intrinsic-named roles h intr.Off = (and-true (is_name roles.off) _ h).0
intrinsic-named roles h intr.On = (and-true (is_name roles.on) _ (and-true (is_name roles.off) _ h).1).0
intrinsic-named roles h intr.Save = (and-true (is_name roles.save) _ (and-true (is_name roles.on) _ (and-true (is_name roles.off) _ h).1).1).0
intrinsic-named roles h intr.Restore = (and-true (is_name roles.restore) _ (and-true (is_name roles.save) _ (and-true (is_name roles.on) _ (and-true (is_name roles.off) _ h).1).1).1).0

-- ---- of a sound program

module _ (p : Program) (h : IsSound p) where
  -- the parts of what a file declares
  pub record FileNames : Type 0 where
    pub devices : AreNames (device_names p.devices)
    pub objects : AreNames (map (λ (o : Object). o.name) p.objects)
    pub funcs : AreNames (map (λ (f : Func). f.name) p.funcs)
    pub intrinsics : AreNames (intrinsic_names p.roles)

  pub file-names : FileNames
  file-names =
      let a = both-named (device_names p.devices) (map (λ (o : Object). o.name) p.objects ++ (map (λ (f : Func). f.name) p.funcs ++ intrinsic_names p.roles)) (named-all (file_names p) h.names) in
      let b = both-named (map (λ (o : Object). o.name) p.objects) (map (λ (f : Func). f.name) p.funcs ++ intrinsic_names p.roles) a.1 in
      let c = both-named (map (λ (f : Func). f.name) p.funcs) (intrinsic_names p.roles) b.1 in
      record { devices = a.0; objects = b.0; funcs = c.0; intrinsics = c.1 }

  pub tag-named : (i : ℕ) (s : Structure) → slice_get p.structures i ≡ Some s → is_name s.tag ≡ true
  tag-named i s e = mapped-at (λ (s : Structure). s.tag) p.structures (named-all (tags p) h.tag_names) i s e

  pub member-named : (i j : ℕ) (s : Structure) (m : Named) → slice_get p.structures i ≡ Some s → slice_get s.members j ≡ Some m → is_name m.0 ≡ true
  member-named i j s m e k =
      let q = structure-at p h i s e in
      mapped-at (λ (m : Named). m.0) s.members (named-all (local_names s.members) q.0) j m k

  pub names-of : (f : Func) → IsFunc p f → HasNames p f
  names-of f k = record {
    locals = λ i l e. mapped-at (λ (l : Named). l.0) f.locals (both-named (local_names f.locals) (file_names p) (named-all (local_names f.locals ++ file_names p) k.names)).0 i l e;
    objects = λ i o e. mapped-at (λ (o : Object). o.name) p.objects file-names.objects i o e;
    funcs = λ i f e. mapped-at (λ (f : Func). f.name) p.funcs file-names.funcs i f e;
    devices = λ i d x e k. device-named p.devices file-names.devices i d x e k;
    tags = tag-named;
    members = member-named;
  }
