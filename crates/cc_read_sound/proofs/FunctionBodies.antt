-- The body of a function definition, in the scope of its parameters.
use Rattle.std.proofs.Common.{arith, ◌≡◌, ℕ, zero, suc, true, false, List, [], ◌∷◌, map, length, Option, Some, None, Ok, refl, ap, sym, ◌∙◌, subst}
use Rattle.std.specs.Prelude.{slice_get}
use Rattle.cc_operand_types.specs.Typed.{MembersStand, is_pointed_kind}
use Rattle.cc_type.specs.CcSyntax.Views.{View, kind_in}
use Rattle.cc_type.specs.CcSyntax.Expressions.{type_of}
use Rattle.cc_program.proofs.Each.{Each}
use Rattle.cc_program.specs.declared.program.Roles.{Roles}
use Rattle.cc_program.specs.declared.stmt.Stmt.{Stmt}
use Rattle.cc_program.specs.declared.types.CType.{CType}
use Rattle.cc_read_sound.specs.Ranges.{each_fits, line_in_range}
use Rattle.cc_type.specs.CcScopes.State.{State, Name, Scope, find_name, or_else, designated, tagged, entered, with_locals}
use Rattle.cc_type.specs.CcScopes.declared.designated.Designated.{Designated}
use Rattle.cc_type.specs.CcScopes.declared.designated.Designated.TheVariants as means
use Rattle.cc_type.specs.CcScopes.declared.designated.Tagged.{Tagged}
use Rattle.cc_type.specs.CcScopes.declared.designated.Tagged.TheVariants as tag
use Rattle.cc_read_sound.proofs.BodyLines.{body_holds}
use Rattle.cc_read_sound.specs.FunctionBodies.{IsFunctionBody}
use Rattle.cc_read_sound.proofs.ParameterTypes.{parameter_complete}
use Rattle.cc_read_sound.specs.Scopes.{IsParameterIn, IsParameterScope}
use Rattle.cc_sound_declarations.proofs.Declaring.{append_nothing, object_wider}
use Rattle.cc_sound_declarations.specs.Declaring.{AreDeclared, AreObjects, lowered}
use Rattle.cc_sound_terms.specs.Growing.{IsTag, StructuresKept}
use Rattle.cc_sound_terms.specs.Knowing.{Stands, KnowsNames, IsObject, IsThere, ObjectsStand}
use Rattle.cc_sound_terms.specs.Ordered.{IsOrdered}
use Rattle.cc_sound_terms.specs.Standing.{ParameterStands}
use Rattle.cc_sound_terms.specs.Typing.{KnowsTypes, Knows}
use Rattle.cc_type.specs.CcSyntax.Statements.{is_sound_body}
use Rattle.cc_type.specs.CcSpecifiers.declared.derivation.Parameter.{Parameter}
use Rattle.cc_type.specs.CcSyntax.Types.{Named}
use Rattle.cc_tree.specs.declared.at.At.{At}
use Rattle.cc_tree.specs.declared.unit.Line.{Line}
use Rattle.cc_type.specs.Functions.{local_of, locals_of}
use Rattle.cc_type.specs.CcTypedBodies.Lines.{line_here}
use Rattle.cc_type.specs.CcTypedBodies.Meanings.{lines_found}
use Rattle.cc_type.specs.CcTypedStatements.Jumps.{no_jumps}

-- ---- parameters as locals

pub parameters_count : (ps : List Parameter) → length (locals_of ps) ≡ length ps
parameters_count [] = refl
parameters_count (p ∷ ps) = ap suc (parameters_count ps)

lowered_none : (ls : List Named) → lowered (length ls) ls ≡ ls
lowered_none [] = refl
lowered_none (l ∷ ls) = ap (λ ls. l ∷ ls) (lowered_none ls)

local_at : (ps : List Parameter) (n : ℕ) (p : Parameter) → slice_get ps n ≡ Some p → slice_get (locals_of ps) n ≡ Some (local_of p)
local_at [] n p h = absurd (cc)
local_at (q ∷ ps) zero p h = ap (λ (o : Parameter). Some (local_of o)) (let w : q ≡ p = cc in w)
local_at (q ∷ ps) (suc n) p h = local_at ps n p h

each_at : (P : Parameter → Type 0) (ps : List Parameter) (n : ℕ) (p : Parameter) → Each P ps → slice_get ps n ≡ Some p → P p
each_at P [] n p e h = absurd (cc)
each_at P (q ∷ ps) zero p e h = subst P (let w : q ≡ p = cc in w) e.0
each_at P (q ∷ ps) (suc n) p e h = each_at P ps n p e.1 h

module _ (v : View) where
  -- ---- what stands in the scope of the parameters, inside that of the file

  -- what a name designates there: what the inner scope says, or what it did
  designated_by : {A : Type 0} (P : A → Type 0) (inner outer : Option A) → ((d : A) → inner ≡ Some d → P d) → ((d : A) → outer ≡ Some d → P d) → (d : A) → or_else inner outer ≡ Some d → P d
  designated_by P None outer f g d h = g d h
  designated_by P (Some e) outer f g d h = f d h

  no_type : (ps : List Parameter) (t : CType) → IsParameterIn v.target ps (means.TypeNamed t) → ⊥
  no_type ps t h = h

  parameter_object : (ps : List Parameter) → Each (ParameterStands v) ps → (d : Designated) → IsParameterIn v.target ps d → IsObject v (locals_of ps) d
  parameter_object ps e (means.Automatic n t) h =
      (local_of h.0, local_at ps n h.0 h.1, h.2, subst (λ (t : CType). is_pointed_kind false (kind_in v t) ≡ true) h.2 (each_at (ParameterStands v) ps n h.0 e h.1).pointed)
  parameter_object ps e (means.Enumerator n) h = h
  parameter_object ps e (means.Linked i) h = elim h [ ]
  parameter_object ps e (means.TypeNamed t) h = elim h [ ]

  module _ (ps : List Parameter) (scope : Scope) (s t : State) (is : IsParameterScope v.target ps scope s) where
    abbrev begun : State
    begun = entered scope (with_locals (locals_of ps) s)

    tag_there : (d : Tagged) → IsTag s.structures d → KnowsTypes v s t → StructuresKept s.structures t.structures → (i : ℕ) → d ≡ tag.StructureTag i → IsThere v i
    tag_there d h k kept i e = let c = h i e in let l = kept i c.0 c.1 in let w = k.structures i l.0 l.1 in (w.extent, w.there)

    pub types_begun : StructuresKept s.structures t.structures → KnowsTypes v s t → KnowsTypes v begun t
    types_begun kept k = record {
      structures = k.structures;
      types = λ x u h. designated_by (λ (d : Designated). d ≡ means.TypeNamed u → Stands v u) (find_name x scope.names) (designated x s.scopes)
          (λ d f e. absurd (no_type ps u (subst (IsParameterIn v.target ps) e (is.names x d f)))) (λ d f e. k.types x u (f ∙ ap Some e)) (means.TypeNamed u) h refl;
      tags = λ x u h. designated_by (λ (d : Tagged). (i : ℕ) → d ≡ tag.StructureTag i → IsThere v i) (find_name x scope.tags) (tagged x s.scopes) (λ d f. tag_there d (is.tags x d f) k kept) (k.tags x) u h;
    }

    pub known_begun : StructuresKept s.structures t.structures → Each (ParameterStands v) ps → KnowsTypes v s t → KnowsNames v t.names → MembersStand v → ObjectsStand v [] s → Knows v (locals_of ps) begun t
    known_begun kept each k n m o = record {
      types = types_begun kept k;
      names = n;
      objects = λ x d h. designated_by (IsObject v (locals_of ps)) (find_name x scope.names) (designated x s.scopes)
          (λ d f. parameter_object ps each d (is.names x d f)) (λ d f. object_wider v [] (locals_of ps) (locals_of ps) d refl (o x d f)) d h;
      members = m;
    }

  pub declared_begun : (ps : List Parameter) (scope : Scope) (s : State) → AreDeclared (length ps) (locals_of ps) (entered scope (with_locals (locals_of ps) s))
  declared_begun ps scope s = record {
    enough = let e = parameters_count ps in omega (arith, e);
    locals = sym (lowered_none (locals_of ps)) ∙ ap (λ (k : ℕ). lowered k (locals_of ps)) (parameters_count ps);
  }

  pub ordered_begun : (ps : List Parameter) (scope : Scope) (s : State) → IsParameterScope v.target ps scope s → IsOrdered s → IsOrdered (entered scope (with_locals (locals_of ps) s))
  ordered_begun ps scope s is o = record {
    listed = o.listed;
    order = o.order;
    tags = λ x u h. designated_by (IsTag s.structures) (find_name x scope.tags) (tagged x s.scopes) (is.tags x) (o.tags x) u h;
  }

  objects_of : (ps : List Parameter) → Each (ParameterStands v) ps → AreObjects v (locals_of ps)
  objects_of [] h = tt
  objects_of (p ∷ ps) h = (parameter_complete v p h.0, objects_of ps h.1)

  pub function_body : (roles : Roles) (defined : List Name) (result : CType) (ps : List Parameter) (scope : Scope) (s : State) → IsOrdered s → IsParameterScope v.target ps scope s →
      (ls : List (At Line)) → each_fits line_in_range ls ≡ true → (r : List Stmt × State) → lines_found no_jumps (map (line_here v.target roles defined result) ls) (entered scope (with_locals (locals_of ps) s)) ≡ Ok r →
      IsFunctionBody v defined result ps scope s r
  function_body roles defined result ps scope s ordered is ls q r h =
      let begun = entered scope (with_locals (locals_of ps) s) in
      let o = body_holds v (length ps) result roles defined ls q no_jumps (locals_of ps) begun r (record { declared = declared_begun ps scope s; ordered = ordered_begun ps scope s is ordered }) h in
      let a = o.goes.locals (length ps) (declared_begun ps scope s) in
      record {
        objects = o.objects;
        goes = o.goes;
        locals = a.locals;
        types = λ k. types_begun ps scope s r.1 is o.goes.structures k;
        complete = λ each k. o.goes.complete tt (types_begun ps scope s r.1 is o.goes.structures k) (objects_of ps each);
        sound = λ there each k n m w. subst (λ (locals : List Named). is_sound_body v.target (type_of v locals) result r.0 ≡ true) (sym a.locals)
            (o.holds o.objects [] (sym (append_nothing o.objects)) (known_begun ps scope s r.1 is o.goes.structures each k n m w) there);
      }
