-- The body of a function is read in the scope of its parameters, and its entry is told of it.
use Rattle.std.proofs.Common.{◌≡◌, ◌⊎◌, inl, inr, ℕ, zero, suc, Bool, true, false, ◌&&◌, List, [], ◌∷◌, ◌++◌, length, map, Option, Some, None, Ok, refl, ap, sym, ◌∙◌, subst, eq-eqb}
use Rattle.std.specs.Prelude.{drop, nat_eq, slice_get}
use Rattle.std.specs.List.{list_all}
use Rattle.cc_operand_types.specs.Typed.{MembersStand}
use Rattle.cc_type.specs.CcOperands.Qualified.{unqualified}
use Rattle.cc_program.proofs.Each.{Each}
use Rattle.cc_program.specs.declared.func.Entry.{Entry}
use Rattle.cc_program.specs.declared.func.Func.{Func}
use Rattle.cc_program.specs.declared.program.Roles.{Roles}
use Rattle.cc_program.specs.declared.stmt.Stmt.{Stmt}
use Rattle.cc_program.specs.declared.types.CType.{CType}
use Rattle.cc_program.specs.declared.types.Shape.{out-Shape}
use Rattle.cc_program.specs.declared.types.Shape.TheOpen as shape
use Rattle.cc_program.specs.declared.types.Sig.{Sig, out-Sig}
use Rattle.cc_read_sound.specs.Ranges.{each_fits, line_in_range}
use Rattle.cc_type.specs.CcScopes.Definitions.{defined_at}
use Rattle.cc_type.specs.CcScopes.State.{State, Name, Scope, change_name, designated, entered, left, outer_scopes, tagged, with_locals}
use Rattle.cc_type.specs.CcScopes.declared.unit.Declared.{Declared}
use Rattle.cc_read_sound.proofs.Entries.{IsFunctionAt, functions_stay}
use Rattle.cc_read_sound.proofs.Locals.{parameters_first, parameters_lowered, parameters_behind, lowered_locals, plain_automatic, objects_behind}
use Rattle.cc_read_sound.proofs.Signatures.{function_params, parameter_kinds, result_kind, result_may_stand, signature_is}
use Rattle.cc_read_sound.proofs.FunctionBodies.{function_body, known_begun, ordered_begun, types_begun}
use Rattle.cc_read_sound.specs.FunctionBodies.{IsFunctionBody, begun}
use Rattle.cc_read_sound.specs.Scopes.{IsParameterScope}
use Rattle.cc_relocated_units.specs.Units.{IsSoundFunction}
use Rattle.cc_sound_declarations.proofs.Entries.{entries_through}
use Rattle.cc_sound_declarations.proofs.Steps.{changed}
use Rattle.cc_sound_declarations.specs.Declaring.{AreObjects, Declares, lowered, unconst}
use Rattle.cc_sound_declarations.specs.Entries.{IsEntry}
use Rattle.cc_sound_terms.proofs.Behind.{entry_stands, knows_back, names_through}
use Rattle.cc_sound_terms.proofs.Closings.{closings_inside}
use Rattle.cc_sound_terms.proofs.Growth.{changed_or_not, changed_there, tag_through}
use Rattle.cc_sound_terms.specs.Behind.{Behind, EntryKept, HasEntry, NameStands, NamesKept, SameKind, Functions}
use Rattle.cc_sound_terms.specs.Knowing.{KnowsNames, ObjectsStand}
use Rattle.cc_sound_terms.specs.Ordered.{IsOrdered}
use Rattle.cc_sound_terms.specs.Standing.{ParameterStands}
use Rattle.cc_sound_terms.specs.Typing.{Knows, KnowsTypes}
use Rattle.cc_type.specs.CcSpecifiers.Declarators.{function_to}
use Rattle.cc_type.specs.CcSpecifiers.declared.derivation.Parameter.{Parameter}
use Rattle.cc_type.specs.CcSyntax.Kinds.{is_object_type, is_sig}
use Rattle.cc_type.specs.CcSyntax.Sound.{are_parameters, is_automatic}
use Rattle.cc_type.specs.CcSyntax.Types.{Named}
use Rattle.cc_type.specs.CcSyntax.Views.{View, kind_in}
use Rattle.cc_tree.specs.declared.at.At.{At}
use Rattle.cc_tree.specs.declared.unit.Line.{Line}
use Rattle.cc_type.specs.Functions.{defined_as, entry_at, function_defined, function_of, locals_of, signature_of}
use Rattle.cc_type.specs.CcTypedBodies.Lines.{line_here}
use Rattle.cc_type.specs.CcTypedBodies.Meanings.{lines_found}
use Rattle.cc_type.specs.CcTypedStatements.Jumps.{no_jumps}
use Rattle.cc_type.specs.CcUnit.declared.unit.UnitKind.{UnitKind}
use Rattle.cc_type.specs.CcUnit.declared.unit.UnitKind.TheVariants as kind

some_is : {A : Type 0} (a b : A) → Some a ≡ Some b → a ≡ b
some_is a b h = cc

nothing_lowered : (k : ℕ) → [] ≡ lowered k []
nothing_lowered zero = refl
nothing_lowered (suc k) = refl

module _ (v : View) (roles : Roles) (defined : List Name) (at : ℕ) (x : Name) (t : CType) (i : ℕ) (ps : List Parameter) (scope : Scope) (s : State) (is : IsParameterScope v.target ps scope s) (ordered : IsOrdered s) (entry : IsFunctionAt s.names i t)
    (lines : List (At Line)) (fit : each_fits line_in_range lines ≡ true) (r : List Stmt × State)
    (found : lines_found no_jumps (map (line_here v.target roles defined (out-Sig (signature_of t)).result) lines) (entered scope (with_locals (locals_of ps) s)) ≡ Ok r) where
  abbrev pub last : State
  last = function_defined at i x t (signature_of t) (length (locals_of ps)) r.0 r.1

  abbrev pub made : Func
  made = function_of x (signature_of t) (length (locals_of ps)) r.1.locals r.0

  abbrev pub told : Declared → Declared
  told d = defined_at at t (kind.Func (entry_at i (with_locals [] r.1)) (Some made)) d

  abbrev result : CType
  result = (out-Sig (signature_of t)).result

  body_is : IsFunctionBody v defined result ps scope s r
  body_is = function_body v roles defined result ps scope s ordered is lines fit r found

  -- its entry behind the body
  abbrev IsTold : Declared → Type 0
  IsTold d = EntryKept d (told d)

  pub told_is : (d : Declared) → slice_get r.1.names i ≡ Some d → IsTold d
  told_is d h =
      let e = body_is.goes.names i entry.declared entry.at in
      let same : e.0 ≡ d = some_is e.0 d (sym e.1 ∙ h) in
      let k = functions_stay entry.by entry.body e.0.kind (subst (λ (z : UnitKind). SameKind z e.0.kind) entry.kind e.2.kind) in
      subst IsTold same (record {
        name = refl;
        ctype = sym (e.2.ctype ∙ entry.ctype);
        kind = subst (λ (z : UnitKind). SameKind z (kind.Func (entry_at i (with_locals [] r.1)) (Some made))) (sym k.2) (Functions k.0 (entry_at i (with_locals [] r.1)) k.1 (Some made));
      })

  -- what the entry is told changes nothing else
  tells : Declares v defined (with_locals [] r.1) [] (change_name i told (with_locals [] r.1)) []
  tells = changed v defined (Unit {0}) i told (with_locals [] r.1) [] told_is

  names_kept : NamesKept s.names last.names
  names_kept = names_through s.names r.1.names last.names body_is.goes.names tells.names

  -- what is known in its body
  pub made_knows : Each (ParameterStands v) ps → Knows v [] s last → Knows v (locals_of ps) (begun ps scope s) r.1
  made_knows each w =
      known_begun v ps scope s r.1 is body_is.goes.structures each (record { structures = w.types.structures; types = w.types.types; tags = w.types.tags }) (knows_back v r.1.names last.names tells.names w.names) w.members w.objects

  -- an entry behind it was there in front, or stands
  name_at : (b : Behind v (begun ps scope s) r.1) (j : ℕ) (d : Declared) → slice_get last.names j ≡ Some d → HasEntry r.1.names j → HasEntry s.names j ⊎ NameStands v d
  name_at b j d h e = by_front (b.names j e.0 e.1)
    where
      by_front : HasEntry s.names j ⊎ NameStands v e.0 → HasEntry s.names j ⊎ NameStands v d
      by_front (inl f) = inl f
      by_front (inr n) =
          let l = tells.names j e.0 e.1 in
          inr (subst (NameStands v) (some_is l.0 d (sym l.1 ∙ h)) (entry_stands v e.0 l.0 l.2 n))

  told_there : (j : ℕ) (d : Declared) → (slice_get r.1.names j ≡ Some d) ⊎ ((e : Declared) × (slice_get r.1.names j ≡ Some e) × (d ≡ told e)) → HasEntry r.1.names j
  told_there j d (inl h) = (d, h)
  told_there j d (inr e) = (e.0, e.1)

  name_stands : Behind v (begun ps scope s) r.1 → (j : ℕ) (d : Declared) → slice_get last.names j ≡ Some d → HasEntry s.names j ⊎ NameStands v d
  name_stands b j d h = name_at b j d h (told_there j d (changed_or_not r.1.names i told j d h))

  pub defined_goes : Declares v defined s [] last []
  defined_goes =
      let b = body_is in
      let a = b.goes in
      let known : KnowsTypes v s last → KnowsTypes v s r.1 = λ k. record { structures = k.structures; types = k.types; tags = k.tags } in
      record {
        outer = ap outer_scopes a.outer;
        structures = a.structures;
        names = names_kept;
        entries = λ j e h. entries_through v.target defined s r.1 last j e tells.names (a.entries j) h (tells.entries j e h);
        ordered = λ o.
            let p = a.ordered (ordered_begun v ps scope s is o) in
            record { listed = p.listed; order = p.order; tags = λ y u h. tag_through s.structures r.1.structures u a.structures (o.tags y u (ap (tagged y) (sym a.outer) ∙ h)) };
        closed = a.closed;
        closings = closings_inside v (Unit {0}) s (begun ps scope s) r.1 last refl refl refl (ordered_begun v ps scope s is) (λ c kept p k. types_begun v ps scope s c is kept k) a.closings;
        behind = λ p k.
            let w = a.behind tt (b.types (known k)) in
            record {
              types = λ y u h. k.types y u (ap (designated y) (sym a.outer) ∙ h);
              tags = λ y u h. k.tags y u (ap (tagged y) (sym a.outer) ∙ h);
              names = λ j d h. name_stands w j d h;
              structures = λ j ms h. w.structures j ms h;
            };
        front = ([], refl);
        locals = λ k h. record { enough = h.enough; locals = nothing_lowered k };
        objects = λ p k h y d e. h y d (ap (designated y) (sym a.outer) ∙ e);
        complete = λ p k h. h;
      }

  -- ---- the function

  pub entry_last : (d : Declared) × (slice_get last.names i ≡ Some d) × (d.ctype ≡ t) × (d.kind ≡ kind.Func (entry_at i (with_locals [] r.1)) (Some made))
  entry_last =
      let e = body_is.goes.names i entry.declared entry.at in
      (told e.0, changed_there r.1.names i told e.0 e.1, refl, refl)

  module _ (result_type : CType) (declared : t ≡ function_to result_type ps) where
    params_are : (out-Sig (signature_of t)).params ≡ map (λ (p : Parameter). unqualified p.ctype) ps
    params_are = ap (λ (u : CType). (out-Sig (signature_of u)).params) declared ∙ function_params result_type ps

    mapped_count : (ps : List Parameter) → length (locals_of ps) ≡ length (map (λ (p : Parameter). unqualified p.ctype) ps)
    mapped_count [] = refl
    mapped_count (p ∷ ps) = ap suc (mapped_count ps)

    -- its parameters, and what is declared behind them
    locals_are : r.1.locals ≡ locals_of ps ++ map unconst body_is.goes.front.0
    locals_are = body_is.locals ∙ ap (lowered (length ps)) body_is.goes.front.1 ∙ parameters_lowered ps body_is.goes.front.0

    sound_made : is_sig v.target v.extents (signature_of t) ≡ true → Each (ParameterStands v) ps → KnowsTypes v s r.1 → KnowsNames v r.1.names → MembersStand v → ObjectsStand v [] s → IsSoundFunction v (signature_of t) made
    sound_made good each k n m w =
        let b = body_is in
        let more = b.goes.front.0 in
        let complete = b.complete each k in
        let behind = objects_behind v (locals_of ps) more (subst (AreObjects v) b.goes.front.1 complete) in
        record {
          same = refl;
          result = result_kind v (signature_of t) good;
          parameters = parameter_kinds v (signature_of t) good;
          count = eq-eqb (length (locals_of ps)) (length (out-Sig (signature_of t)).params) (mapped_count ps ∙ sym (ap length params_are));
          first = ap (λ (ts : List CType). are_parameters ts r.1.locals) params_are ∙ ap (are_parameters (map (λ (p : Parameter). unqualified p.ctype) ps)) locals_are ∙ parameters_first ps (map unconst more);
          locals = ap (list_all (λ (l : Named). is_object_type (kind_in v l.1))) b.locals ∙ lowered_locals v (length ps) b.objects complete;
          automatic = ap (λ (ls : List Named). list_all is_automatic (drop (length (locals_of ps)) ls)) locals_are ∙ ap (list_all is_automatic) (parameters_behind ps (map unconst more)) ∙ plain_automatic v more behind;
          body = b.sound (result_may_stand v (signature_of t) good) each k n m w;
        }

    pub made_sound : (sig : Sig) → out-Shape t.shape ≡ shape.Func sig → is_sig v.target v.extents sig ≡ true → Each (ParameterStands v) ps → Knows v [] s last → IsSoundFunction v sig made
    made_sound sig e good each w =
        let same = signature_is t sig e in
        let k : KnowsTypes v s r.1 = record { structures = w.types.structures; types = w.types.types; tags = w.types.tags } in
        subst (λ (g : Sig). IsSoundFunction v g made) same
        (sound_made (subst (λ (g : Sig). is_sig v.target v.extents g ≡ true) (sym same) good) each k (knows_back v r.1.names last.names tells.names w.names) w.members w.objects)
