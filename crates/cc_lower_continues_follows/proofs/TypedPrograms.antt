-- A program whose functions are others of the same names and types is typed where each of these is.
use Rattle.std.proofs.Common.{◌≡◌, ◌∙◌, ◌∷◌, ℕ, true, List, [], map, All, Option, Some, None, option_map, slice_get, refl, ap, sym, subst}
use Rattle.std.proofs.lemmas.List.{length-map}
use Rattle.std.proofs.lemmas.Option.{slice_get-map}
use Rattle.std.specs.List.{list_all, list_any}
use Rattle.std.specs.Str.{bytes_eq}
use Rattle.cc_program.specs.declared.func.Func.{Func}
use Rattle.cc_program.specs.declared.object.Object.{Object}
use Rattle.cc_program.specs.declared.program.Program.{Program}
use Rattle.cc_meaning_simulations.specs.Bodies.{with_funcs}
use Rattle.cc_states.specs.CcSyntax.Initial as values
use Rattle.cc_states.specs.CcSyntax.Operators.{function_type}
use Rattle.cc_states.specs.CcSyntax.Sound.{IsFuncBy, IsTypedProgram, any_names, have_ids, is_main_there, main_name}
use Rattle.cc_states.specs.CcSyntax.Views.{View, of_program}

module _ (new : Func → Func) (P : Program) (name : (f : Func) → (new f).name ≡ f.name) (ctype : (f : Func) → function_type (Some (new f)) ≡ function_type (Some f)) where
  abbrev Q : Program
  Q = with_funcs P (map new P.funcs)

  func_names : (funcs : List Func) → map (λ (f : Func). f.name) (map new funcs) ≡ map (λ (f : Func). f.name) funcs
  func_names [] = refl
  func_names (f ∷ funcs) = λ i. name f i ∷ func_names funcs i

  type_there : (f : Option Func) → function_type (option_map new f) ≡ function_type f
  type_there None = refl
  type_there (Some f) = ctype f

  pub view_same : of_program Q ≡ of_program P
  view_same = λ i. record {
    target = P.target;
    structures = P.structures;
    extents = (of_program P).extents;
    statics = (of_program P).statics;
    devices = (of_program P).devices;
    functions = λ id. (ap function_type (slice_get-map new P.funcs id) ∙ type_there (slice_get P.funcs id)) i;
  }

  main_there : (x : Option Func) → is_main_there x ≡ true → is_main_there (option_map new x) ≡ true
  main_there None h = h
  main_there (Some f) h = ap (λ (n : List ℕ). bytes_eq n main_name) (name f) ∙ h

  pub program_typed : IsTypedProgram P → All (IsFuncBy Q any_names) (map new P.funcs) → IsTypedProgram Q
  program_typed h funcs = record {
    few_structures = h.few_structures;
    few_devices = h.few_devices;
    few_objects = h.few_objects;
    few_funcs = ap have_ids (length-map P.funcs new) ∙ h.few_funcs;
    tag_names = refl;
    names = refl;
    order = h.order;
    structures = h.structures;
    devices = h.devices;
    distinct_devices = h.distinct_devices;
    objects = h.objects;
    initial = subst (λ (v : View). All (λ (o : Object). values.IsInitial v o.ctype o.init) P.objects) (sym view_same) h.initial;
    funcs = funcs;
    handlers = ap (λ (l : List (List ℕ)). list_all (λ h. list_any (bytes_eq h) l) P.roles.handlers) (func_names P.funcs) ∙ h.handlers;
    main = ap is_main_there (slice_get-map new P.funcs P.main) ∙ main_there (slice_get P.funcs P.main) h.main;
  }
