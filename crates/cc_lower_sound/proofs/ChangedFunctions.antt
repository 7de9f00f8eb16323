-- A program with other locals and other bodies of its functions has the same types, and is typed where its functions are.
use Rattle.std.proofs.Common.{◌≡◌, ℕ, true, List, [], ◌∷◌, map, All, Option, Some, None, option_map, slice_get, refl, ap, sym, ◌∙◌, subst}
use Rattle.std.proofs.Math.Path.{fun_ext}
use Rattle.std.proofs.lemmas.List.{length-map}
use Rattle.std.proofs.lemmas.List.Elements.{All-map}
use Rattle.std.proofs.lemmas.Option.{slice_get-map}
use Rattle.std.specs.List.{list_all, list_any}
use Rattle.std.specs.Str.{bytes_eq}
use Rattle.cc_program.specs.declared.func.Func.{Func}
use Rattle.cc_program.specs.declared.object.Object.{Object}
use Rattle.cc_program.specs.declared.program.Program.{Program}
use Rattle.cc_eval.specs.CcSyntax.Initial as values
use Rattle.cc_eval.specs.CcSyntax.Operators.{function_type}
use Rattle.cc_eval.specs.CcSyntax.Sound.{any_names, IsTypedProgram, IsFuncBy, is_main_there, main_name, have_ids}
use Rattle.cc_eval.specs.CcSyntax.Values.{ValueType}
use Rattle.cc_eval.specs.CcSyntax.Views.{View, of_program}

-- with the same name, type and entry
pub record HasSameHead (f g : Func) : Type 0 where
  pub name : g.name ≡ f.name
  pub sig : g.sig ≡ f.sig
  pub entry : g.entry ≡ f.entry

abbrev pub with_funcs : (Func → Func) → Program → Program
with_funcs change p =
    record { target = p.target; roles = p.roles; structures = p.structures; devices = p.devices; objects = p.objects; funcs = map change p.funcs; main = p.main }

module _ (change : Func → Func) (heads : (f : Func) → HasSameHead f (change f)) (p : Program) where
  abbrev q : Program
  q = with_funcs change p

  function_same : (o : Option Func) → function_type (option_map change o) ≡ function_type o
  function_same None = refl
  function_same (Some f) = rw ((heads f).sig, (heads f).entry) refl

  functions_same : (i : ℕ) → function_type (slice_get q.funcs i) ≡ function_type (slice_get p.funcs i)
  functions_same i = ap function_type (slice_get-map change p.funcs i) ∙ function_same (slice_get p.funcs i)

  abbrev with_functions : (ℕ → Option ValueType) → View
  with_functions functions = record {
    target = p.target;
    structures = p.structures;
    extents = (of_program p).extents;
    statics = (of_program p).statics;
    devices = (of_program p).devices;
    functions = functions;
  }

  pub view_same : of_program q ≡ of_program p
  view_same = ap with_functions (fun_ext functions_same)

  names_same : (funcs : List Func) → map (λ (f : Func). f.name) (map change funcs) ≡ map (λ (f : Func). f.name) funcs
  names_same [] = refl
  names_same (f ∷ funcs) = rw ((heads f).name, names_same funcs) refl

  main_same : (x : Option Func) → is_main_there x ≡ true → is_main_there (option_map change x) ≡ true
  main_same None h = h
  main_same (Some f) h = ap (λ (n : List ℕ). bytes_eq n main_name) (heads f).name ∙ h

  pub changed_typed : IsTypedProgram p → All (λ (f : Func). IsFuncBy q any_names (change f)) p.funcs → IsTypedProgram q
  changed_typed h typed = record {
    few_structures = h.few_structures;
    few_devices = h.few_devices;
    few_objects = h.few_objects;
    few_funcs = ap have_ids (length-map p.funcs change) ∙ h.few_funcs;
    tag_names = refl;
    names = refl;
    order = h.order;
    structures = h.structures;
    devices = h.devices;
    distinct_devices = h.distinct_devices;
    objects = h.objects;
    initial = subst (λ (v : View). All (λ (o : Object). values.IsInitial v o.ctype o.init) p.objects) (sym view_same) h.initial;
    funcs = All-map (IsFuncBy q any_names) change p.funcs typed;
    handlers = ap (λ (l : List (List ℕ)). list_all (λ h. list_any (bytes_eq h) l) p.roles.handlers) (names_same p.funcs) ∙ h.handlers;
    main = ap is_main_there (slice_get-map change p.funcs p.main) ∙ main_same (slice_get p.funcs p.main) h.main;
  }
