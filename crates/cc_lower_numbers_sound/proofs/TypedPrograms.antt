-- A numbered program is typed where its source is.
use Rattle.std.proofs.Common.{◌≡◌, ◌∙◌, ◌<◌, ◌≤◌, ℕ, true, List, [], ◌∷◌, ◌++◌, map, length, get_or, Option, Some, None, option_map, slice_get, refl, ap, sym, subst, arith}
use Rattle.std.specs.Prelude.{not}
use Rattle.std.specs.List.{list_all, list_any}
use Rattle.std.specs.Str.{bytes_eq}
use Rattle.std.proofs.Math.Path.{fun_ext}
use Rattle.std.proofs.lemmas.Bool.{eqb-true, ltb-true, lt-ltb}
use Rattle.std.proofs.lemmas.List.{length-map}
use Rattle.std.proofs.lemmas.List.Elements.{All-map}
use Rattle.std.proofs.lemmas.Option.{slice_get-map}
use Rattle.cc_program.specs.Qualifiers.{is_const}
use Rattle.cc_program.specs.declared.expr.Expr.{Expr}
use Rattle.cc_program.specs.declared.func.Func.{Func}
use Rattle.cc_program.specs.declared.object.Device.{Device}
use Rattle.cc_program.specs.declared.object.Object.{Object}
use Rattle.cc_program.specs.declared.program.Program.{Program}
use Rattle.cc_program.specs.declared.types.CType.{CType}
use Rattle.cc_program.specs.declared.types.Sig.{out-Sig}
use Rattle.cc_syntax.specs.Expressions.{type_of}
use Rattle.cc_syntax.specs.Initial as values
use Rattle.cc_syntax.specs.Kinds.{is_object_type}
use Rattle.cc_syntax.specs.Normal.{devices_in_text}
use Rattle.cc_syntax.specs.Operators.{function_type}
use Rattle.cc_syntax.specs.Programs.{kind_in}
use Rattle.cc_syntax.specs.Sound.{any_names, IsFuncBy, IsTypedProgram, is_device, is_main_there, have_ids}
use Rattle.cc_syntax.specs.Statements.{is_sound_body}
use Rattle.cc_syntax.specs.Types.{Named}
use Rattle.cc_syntax.specs.Values.{ValueType, PlaceType, DevicePlace}
use Rattle.cc_syntax.specs.Views.{View, of_program}
use Rattle.cc_lower_numbers.specs.Numbered.{named_from, device_order, temporary_names, numbered_locals, numbered_func, numbered}
use Rattle.cc_lower_numbers.specs.Order.{place_in}
use Rattle.cc_lower_numbers.specs.Renamed.{expr_renamed}
use Rattle.cc_lower_numbers.specs.Temporaries.{kept_count, temporary_count, temporaries}
use Rattle.cc_lower_numbers_sound.proofs.Devices.{arranged_differ}
use Rattle.cc_lower_numbers_sound.proofs.FirstValues.{initial_same}
use Rattle.cc_lower_numbers_sound.proofs.Locals.{params_few, names_enough, locals_few, types_kept, params_first, all_kept, tested_at}
use Rattle.cc_lower_numbers_sound.proofs.Orders.{ordered-once, arranged-all, whole-at, whole-few}
use Rattle.cc_lower_numbers_sound.proofs.Types.{with_devices, type_same, body_same}

fewer_ids : (m n : ℕ) → m ≤ n → have_ids n ≡ true → have_ids m ≡ true
fewer_ids m n l h = let k = ltb-true n 4294967296 h in lt-ltb m 4294967296 (less k)
  where
    less : n < 4294967296 → m < 4294967296
    less k = omega arith

on : (a b c : ℕ) → a ≤ b → b ≤ c → a ≤ c
on a b c h k = omega arith

module _ (p : Program) where
  abbrev text : List ℕ
  text = named_from 0 p.devices ++ devices_in_text p

  abbrev device : ℕ → ℕ
  device d = place_in 0 (device_order p) d

  abbrev change : Func → Func
  change f = numbered_func (temporary_names p) (place_in 0 (device_order p)) f

  abbrev local : Func → ℕ → ℕ
  local f r = place_in (kept_count f) (temporaries f) r

  abbrev q : Program
  q = numbered p

  abbrev place_of : Option Device → Option PlaceType
  place_of d = option_map (λ (d : Device). DevicePlace d.constant d.int) d

  abbrev new_devices : ℕ → Option PlaceType
  new_devices d = place_of (slice_get q.devices d)

  devices_same : (d : ℕ) → new_devices (device d) ≡ (of_program p).devices d
  devices_same d = ap place_of (whole-at p.devices text d)

  abbrev w : View
  w = with_devices new_devices (of_program p)

  function_same : (o : Option Func) → function_type (option_map change o) ≡ function_type o
  function_same None = refl
  function_same (Some f) = refl

  functions_same : (i : ℕ) → function_type (slice_get q.funcs i) ≡ function_type (slice_get p.funcs i)
  functions_same i = ap function_type (slice_get-map change p.funcs i) ∙ function_same (slice_get p.funcs i)

  abbrev with_functions : (ℕ → Option ValueType) → View
  with_functions functions = record { target = w.target; structures = w.structures; extents = w.extents; statics = w.statics; devices = w.devices; functions = functions }

  view_same : of_program q ≡ w
  view_same = ap with_functions (fun_ext functions_same)

  names_same : (funcs : List Func) → map (λ (f : Func). f.name) (map change funcs) ≡ map (λ (f : Func). f.name) funcs
  names_same [] = refl
  names_same (f ∷ funcs) = ap (λ (l : List (List ℕ)). f.name ∷ l) (names_same funcs)

  main_same : (x : Option Func) → is_main_there x ≡ true → is_main_there (option_map change x) ≡ true
  main_same None h = h
  main_same (Some f) h = h

  -- ---- functions

  module _ (f : Func) (enough : temporary_count f ≤ length (temporary_names p)) (h : IsFuncBy p any_names f) where
    abbrev new : List Named
    new = numbered_locals (temporary_names p) f

    params_within : length (out-Sig f.sig).params ≤ kept_count f
    params_within =
        let e = eqb-true f.params (length (out-Sig f.sig).params) h.count in
        let l = params_few (out-Sig f.sig).params f.locals h.first in
        subst (λ (n : ℕ). n ≤ kept_count f) e (omega (arith, e, l))

    params_kept : f.params ≤ kept_count f
    params_kept = subst (λ (n : ℕ). n ≤ kept_count f) (sym (eqb-true f.params (length (out-Sig f.sig).params) h.count)) params_within

    types_there : (e : Expr) → type_of w new (expr_renamed (place_in (kept_count f) (temporaries f)) (place_in 0 (device_order p)) e) ≡ type_of (of_program p) f.locals e
    types_there e = type_same (of_program p) new_devices f.locals new (place_in (kept_count f) (temporaries f)) (place_in 0 (device_order p)) (types_kept (temporary_names p) f enough) devices_same e

    body_there : is_sound_body p.target (type_of w new) (out-Sig f.sig).result (change f).body ≡ true
    body_there =
        body_same p.target (out-Sig f.sig).result (type_of w new) (type_of (of_program p) f.locals) (place_in (kept_count f) (temporaries f)) (place_in 0 (device_order p)) types_there f.body
        ∙ h.body

    func_typed : IsFuncBy q any_names (change f)
    func_typed = record {
      result = h.result;
      parameters = h.parameters;
      form = h.form;
      entry = h.entry;
      count = h.count;
      first = params_first (temporary_names p) f (out-Sig f.sig).params h.first h.count params_within;
      few = fewer_ids (length new) (length f.locals) (locals_few (temporary_names p) f) h.few;
      locals = all_kept (temporary_names p) f (λ (t : CType). is_object_type (kind_in p t)) 0 (zero_least (kept_count f)) h.locals;
      automatic = all_kept (temporary_names p) f (λ (t : CType). not (is_const t)) f.params params_kept h.automatic;
      names = refl;
      body = subst (λ (v : View). is_sound_body p.target (type_of v new) (out-Sig f.sig).result (change f).body ≡ true) (sym view_same) body_there;
    }
      where
        zero_least : (n : ℕ) → 0 ≤ n
        zero_least n = omega arith

  -- ---- programs

  initial_there : (o : Object) → values.IsInitial (of_program p) o.ctype o.init → values.IsInitial (of_program q) o.ctype o.init
  initial_there o h = subst (λ (v : View). values.IsInitial v o.ctype o.init) (sym view_same) (initial_same (of_program p) new_devices o.ctype o.init h)

  pub numbered_typed : IsTypedProgram p → IsTypedProgram (numbered p)
  numbered_typed h = record {
    few_structures = h.few_structures;
    few_devices = fewer_ids (length q.devices) (length p.devices) (whole-few p.devices text) h.few_devices;
    few_objects = h.few_objects;
    few_funcs = ap have_ids (length-map p.funcs change) ∙ h.few_funcs;
    tag_names = refl;
    names = refl;
    order = h.order;
    structures = h.structures;
    devices = arranged-all p.devices (is_device p.target) (device_order p) (λ k x i e. tested_at (is_device p.target) p.devices k x h.devices e);
    distinct_devices = arranged_differ p.devices (device_order p) (ordered-once 0 (length p.devices) text) h.distinct_devices;
    objects = h.objects;
    initial = λ i d lt. initial_there (get_or p.objects i d) (h.initial i d lt);
    funcs = All-map (IsFuncBy q any_names) change p.funcs (λ i d lt. func_typed (get_or p.funcs i d) (names_enough p i d lt) (h.funcs i d lt));
    handlers = ap (λ (l : List (List ℕ)). list_all (λ h. list_any (bytes_eq h) l) p.roles.handlers) (names_same p.funcs) ∙ h.handlers;
    main = ap is_main_there (slice_get-map change p.funcs p.main) ∙ main_same (slice_get p.funcs p.main) h.main;
  }
