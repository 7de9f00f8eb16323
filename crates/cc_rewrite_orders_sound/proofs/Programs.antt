-- A program with the objects of an order is typed, and its bodies are in normal form, where its source is.
use Rattle.std.proofs.Common.{◌≡◌, ◌∙◌, ◌<◌, ◌≤◌, ◌&&◌, ◌∷◌, arith, ℕ, zero, suc, Bool, true, List, [], length, map, get_or, Option, Some, None, option_map, slice_get, refl, ap, sym, subst}
use Rattle.std.specs.Prelude.{option_to_list, unwrap_or}
use Rattle.std.specs.List.{All, list_all, list_any}
use Rattle.std.specs.Str.{bytes_eq}
use Rattle.std.proofs.lemmas.Bool.{and_parts, ltb-true, lt-ltb}
use Rattle.std.proofs.lemmas.List.{length-map}
use Rattle.std.proofs.lemmas.List.Elements.{All-nil, All-cons, All-append, All-map}
use Rattle.std.proofs.lemmas.Option.{slice_get-map, same_Some}
use Rattle.cc_lower_numbers.specs.Order.{arranged, place_in}
use Rattle.cc_lower_numbers_sound.proofs.Orders.{found, arranged-all, arranged-length}
use Rattle.cc_program.specs.declared.expr.Expr.{Expr}
use Rattle.cc_program.specs.declared.func.Func.{Func}
use Rattle.cc_program.specs.declared.object.Object.{Object}
use Rattle.cc_program.specs.declared.program.Program.{Program}
use Rattle.cc_program.specs.declared.types.Sig.{out-Sig}
use Rattle.cc_eval.specs.CcSyntax.Normal.{has_name, count_named, next_of, devices_in_order, is_normal_body}
use Rattle.cc_eval.specs.CcSyntax.Lists.{come_first, is_count}
use Rattle.cc_eval.specs.CcSyntax.Programs.{IsInitial, type_of}
use Rattle.cc_eval.specs.CcSyntax.Sound.{any_names, have_ids, is_object, is_main_there, IsFuncBy, IsTypedProgram}
use Rattle.cc_eval.specs.CcSyntax.Statements.{is_sound_body}
use Rattle.cc_eval.proofs.CcSyntax.Parts.{all_at}
use Rattle.cc_rewrite_renamed.specs.Objects.{expr_renamed, func_renamed, ordered_object, ordered_func}
use Rattle.cc_rewrite_renamed.specs.Orders.{NamesInFunc, IsOrderOf}
use Rattle.cc_rewrite_renamed.proofs.Kept.{func_back}
use Rattle.cc_rewrite_renamed.proofs.Laws.{types_same}
use Rattle.cc_rewrite_renamed.proofs.Sources.{leads_back, number, within_at, are_there, ordered, renamed, source_there}
use Rattle.cc_rewrite_orders_sound.proofs.Devices.{text_same}
use Rattle.cc_rewrite_orders_sound.proofs.Few.{few}
use Rattle.cc_rewrite_orders_sound.proofs.FirstValues.{initial_same}
use Rattle.cc_rewrite_orders_sound.proofs.NormalBodies.{normal_same}
use Rattle.cc_rewrite_orders_sound.proofs.Types.{body_same}

fewer_ids : (m n : ℕ) → m ≤ n → have_ids n ≡ true → have_ids m ≡ true
fewer_ids m n l h = let k = ltb-true n 4294967296 h in lt-ltb m 4294967296 (less k)
  where
    less : n < 4294967296 → m < 4294967296
    less k = omega arith

tested_at : {A : Type 0} (test : A → Bool) (xs : List A) (i : ℕ) (x : A) → list_all test xs ≡ true → slice_get xs i ≡ Some x → test x ≡ true
tested_at test [] i x h e = absurd (cc)
tested_at test (y ∷ xs) zero x h e = subst (λ z. test z ≡ true) (same_Some y x e) (and_parts (test y) (list_all test xs) h).0
tested_at test (y ∷ xs) (suc i) x h e = tested_at test xs i x (and_parts (test y) (list_all test xs) h).1 e

-- what holds of all holds of those in an order
pub all_arranged : {A : Type 0} (P : A → Type 0) (all : List A) → All P all → (order : List ℕ) → All P (arranged all order)
all_arranged {A = A} P all a [] = All-nil P
all_arranged {A = A} P all a (j ∷ js) = All-append P (option_to_list (slice_get all j)) (arranged all js) (by (slice_get all j) refl) (all_arranged P all a js)
  where
    by : (o : Option A) → slice_get all j ≡ o → All P (option_to_list o)
    by None e = All-nil P
    by (Some x) e = All-cons P x [] (all_at P all j x e a) (All-nil P)

module _ (order : List ℕ) (p : Program) (h : IsOrderOf order p) where
  abbrev pub new : Program
  new = ordered order p h

  abbrev numbers : ℕ → ℕ
  numbers i = number order p h i

  back_again : (f : Func) → NamesInFunc order f → func_renamed numbers (ordered_func order f) ≡ f
  back_again f k = func_back order numbers (leads_back order (length p.objects)) f k

  -- ---- how many objects there are

  abbrev at : ℕ → ℕ
  at i = unwrap_or (slice_get order i) 0

  at_is : (i : ℕ) → i < length order → (k : ℕ) × (slice_get order i ≡ Some k) × (at i ≡ k)
  at_is i l = let x = found order order i l in (x.0, x.1, ap (λ (o : Option ℕ). unwrap_or o 0) x.1)

  order_few : length order ≤ length p.objects
  order_few = few (length p.objects) (length order) at below apart
    where
      below : (i : ℕ) → i < length order → at i < length p.objects
      below i l = let x = at_is i l in let k = within_at order p h i x.0 x.1 in let e = x.2 in omega (arith, k, e)

      apart : (i j : ℕ) → i < length order → j < length order → at i ≡ at j → i ≡ j
      apart i j li lj e = let x = at_is i li in let y = at_is j lj in h.once i j x.0 x.1 (y.1 ∙ ap (λ (n : ℕ). Some n) (sym y.2 ∙ sym e ∙ x.2))

  objects_few : length new.objects ≤ length p.objects
  objects_few =
      let a = length-map (arranged p.objects order) (ordered_object order) in
      let b = arranged-length p.objects order (are_there order p h) in
      let c = order_few in omega (arith, a, b, c)

  -- ---- objects

  objects_kept : (os : List Object) → list_all (is_object new) (map (ordered_object order) os) ≡ list_all (is_object p) os
  objects_kept [] = refl
  objects_kept (o ∷ os) = ap (λ (b : Bool). is_object p o && b) (objects_kept os)

  initial_there : All (λ (o : Object). IsInitial p o.ctype o.init) p.objects → All (λ (o : Object). IsInitial new o.ctype o.init) new.objects
  initial_there a =
      let there = all_arranged (λ (o : Object). IsInitial p o.ctype o.init) p.objects a order in
      All-map (λ (o : Object). IsInitial new o.ctype o.init) (ordered_object order) (arranged p.objects order)
      (λ i d lt. initial_same order p h (get_or (arranged p.objects order) i d) (h.first i d lt) (there i d lt))

  -- ---- functions

  names_same : (funcs : List Func) → map (λ (f : Func). f.name) (map (ordered_func order) funcs) ≡ map (λ (f : Func). f.name) funcs
  names_same [] = refl
  names_same (f ∷ funcs) = ap (λ (l : List (List ℕ)). f.name ∷ l) (names_same funcs)

  main_same : (x : Option Func) → is_main_there x ≡ true → is_main_there (option_map (ordered_func order) x) ≡ true
  main_same None k = k
  main_same (Some f) k = k

  types_there : (f : Func) (e : Expr) → type_of p f.locals (expr_renamed numbers e) ≡ type_of new f.locals e
  types_there f e = ap (λ (q : Program). type_of q f.locals (expr_renamed numbers e)) (sym (source_there order p h)) ∙ types_same numbers p.objects new (renamed order p h) f e

  body_there : (f : Func) → NamesInFunc order f → is_sound_body p.target (type_of new f.locals) (out-Sig f.sig).result (ordered_func order f).body ≡ is_sound_body p.target (type_of p f.locals) (out-Sig f.sig).result f.body
  body_there f k =
      sym (body_same p.target (out-Sig f.sig).result (type_of p f.locals) (type_of new f.locals) (expr_renamed numbers) (types_there f) (ordered_func order f).body)
      ∙ ap (λ (g : Func). is_sound_body p.target (type_of p f.locals) (out-Sig f.sig).result g.body) (back_again f k)

  func_typed : (f : Func) → NamesInFunc order f → IsFuncBy p any_names f → IsFuncBy new any_names (ordered_func order f)
  func_typed f k q = record {
    result = q.result;
    parameters = q.parameters;
    form = q.form;
    entry = q.entry;
    count = q.count;
    first = q.first;
    few = q.few;
    locals = q.locals;
    automatic = q.automatic;
    names = refl;
    body = body_there f k ∙ q.body;
  }

  -- ---- the program

  pub ordered_typed : IsTypedProgram p → IsTypedProgram new
  ordered_typed t = record {
    few_structures = t.few_structures;
    few_devices = t.few_devices;
    few_objects = fewer_ids (length new.objects) (length p.objects) objects_few t.few_objects;
    few_funcs = ap have_ids (length-map p.funcs (ordered_func order)) ∙ t.few_funcs;
    tag_names = refl;
    names = refl;
    order = t.order;
    structures = t.structures;
    devices = t.devices;
    distinct_devices = t.distinct_devices;
    objects = objects_kept (arranged p.objects order) ∙ arranged-all p.objects (is_object p) order (λ k x i e. tested_at (is_object p) p.objects k x t.objects e);
    initial = initial_there t.initial;
    funcs = All-map (IsFuncBy new any_names) (ordered_func order) p.funcs (λ i d lt. func_typed (get_or p.funcs i d) (h.text i d lt) (t.funcs i d lt));
    handlers = ap (λ (l : List (List ℕ)). list_all (λ x. list_any (bytes_eq x) l) p.roles.handlers) (names_same p.funcs) ∙ t.handlers;
    main = ap is_main_there (slice_get-map (ordered_func order) p.funcs p.main) ∙ main_same (slice_get p.funcs p.main) t.main;
  }

  body_kept : (f : Func) → NamesInFunc order f → is_normal_body p.target (ordered_func order f) ≡ is_normal_body p.target f
  body_kept f k = sym (normal_same p.target numbers p.objects new (renamed order p h) (ordered_func order f)) ∙ ap (is_normal_body p.target) (back_again f k)

  bodies_by : (fs : List Func) → All (NamesInFunc order) fs → list_all (λ (f : Func). is_normal_body p.target f) (map (ordered_func order) fs) ≡ list_all (λ (f : Func). is_normal_body p.target f) fs
  bodies_by [] a = refl
  bodies_by (f ∷ fs) a = λ i. body_kept f (a 0 f (omega arith)) i && bodies_by fs (λ n d lt. a (suc n) d (omega (arith, lt))) i

  pub bodies_kept : list_all (λ (f : Func). is_normal_body p.target f) new.funcs ≡ list_all (λ (f : Func). is_normal_body p.target f) p.funcs
  bodies_kept = bodies_by p.funcs h.text

  pub devices_kept : devices_in_order new ≡ devices_in_order p
  devices_kept = ap (λ (text : List ℕ). come_first has_name p.devices && is_count (length p.devices) (next_of (count_named p.devices) text)) (text_same (place_in 0 order) p.funcs)
