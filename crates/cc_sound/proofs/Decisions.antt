-- A function passes its tests exactly where it is sound, and so does a program.
use Rattle.std.proofs.Common.{arith, ◌≡◌, ◌↔◌, ◌<◌, ◌≤◌, ◌+◌, ℕ, zero, suc, Bool, true, false, ◌&&◌, List, [], ◌∷◌, ◌++◌, take, take_all, drop, length, get_or, refl, ap, sym, ◌∙◌, subst, slice_get}
use Rattle.std.specs.Prelude.{IsTrue, nat_eq}
use Rattle.std.proofs.lemmas.List.Elements.{All-more}
use Rattle.std.specs.List.{All, list_all}
use Rattle.cc_program.specs.declared.func.Func.{Func}
use Rattle.cc_program.specs.declared.object.Object.{Object}
use Rattle.cc_program.specs.declared.program.Program.{Program}
use Rattle.cc_program.specs.declared.types.Sig.{out-Sig}
use Rattle.cc_typed.specs.CcSyntax.Kinds.{is_result, is_plain_scalar}
use Rattle.cc_typed.specs.CcSyntax.Programs.{kind_in, IsInitial, is_sound_body}
use Rattle.cc_typed.specs.CcSyntax.Lists.{come_first}
use Rattle.cc_typed.specs.CcSyntax.Names.{are_names, local_names, file_names, tags}
use Rattle.cc_typed.specs.CcSyntax.Sound.{IsFunc, IsSound, form_fits, entry_fits, are_parameters, have_ids, is_local, is_automatic, is_only_named, are_structures, is_device, devices_differ, is_object, handlers_are_there, is_main_there}
use Rattle.cc_typed.specs.CcSyntax.Sizes.{AreSized}
use Rattle.cc_typed.specs.CcSyntax.Types.{is_complete}
use Rattle.cc_typed.proofs.CcSyntax.Prefixes.{both_true}
use Rattle.cc_typed.proofs.CcSyntax.StructureLemmas.{object_complete}
use Rattle.cc_sound.specs.Functions.{is_signature, is_func, are_sizes_few, are_all_names, are_declared, are_run, is_checked}

true_both : (a b : Bool) → a ≡ true → b ≡ true → a && b ≡ true
true_both a b h k = rw (h, k) refl

func_from : (p : Program) (f : Func) → is_func p f ≡ true → IsFunc p f
func_from p f h =
    let x = both_true (is_signature p f) _ h in
    let y = both_true (are_names (local_names f.locals ++ file_names p)) _ x.1 in
    let a = both_true (is_result (kind_in p (out-Sig f.sig).result)) _ x.0 in
    let b = both_true (list_all (λ t. is_plain_scalar (kind_in p t)) (out-Sig f.sig).params) _ a.1 in
    let c = both_true (form_fits f) _ b.1 in
    let d = both_true (entry_fits p f f.entry) _ c.1 in
    let e = both_true (nat_eq f.params (length (out-Sig f.sig).params)) _ d.1 in
    let g = both_true (are_parameters (out-Sig f.sig).params f.locals) _ e.1 in
    let i = both_true (have_ids (length f.locals)) _ g.1 in
    let j = both_true (list_all (is_local p) f.locals) (list_all is_automatic (drop f.params f.locals)) i.1 in
    record { result = a.0; parameters = b.0; form = c.0; entry = d.0; count = e.0; first = g.0; few = i.0; locals = j.0; automatic = j.1; names = y.0; body = y.1 }

func_to : (p : Program) (f : Func) → IsFunc p f → is_func p f ≡ true
func_to p f h =
    true_both (is_signature p f) _
    (true_both (is_result (kind_in p (out-Sig f.sig).result)) _ h.result
    (true_both (list_all (λ t. is_plain_scalar (kind_in p t)) (out-Sig f.sig).params) _ h.parameters
    (true_both (form_fits f) _ h.form
    (true_both (entry_fits p f f.entry) _ h.entry
    (true_both (nat_eq f.params (length (out-Sig f.sig).params)) _ h.count
    (true_both (are_parameters (out-Sig f.sig).params f.locals) _ h.first
    (true_both (have_ids (length f.locals)) _ h.few
    (true_both (list_all (is_local p) f.locals) (list_all is_automatic (drop f.params f.locals)) h.locals h.automatic))))))))
    (true_both (are_names (local_names f.locals ++ file_names p)) (is_sound_body p f f.body) h.names h.body)

-- lists
all_by : {A : Type 0} (P : A → Type 0) (test : A → Bool) → ((x : A) → test x ≡ true → P x) → (xs : List A) → list_all test xs ≡ true → All P xs
all_by P test f [] h k d b = absurd (omega (arith, b))
all_by P test f (x ∷ xs) h zero d b = f x (both_true (test x) (list_all test xs) h).0
all_by P test f (x ∷ xs) h (suc k) d b = all_by P test f xs (both_true (test x) (list_all test xs) h).1 k d (omega (arith, b))

tested_by : {A : Type 0} (P : A → Type 0) (test : A → Bool) → ((x : A) → P x → test x ≡ true) → (xs : List A) → All P xs → list_all test xs ≡ true
tested_by P test f [] all = refl
tested_by P test f (x ∷ xs) all = true_both (test x) (list_all test xs) (f x (all zero x (omega arith))) (tested_by P test f xs (λ k d b. all (suc k) d (omega (arith, b))))

module _ (p : Program) where
  abbrev AreInitial : Type 0
  AreInitial = All (λ o. IsInitial p o.ctype o.init) p.objects

  sound_from : is_checked p ≡ true → AreInitial → IsSound p
  sound_from h i =
      let a = both_true (are_sizes_few p) (are_all_names p && (are_declared p && are_run p)) h in
      let b = both_true (are_all_names p) (are_declared p && are_run p) a.1 in
      let c = both_true (are_declared p) (are_run p) b.1 in
      let d = both_true (have_ids (length p.structures)) _ a.0 in
      let e = both_true (have_ids (length p.devices)) _ d.1 in
      let f = both_true (have_ids (length p.objects)) (have_ids (length p.funcs)) e.1 in
      let n = both_true (are_names (tags p)) (are_names (file_names p)) b.0 in
      let g = both_true (come_first is_only_named p.structures) _ c.0 in
      let j = both_true (are_structures [] (length p.structures) p.target p.structures) _ g.1 in
      let k = both_true (list_all (is_device p.target) p.devices) _ j.1 in
      let l = both_true (devices_differ p.devices) (list_all (is_object p) p.objects) k.1 in
      let r = both_true (list_all (is_func p) p.funcs) _ c.1 in
      let s = both_true (handlers_are_there p) (is_main_there (slice_get p.funcs p.main)) r.1 in
      record {
        few_structures = d.0;
        few_devices = e.0;
        few_objects = f.0;
        few_funcs = f.1;
        tag_names = n.0;
        names = n.1;
        order = g.0;
        structures = j.0;
        devices = k.0;
        distinct_devices = l.0;
        objects = l.1;
        initial = i;
        funcs = all_by (IsFunc p) (is_func p) (func_from p) p.funcs r.0;
        handlers = s.0;
        main = s.1;
      }

  checked_to : IsSound p → is_checked p ≡ true
  checked_to h =
      true_both (are_sizes_few p) _
      (true_both (have_ids (length p.structures)) _ h.few_structures
      (true_both (have_ids (length p.devices)) _ h.few_devices
      (true_both (have_ids (length p.objects)) (have_ids (length p.funcs)) h.few_objects h.few_funcs)))
      (true_both (are_all_names p) _ (true_both (are_names (tags p)) (are_names (file_names p)) h.tag_names h.names)
      (true_both (are_declared p) (are_run p)
      (true_both (come_first is_only_named p.structures) _ h.order
      (true_both (are_structures [] (length p.structures) p.target p.structures) _ h.structures
      (true_both (list_all (is_device p.target) p.devices) _ h.devices
      (true_both (devices_differ p.devices) (list_all (is_object p) p.objects) h.distinct_devices h.objects))))
      (true_both (list_all (is_func p) p.funcs) _ (tested_by (IsFunc p) (is_func p) (func_to p) p.funcs h.funcs)
      (true_both (handlers_are_there p) (is_main_there (slice_get p.funcs p.main)) h.handlers h.main))))

  -- a program whose parts are checked is sound exactly where its first values are
  pub sound_decided : (r : Bool) → is_checked p ≡ true → (IsTrue r ↔ AreInitial) → IsTrue r ↔ IsSound p
  sound_decided r h i = (λ t. sound_from h (i.0 t), λ s. i.1 s.initial)

  -- the objects of a program whose parts are checked
  pub checked_objects : is_checked p ≡ true → list_all (is_object p) p.objects ≡ true
  checked_objects h =
      let a = both_true (are_sizes_few p) (are_all_names p && (are_declared p && are_run p)) h in
      let b = both_true (are_all_names p) (are_declared p && are_run p) a.1 in
      let c = both_true (are_declared p) (are_run p) b.1 in
      let g = both_true (come_first is_only_named p.structures) _ c.0 in
      let j = both_true (are_structures [] (length p.structures) p.target p.structures) _ g.1 in
      let k = both_true (list_all (is_device p.target) p.devices) _ j.1 in
      (both_true (devices_differ p.devices) (list_all (is_object p) p.objects) k.1).1

  pub unsound_by : (r : Bool) → r ≡ is_checked p → r ≡ false → IsTrue r ↔ IsSound p
  unsound_by r e h = (λ t. absurd (cc), λ s. e ∙ checked_to s)

  -- an object of a program whose parts are checked has a complete type
  pub object_ready : (xs : List Object) (i : ℕ) (o : Object) → xs ≡ p.objects → AreSized p.structures p.target → list_all (is_object p) p.objects ≡ true → i < length xs → o ≡ get_or xs i o → is_complete p.structures o.ctype ≡ true
  object_ready xs i o e sized h k at =
      let all = all_by (λ o. is_object p o ≡ true) (is_object p) (λ o t. t) xs (ap (list_all (is_object p)) e ∙ h) in
      object_complete (length p.structures) p.target p.structures o.ctype sized (subst (λ o. is_object p o ≡ true) (sym at) (all i o k))

  -- as far as a loop over the objects has come
  abbrev pub HasInitial : Object → Type 0
  HasInitial o = IsInitial p o.ctype o.init

  pub initial_more : (xs : List Object) (i : ℕ) (o : Object) → All HasInitial (take i xs) → i < length xs → o ≡ get_or xs i o → HasInitial o → All HasInitial (take (i + 1) xs)
  initial_more xs i o all k at h = All-more HasInitial xs i o k all (subst HasInitial at h)

  pub initial_all : (xs : List Object) (i : ℕ) → xs ≡ p.objects → All HasInitial (take i xs) → length xs ≤ i → IsTrue true ↔ All HasInitial p.objects
  initial_all xs i e all k = (λ t. subst (All HasInitial) (take_all i xs k ∙ e) all, λ h. refl)
