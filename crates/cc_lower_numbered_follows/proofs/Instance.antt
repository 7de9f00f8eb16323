-- A program whose temporaries are numbered is its source by other numbers.
use Rattle.std.proofs.Common.{◌≡◌, ◌∙◌, ◌<◌, ◌≤◌, ◌⊎◌, inl, inr, ℕ, zero, suc, true, false, List, [], ◌∷◌, ◌++◌, length, take, Option, Some, None, option_map, slice_get, refl, ap, sym, subst, arith}
use Rattle.std.proofs.lemmas.Bool.{true≢false, cases_Bool, cases_lt, eqb-true}
use Rattle.std.proofs.lemmas.Option.{slice_get-map, slice_get_past}
use Rattle.cc_lower_numbered_follows.specs.Registers.{HasRegisterTemporaries, AreTemporariesRegisters}
use Rattle.cc_lower_numbers.specs.Numbered.{device_order, named_from, temporary_names, numbered_locals, numbered_func, numbered}
use Rattle.cc_lower_numbers.specs.Order.{place_in}
use Rattle.cc_lower_numbers.specs.Temporaries.{kept_count, temporary_count, temporaries, written_in}
use Rattle.cc_lower_numbers_follows.proofs.Traces.{shows_none}
use Rattle.cc_lower_numbers_follows.proofs.Whole.{follows, answers}
use Rattle.cc_lower_numbers_follows.specs.Renaming.{Renaming, IsFuncRenamed, AreFuncsRenamed, IsRenamed}
use Rattle.cc_lower_numbers_sound.proofs.Locals.{kept_few, locals_few, types_kept, names_enough, params_few}
use Rattle.cc_lower_numbers_sound.proofs.Numbers.{apart}
use Rattle.cc_lower_numbers_sound.proofs.Orders.{has, ordered-has, ordered-within, place-absent, whole-at}
use Rattle.cc_program.specs.declared.func.Func.{Func}
use Rattle.cc_program.specs.declared.program.Program.{Program}
use Rattle.cc_program.specs.declared.types.Sig.{out-Sig}
use Rattle.cc_states.specs.CcSteps.Runs.{Follows, Answers}
use Rattle.cc_states.proofs.CcSyntax.Parts.{all_at}
use Rattle.cc_states.specs.CcSyntax.Normal.{devices_in_text}
use Rattle.cc_states.specs.CcSyntax.Registers.{is_register}
use Rattle.cc_states.specs.CcSyntax.Sound.{any_names, IsFuncBy, IsTypedProgram}
use Rattle.cc_states.specs.CcSyntax.Types.{Named}

front_stays : {A : Type 0} (xs ys : List A) (k r : ℕ) → r < k → k ≤ length xs → slice_get (take k xs ++ ys) r ≡ slice_get xs r
front_stays xs ys zero r h l = absurd (omega arith)
front_stays [] ys (suc k) r h l = absurd (omega arith)
front_stays (x ∷ xs) ys (suc k) zero h l = refl
front_stays (x ∷ xs) ys (suc k) (suc r) h l = front_stays xs ys k r (omega arith) (omega arith)

beyond : (a b c : ℕ) → a ≤ b → b ≤ c → a ≤ c
beyond a b c h k = omega arith

-- ---- the numbers of one function

module _ (f : Func) where
  abbrev order : List ℕ
  order = temporaries f

  abbrev local : ℕ → ℕ
  local i = place_in (kept_count f) order i

  behind_kept : (i : ℕ) → has i order ≡ true → (kept_count f ≤ i) × (i < length f.locals)
  behind_kept i h = ordered-within (kept_count f) (length f.locals) (written_in f.body) i h

  before_or_past : (i : ℕ) → has i order ≡ false → (i < kept_count f) ⊎ (length f.locals ≤ i)
  before_or_past i e = by (cases_lt i (kept_count f)) (cases_lt i (length f.locals))
    where
      by : (i < kept_count f) ⊎ (kept_count f ≤ i) → (i < length f.locals) ⊎ (length f.locals ≤ i) → (i < kept_count f) ⊎ (length f.locals ≤ i)
      by (inl l) k = inl l
      by (inr l) (inl k) = absurd (true≢false (sym (ordered-has (kept_count f) (length f.locals) (written_in f.body) i l k) ∙ e))
      by (inr l) (inr k) = inr k

  module _ (names : List (List ℕ)) where
    abbrev new : List Named
    new = numbered_locals names f

    kept_at : (i : ℕ) → has i order ≡ false → slice_get new (local i) ≡ slice_get f.locals i
    kept_at i e = ap (slice_get new) (place-absent (kept_count f) order i e) ∙ by (before_or_past i e)
      where
        by : (i < kept_count f) ⊎ (length f.locals ≤ i) → slice_get new i ≡ slice_get f.locals i
        by (inl l) = front_stays f.locals _ (kept_count f) i l (kept_few names f)
        by (inr k) = slice_get_past new i (beyond (length new) (length f.locals) i (locals_few names f) k) ∙ sym (slice_get_past f.locals i k)

    names_there : HasRegisterTemporaries f → (i : ℕ) → is_register f i ≡ false → option_map (λ (l : Named). l.0) (slice_get new (local i)) ≡ option_map (λ (l : Named). l.0) (slice_get f.locals i)
    names_there registers i n = by (cases_Bool (has i order))
      where
        by : (has i order ≡ true) ⊎ (has i order ≡ false) → option_map (λ (l : Named). l.0) (slice_get new (local i)) ≡ option_map (λ (l : Named). l.0) (slice_get f.locals i)
        by (inl h) = let w = behind_kept i h in absurd (true≢false (sym (registers i w.0 w.1) ∙ n))
        by (inr e) = ap (option_map (λ (l : Named). l.0)) (kept_at i e)

  params_stay : f.params ≤ kept_count f → (i : ℕ) → i < f.params → local i ≡ i
  params_stay l i h = by (cases_Bool (has i order))
    where
      by : (has i order ≡ true) ⊎ (has i order ≡ false) → local i ≡ i
      by (inl k) = let w = behind_kept i k in absurd (omega (arith, w.0))
      by (inr e) = place-absent (kept_count f) order i e

-- ---- the program

module _ (p : Program) (typed : IsTypedProgram p) (registers : AreTemporariesRegisters p) where
  abbrev device : ℕ → ℕ
  device d = place_in 0 (device_order p) d

  abbrev change : Func → Func
  change f = numbered_func (temporary_names p) device f

  abbrev local_of : Option Func → ℕ → ℕ
  local_of None i = i
  local_of (Some f) i = place_in (kept_count f) (temporaries f) i

  abbrev numbers : Renaming
  numbers = record { local = λ id. local_of (slice_get p.funcs id); device = device }

  params_few_kept : (f : Func) → IsFuncBy p any_names f → f.params ≤ kept_count f
  params_few_kept f h =
      let e = eqb-true f.params (length (out-Sig f.sig).params) h.count in
      let l = params_few (out-Sig f.sig).params f.locals h.first in
      omega (arith, e, l)

  func_there : (f : Func) → IsFuncBy p any_names f → HasRegisterTemporaries f → temporary_count f ≤ length (temporary_names p) →
      IsFuncRenamed (λ i. place_in (kept_count f) (temporaries f) i) device (change f) f
  func_there f h r enough = record {
    name = refl;
    sig = refl;
    entry = refl;
    params = refl;
    body = refl;
    types = types_kept (temporary_names p) f enough;
    names = names_there f (temporary_names p) r;
    first = params_stay f (params_few_kept f h);
  }

  enough_at : (id : ℕ) (f : Func) → slice_get p.funcs id ≡ Some f → temporary_count f ≤ length (temporary_names p)
  enough_at id f e = all_at (λ (f : Func). temporary_count f ≤ length (temporary_names p)) p.funcs id f e (λ i d lt. names_enough p i d lt)

  funcs_at : (id : ℕ) (o : Option Func) → slice_get p.funcs id ≡ o → AreFuncsRenamed (local_of o) device (option_map change o) o
  funcs_at id None e = tt
  funcs_at id (Some f) e = func_there f (all_at (IsFuncBy p any_names) p.funcs id f e typed.funcs) (all_at HasRegisterTemporaries p.funcs id f e registers) (enough_at id f e)

  apart_of : (o : Option Func) (i j : ℕ) → local_of o i ≡ local_of o j → i ≡ j
  apart_of None i j e = e
  apart_of (Some f) i j e = apart (kept_count f) (length f.locals) (written_in f.body) (kept_few [] f) i j e

  is_renamed : IsRenamed numbers (numbered p).devices (numbered p).funcs p
  is_renamed = record {
    devices_there = λ d. whole-at p.devices (named_from 0 p.devices ++ devices_in_text p) d;
    funcs_there = λ id.
        subst (λ (o : Option Func). AreFuncsRenamed (local_of (slice_get p.funcs id)) device o (slice_get p.funcs id)) (sym (slice_get-map change p.funcs id))
        (funcs_at id (slice_get p.funcs id) refl);
    apart = λ id. apart_of (slice_get p.funcs id);
  }

  pub numbered_follows : Follows (numbered p) p
  numbered_follows = follows numbers (numbered p).devices (numbered p).funcs p is_renamed typed (shows_none p typed)

  pub numbered_answers : Answers (numbered p) p
  numbered_answers = answers numbers (numbered p).devices (numbered p).funcs p is_renamed typed (shows_none p typed)
