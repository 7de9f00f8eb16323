-- The registers of one more function.
use Rattle.std.proofs.Common.{arith, ◌≡◌, ◌<◌, ◌≤◌, ◌+◌, ℕ, List, [], ◌∷◌, ◌++◌, length, length-append, Some, None, refl, ap, sym, subst, ◌∙◌, inl, inr}
use Rattle.std.specs.Prelude.{◌⊎◌, slice_get}
use Rattle.std.proofs.lemmas.Bool.{cases_lt}
use Rattle.std.proofs.lemmas.Option.{none-some, same_Some, slice_get_cases, slice_get_within}
use Rattle.cc_program.specs.declared.func.Func.{Func}
use Rattle.cc_state_points.proofs.CcRulesFlows.CaseBodies.{get_before, get_behind}
use Rattle.cc_slots_points.specs.declared.frames.Frame.{Frame}
use Rattle.cc_slots_points.specs.Frames.{AreFrames, IsFrame}

-- of the first functions
pub record AreFirst (funcs : List Func) (frames : List Frame) (count : ℕ) : Type 0 where
  pub long : length frames ≡ count
  pub each : (id : ℕ) (f : Func) (frame : Frame) → slice_get funcs id ≡ Some f → slice_get frames id ≡ Some frame → IsFrame f frame

pub none_first : (funcs : List Func) (frames : List Frame) → frames ≡ [] → AreFirst funcs frames 0
none_first funcs frames e = subst (λ (z : List Frame). AreFirst funcs z 0) (sym e) (record { long = refl; each = λ id f frame function there. absurd (let none : None ≡ Some frame = there in cc) })

module _ (funcs : List Func) (frames new : List Frame) (i : ℕ) (f : Func) (frame : Frame) (h : AreFirst funcs frames i) (function : slice_get funcs i ≡ Some f) (is : IsFrame f frame) (more : new ≡ frames ++ frame ∷ []) where
  split : (id : ℕ) (g : Func) (x : Frame) → slice_get funcs id ≡ Some g → slice_get (frames ++ frame ∷ []) id ≡ Some x → (id < length frames) ⊎ (length frames ≤ id) → IsFrame g x
  split id g x e there (inl lt) = h.each id g x e (sym (get_before frames (frame ∷ []) id lt) ∙ there)
  split id g x e there (inr le) =
      let within : id < length (frames ++ frame ∷ []) = slice_get_within (frames ++ frame ∷ []) id x there in
      let counted : length (frames ++ frame ∷ []) ≡ length frames + 1 = length-append frames (frame ∷ []) in
      let last : id ≡ length frames + 0 = omega (arith, le, within, counted) in
      let here : id ≡ i = omega (arith, last, h.long) in
      let own : frame ≡ x = same_Some frame x (sym (get_behind frames (frame ∷ []) id 0 last) ∙ there) in
      let called : f ≡ g = same_Some f g (sym (ap (slice_get funcs) here ∙ function) ∙ e) in
      subst (λ (z : Frame). IsFrame g z) own (subst (λ (z : Func). IsFrame z frame) called is)

  pub one_first : AreFirst funcs new (i + 1)
  one_first = subst (λ (z : List Frame). AreFirst funcs z (i + 1)) (sym more) (record {
    long = (let l = length-append frames (frame ∷ []) in let k = h.long in omega (arith, l, k));
    each = λ id g x e there. split id g x e there (cases_lt id (length frames));
  })

pub all_frames : (funcs : List Func) (frames : List Frame) (count : ℕ) → length funcs ≤ count → AreFirst funcs frames count → AreFrames funcs frames
all_frames funcs frames count le h = record { enough = (let l = h.long in omega (arith, l, le)); each = h.each }

-- a function has its registers among them
pub there_is : (funcs : List Func) (frames : List Frame) (id : ℕ) (f : Func) → AreFrames funcs frames → slice_get funcs id ≡ Some f → slice_get frames id ≡ None → ⊥
there_is funcs frames id f h function none =
    let within = slice_get_within funcs id f function in
    let enough = h.enough in
    elim (slice_get_cases frames id).1 [
      | inl w ↦ none-some w.0 (sym none ∙ w.2)
      | inr w ↦ (let past : length frames ≤ id = w.0 in absurd (omega (arith, within, enough, past)))
    ]
