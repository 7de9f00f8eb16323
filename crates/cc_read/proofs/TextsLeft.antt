-- Texts that are read one after the other: what is left of them, and what it says of all.
use Rattle.std.proofs.Common.{◌≡◌, ◌∙◌, ◌+◌, ◌<◌, ◌≤◌, ℕ, zero, suc, List, [], ◌∷◌, ◌++◌, length, get_or, drop, map, sum, refl, ap, sym, subst, append_assoc, append-nil, arith, add-one}
use Rattle.std.specs.Prelude.{Vec}
use Rattle.std.specs.List.{All, AllZip}
use Rattle.std.proofs.lemmas.List.Elements.{All-cons}
use Rattle.std.proofs.lemmas.List.Sums.{get_or-le-sum_by, sum-map}
use Rattle.std.specs.declared.alloc.Global.{Global}
use Rattle.std.proofs.Math.Seq.{drop-cons}
use Rattle.cc_program.specs.CcNum.declared.target.Target.{Target}
use Rattle.cc_program.specs.declared.program.Roles.{Roles}
use Rattle.cc_read.specs.Refusals.{HasCause, IsFirstRefused, ThisText, LaterText}
use Rattle.cc_read.specs.Texts.{bytes_of, IsTypedText, IsTypedNext, IsLow}
use Rattle.cc_read.specs.declared.refusal.ReadRefusal.{ReadRefusal}
use Rattle.cc_read.specs.declared.refusal.Refusal.{Refusal}
use Rattle.cc_things.specs.declared.text.Text.{Text}

-- those before are typed, as these units, and low
pub record TextsLeft (target : Target) (roles : Roles) (texts : List (List ℕ)) (n : ℕ) (left : List (List ℕ)) (units : List Text) : Type 0 where
  pub typed : (more : List Text) → AllZip (IsTypedText target roles) left more → AllZip (IsTypedText target roles) texts (units ++ more)
  pub low : All IsLow left → All IsLow texts
  pub refused : (e : Refusal) → IsFirstRefused target roles n left e → IsFirstRefused target roles 0 texts e

module _ (target : Target) (roles : Roles) (texts : List (List ℕ)) where
  pub left-all : TextsLeft target roles texts 0 texts []
  left-all = record { typed = λ more h. h; low = λ h. h; refused = λ e h. h }

  pub left-next : (n : ℕ) (text : List ℕ) (left : List (List ℕ)) (units next : List Text) → TextsLeft target roles texts n (text ∷ left) units → IsTypedNext target roles text units next → IsLow text →
      TextsLeft target roles texts (n + 1) left next
  left-next n text left units next h i l = record {
    typed = λ more k. subst (λ us. AllZip (IsTypedText target roles) texts us) (sym (append_assoc units (i.unit ∷ []) more) ∙ ap (λ us. us ++ more) (sym i.behind)) (h.typed (i.unit ∷ more) (i.typed, k));
    low = λ k. h.low (All-cons IsLow text left l k);
    refused = λ e k. h.refused e (LaterText n text left i.unit e i.typed l k);
  }

  pub left-refused : (n : ℕ) (text : List ℕ) (left : List (List ℕ)) (units : List Text) (e : ReadRefusal) → TextsLeft target roles texts n (text ∷ left) units → HasCause target roles text e →
      IsFirstRefused target roles 0 texts (record { file = n; why = e })
  left-refused n text left units e h k = h.refused (record { file = n; why = e }) (ThisText n text left e k)

  pub left-none : (n : ℕ) (units : List Text) → TextsLeft target roles texts n [] units → AllZip (IsTypedText target roles) texts units
  left-none n units h = subst (λ us. AllZip (IsTypedText target roles) texts us) (append-nil units) (h.typed [] tt)

-- ---- the texts as they are handed in

abbrev pub left_of : List (Vec ℕ Global) → ℕ → List (List ℕ)
left_of vs i = bytes_of (drop i vs)

pub left-cons : (vs : List (Vec ℕ Global)) (i : ℕ) (v : Vec ℕ Global) → i < length vs → v ≡ get_or vs i v → left_of vs i ≡ v.items ∷ left_of vs (i + 1)
left-cons vs i v h e = let d = drop-cons vs i v h in rw (add-one, d, ← e) refl

pub left-end : (vs : List (Vec ℕ Global)) → left_of vs (length vs) ≡ []
left-end [] = refl
left-end (v ∷ vs) = left-end vs

bytes_at : (vs : List (Vec ℕ Global)) (i : ℕ) (v : Vec ℕ Global) → i < length vs → v ≡ get_or vs i v → (i < length (bytes_of vs)) × (get_or (bytes_of vs) i [] ≡ v.items)
bytes_at [] i v h e = absurd (omega arith)
bytes_at (w ∷ vs) zero v h e = (omega arith, ap (λ (x : Vec ℕ Global). x.items) (sym e))
bytes_at (w ∷ vs) (suc i) v h e = let r = bytes_at vs i v (omega arith) e in (omega (arith, r.0), r.1)

pub is_short : (vs : List (Vec ℕ Global)) (i : ℕ) (v : Vec ℕ Global) → i < length vs → v ≡ get_or vs i v → length v.items ≤ sum (map length (bytes_of vs))
is_short vs i v h e =
    let r = bytes_at vs i v h e in
    let one = get_or-le-sum_by (length {A = ℕ}) (bytes_of vs) i [] r.0 in
    let all = sum-map (length {A = ℕ}) (bytes_of vs) in
    let same = ap length r.1 in
    omega (arith, one, all, same)
