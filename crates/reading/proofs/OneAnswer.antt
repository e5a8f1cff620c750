-- A call's promise allows one answer and one reading only, for any schema and any reading.
use mathlib.Core.Path.{◌≡◌, refl, sym, ap, ◌∙◌}
use mathlib.Core.Logic.Iff
use mathlib.Core.Logic.{inl, inr}
use mathlib.Core.List.{List, [], ◌∷◌}
use Prim.Native.Nat.{ℕ, zero, suc, ◌<◌}
use native.Mathlib.Nat.{le_antisymm}
use native.Mathlib.Omega.{arith}
use Rattle.sdtd.specs.Schema.{Schema}
use Rattle.sdtd.specs.Tree.{Kind}
use Rattle.sdtd.specs.Document.{Event, opening, closing, finish}
use Rattle.sdtd.specs.Answer.{Question, Ordered, typed, taken, refused, Answer}
use Rattle.sdtd.proofs.Answers.{ordered_unique}
use Rattle.schema.proofs.Bits.{same_members}
use Rattle.reading.specs.declared.value.Reading.{Reading}
use Rattle.reading.specs.Questions.{sets_after, OpeningTaken, questions, TakenBy, CallMeans, Next}

-- with nothing open the set kept is not written
sets_same : (κ : Kind) (sets : List ℕ) (n : ℕ) {k l : ℕ} → (0 < n → k ≡ l) → sets_after κ sets n k ≡ sets_after κ sets n l
sets_same κ sets zero e = refl
sets_same κ sets (suc n) e = ap (sets_after κ sets (suc n)) (e (omega arith))

opening_unique : {S : Schema} {r : Reading} {κ : Kind} {g : ℕ} {n m : Next} → OpeningTaken S r κ g n → OpeningTaken S r κ g m → n ≡ m
opening_unique {S} {r} {κ} s t =
    let type : s.type ≡ t.type = le_antisymm (s.smallest t.type t.can_open) (t.smallest s.type s.can_open) in
    let kept : 0 < r.depth → s.kept ≡ t.kept =
    λ h. same_members s.kept t.kept s.kept_below t.kept_below
    (λ q. Iff.trans (rw type at (s.keeps h q)) (Iff.symm (t.keeps h q))) in
    let sets = sets_same κ r.sets r.depth kept in
    s.next ∙ cc (type, sets) ∙ sym t.next

taken_unique : (S : Schema) (r : Reading) (x : Event) {n m : Next} → TakenBy S r x n → TakenBy S r x m → n ≡ m
taken_unique S r (opening κ g) s t = opening_unique s t
taken_unique S r (closing g) s t = s ∙ sym t
taken_unique S r finish s t = s ∙ sym t

pub call_unique : (S : Schema) (r : Reading) (x : Event) {n m : Next} → CallMeans S r x n → CallMeans S r x m → n ≡ m
call_unique S r x s t = ordered_unique (TakenBy S r x) (questions S r x) (λ all. taken_unique S r x) s t

-- each refusal hands back the reading r
abbrev HandBack : Reading → List (Question Next) → Type 0
HandBack r [] = Unit
HandBack r (q ∷ qs) = (q.refusal.reading ≡ r) × HandBack r qs

refused_by : (P : Next → Type 0) {r : Reading} {n : Next} (qs : List (Question Next)) → HandBack r qs → (P n → n.reading ≡ r)
    → Ordered qs P n → n.reading ≡ r
refused_by P [] h t p = t p
refused_by P (q ∷ qs) h t (inl o) = ap (λ (n : Next). n.reading) o.1 ∙ h.0
refused_by P (q ∷ qs) h t (inr o) = refused_by P qs h.1 t o.1

-- an answer that is no refusal
pub typed_refused : {A : Type 0} {a : Answer} {j k : ℕ} → a ≡ typed j → a ≡ refused k → A
typed_refused p q = absurd (let z : ◌≡◌ {A = ℕ} 0 1 = cc in omega arith)

pub taken_refused : {A : Type 0} {a : Answer} {k : ℕ} → a ≡ taken → a ≡ refused k → A
taken_refused p q = absurd (let z : ◌≡◌ {A = ℕ} 0 1 = cc in omega arith)

-- A refused call hands back the reading that it was given.
pub refused_unchanged : (S : Schema) (r : Reading) (x : Event) {n : Next} {k : ℕ} → CallMeans S r x n → n.answer ≡ refused k
    → n.reading ≡ r
refused_unchanged S r (opening κ g) m e =
    refused_by (TakenBy S r (opening κ g)) (questions S r (opening κ g)) (refl, (refl, (refl, (refl, (refl, tt)))))
    (λ t. typed_refused (ap (λ (n : Next). n.answer) t.next) e) m
refused_unchanged S r (closing g) m e =
    refused_by (TakenBy S r (closing g)) (questions S r (closing g)) (refl, (refl, (refl, (refl, (refl, (refl, tt))))))
    (λ t. taken_refused (ap (λ (n : Next). n.answer) t) e) m
refused_unchanged S r finish m e =
    refused_by (TakenBy S r finish) (questions S r finish) (refl, (refl, (refl, tt))) (λ t. taken_refused (ap (λ (n : Next). n.answer) t) e) m
