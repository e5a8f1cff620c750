-- An opening that is taken brings the reading one level deeper, and its type stands at that level; no other call does.
use mathlib.Core.Path.{◌≡◌, sym, subst}
use mathlib.Core.Logic.{◌⊎◌, inl, inr}
use Prim.Native.Nat.{ℕ, zero, suc, pred, ◌≤◌, ◌<◌}
use native.Mathlib.Omega.{arith}
use lib.ListN.{length, get_or}
use lib.Seq.{get_or-set_same}
use Rattle.sdtd.specs.Limits.{most_levels}
use Rattle.sdtd.specs.Schema.{Schema}
use Rattle.sdtd.specs.Tree.{Kind}
use Rattle.sdtd.specs.Document.{Event, opening, closing, finish}
use Rattle.sdtd.specs.Answer.{Answer, refused, typed, taken}
use Rattle.reading.specs.declared.value.Reading.{Reading}
use Rattle.reading.specs.Questions.{Next, gives, refuses, closed, after_finish, OpeningTaken, CallMeans}

-- what the answer says of the depth before and after, and of the type there
abbrev pub DepthTells : Reading → Answer → Reading → Type 0
DepthTells r (typed j) s = (r.depth < s.depth) × (get_or s.types r.depth 0 ≡ j)
DepthTells r taken s = s.depth ≤ r.depth
DepthTells r (refused k) s = s.depth ≤ r.depth

pred_most : (n : ℕ) → pred n ≤ n
pred_most zero = omega arith
pred_most (suc n) = omega arith

abbrev Tells : Reading → Next → Type 0
Tells r n = DepthTells r n.answer n.reading

module _ (r : Reading) (long : length r.types ≡ most_levels) where
  -- a question that is answered no leaves the reading
  asked : {i : ℕ} {P R : Type 0} {n : Next} → (P → R → Tells r n) → ((¬ P) × (n ≡ refuses r i)) ⊎ (P × R) → Tells r n
  asked next (inl o) = subst (Tells r) (sym o.1) (omega arith)
  asked next (inr o) = next o.0 o.1

  opening_tells : {S : Schema} {κ : Kind} {g : ℕ} {n : Next} → r.depth < most_levels → OpeningTaken S r κ g n → Tells r n
  opening_tells l t = subst (Tells r) (sym t.next) (omega arith, get_or-set_same r.types r.depth t.type 0 (omega arith))

  closing_tells : {n : Next} → n ≡ gives taken (closed r) → Tells r n
  closing_tells e = subst (Tells r) (sym e) (pred_most r.depth)

  finish_tells : {n : Next} → n ≡ gives taken (after_finish r) → Tells r n
  finish_tells e = subst (Tells r) (sym e) (omega arith)

  pub depth_tells : (S : Schema) (x : Event) (n : Next) → CallMeans S r x n → DepthTells r n.answer n.reading
  depth_tells S (opening κ g) n = asked (λ a. asked (λ b. asked (λ c. asked (λ d. asked (λ l. opening_tells l)))))
  depth_tells S (closing g) n = asked (λ a. asked (λ b. asked (λ c. asked (λ d. asked (λ e. asked (λ f. closing_tells))))))
  depth_tells S finish n = asked (λ a. asked (λ b. asked (λ c. finish_tells)))
