-- Laws of questions in order.
use mathlib.Core.Path.{◌≡◌, refl}
use mathlib.Core.Bool.{Bool, true, false, cond}
use mathlib.Core.List.{List, [], ◌∷◌}
use Prim.Native.Nat.{ℕ, ◌<◌}
use native.Mathlib.Omega.{arith}
use lib.Dec.{T}
use Rattle.command.specs.Asked.{first_no}

-- each question's number has the property
abbrev pub Numbered : (ℕ → Type 0) → List (ℕ × Bool) → Type 0
Numbered P [] = Unit
Numbered P (q ∷ qs) = P q.0 × Numbered P qs

-- all are answered yes
abbrev pub AllYes : List (ℕ × Bool) → Type 0
AllYes [] = Unit
AllYes (q ∷ qs) = T q.1 × AllYes qs

first_yes : (b : Bool) (rest n : ℕ) → 0 < n → cond b rest n ≡ 0 → T b × (rest ≡ 0)
first_yes true rest n l z = (tt, z)
first_yes false rest n l z = absurd (omega arith)

-- where none is answered no, all are answered yes
pub all_yes : (qs : List (ℕ × Bool)) → Numbered (λ n. 0 < n) qs → first_no qs ≡ 0 → AllYes qs
all_yes [] k z = tt
all_yes (q ∷ qs) k z =
    let r = first_yes q.1 (first_no qs) q.0 k.0 z in
    (r.0, all_yes qs k.1 r.1)

-- the first that is answered no has one of their numbers
pub first_number : (P : ℕ → Type 0) (qs : List (ℕ × Bool)) → Numbered P qs → ¬ (first_no qs ≡ 0) → P (first_no qs)
first_number P [] k z = absurd (z refl)
first_number P (q ∷ qs) k z = go q.1 (first_number P qs k.1) z
  where
    go : (b : Bool) → (¬ (first_no qs ≡ 0) → P (first_no qs)) → ¬ (cond b (first_no qs) q.0 ≡ 0) → P (cond b (first_no qs) q.0)
    go true rest z = rest z
    go false rest z = k.0
