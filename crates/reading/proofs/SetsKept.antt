-- Whatever call is made, the state sets of a reading have only states below `most_states`.
use Rattle.sdtd.specs.Answer.{refused}
use mathlib.Core.Path.{◌≡◌, sym, subst}
use mathlib.Core.Logic.{◌⊎◌, inl, inr}
use mathlib.Core.List.{List}
use Prim.Native.Nat.{ℕ, zero, suc, ◌^◌, ◌<◌}
use native.Mathlib.Omega.{arith}
use lib.ListN.{get_or, set}
use Rattle.sdtd.specs.Limits.{most_states}
use Rattle.sdtd.specs.Schema.{Schema}
use Rattle.sdtd.specs.Tree.{Kind, plain, nil}
use Rattle.sdtd.specs.Document.{Event, opening, closing, finish}
use Rattle.schema.proofs.Bits.{set_below}
use Rattle.reading.specs.declared.value.Reading.{Reading}
use Rattle.reading.specs.Questions.{gives, first_set, sets_after, OpeningTaken, CallMeans, Next}

abbrev pub Below : List ℕ → Type 0
Below sets = (n : ℕ) → get_or sets n 0 < 2 ^ most_states

first_below : (κ : Kind) → first_set κ < 2 ^ most_states
first_below plain = omega arith
first_below nil = omega arith

after_below : (κ : Kind) (sets : List ℕ) (n kept : ℕ) → kept < 2 ^ most_states → Below sets → Below (sets_after κ sets n kept)
after_below κ sets zero kept h b = set_below sets 0 (first_set κ) (first_below κ) b
after_below κ sets (suc n) kept h b = set_below (set sets n kept) (suc n) (first_set κ) (first_below κ) (set_below sets n kept h b)

-- by an equal answer
by_equal : {m n : Next} → Below m.reading.sets → n ≡ m → Below n.reading.sets
by_equal h e = subst (λ (m : Next). Below m.reading.sets) (sym e) h

module _ {r : Reading} (b : Below r.sets) where
  -- a question that is answered no leaves the reading
  asked : {i : ℕ} {P R : Type 0} {n : Next} → (R → Below n.reading.sets) → ((¬ P) × (n ≡ gives (refused i) r)) ⊎ (P × R)
      → Below n.reading.sets
  asked next (inl o) = by_equal b o.1
  asked next (inr o) = next o.1

  opening_below : {S : Schema} {κ : Kind} {g : ℕ} {n : Next} → OpeningTaken S r κ g n → Below n.reading.sets
  opening_below {κ = κ} t = by_equal (after_below κ r.sets r.depth t.kept t.kept_below b) t.next

pub sets_kept : (S : Schema) (r : Reading) (x : Event) (n : Next) → Below r.sets → CallMeans S r x n → Below n.reading.sets
sets_kept S r (opening κ g) n b = asked b (asked b (asked b (asked b (asked b (opening_below b)))))
sets_kept S r (closing g) n b = asked b (asked b (asked b (asked b (asked b (asked b (by_equal b))))))
sets_kept S r finish n b = asked b (asked b (asked b (by_equal b)))
