-- Where two types compete in a type, there is a shortest word after which two compete in it.
use mathlib.Core.Path.{◌≡◌, refl, sym, ap, subst₂, ◌∙◌}
use mathlib.Core.Logic.{◌↔◌}
use Prim.Native.Nat.{ℕ, zero, suc, ◌≤◌}
use native.Mathlib.Omega.{arith}
use lib.ListN.{length}
use Rattle.sdtd.specs.Schema.{Schema}
use Rattle.sdtd.specs.Competition.{CompeteIn}
use Rattle.sdtd.proofs.Fixpoint.{PairOfLength, CountedClosed, counted_complete, counted_closed}
use Rattle.sdtd.proofs.Rivals.{different_compete, different_word, RivalsIn, rivals_in}
use Rattle.sdtd.proofs.Tests.{means_iff, Decision, decision, decided, eq_means, and_means}
use Rattle.sdtd.proofs.Smallest.{smallest_of}
use Rattle.sdtd.proofs.StatePairs.{PairStep, pair_step}
use Rattle.sdtd.proofs.Competing.{rivals_decided}

-- n steps by tree-bearing types lead from the start state of a to p, and n steps by the same types to q
abbrev After : Schema → ℕ → ℕ → ℕ → ℕ → Type 0
After S a zero p q = (p ≡ 0) × (q ≡ 0)
After S a (suc n) p q = PairStep S a (After S a n) p q

-- .. decided, closed and sound
after : (S : Schema) (a n p q : ℕ) → Decision (After S a n p q)
after S a zero p q = decision (and_means (eq_means p 0) (eq_means q 0))
after S a (suc n) p q = pair_step S a (after S a n) p q

after_closed : (S : Schema) (a : ℕ) → CountedClosed S a (After S a)
after_closed S a =
    record {
      start = (refl, refl);
      step = λ n p q j p' q' h l r b. record { p = p; q = q; by = j; before = h; left = l; right = r; bears = b };
    }

after_sound : (S : Schema) (a n p q : ℕ) → After S a n p q → PairOfLength S a n p q
after_sound S a zero p q h = subst₂ (PairOfLength S a 0) (sym h.0) (sym h.1) counted_closed.start
after_sound S a (suc n) p q h =
    counted_closed.step n h.p h.q h.by p q (after_sound S a n h.p h.q h.before) h.left h.right h.bears

-- so it is decided which pairs a word of n types reaches
pair_of_length : (S : Schema) (a n p q : ℕ) → Decision (PairOfLength S a n p q)
pair_of_length S a n p q =
    decision (means_iff (after S a n p q).1 (counted_complete (after_closed S a) n p q, after_sound S a n p q))

-- two types compete in the type a after a word of n types
record CompeteOfLength (S : Schema) (a n : ℕ) : Type 0 where
  compete_in : CompeteIn S a
  long : length compete_in.word ≡ n

-- they do exactly if a pair that such a word reaches has rival steps by different types
compete_of_length_exact : (S : Schema) (a n : ℕ) → CompeteOfLength S a n ↔ RivalsIn S a (PairOfLength S a n)
compete_of_length_exact S a n = (
  λ c. rivals_in (PairOfLength S a n) c.compete_in (λ p q r e. record { pair = r; long = ap length e ∙ c.long }),
  λ r.
      let x = r.pair in
      record {
        compete_in = different_compete r.useful x.pair r.rivals r.different;
        long = ap length (different_word r.useful x.pair r.rivals r.different) ∙ x.long;
      },
)

-- so it is decided
compete_of_length : (S : Schema) (a n : ℕ) → Decision (CompeteOfLength S a n)
compete_of_length S a n = decision (means_iff (rivals_decided S a (pair_of_length S a n)).1 (compete_of_length_exact S a n))

-- Two types compete in the type a after a word, and none compete in it after a shorter one.
pub record ShortestIn (S : Schema) (a : ℕ) : Type 0 where
  pub compete_in : CompeteIn S a
  pub shortest : (other : CompeteIn S a) → length compete_in.word ≤ length other.word

pub shortest_in : {S : Schema} {a : ℕ} → CompeteIn S a → ShortestIn S a
shortest_in {S} {a} c =
    let s = smallest_of (λ n. decided (compete_of_length S a n).1) (length c.word) (record { compete_in = c; long = refl }) in
    record {
      compete_in = s.holds.compete_in;
      shortest = λ other. omega (arith, s.holds.long, s.smallest (length other.word) (record { compete_in = other; long = refl }));
    }
