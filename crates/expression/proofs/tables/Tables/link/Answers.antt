-- `link` meets its contract: one state of the list is linked at each turn.
use mathlib.Core.Path.{◌≡◌, refl, sym, ap, ◌∙◌}
use mathlib.Core.Bool.{Bool, true, false, ◌&&◌, ◌||◌, or-false}
use mathlib.Core.List.{List, ◌∷◌}
use Prim.Native.Nat.{ℕ, ◌^◌, ◌<◌}
use native.Mathlib.Decide.{ℕ_discrete}
use native.Mathlib.Omega.{arith}
use Rattle.std.proofs.Common.{rules}
use lib.Bits.{bit_or}
use lib.Dec.{T, eqb}
use borrow.Author.Tests.{eq-eqb, ne_eqb}
use lib.ListN.{length, get_or, set}
use lib.Seq.{get_or-set_same, get_or-set_other}
use Rattle.sdtd.specs.Limits.{most_states}
use Rattle.schema.specs.States.{member, members}
use Rattle.expression.proofs.SetLaws.{member_or, listed, listed_member, listed_below}
use Rattle.expression.proofs.tables.Tables.link.Goals as goal

-- the row of the first state of the list is linked
turn : (next ps : List ℕ) (first p : ℕ) → p < length next → (k q : ℕ)
    → (member q (get_or (set next p (bit_or (get_or next p 0) first)) k 0) || (listed k ps && member q first))
    ≡ (member q (get_or next k 0) || (listed k (p ∷ ps) && member q first))
turn next ps first p l k q = elim (ℕ_discrete k p) [
  | yes h ↦ rw (h, eq-eqb p p refl)
      (ap (λ (z : Bool). z || (listed p ps && member q first))
      (ap (member q) (get_or-set_same next p (bit_or (get_or next p 0) first) 0 l) ∙ member_or q (get_or next p 0) first)
      ∙ own (member q (get_or next p 0)) (member q first) (listed p ps))
  | no n ↦ rw (ne_eqb k p n)
      (ap (λ (z : Bool). z || (listed k ps && member q first)) (ap (member q) (get_or-set_other next p k (bit_or (get_or next p 0) first) 0 n)))
]
  where
    own : (m f y : Bool) → ((m || f) || (y && f)) ≡ (m || f)
    own true f y = refl
    own false true y = refl
    own false false true = refl
    own false false false = refl

pub loop-p-init : goal.loop-p-init
loop-p-init c =
    let e : members c.into_iter-p-iterator.result.rest ≡ members c.args.last.0 = search rules in
    let l : c.args.last.0 < 2 ^ most_states = omega arith in
    rw e (
      λ q t. listed_below q c.args.last.0 l t,
      λ p q. rw (listed_member p c.args.last.0 l),
      refl,
      refl,
    )

first_below : {ps : List ℕ} (p : ℕ) {qs : List ℕ} → ((q : ℕ) → T (listed q qs) → q < most_states) → qs ≡ p ∷ ps → p < most_states
first_below {ps} p h e = h p (rw (e, eq-eqb p p refl) tt)

pub bounds-self-from : goal.bounds-self-from
bounds-self-from c = rw c.from.ensures (first_below c.in-Some.p c.loop-p.invariant.0 c.in-Some.ensures.steps)

pub bounds-self-from-in-loop-p : goal.bounds-self-from-in-loop-p
bounds-self-from-in-loop-p c = rw c.from.ensures (first_below c.in-Some.p c.loop-p.invariant.0 c.in-Some.ensures.steps)

pub loop-p-preserved : goal.loop-p-preserved
loop-p-preserved c =
    let l = c.loop-p in
    let p = c.in-Some.p in
    let left = members c.next.new.self.rest in
    let e : members l.p-iterator.rest ≡ p ∷ left = c.in-Some.ensures.steps in
    let below : p < most_states = first_below p l.invariant.0 e in
    rw c.from.ensures (
      λ q t. l.invariant.0 q (rw e (later (eqb q p) (listed q left) t)),
      λ k q. turn l.self.next left c.args.first.0 p (omega arith) k q ∙ (rw e at l.invariant.1 k q),
      l.invariant.2,
      l.invariant.3,
    )
  where
    later : (a b : Bool) → T b → T (a || b)
    later true b t = tt
    later false b t = t

pub returns : goal.returns
returns c =
    let l = c.loop-p in
    record {
      each = λ p q. sym (or-false (member q (get_or l.self.next p 0))) ∙ (rw c.in-None.ensures.steps.0 at l.invariant.1 p q);
      types = l.invariant.2;
      places = l.invariant.3;
    }
