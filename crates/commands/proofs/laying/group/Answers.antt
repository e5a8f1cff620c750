-- The loop's invariant: the sets so far, with the uses that are left, have the whole set's uses.
use mathlib.Core.Path.{◌≡◌, refl, ◌∙◌}
use mathlib.Core.Bool.{Bool, true, false, ◌||◌}
use mathlib.Core.List.{List, ◌∷◌}
use Prim.Native.Nat.{ℕ, ◌*◌, ◌%◌, ◌^◌, ◌<◌}
use native.Mathlib.Omega.{arith}
use borrow.Author.Tests.{eq-eqb}
use lib.Bits.{or_lt}
use lib.Dec.{T, eqb}
use lib.ListN.{get_or, length-set}
use lib.Pow.{pow-lt}
use Rattle.std.proofs.Common.{rules}
use Rattle.sdtd.specs.Limits.{most_types, most_states}
use Rattle.schema.specs.States.{insert, members}
use Rattle.schema.proofs.Bits.{insert_below, set_below}
use Rattle.expression.proofs.SetLaws.{listed, listed_member, listed_below, member_zero}
use Rattle.commands.proofs.GroupLaws.{group_turn, named_turn}
use Rattle.commands.proofs.laying.group.Goals as goal

pub loop-q-init : goal.loop-q-init
loop-q-init c =
    let e : members c.into_iter-q-iterator.result.rest ≡ members c.args.set = search rules in
    let l : c.args.set < 2 ^ most_states = omega arith in
    rw e (
      λ q t. listed_below q c.args.set l t,
      omega arith,
      c.requires.0,
      λ j. omega (arith, c.requires.1 j),
      λ j q. rw (c.requires.1 j, listed_member q c.args.set l, member_zero q),
      λ j m. c.requires.1 j,
    )

first_below : {ps : List ℕ} (p : ℕ) {qs : List ℕ} → ((q : ℕ) → T (listed q qs) → q < most_states) → qs ≡ p ∷ ps → p < most_states
first_below {ps} p h e = h p (rw (e, eq-eqb p p refl) tt)

pub bounds-types-from : goal.bounds-types-from
bounds-types-from c = rw c.from.ensures (first_below c.in-Some.q c.loop-q.invariant.0 c.in-Some.ensures.steps)

later : (a b : Bool) → T b → T (a || b)
later true b t = tt
later false b t = t

-- a turn adds the first state that is left to the set of its type
pub loop-q-preserved : goal.loop-q-preserved
loop-q-preserved c =
    let l = c.loop-q in
    let q = c.in-Some.q in
    let left = members c.next.new.self.rest in
    let e : members l.q-iterator.rest ≡ q ∷ left = c.in-Some.ensures.steps in
    let few : q < most_states = first_below q l.invariant.0 e in
    let i = get_or c.args.types.now q 0 % most_types in
    let v = insert q (get_or l.sets i 0) in
    let one : 2 ^ i < 2 ^ most_types = pow-lt {i = i} {j = most_types} (omega arith) in
    let shifted : 1 * 2 ^ i % 2 ^ most_types ≡ 2 ^ i = omega arith in
    rw (c.with-grown.ensures, c.from-j.ensures, c.from.ensures, shifted) (
      λ k t. l.invariant.0 k (rw e (later (eqb k q) (listed k left) t)),
      or_lt most_types l.named (2 ^ i) l.invariant.1 one,
      length-set l.sets i v ∙ l.invariant.2,
      set_below l.sets i v (insert_below q (get_or l.sets i 0) (l.invariant.3 i)) l.invariant.3,
      λ j k. group_turn c.args.types.now l.sets q left l.invariant.2 l.invariant.3 few j k ∙ (rw e at l.invariant.4 j k),
      named_turn l.sets i v l.named l.invariant.5,
    )
