-- The sets so far are those after some rounds; each round that changes them leaves fewer states absent.
use mathlib.Core.Path.{sym, ap, ◌∙◌}
use mathlib.Core.List.{List}
use Prim.Native.Nat.{ℕ}
use borrow.Author.Rules.{rules}
use lib.ListN.{get_or}
use mir.Syntax.{w32}
use mir.Val.{Fits}
use Rattle.schema.proofs.Bits.{absent_in}
use Rattle.schema.proofs.GoingLaws.{told_same}
use Rattle.schema.proofs.Rounds.{turn_first, turn_again, turn_less, turn_last, growth_falls}
use Rattle.schema.proofs.SpreadLaws.{all_growth}
use Rattle.schema.proofs.spread.settle.Goals as goal

pub loop-way-init : goal.loop-way-init
loop-way-init c =
    let below : (a : ℕ) → Fits w32 (get_or c.args.first a 0) = λ a. search rules in
    (turn_first _ _ _ (record { long = search rules; below = λ a. (below a).fits }), c.requires)

pub spread_all-requires : goal.spread_all-requires
spread_all-requires c =
    let i = c.loop-way.invariant in
    let told = told_same c.args.way c.args.accepted.now.schema.now _ _ _ i.1 in
    (i.1 ∙ sym (ap (λ (f : List ℕ → List ℕ). f c.loop-way.sets) told), i.0.good.long)

pub returns-then-same_sets : goal.returns-then-same_sets
returns-then-same_sets c =
    let i = c.loop-way.invariant in
    let told = told_same c.args.way c.args.accepted.now.schema.now _ _ _ i.1 in
    let round = rw told at c.spread_all.ensures in
    (turn_last _ _ _ _ _ round.0 i.0 (c.same_sets.ensures.0 (rw c.if-same_sets.true tt)), round.1)

pub loop-way-smaller : goal.loop-way-smaller
loop-way-smaller c =
    let i = c.loop-way.invariant in
    let told = told_same c.args.way c.args.accepted.now.schema.now _ _ _ i.1 in
    let round = rw told at c.spread_all.ensures in
    turn_less _ _ absent_in (λ t h d. growth_falls t _ h (all_growth _ _ _ _ 0 0 t h) d)
    _ _ _ round.0 i.0 (λ q. rw c.if-same_sets.false at (c.same_sets.ensures.1 q))

pub loop-way-preserved : goal.loop-way-preserved
loop-way-preserved c =
    let i = c.loop-way.invariant in
    let told = told_same c.args.way c.args.accepted.now.schema.now _ _ _ i.1 in
    let round = rw told at c.spread_all.ensures in
    (turn_again _ _ (λ t h. (all_growth _ _ _ _ 0 0 t h).sets) _ _ _ round.0 i.0, round.1)
