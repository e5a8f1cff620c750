-- The rows of the types below `a` are laid, and reach no further than their steps.
use mathlib.Core.Path.{◌≡◌, refl, sym, ap, ◌∙◌}
use mathlib.Core.List.{List}
use Prim.Native.Nat.{ℕ, ◌+◌, ◌≤◌}
use native.Mathlib.Omega.{arith}
use borrow.Author.Rules.{rules}
use lib.ListN.{length, get_or, take, length-replicate}
use Rattle.sdtd.specs.Limits.{most_steps}
use Rattle.schema.specs.Putting.{put_all}
use Rattle.schema.specs.RowMaking.{row_tables}
use Rattle.schema.proofs.LimitLaws.{within_room}
use Rattle.schema.proofs.Rounds.{offset_more, steps_fit}
use Rattle.schema.proofs.FirstTables.{Fits}
use Rattle.schema.proofs.PuttingLaws.{put_long}
use Rattle.schema.proofs.RowsLaid.{added_first}
use Rattle.schema.proofs.RowsExact.{type_entries, entries_from, put_take, type_few, type_added, rows_exact}
use Rattle.schema.proofs.rows.make_rows.Goals as goal

-- the entries of a type that are kept, and the table that they are kept in
entries_kept : (es kept new : List ℕ) (n : ℕ) → length kept ≡ most_steps → length es ≤ most_steps → new ≡ put_all es 0 kept → n ≡ length es
    → (take n new ≡ es) × (length new ≡ most_steps)
entries_kept es kept new n long few is count = (rw (count, is) (put_take es kept (omega (arith, long))), rw is (put_long es 0 kept ∙ long))

pub loop-a-init : goal.loop-a-init
loop-a-init c = (refl, length-replicate {A = ℕ} most_steps 0, rw c.requires.4 (added_first _))

pub bounds-schema-a : goal.bounds-schema-a
bounds-schema-a c = omega (arith, (within_room c.args.schema.now c.requires.1).types)

pub invariant_of-span : goal.invariant_of-span
invariant_of-span c =
    let v = c.args.schema.now in
    record { inside = omega (arith, (within_room v c.requires.1).steps, steps_fit v.steps c.loop-a.a v.types (omega arith)) }

pub counted-count-requires : goal.counted-count-requires
counted-count-requires c = omega (arith, (within_room c.args.schema.now c.requires.1).types)

pub slice_bounds-kept-end : goal.slice_bounds-kept-end
slice_bounds-kept-end c =
    let v = c.args.schema.now in
    let f = c.args.found.now in
    let i = c.loop-a.invariant in
    let fit : c.loop-a.start + get_or v.steps c.loop-a.a 0 ≤ most_steps =
    omega (arith, (within_room v c.requires.1).steps, steps_fit v.steps c.loop-a.a v.types (omega arith)) in
    let es : List ℕ = type_entries v f.ways f.live c.loop-a.a in
    let few : length es ≤ get_or v.steps c.loop-a.a 0 = type_few v f.ways f.live c.loop-a.a in
    let is = entries_from v f.ways f.live c.loop-a.a c.loop-a.start i.0 in
    let e = rw c.from-n.ensures at c.counted-count.ensures in
    let count : c.counted-count.result ≡ length es = e.1 ∙ ap length is in
    let k = entries_kept es c.loop-a.kept _ _ i.1 (omega arith) (e.0 ∙ ap (λ x. put_all x 0 c.loop-a.kept) is) count in
    omega (arith, k.1, count, few, fit)

pub slice_bounds-type_rows-end : goal.slice_bounds-type_rows-end
slice_bounds-type_rows-end c =
    let v = c.args.schema.now in
    let f = c.args.found.now in
    let i = c.loop-a.invariant in
    let fit : c.loop-a.start + get_or v.steps c.loop-a.a 0 ≤ most_steps =
    omega (arith, (within_room v c.requires.1).steps, steps_fit v.steps c.loop-a.a v.types (omega arith)) in
    let es : List ℕ = type_entries v f.ways f.live c.loop-a.a in
    let few : length es ≤ get_or v.steps c.loop-a.a 0 = type_few v f.ways f.live c.loop-a.a in
    let is = entries_from v f.ways f.live c.loop-a.a c.loop-a.start i.0 in
    let e = rw c.from-n.ensures at c.counted-count.ensures in
    let count : c.counted-count.result ≡ length es = e.1 ∙ ap length is in
    let k = entries_kept es c.loop-a.kept _ _ i.1 (omega arith) (e.0 ∙ ap (λ x. put_all x 0 c.loop-a.kept) is) count in
    count ∙ sym (ap length k.0)

pub bounds-schema-a-in-loop-a : goal.bounds-schema-a-in-loop-a
bounds-schema-a-in-loop-a c = omega (arith, (within_room c.args.schema.now c.requires.1).types)

pub type_rows-requires : goal.type_rows-requires
type_rows-requires c =
    let v = c.args.schema.now in
    let f = c.args.found.now in
    let i = c.loop-a.invariant in
    let fit : c.loop-a.start + get_or v.steps c.loop-a.a 0 ≤ most_steps =
    omega (arith, (within_room v c.requires.1).steps, steps_fit v.steps c.loop-a.a v.types (omega arith)) in
    let es : List ℕ = type_entries v f.ways f.live c.loop-a.a in
    let few : length es ≤ get_or v.steps c.loop-a.a 0 = type_few v f.ways f.live c.loop-a.a in
    let is = entries_from v f.ways f.live c.loop-a.a c.loop-a.start i.0 in
    let e = rw c.from-n.ensures at c.counted-count.ensures in
    let count : c.counted-count.result ≡ length es = e.1 ∙ ap length is in
    let k = entries_kept es c.loop-a.kept _ _ i.1 (omega arith) (e.0 ∙ ap (λ x. put_all x 0 c.loop-a.kept) is) count in
    (omega (arith, (within_room v c.requires.1).types), omega (arith, i.2.laid.begins_long), omega (arith, i.2.reach, ap length k.0, few, fit))

pub overflow_add-start : goal.overflow_add-start
overflow_add-start c =
    let v = c.args.schema.now in
    omega (arith, (within_room v c.requires.1).steps, steps_fit v.steps c.loop-a.a v.types (omega arith))

pub loop-a-preserved : goal.loop-a-preserved
loop-a-preserved c =
    let v = c.args.schema.now in
    let f = c.args.found.now in
    let i = c.loop-a.invariant in
    let fit : c.loop-a.start + get_or v.steps c.loop-a.a 0 ≤ most_steps =
    omega (arith, (within_room v c.requires.1).steps, steps_fit v.steps c.loop-a.a v.types (omega arith)) in
    let es : List ℕ = type_entries v f.ways f.live c.loop-a.a in
    let few : length es ≤ get_or v.steps c.loop-a.a 0 = type_few v f.ways f.live c.loop-a.a in
    let is = entries_from v f.ways f.live c.loop-a.a c.loop-a.start i.0 in
    let e = rw c.from-n.ensures at c.counted-count.ensures in
    let count : c.counted-count.result ≡ length es = e.1 ∙ ap length is in
    let k = entries_kept es c.loop-a.kept _ _ i.1 (omega arith) (e.0 ∙ ap (λ x. put_all x 0 c.loop-a.kept) is) count in
    let added = type_added v f.ways f.live c.loop-a.a c.loop-a.start (row_tables c.loop-a.entries c.loop-a.begins)
    (omega (arith, (within_room v c.requires.1).types)) fit i.2 in
    rw c.from-n.ensures (offset_more v.steps c.loop-a.a _ i.0, k.1, rw (c.type_rows.ensures, k.0) added)

pub returns : goal.returns
returns c =
    let v = c.args.schema.now in
    let fits : Fits v = record { accepting_long = search rules; accepting_below = c.requires.0 } in
    let all : c.loop-a.a ≡ v.types = omega arith in
    rows_exact fits c.requires.1 c.args.found.now.ways c.args.found.now.live c.requires.2 c.requires.3 (rw all at c.loop-a.invariant.2.laid)
