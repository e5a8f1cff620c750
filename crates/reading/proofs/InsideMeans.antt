-- Inside an element: what its moves come to is what a call asks for, by the rows and by its type's own steps.
use mathlib.Core.Path.{◌≡◌, refl, sym, ◌∙◌}
use mathlib.Core.Logic.{◌↔◌}
use mathlib.Core.Bool.{Bool, ◌&&◌}
use mathlib.Core.List.{List, Memᴰ}
use Prim.Native.Nat.{ℕ, ◌+◌, ◌%◌, ◌^◌, ◌≤◌, ◌<◌}
use native.Mathlib.Omega.{arith}
use lib.Dec.{T, eqb, eqb→eq, eqb_refl}
use lib.ListN.{get_or}
use Rattle.sdtd.specs.Limits.{most_types, most_states, most_steps}
use Rattle.sdtd.specs.Schema.{Step, block_of, tag_of, WithinLimits, step}
use Rattle.sdtd.specs.Schema.{Schema as Meaning}
use Rattle.sdtd.specs.Tree.{Kind}
use Rattle.sdtd.specs.Trim.{BearsBy, Live}
use Rattle.sdtd.proofs.Bearing.{by_bears}
use Rattle.sdtd.proofs.Basics.{cond_either, and_parts, and_both}
use Rattle.schema.specs.States.{member, members, no_states}
use Rattle.schema.specs.Ways.{opens_by}
use Rattle.schema.specs.Value.{steps_of, offset, meaning}
use Rattle.schema.specs.Rows.{Counts, to_in, by_in, tag_in, ways_in, row_of, RowsMean}
use Rattle.schema.specs.declared.row.Rows.{Rows}
use Rattle.schema.proofs.Bits.{mem-members, member_below}
use Rattle.schema.specs.Trimming.{LiveExactly, WaysExactly}
use Rattle.schema.specs.declared.value.Schema.{Schema}
use Rattle.schema.proofs.Values.{types_count, tag_of_lem}
use Rattle.schema.proofs.LimitLaws.{within_room}
use Rattle.schema.proofs.Rounds.{steps_fit}
use Rattle.schema.proofs.FirstTables.{Fits, own_step, own-steps}
use Rattle.schema.proofs.WaysLaws.{some_ways}
use Rattle.schema.proofs.RowLaws.{Says, counted_from, row_says, row_has}
use Rattle.reading.specs.declared.value.Reading.{Reading}
use Rattle.reading.specs.Levels.{Within, inner_type, inner_set}
use Rattle.reading.specs.Questions.{LeadsTo, CanOpen}
use Rattle.reading.specs.declared.coming.Least.{Least}
use Rattle.reading.specs.Coming.{none_yet, Move, move, joins, coming_of, coming_by, opens_in, entry_moves, row_moves, step_taken, step_moves}
use Rattle.reading.specs.Steps.{inner_by_rows, inner_by_steps}
use Rattle.reading.specs.Asking.{SomeStep}
use Rattle.reading.proofs.RowMembers.{row_mem}
use Rattle.reading.proofs.LevelLaws.{inner_below}
use Rattle.reading.proofs.ComingMeans.{ComesNext, ComingMeans}
use Rattle.reading.proofs.ComingLaws.{Smallest, smallest_same, joins_smallest, moves_mem, where_mem}

-- the type j can be opened so under the tag g inside the innermost element, and leads to the live state q
record Opens (S : Meaning) (r : Reading) (κ : Kind) (g j q : ℕ) : Type 0 where
  bears : BearsBy S κ j
  tag : tag_of S j ≡ g
  leads : LeadsTo S r j q

-- with an element open, the smallest of those is what a call asks for
smallest_means : (S : Meaning) (r : Reading) (κ : Kind) (g : ℕ) (c : Least) → 0 < r.depth → Smallest (Opens S r κ g) c → ComingMeans S r κ g (coming_of c)
unfolding coming_of
smallest_means S r κ g c d s =
    cond_either (ComingMeans S r κ g) (eqb c.kept no_states)
    (λ h j o. let w = opened o in s.none (eqb→eq c.kept no_states h) j w.0 w.1)
    (λ n. comes (s.some (λ e. n (rw e tt))).1)
  where
    opened : {j : ℕ} → CanOpen S r κ g j → (q : ℕ) × Opens S r κ g j q
    opened o = let w = o.some_open d in (w.0, record { bears = o.bears; tag = o.tag; leads = w.1 })

    comes : {q : ℕ} → Opens S r κ g c.of q → ComesNext S r κ g c.of c.kept
    comes {q} o =
        record {
          can_open = record { bears = o.bears; tag = o.tag; some_open = λ h. (q, o.leads); none_open = λ z. absurd (omega arith) };
          smallest = λ j p. let w = opened p in s.least j w.0 w.1;
          kept_below = s.kept_below;
          keeps =
              λ h p. (λ m. ((s.keeps p).0 m).leads, λ w. (s.keeps p).1 (record { bears = o.bears; tag = o.tag; leads = w }));
        }

same_opens : {S : Meaning} {r : Reading} {κ : Kind} {g j q k p : ℕ} → j ≡ k → q ≡ p → Opens S r κ g k p → Opens S r κ g j q
same_opens e f o = rw (e, f) o

-- a step by a type that can be opened counts
opens_counts : {S : Meaning} {r : Reading} {κ : Kind} {g j q : ℕ} (o : Opens S r κ g j q) → Counts S (inner_type r) (step o.leads.from j q)
opens_counts {κ = κ} o = record { given = o.leads.step; bears = by_bears κ o.bears; live = o.leads.live }

-- the moves by the types that can be opened come to what a call asks for
moves_means : {S : Meaning} → WithinLimits S → (r : Reading) (κ : Kind) (g : ℕ) (ms : List Move) → 0 < r.depth
    → ((j q : ℕ) → Memᴰ (move j q) ms ↔ Opens S r κ g j q) → ComingMeans S r κ g (coming_by ms)
moves_means {S} within r κ g ms inside same =
    smallest_means S r κ g (joins ms none_yet) inside
    (smallest_same same
    (joins_smallest ms
    (λ j q m.
    let w = counted_from within (opens_counts ((same j q).0 m)) in
    (omega (arith, w.2, within.types_most), w.1))))

module _ {S : Meaning} (within : WithinLimits S) (t : Rows) (rows : RowsMean S t.entries.now t.begins.now) (r : Reading) (κ : Kind) (g : ℕ)
    (below : inner_set r < 2 ^ most_states) where
  -- the row of the state p of the innermost type
  abbrev row_at : ℕ → List ℕ
  row_at p = row_of t.entries.now t.begins.now (inner_type r) p

  -- an entry under the tag, in the row of a state kept
  said_opens : (p e : ℕ) → T (member p (inner_set r)) → T (eqb (tag_in e) g && opens_by κ (ways_in e)) → Says S (inner_type r) p e
      → Opens S r κ g (by_in e) (to_in e)
  said_opens p e kept under s =
      let both = and_parts (eqb (tag_in e) g) (opens_by κ (ways_in e)) under in
      record {
        bears = (s.ways.exact κ).0 both.1;
        tag = sym s.tag ∙ eqb→eq (tag_in e) g both.0;
        leads = record { from = p; kept = kept; step = s.counts.given; live = s.counts.live };
      }

  row_opens : (j q : ℕ) → Memᴰ (move j q) (inner_by_rows t r κ g) → Opens S r κ g j q
  row_opens j q m =
      let (p, state, row) = (moves_mem (λ p. row_moves κ g (row_at p)) (members (inner_set r)) (move j q)).0 m in
      let (e, entry, here) = (moves_mem (entry_moves κ g) (row_at p) (move j q)).0 row in
      let kept = (mem-members p (inner_set r) below).0 state in
      let w = (where_mem (eqb (tag_in e) g && opens_by κ (ways_in e)) (by_in e) (to_in e) j q).0 here in
      let says = row_says within rows (inner_type r) p e (member_below p (inner_set r) below kept) ((row_mem t (inner_type r) p e).0 entry) in
      same_opens w.1 w.2 (said_opens p e kept w.0 says)

  opens_row : (j q : ℕ) → Opens S r κ g j q → Memᴰ (move j q) (inner_by_rows t r κ g)
  opens_row j q o =
      let c = opens_counts o in
      let p = o.leads.from in
      let ways = some_ways S j in
      let (e, i, reads) = row_has within rows c ways.1 in
      let tag : T (eqb (tag_in e) g) = rw (reads.tag_is ∙ o.tag) (eqb_refl g) in
      let kind : T (opens_by κ (ways_in e)) = rw reads.ways_is ((ways.1.exact κ).1 o.bears) in
      let under = and_both (eqb (tag_in e) g) (opens_by κ (ways_in e)) tag kind in
      let here : Memᴰ (move j q) (entry_moves κ g e) =
      (where_mem (eqb (tag_in e) g && opens_by κ (ways_in e)) (by_in e) (to_in e) j q).1 (under, sym reads.by_is, sym reads.to_is) in
      let row = (moves_mem (entry_moves κ g) (row_at p) (move j q)).1 (e, (row_mem t (inner_type r) p e).1 i, here) in
      (moves_mem (λ p. row_moves κ g (row_at p)) (members (inner_set r)) (move j q)).1 (p, (mem-members p (inner_set r) below).1 o.leads.kept, row)

  -- inside an element the rows come to what a call asks for
  pub rows_mean : 0 < r.depth → ComingMeans S r κ g (coming_by (inner_by_rows t r κ g))
  rows_mean inside = moves_means within r κ g (inner_by_rows t r κ g) inside (λ j q. (row_opens j q, opens_row j q))

-- the places of the steps of the innermost element's type: from its offset on
abbrev start : Schema → Reading → ℕ
start v r = offset v.steps (inner_type r)

abbrev count : Schema → Reading → ℕ
count v r = get_or v.steps (inner_type r) 0

module _ {v : Schema} {r : Reading} (fits : Fits v) (within : Within (meaning v) r) (inside : 0 < r.depth) where
  -- the steps of the innermost element's type lie inside the tables
  pub inside_room : start v r + count v r ≤ most_steps
  inside_room =
      omega (arith, (within_room v within.schema).steps, steps_fit v.steps (inner_type r) v.types (inner_below v r within inside))

  module _ (live ways : List ℕ) (table : LiveExactly (meaning v) live) (opened : WaysExactly (meaning v) ways) (κ : Kind) (g : ℕ) where
    -- whether a step of that type is taken
    abbrev is_taken : Step → Bool
    is_taken x = step_taken v.tag ways (get_or live (inner_type r) 0) (inner_set r) κ g x

    -- the four tests of a step by the type j, which is read at the entry j
    module _ (x : Step) (m : Memᴰ x (block_of (meaning v) (inner_type r)).steps) where
      at_own : x.by % most_types ≡ x.by
      at_own = (own_step fits within.schema (inner_type r) x m).by

      abbrev under : Bool
      under = eqb (get_or v.tag (x.by % most_types) 0) g

      abbrev bearing : Bool
      bearing = opens_in κ ways (x.by % most_types)

      abbrev to_live : Bool
      to_live = member x.to (get_or live (inner_type r) 0)

      own_tag : x.by < v.types → get_or v.tag (x.by % most_types) 0 ≡ tag_of (meaning v) x.by
      own_tag l = rw at_own (sym (tag_of_lem v x.by l))

      type_below : BearsBy (meaning v) κ x.by → Live (meaning v) (inner_type r) x.to → x.by < v.types
      type_below b l = rw types_count at (counted_from within.schema (record { given = m; bears = by_bears κ b; live = l })).2

      taken_opens : T (is_taken x) → Opens (meaning v) r κ g x.by x.to
      taken_opens t =
          let both = and_parts (under && member x.from (inner_set r)) (bearing && to_live) t in
          let first = and_parts under (member x.from (inner_set r)) both.0 in
          let second = and_parts bearing to_live both.1 in
          let b : BearsBy (meaning v) κ x.by = ((opened x.by).exact κ).0 (rw at_own at second.0) in
          let l = (table (inner_type r) x.to).0 second.1 in
          record {
            bears = b;
            tag = sym (own_tag (type_below b l)) ∙ eqb→eq (get_or v.tag (x.by % most_types) 0) g first.0;
            leads = record { from = x.from; kept = first.1; step = m; live = l };
          }

      opens_taken : T (member x.from (inner_set r)) → BearsBy (meaning v) κ x.by → Live (meaning v) (inner_type r) x.to
          → tag_of (meaning v) x.by ≡ g → T (is_taken x)
      opens_taken kept b l e =
          and_both (under && member x.from (inner_set r)) (bearing && to_live)
          (and_both under (member x.from (inner_set r)) (rw (own_tag (type_below b l) ∙ e) (eqb_refl g)) kept)
          (and_both bearing to_live (rw at_own (((opened x.by).exact κ).1 b)) ((table (inner_type r) x.to).1 l))

    -- the steps of that type are those of its span
    own : (block_of (meaning v) (inner_type r)).steps ≡ steps_of v.from v.by v.to (start v r) (count v r)
    own = own-steps fits within.schema (inner_type r) (inner_below v r within inside)

    abbrev taken_moves : Step → List Move
    taken_moves = step_moves v.tag ways (get_or live (inner_type r) 0) (inner_set r) κ g

    step_opens : (j q : ℕ) → Memᴰ (move j q) (inner_by_steps v live ways r κ g) → Opens (meaning v) r κ g j q
    step_opens j q m =
        let (x, given, here) = (moves_mem taken_moves _ (move j q)).0 m in
        let w = (where_mem (is_taken x) x.by x.to j q).0 here in
        same_opens w.1 w.2 (taken_opens x (rw own given) w.0)

    opens_step : (j q : ℕ) → Opens (meaning v) r κ g j q → Memᴰ (move j q) (inner_by_steps v live ways r κ g)
    opens_step j q o =
        let x = step o.leads.from j q in
        let t = opens_taken x o.leads.step o.leads.kept o.bears o.leads.live o.tag in
        (moves_mem taken_moves _ (move j q)).1 (x, rw own at o.leads.step, (where_mem (is_taken x) j q j q).1 (t, refl, refl))

    -- inside an element its type's own steps come to what a call asks for
    pub steps_mean : ComingMeans (meaning v) r κ g (coming_by (inner_by_steps v live ways r κ g))
    steps_mean = moves_means within.schema r κ g (inner_by_steps v live ways r κ g) inside (λ j q. (step_opens j q, opens_step j q))

    -- a type can be opened so under the tag exactly if one of those steps is taken
    pub some_step : ((j : ℕ) × CanOpen (meaning v) r κ g j) ↔ SomeStep is_taken (steps_of v.from v.by v.to (start v r) (count v r))
    some_step =
        rw (← own-steps fits within.schema (inner_type r) (inner_below v r within inside)) (
          λ c.
              let (q, l) = c.1.some_open inside in
              let x = step l.from c.0 q in
              (x, l.step, opens_taken x l.step l.kept c.1.bears l.live c.1.tag),
          λ w.
              let o = taken_opens w.0 w.1 w.2 in
              (w.0.by, record { bears = o.bears; tag = o.tag; some_open = λ d. (w.0.to, o.leads); none_open = λ z. absurd (omega arith) }),
        )
