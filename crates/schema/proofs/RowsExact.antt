-- The rows of a schema inside the limits have exactly the steps that count.
use mathlib.Core.Path.{◌≡◌, refl, sym, ap, subst, ◌∙◌}
use mathlib.Core.Logic.{◌↔◌, ⊎_elim}
use mathlib.Core.Bool.{cond}
use mathlib.Core.List.Memᴰ
use mathlib.Core.List.{List, [], ◌∷◌, Memᴰ}
use Prim.Native.Nat.{ℕ, ◌+◌, ◌*◌, ◌/◌, ◌%◌, ◌≤◌, ◌<◌}
use native.Mathlib.Nat.{zero-add, mod-eq_of_lt}
use native.Mathlib.Decide.{dec_lt}
use native.Mathlib.Omega.{arith}
use borrow.Author.Tests.{lt-ltb}
use lib.Dec.{T, eqb, ltb, eqb→eq, eqb_refl}
use lib.ListN.{length, get_or, take}
use lib.Seq.{ext_get_or, get_or-take, length-take-le}
use Rattle.sdtd.specs.Limits.{most_types, most_states, most_steps}
use Rattle.sdtd.specs.Schema.{Step, no_block, block_of, BlockWithin, WithinLimits}
use Rattle.sdtd.proofs.Basics.{cond_either, and_parts, and_both, get_or_member}
use Rattle.schema.specs.States.{member}
use Rattle.schema.specs.Ways.{bears_in}
use Rattle.schema.specs.Value.{offset, block_at, meaning}
use Rattle.schema.specs.Trimming.{LiveExactly, WaysExactly}
use Rattle.schema.specs.Rows.{Counts, from_in, entry_of, row_place, InRow, EntryFor, RowsMean}
use Rattle.schema.specs.Putting.{put_all}
use Rattle.schema.specs.RowMaking.{counts_by, entry_by, counted, picked, RowTables, row_by, add_rows}
use Rattle.schema.specs.declared.value.Schema.{Schema}
use Rattle.schema.proofs.Values.{steps_count, types_count, tag_of_lem, block_of_lem}
use Rattle.schema.proofs.WaysLaws.{bears_in_lem, one_ways}
use Rattle.schema.proofs.LimitLaws.{own_within}
use Rattle.schema.proofs.SpreadLaws.{own}
use Rattle.schema.proofs.FirstTables.{Fits, forth, own-steps, own_step}
use Rattle.schema.proofs.PuttingLaws.{put_there, put_long, counted_most, from_on, from_most}
use Rattle.schema.proofs.RowLaws.{counted_reads}
use Rattle.schema.proofs.RowsLaid.{Laid, RowsAdded, laid_rows, laid_means, laid_none, laid_inside, laid_rest}

-- what is put from the first place on stands there
pub put_take : (es t : List ℕ) → length es ≤ length t → take (length es) (put_all es 0 t) ≡ es
put_take es t l =
    let long : length (take (length es) (put_all es 0 t)) ≡ length es = length-take-le (length es) (put_all es 0 t) (rw (put_long es 0 t) l) in
    ext_get_or 0 (take (length es) (put_all es 0 t)) es long
    (λ k h.
    let h' : k < length es = omega arith in
    get_or-take (length es) (put_all es 0 t) k 0 h' ∙ ap (λ (n : ℕ). get_or (put_all es 0 t) n 0) (sym (zero-add k))
    ∙ put_there es 0 t k (omega arith) h')

mem-picked : (p e : ℕ) (es : List ℕ) → Memᴰ e (picked p es) ↔ (Memᴰ e es × (from_in e ≡ p))
unfolding picked
mem-picked p e [] = (λ m. absurd (Memᴰ.not-nil m), λ m. absurd (Memᴰ.not-nil m.0))
mem-picked p e (x ∷ es) = (
  cond_either (λ (r : List ℕ). Memᴰ e r → Memᴰ e (x ∷ es) × (from_in e ≡ p)) (eqb (from_in x) p)
      (λ t m. ⊎_elim (λ h. (Memᴰ.head h, ap from_in h ∙ eqb→eq (from_in x) p t)) (λ h. later ((mem-picked p e es).0 h)) (Memᴰ.cases_cons m))
      (λ n m. later ((mem-picked p e es).0 m)),
  λ w.
      cond_either (λ (r : List ℕ). Memᴰ e r) (eqb (from_in x) p)
      (λ t. ⊎_elim (λ h. Memᴰ.head h) (λ h. Memᴰ.tail ((mem-picked p e es).1 (h, w.1))) (Memᴰ.cases_cons w.0))
      (λ n. ⊎_elim (λ h. absurd (n (subst (λ (k : ℕ). T (eqb k p)) (sym w.1 ∙ ap from_in h) (eqb_refl p)))) (λ h. (mem-picked p e es).1 (h, w.1)) (Memᴰ.cases_cons w.0)),
)
  where
    later : Memᴰ e es × (from_in e ≡ p) → Memᴰ e (x ∷ es) × (from_in e ≡ p)
    later w = (Memᴰ.tail w.0, w.1)

-- the entry e is that of one of the steps, which counts by the tables
record CountedIn (tag ways : List ℕ) (own : ℕ) (ss : List Step) (e : ℕ) : Type 0 where
  step : Step
  given : Memᴰ step ss
  counts : T (counts_by ways own step)
  is : e ≡ entry_by tag ways step

mem-counted : (tag ways : List ℕ) (own e : ℕ) (ss : List Step) → Memᴰ e (counted tag ways own ss) ↔ CountedIn tag ways own ss e
unfolding counted
mem-counted tag ways own e [] = (λ m. absurd (Memᴰ.not-nil m), λ c. absurd (Memᴰ.not-nil c.given))
mem-counted tag ways own e (s ∷ ss) = (
  cond_either (λ (r : List ℕ). Memᴰ e r → CountedIn tag ways own (s ∷ ss) e) (counts_by ways own s)
      (λ t m.
      ⊎_elim (λ h. record { step = s; given = Memᴰ.head refl; counts = t; is = h }) (λ h. later ((mem-counted tag ways own e ss).0 h))
      (Memᴰ.cases_cons m))
      (λ n m. later ((mem-counted tag ways own e ss).0 m)),
  λ c.
      cond_either (λ (r : List ℕ). Memᴰ e r) (counts_by ways own s)
      (λ t. ⊎_elim (λ h. Memᴰ.head (c.is ∙ ap (entry_by tag ways) h)) (λ h. Memᴰ.tail ((mem-counted tag ways own e ss).1 (rest c h)))
      (Memᴰ.cases_cons c.given))
      (λ n. ⊎_elim (λ h. absurd (n (subst (λ (x : Step). T (counts_by ways own x)) h c.counts))) (λ h. (mem-counted tag ways own e ss).1 (rest c h))
      (Memᴰ.cases_cons c.given)),
)
  where
    later : CountedIn tag ways own ss e → CountedIn tag ways own (s ∷ ss) e
    later c = record { step = c.step; given = Memᴰ.tail c.given; counts = c.counts; is = c.is }

    rest : (c : CountedIn tag ways own (s ∷ ss) e) → Memᴰ c.step ss → CountedIn tag ways own ss e
    rest c m = record { step = c.step; given = m; counts = c.counts; is = c.is }

-- the entries of the type a
abbrev pub type_entries : Schema → List ℕ → List ℕ → ℕ → List ℕ
type_entries v ways live a = counted v.tag ways (get_or live a 0) (own v.steps (forth v) a)

-- the same, where the steps of the type begin
pub entries_from : (v : Schema) (ways live : List ℕ) (a start : ℕ) → start ≡ offset v.steps a
    → counted v.tag ways (get_or live a 0) (forth v start (get_or v.steps a 0)) ≡ type_entries v ways live a
entries_from v ways live a start e = rw e

-- the row of its state p
abbrev pub row_for : Schema → List ℕ → List ℕ → ℕ → ℕ → List ℕ
row_for v ways live a p = cond (ltb p (get_or v.states a 0)) (picked p (type_entries v ways live a)) []

-- all rows, by their places
abbrev pub row_at : Schema → List ℕ → List ℕ → ℕ → List ℕ
row_at v ways live i = row_for v ways live (i / most_states) (i % most_states)

-- the row that is made of them
pub row_made : (v : Schema) (ways live : List ℕ) (a q : ℕ) → q < most_states
    → row_by (type_entries v ways live a) (get_or v.states a 0) q ≡ row_at v ways live (most_states * a + q)
row_made v ways live a q l =
    let quotient : (most_states * a + q) / most_states ≡ a = omega arith in
    let rest : (most_states * a + q) % most_states ≡ q = omega arith in
    rw (quotient, rest) refl

-- the block of a type is inside the limits
block_within : (v : Schema) → WithinLimits (meaning v) → (a : ℕ) → a < v.types → BlockWithin (meaning v) (block_of (meaning v) a)
block_within v within a l = within.blocks (block_of (meaning v) a) (get_or_member (meaning v).blocks a no_block (rw types_count l))

module _
    {v : Schema} (fits : Fits v) (within : WithinLimits (meaning v)) (ways live : List ℕ)
    (opened : WaysExactly (meaning v) ways) (table : LiveExactly (meaning v) live) where
  -- a step that counts by the tables counts, and the other way round
  module _ (a : ℕ) (l : a < v.types) (s : Step) (m : Memᴰ s (block_of (meaning v) a).steps) where
    counts_says : T (counts_by ways (get_or live a 0) s) → Counts (meaning v) a s
    unfolding counts_by
    counts_says t =
        let parts = and_parts (bears_in ways (s.by % most_types)) (member s.to (get_or live a 0)) t in
        record {
          given = m;
          bears = (bears_in_lem (meaning v) ways opened s.by).0 (rw (own_step fits within a s m).by at parts.0);
          live = (table a s.to).0 parts.1;
        }

    counts_passes : Counts (meaning v) a s → T (counts_by ways (get_or live a 0) s)
    unfolding counts_by
    counts_passes c =
        and_both (bears_in ways (s.by % most_types)) (member s.to (get_or live a 0))
        (rw (own_step fits within a s m).by ((bears_in_lem (meaning v) ways opened s.by).1 c.bears)) ((table a s.to).1 c.live)

    entry_same : entry_by v.tag ways s ≡ entry_of (meaning v) s (get_or ways s.by 0)
    entry_same =
        let o = own_step fits within a s m in
        let w = own_within (meaning v) a within (rw types_count l) s m in
        rw (o.by, tag_of_lem v s.by (omega (arith, w.by, types_count v)), mod-eq_of_lt (opened s.by).few)

    own_from : s.from < get_or v.states a 0
    unfolding block_at
    own_from = rw (block_of_lem v a l) at ((block_within v within a l).steps s m).from

  -- the row of a state has exactly the entries of the steps that count from it
  row_exact : (a p e : ℕ) → a < v.types → Memᴰ e (row_for v ways live a p) ↔ EntryFor (meaning v) a p e
  row_exact a p e l = (there, back)
    where
      of : Memᴰ e (picked p (type_entries v ways live a)) → EntryFor (meaning v) a p e
      of m =
          let w = (mem-picked p e (type_entries v ways live a)).0 m in
          let c = (mem-counted v.tag ways (get_or live a 0) e (own v.steps (forth v) a)).0 w.0 in
          let g = subst (λ (ss : List Step). Memᴰ c.step ss) (sym (own-steps fits within a l)) c.given in
          let k = counts_says a l c.step g c.counts in
          let is = c.is ∙ entry_same a l c.step g in
          record {
            step = c.step;
            counts = k;
            from = sym (counted_reads within k (opened c.step.by).few).from_is ∙ ap from_in (sym is) ∙ w.1;
            ways = get_or ways c.step.by 0;
            opened = opened c.step.by;
            is = is;
          }

      there : Memᴰ e (row_for v ways live a p) → EntryFor (meaning v) a p e
      there =
          cond_either (λ (r : List ℕ). Memᴰ e r → EntryFor (meaning v) a p e) (ltb p (get_or v.states a 0)) (λ t. of)
          (λ n m. absurd (Memᴰ.not-nil m))

      back : EntryFor (meaning v) a p e → Memᴰ e (row_for v ways live a p)
      back f =
          let g = f.counts.given in
          let c : CountedIn v.tag ways (get_or live a 0) (own v.steps (forth v) a) e =
          record {
            step = f.step;
            given = rw (own-steps fits within a l) at g;
            counts = counts_passes a l f.step g f.counts;
            is = f.is ∙ ap (entry_of (meaning v) f.step) (one_ways f.opened (opened f.step.by)) ∙ sym (entry_same a l f.step g);
          } in
          let few : p < get_or v.states a 0 = rw f.from at (own_from a l f.step g) in
          rw (lt-ltb p (get_or v.states a 0) few)
          ((mem-picked p e (type_entries v ways live a)).1 (
            (mem-counted v.tag ways (get_or live a 0) e (own v.steps (forth v) a)).1 c,
            ap from_in f.is ∙ (counted_reads within f.counts f.opened.few).from_is ∙ f.from,
          ))

  -- tables with the rows of all types mean what they should
  pub rows_exact : {t : RowTables} → Laid (row_at v ways live) (most_states * v.types) t → RowsMean (meaning v) t.entries t.begins
  rows_exact {t} laid = record { inside = laid_inside laid; exact = exact; rest = laid_rest laid; past = λ i l. laid.past i (rw types_count at l) }
    where
      exact : (a p e : ℕ) → p < most_states → InRow t.entries t.begins (row_place a p) e ↔ EntryFor (meaning v) a p e
      exact a p e h =
          let quotient : row_place a p / most_states ≡ a = omega arith in
          let rest : row_place a p % most_states ≡ p = omega arith in
          elim (dec_lt a v.types) [
            | yes l ↦
                let laid_there = laid_means laid (row_place a p) e (omega arith) in
                let same = row_exact a p e l in
                let is : row_at v ways live (row_place a p) ≡ row_for v ways live a p = rw (quotient, rest) in
                (λ r. same.0 (rw is at (laid_there.0 r)), λ f. laid_there.1 (rw is (same.1 f)))
            | no n ↦ (
              λ r. absurd (laid_none laid (row_place a p) e (omega arith) r),
              λ f. absurd (n (own_step fits within a f.step f.counts.given).type),
            )
          ]

-- a type has no more entries than steps
pub type_few : (v : Schema) (ways live : List ℕ) (a : ℕ) → length (type_entries v ways live a) ≤ get_or v.steps a 0
type_few v ways live a =
    omega (
      arith,
      counted_most v.tag ways (get_or live a 0) (own v.steps (forth v) a),
      steps_count v.from v.by v.to (offset v.steps a) (get_or v.steps a 0),
    )

-- one type more: its rows are made of the entries of its steps that count
pub type_added : (v : Schema) (ways live : List ℕ) (a start : ℕ) (t : RowTables) → a < most_types
    → start + get_or v.steps a 0 ≤ most_steps → RowsAdded (row_at v ways live) (most_states * a) start t
    → RowsAdded (row_at v ways live) (most_states * (a + 1)) (start + get_or v.steps a 0)
    (add_rows (type_entries v ways live a) (get_or v.states a 0) (most_states * a) 0 most_states t)
type_added v ways live a start t type fit added =
    let es : List ℕ = type_entries v ways live a in
    let few : length es ≤ get_or v.steps a 0 = type_few v ways live a in
    let from : from_on 0 es ≤ length es = from_most 0 es in
    let here : most_states * a + 0 ≡ most_states * a = omega arith in
    let next : most_states * a + most_states ≡ most_states * (a + 1) = omega arith in
    let room : get_or t.begins (most_states * a + 0) 0 + from_on 0 es ≤ most_steps = rw here (omega (arith, added.reach)) in
    let more = laid_rows (row_at v ways live) es (get_or v.states a 0) (most_states * a) (omega arith) most_states 0 t refl
    (rw here added.laid) (λ q l. row_made v ways live a q l) room in
    let reach = rw here at more.reach in
    record { laid = rw (here, next) at more.laid; reach = rw (← next) (omega (arith, reach, added.reach)) }
