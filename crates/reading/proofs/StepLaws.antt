-- The steps over the rows and heads of a schema answer what the calls promise.
use mathlib.Core.Path.{◌≡◌, refl, sym, ◌∙◌}
use mathlib.Core.Logic.{◌↔◌, ◌⊎◌, inl, inr, ⊎_elim}
use mathlib.Core.Bool.{Bool, true, false, cond, ◌&&◌}
use mathlib.Core.List.{List, [], ◌∷◌}
use Prim.Native.Nat.{ℕ, ◌^◌, ◌≤◌, ◌<◌}
use native.Mathlib.Omega.{arith}
use borrow.Author.Tests.{ne_eqb}
use lib.Dec.{T, eqb, leb, eqb→eq, leb→le, le→leb, eqb_refl}
use lib.ListN.{get_or, drop}
use Rattle.sdtd.specs.Limits.{most_tags, most_states, most_levels}
use Rattle.sdtd.specs.Schema.{Schema as Meaning}
use Rattle.sdtd.specs.Tree.{Kind}
use Rattle.sdtd.specs.Document.{Event, opening, closing, finish}
use Rattle.sdtd.specs.Answer.{ask, Ordered, refused}
use Rattle.sdtd.proofs.Basics.{cond_either, and_parts, is_true, is_false, not_both}
use Rattle.sdtd.proofs.Tests.{itself, eq_means, and_means, or_means}
use Rattle.schema.specs.States.{meet, no_states}
use Rattle.schema.specs.Rows.{RowsMean}
use Rattle.schema.specs.Value.{meaning}
use Rattle.schema.specs.Trimming.{LiveExactly, WaysExactly}
use Rattle.schema.specs.declared.value.Schema.{Schema}
use Rattle.schema.proofs.FirstTables.{Fits}
use Rattle.schema.proofs.WaysLaws.{nillable_of}
use Rattle.reading.specs.declared.value.Reading.{Reading}
use Rattle.std.specs.Prelude.{Some, None}
use Rattle.reading.specs.declared.tables.Tables.{Tables}
use Rattle.reading.specs.declared.steps.Inner.{Inner}
use Rattle.reading.specs.Levels.{inner_type, inner_set, Within}
use Rattle.reading.specs.Questions.{gives, refuses, questions, TakenBy, Ends, Complete, CallMeans, Next}
use Rattle.reading.specs.Heads.{tag_of_head, nillable_of_head, accepting_of_head}
use Rattle.reading.specs.Coming.{Coming, Move, coming_by}
use Rattle.reading.specs.Heads.{HeadsMean}
use Rattle.reading.specs.Steps.{coming_at, open_by, open_step, open_by_rows, open_by_steps, inner, inner_of, complete, close_step, close_step_in}
use Rattle.reading.specs.Steps.{finish_step, Steady, OwnFits}
use Rattle.reading.proofs.LevelLaws.{tags_of, inner_below, inner_most, inner_tag, ends_meets}
use Rattle.reading.proofs.ComingMeans.{ComingMeans}
use Rattle.reading.proofs.InsideMeans.{rows_mean, inside_room, steps_mean}
use Rattle.reading.proofs.RootMeans.{root_means}

not_leb : (m n : ℕ) → ¬ T (leb m n) → n < m
not_leb m n h =
    let d : ¬ (m ≤ n) = λ l. h (le→leb m n l) in
    omega arith

-- the questions of a call from the one at the place k on
abbrev Rest : Meaning → Reading → Event → ℕ → Next → Type 0
Rest S r x k n = Ordered (drop k (questions S r x)) (TakenBy S r x) n

-- a question by a test: of the answer no, or of the answer yes
asked_no : (P : Next → Type 0) {holds : Type 0} (b : Bool) {x y : Next} → (T b → ¬ holds) → (¬ T b → holds × P y)
    → ((¬ holds) × (cond b x y ≡ x)) ⊎ (holds × P (cond b x y))
asked_no P true f g = inl (f tt, refl)
asked_no P false f g = inr (g (λ h. h))

asked_yes : (P : Next → Type 0) {holds : Type 0} (b : Bool) {x y : Next} → (T b → holds × P y) → (¬ T b → ¬ holds)
    → ((¬ holds) × (cond b y x ≡ x)) ⊎ (holds × P (cond b y x))
asked_yes P true f g = inr (f tt)
asked_yes P false f g = inl (g (λ h. h), refl)

-- 13 and 14
open_by_means : {S : Meaning} {r : Reading} {κ : Kind} {g : ℕ} (c : Coming) → ComingMeans S r κ g c → Rest S r (opening κ g) 3 (open_by κ r c)
open_by_means None m = inl (λ o. m o.0 o.1, refl)
open_by_means {S} {r} {κ} {g} (Some (j, kept)) m =
    inr (
      (j.0, m.can_open),
      asked_no (Rest S r (opening κ g) 5) (leb most_levels r.depth) (λ h d. omega (arith, leb→le most_levels r.depth h)) (λ h. (
        not_leb most_levels r.depth h,
        record {
          type = j.0;
          can_open = m.can_open;
          smallest = m.smallest;
          kept = kept.0;
          kept_below = m.kept_below;
          keeps = m.keeps;
          next = refl;
        },
      )),
    )

-- 18
pub finish_step_means : {S : Meaning} {r : Reading} → Within S r → CallMeans S r finish (finish_step r)
unfolding finish_step
finish_step_means {S} {r} w =
    inr (
      w,
      asked_no (Rest S r finish 2) r.finished (λ h. not_both (is_true r.finished h)) (λ n. (
        is_false r.finished n,
        asked_yes (Rest S r finish 3) (r.rooted && eqb r.depth 0)
            (λ h.
            let p = and_parts r.rooted (eqb r.depth 0) h in
            (record { opened = is_true r.rooted p.0; closed = eqb→eq r.depth 0 p.1 }, refl))
            (λ m o. m (rw (o.opened, o.closed) tt)),
      )),
    )

-- what the code of a closing asks for
pub stands_steady : (v : Schema) {r : Reading} → Within (meaning v) r → Steady r
stands_steady v {r} w = record { depth = w.reading.depth; inner = inner_most v r w }

-- the tables of a schema inside the limits
pub record TablesMean (v : Schema) (t : Tables) : Type 0 where
  pub rows : RowsMean (meaning v) t.rows.entries.now t.rows.begins.now
  pub heads : HeadsMean v t.heads.now
  pub tags : t.tags ≡ v.tags

module _ {v : Schema} {r : Reading} (fits : Fits v) (within : Within (meaning v) r) where
  tags_most : v.tags ≤ most_tags
  tags_most = omega (arith, tags_of v, within.schema.tags_most)

  -- 10 to 12
  tag_asked : (P : Next → Type 0) (g : ℕ) {n : Next} → (g < v.tags → P n)
      → Ordered (ask (refuses r 10) (Within (meaning v) r) ∷ ask (refuses r 11) (r.finished ≡ false) ∷ ask (refuses r 12) (g < (meaning v).tags) ∷ []) P
      (cond r.finished (gives (refused 11) r) (cond (leb v.tags g) (gives (refused 12) r) n))
  tag_asked P g next =
      inr (
        within,
        asked_no (Ordered (ask (refuses r 12) (g < (meaning v).tags) ∷ []) P) r.finished (λ h. not_both (is_true r.finished h)) (λ n. (
          is_false r.finished n,
          asked_no P (leb v.tags g) (λ h l. omega (arith, leb→le v.tags g h, tags_of v))
              (λ h. let l = not_leb v.tags g h in (rw (tags_of v) l, next l)),
        )),
      )

  some_open : ¬ T (eqb r.depth 0) → 0 < r.depth
  some_open n =
      let d : ¬ (r.depth ≡ 0) = λ e. n (rw e tt) in
      omega arith

  -- an opening by the heads, and inside an element by its moves
  module _ {heads : List ℕ} (headed : HeadsMean v heads) (κ : Kind) (g : ℕ) (moves : List Move)
      (inside_means : 0 < r.depth → ComingMeans (meaning v) r κ g (coming_by moves)) where
    coming_at_means : g < v.tags → ComingMeans (meaning v) r κ g (coming_at heads moves r κ g)
    unfolding coming_at
    coming_at_means m =
        cond_either (ComingMeans (meaning v) r κ g) (eqb r.depth 0)
        (λ h. root_means (meaning v) r (eqb→eq r.depth 0 h) κ g heads (headed.opens κ g (omega (arith, tags_most))))
        (λ n. inside_means (some_open n))

    open_step_means : CallMeans (meaning v) r (opening κ g) (open_step v.tags r κ g (coming_at heads moves r κ g))
    unfolding open_step
    open_step_means = tag_asked (Rest (meaning v) r (opening κ g) 3) g (λ m. open_by_means (coming_at heads moves r κ g) (coming_at_means m))

  pub open_rows_means : {t : Tables} → TablesMean v t → ((n : ℕ) → get_or r.sets n 0 < 2 ^ most_states) → (κ : Kind) (g : ℕ) → CallMeans (meaning v) r (opening κ g) (open_by_rows t r κ g)
  open_rows_means {t} m below κ g = rw m.tags (open_step_means m.heads κ g _ (rows_mean within.schema t.rows m.rows r κ g (below _)))

  pub open_steps_means : (live ways : List ℕ) {heads : List ℕ} → LiveExactly (meaning v) live → WaysExactly (meaning v) ways → HeadsMean v heads
      → (κ : Kind) (g : ℕ) → CallMeans (meaning v) r (opening κ g) (open_by_steps v live ways heads r κ g)
  open_steps_means live ways table opened headed κ g =
      open_step_means headed κ g _ (λ inside. steps_mean fits within inside live ways table opened κ g)

  -- what the code of an opening asks for
  pub stands_own : (v.tags ≤ most_tags) × OwnFits v r
  stands_own = (tags_most, record { steady = stands_steady v within; room = λ d. inside_room fits within d })

  module _ (sets : (n : ℕ) → get_or r.sets n 0 < 2 ^ most_states) where
    -- 17
    ends : (d : 0 < r.depth) → Ends (meaning v) r ↔ T (meet (inner_set r) (get_or v.accepting (inner_type r) 0))
    ends d = ends_meets v r within d (sets _) (fits.accepting_below _)

    -- what the innermost element has by the tables of the schema
    abbrev by_tables : Inner
    by_tables = inner (get_or v.tag (inner_type r) 0) (get_or v.nillable (inner_type r) false) (get_or v.accepting (inner_type r) 0)

    completes : (d : 0 < r.depth) → Complete (meaning v) r ↔ T (complete by_tables (inner_set r))
    completes d =
        let empty = and_means (itself (get_or v.nillable (inner_type r) false)) (eq_means (inner_set r) no_states) in
        let m = or_means empty (itself (meet (inner_set r) (get_or v.accepting (inner_type r) 0))) in
        rw (nillable_of v (inner_type r) (inner_below v r within d)) (
          λ c. m.passes (⊎_elim (λ e. inl e) (λ e. inr ((ends d).0 e)) c),
          λ t. ⊎_elim (λ e. inl e) (λ e. inr ((ends d).1 e)) (m.says t),
        )

    -- a closing by the innermost element's own tag and accepting states
    close_means : (own : Inner) → (0 < r.depth → own ≡ by_tables)
        → (g : ℕ) → CallMeans (meaning v) r (closing g) (close_step own v.tags r g)
    unfolding close_step
    close_means own is g =
        tag_asked (Rest (meaning v) r (closing g) 3) g (λ l.
        asked_no (Rest (meaning v) r (closing g) 4) (eqb r.depth 0) (λ h d. omega (arith, eqb→eq r.depth 0 h)) (λ n.
        let d = some_open n in (
          d,
          rw (is d) (
              asked_yes (Rest (meaning v) r (closing g) 5) (eqb (get_or v.tag (inner_type r) 0) g)
              (λ h. (
                inner_tag v r within d ∙ eqb→eq (get_or v.tag (inner_type r) 0) g h,
                asked_yes (Rest (meaning v) r (closing g) 6) (complete by_tables (inner_set r))
                    (λ m. ((completes d).1 m, refl))
                    (λ z e. z ((completes d).0 e)),
              ))
              (λ z e. z (rw (sym (inner_tag v r within d) ∙ e) (eqb_refl g)))
              ),
        )))

    -- with an element open, the choice is its own
    chosen : (x y : Inner) → 0 < r.depth → cond (eqb r.depth 0) x y ≡ y
    chosen x y d = rw (ne_eqb r.depth 0 (λ e. omega arith))

    pub close_step_means : (g : ℕ) → CallMeans (meaning v) r (closing g) (close_step (inner_of v.tag v.nillable v.accepting r) v.tags r g)
    unfolding inner_of
    close_step_means g = close_means _ (λ d. chosen _ _ d) g

    pub close_in_means : {heads : List ℕ} → HeadsMean v heads → (g : ℕ) → CallMeans (meaning v) r (closing g) (close_step_in heads v.tags r g)
    unfolding close_step_in
    close_in_means {heads} headed g = close_means _ (λ d. chosen _ _ d ∙ own d) g
      where
        own : 0 < r.depth
            → inner (tag_of_head heads (inner_type r)) (nillable_of_head heads (inner_type r)) (accepting_of_head heads (inner_type r)) ≡ by_tables
        own d =
            let l = inner_below v r within d in
            rw (headed.tag (inner_type r) l, headed.nillable (inner_type r) l, headed.accepting (inner_type r) l)
