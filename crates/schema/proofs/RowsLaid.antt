-- Tables of rows, row by row: what stands in them once the first n rows are laid.
use mathlib.Core.Path.{◌≡◌, sym, ap, subst, ◌∙◌}
use mathlib.Core.Logic.{◌↔◌}
use mathlib.Core.List.{List, Memᴰ}
use Prim.Native.Nat.{ℕ, zero, suc, ◌+◌, ◌-◌, ◌≤◌, ◌<◌}
use native.Mathlib.Nat.{le_trans}
use native.Mathlib.Decide.{dec_lt, ℕ_discrete}
use native.Mathlib.Omega.{arith}
use lib.ListN.{length, get_or, length-set, length-replicate}
use lib.Seq.{get_or-set_same, get_or-set_other}
use Rattle.sdtd.specs.Limits.{most_states, most_steps}
use Rattle.sdtd.proofs.Basics.{get_or_member}
use Rattle.schema.specs.Rows.{most_rows, InRow}
use Rattle.schema.specs.RowMaking.{RowTables, no_rows, add_row, row_by, add_rows}
use Rattle.schema.proofs.PuttingLaws.{put_long, put_before, put_past, put_there, from_on, from_split}
use Rattle.schema.proofs.RowTurns.{row_most}
use Rattle.schema.proofs.Values.{same_everywhere}

-- The rows below n stand in the tables one after another, no further row begins, and past them are zeros.
pub record Laid (row : ℕ → List ℕ) (n : ℕ) (t : RowTables) : Type 0 where
  pub entries_long : length t.entries ≡ most_steps
  pub begins_long : length t.begins ≡ suc most_rows
  pub first : get_or t.begins 0 0 ≡ 0
  pub next : (i : ℕ) → i < n → get_or t.begins (suc i) 0 ≡ get_or t.begins i 0 + length (row i)
  pub up : (i : ℕ) → i ≤ n → get_or t.begins i 0 ≤ get_or t.begins n 0
  pub past : (i : ℕ) → n < i → get_or t.begins i 0 ≡ 0
  pub holds : (i k : ℕ) → i < n → k < length (row i) → get_or t.entries (get_or t.begins i 0 + k) 0 ≡ get_or (row i) k 0
  pub most : get_or t.begins n 0 ≤ most_steps
  pub rest : (k : ℕ) → get_or t.begins n 0 ≤ k → get_or t.entries k 0 ≡ 0

module _ (row : ℕ → List ℕ) where
  laid_first : Laid row 0 no_rows
  laid_first =
      record {
        entries_long = length-replicate {A = ℕ} most_steps 0;
        begins_long = length-replicate {A = ℕ} (suc most_rows) 0;
        first = same_everywhere {A = ℕ} 0 (suc most_rows) 0;
        next = λ i l. absurd (omega arith);
        up = λ i l. rw (same_everywhere {A = ℕ} 0 (suc most_rows) i) (omega arith);
        past = λ i l. same_everywhere {A = ℕ} 0 (suc most_rows) i;
        holds = λ i k l. absurd (omega arith);
        most = rw (same_everywhere {A = ℕ} 0 (suc most_rows) 0) (omega arith);
        rest = λ k l. same_everywhere {A = ℕ} 0 most_steps k;
      }

  module _ {n : ℕ} {t : RowTables} (laid : Laid row n t) (es : List ℕ) (is : es ≡ row n) (few : n < most_rows)
      (room : get_or t.begins n 0 + length es ≤ most_steps) where
    -- the end of the new row, and the beginnings that stay
    new_end : get_or (add_row es n t).begins (suc n) 0 ≡ get_or t.begins n 0 + length es
    unfolding add_row
    new_end = get_or-set_same t.begins (suc n) _ 0 (omega (arith, laid.begins_long))

    old_begin : (i : ℕ) → ¬ (i ≡ suc n) → get_or (add_row es n t).begins i 0 ≡ get_or t.begins i 0
    unfolding add_row
    old_begin i d = get_or-set_other t.begins (suc n) i _ 0 d

    -- an entry before the new row, and one of it
    old_entry : (k : ℕ) → k < get_or t.begins n 0 → get_or (add_row es n t).entries k 0 ≡ get_or t.entries k 0
    unfolding add_row
    old_entry k l = put_before es (get_or t.begins n 0) t.entries k l

    new_entry : (k : ℕ) → k < length es → get_or (add_row es n t).entries (get_or t.begins n 0 + k) 0 ≡ get_or es k 0
    unfolding add_row
    new_entry k l = put_there es (get_or t.begins n 0) t.entries k (omega (arith, laid.entries_long)) l

    pub laid_row : Laid row (suc n) (add_row es n t)
    unfolding add_row
    laid_row =
        record {
          entries_long = put_long es (get_or t.begins n 0) t.entries ∙ laid.entries_long;
          begins_long = length-set t.begins (suc n) _ ∙ laid.begins_long;
          first = old_begin 0 (λ e. omega arith) ∙ laid.first;
          next = λ i l. next i l (ℕ_discrete i n);
          up = λ i l. up i l (ℕ_discrete i (suc n));
          past = λ i l. old_begin i (λ e. omega arith) ∙ laid.past i (omega arith);
          holds = λ i k l h. holds i k l h (ℕ_discrete i n);
          most = rw new_end room;
          rest =
              λ k l.
              let past : get_or t.begins n 0 + length es ≤ k = rw new_end at l in
              put_past es (get_or t.begins n 0) t.entries k past ∙ laid.rest k (omega arith);
        }
      where
        next : (i : ℕ) → i < suc n → Dec (i ≡ n)
            → get_or (add_row es n t).begins (suc i) 0 ≡ get_or (add_row es n t).begins i 0 + length (row i)
        next i l (yes e) = rw (e, new_end, old_begin n (λ q. omega arith), is)
        next i l (no d) = rw (old_begin (suc i) (λ q. omega arith), old_begin i (λ q. omega arith)) (laid.next i (omega arith))

        up : (i : ℕ) → i ≤ suc n → Dec (i ≡ suc n) → get_or (add_row es n t).begins i 0 ≤ get_or (add_row es n t).begins (suc n) 0
        up i l (yes e) = rw e (omega arith)
        up i l (no d) = rw (old_begin i d, new_end) (omega (arith, laid.up i (omega arith)))

        holds : (i k : ℕ) → i < suc n → k < length (row i) → Dec (i ≡ n)
            → get_or (add_row es n t).entries (get_or (add_row es n t).begins i 0 + k) 0 ≡ get_or (row i) k 0
        holds i k l h (yes e) =
            let h' : k < length es = rw is (rw e at h) in
            rw (e, old_begin n (λ q. omega arith), new_entry k h', is)
        holds i k l h (no d) =
            let before : get_or t.begins i 0 + k < get_or t.begins n 0 =
            omega (arith, laid.next i (omega arith), laid.up (suc i) (omega arith)) in
            rw (old_begin i (λ q. omega arith), old_entry (get_or t.begins i 0 + k) before) (laid.holds i k (omega arith) h)

  -- after the rows of some states of one type: how far the entries reach
  pub record RowsAdded (n most : ℕ) (t : RowTables) : Type 0 where
    pub laid : Laid row n t
    pub reach : get_or t.begins n 0 ≤ most

  pub added_first : RowsAdded 0 0 no_rows
  added_first = record { laid = laid_first; reach = rw (same_everywhere {A = ℕ} 0 (suc most_rows) 0) (omega arith) }

  module _ (es : List ℕ) (states first : ℕ) (fits : first + most_states ≤ most_rows) where
    pub laid_rows : (k p : ℕ) (t : RowTables) → p + k ≡ most_states → Laid row (first + p) t
        → ((q : ℕ) → q < most_states → row_by es states q ≡ row (first + q))
        → get_or t.begins (first + p) 0 + from_on p es ≤ most_steps
        → RowsAdded (first + most_states) (get_or t.begins (first + p) 0 + from_on p es) (add_rows es states (first + p) p k t)
    unfolding add_rows
    laid_rows zero p t e laid is room =
        let same : first + p ≡ first + most_states = omega arith in
        record { laid = rw (← same) laid; reach = rw (← same) (omega arith) }
    laid_rows (suc k) p t e laid is room =
        let s : suc (first + p) ≡ first + suc p = omega arith in
        let new : List ℕ = row_by es states p in
        let some = row_most es states p in
        let split = from_split p es in
        let fit : get_or t.begins (first + p) 0 + length new ≤ most_steps = omega arith in
        let l = laid_row laid new (is p (omega arith)) (omega arith) fit in
        let end = new_end laid new (is p (omega arith)) (omega arith) fit in
        let more = laid_rows k (suc p) (add_row new (first + p) t) (omega arith) (rw s at l) is (rw (← s) (omega arith)) in
        let most : get_or (add_row new (first + p) t).begins (first + suc p) 0 + from_on (suc p) es
        ≤ get_or t.begins (first + p) 0 + from_on p es = rw (← s) (omega arith) in
        subst (λ (i : ℕ). RowsAdded (first + most_states) (get_or t.begins (first + p) 0 + from_on p es)
        (add_rows es states i (suc p) k (add_row new (first + p) t))) (sym s)
        (record { laid = more.laid; reach = le_trans more.reach most })

-- the place of a member
mem_place : {A : Type 0} {x : A} (xs : List A) (d : A) → Memᴰ x xs → (k : ℕ) × (k < length xs) × (get_or xs k d ≡ x)
mem_place xs d (Memᴰ.head e) = (0, omega arith, sym e)
mem_place xs d (Memᴰ.tail {xs = ys} m) = let p = mem_place ys d m in (suc p.0, omega (arith, p.1), p.2)

-- an entry stands in a row that is laid exactly if it is one of the row's
pub laid_means : {row : ℕ → List ℕ} {n : ℕ} {t : RowTables} → Laid row n t → (i e : ℕ) → i < n
    → InRow t.entries t.begins i e ↔ Memᴰ e (row i)
laid_means {row} {n} {t} laid i e l = (
  λ r.
      let k : ℕ = r.place - get_or t.begins i 0 in
      let at : r.place ≡ get_or t.begins i 0 + k = omega (arith, r.least) in
      let h : k < length (row i) = omega (arith, r.least, r.most, laid.next i l) in
      let is : get_or (row i) k 0 ≡ e = sym (laid.holds i k l h) ∙ ap (λ (m : ℕ). get_or t.entries m 0) (sym at) ∙ r.is in
      subst (λ (x : ℕ). Memᴰ x (row i)) is (get_or_member (row i) k 0 h),
  λ m.
      let p = mem_place (row i) 0 m in
      record {
        place = get_or t.begins i 0 + p.0;
        least = omega arith;
        most = omega (arith, p.1, laid.next i l);
        is = laid.holds i p.0 l p.1 ∙ p.2;
      },
)

-- past the rows that are laid no entry stands
pub laid_none : {row : ℕ → List ℕ} {n : ℕ} {t : RowTables} → Laid row n t → (i e : ℕ) → n ≤ i → ¬ InRow t.entries t.begins i e
laid_none laid i e l r = omega (arith, laid.past (suc i) (omega arith), r.most)

-- each row ends inside the table
pub laid_inside : {row : ℕ → List ℕ} {n : ℕ} {t : RowTables} → Laid row n t → (i : ℕ) → get_or t.begins i 0 ≤ most_steps
laid_inside {n = n} laid i =
    elim (dec_lt n i) [ yes l ↦ omega (arith, laid.past i l) | no l ↦ omega (arith, laid.up i (omega arith), laid.most) ]

-- a place before the end of the rows stands in one of them
row_over : (begins : List ℕ) (n k : ℕ) → get_or begins 0 0 ≡ 0 → k < get_or begins n 0
    → (i : ℕ) × (get_or begins i 0 ≤ k) × (k < get_or begins (suc i) 0)
row_over begins zero k e l = absurd (omega arith)
row_over begins (suc n) k e l =
    elim (dec_lt k (get_or begins n 0)) [ yes h ↦ row_over begins n k e h | no h ↦ (n, omega arith, l) ]

-- what stands in no row is 0
pub laid_rest : {row : ℕ → List ℕ} {n : ℕ} {t : RowTables} → Laid row n t → (k : ℕ)
    → ((i : ℕ) → get_or t.begins i 0 ≤ k → ¬ (k < get_or t.begins (suc i) 0)) → get_or t.entries k 0 ≡ 0
laid_rest {n = n} {t = t} laid k none =
    elim (dec_lt k (get_or t.begins n 0)) [
      | yes l ↦
          let i = row_over t.begins n k laid.first l in
          absurd (none i.0 i.1 i.2)
      | no l ↦ laid.rest k (omega arith)
    ]
