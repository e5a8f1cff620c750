-- A step of the pair search keeps what the queue says, and marks all that the pair at its place leads to.
use mathlib.Core.Path.{◌≡◌, refl, sym, ◌∙◌, subst}
use mathlib.Core.Logic.{◌⊎◌, inl, inr, ⊎_elim}
use mathlib.Core.Bool.{Bool, true, false, cond}
use mathlib.Core.List.{List, [], ◌∷◌}
use Prim.Native.Nat.{ℕ, ◌<◌, ◌≤◌}
use native.Mathlib.Omega.{arith}
use borrow.Author.Tests.{lt-ltb, eq-eqb}
use lib.Dec.{T, eqb, ltb, eqb→eq}
use lib.ListN.{get_or}
use Rattle.std.specs.List.{Contains, fold}
use Rattle.sdtd.specs.Limits.{most_states, most_pairs}
use Rattle.sdtd.specs.Competition.{pair_number}
use Rattle.sdtd.proofs.Pairs.{pair_below_most}
use Rattle.schema.specs.Rows.{to_in, by_in}
use Rattle.competition.specs.Rows.{LeadsWith, Leading}
use Rattle.competition.specs.Found.{pair_found, found_at}
use Rattle.competition.specs.Marks.{Marks, mark_of, mark_both, mark_with, mark_rows}
use Rattle.competition.specs.Queue.{LedTo}
use Rattle.competition.specs.declared.queue.Found.{Found}
use Rattle.competition.proofs.RowLaws.{contains_first, contains_later, contains_cases}
use Rattle.competition.proofs.Kept.{IsMarked, entry_at, entry_number, EntryLeads, Kept, joined}
use Rattle.competition.proofs.Kept.{set_marks, room, old_entry, new_mark, still_leads, join_kept}

-- pairs are found from the entry e of the queue, which is at the place `at`
module _ (rows : ℕ → List ℕ) (at : ℕ) (e : Found) where
  -- the rows of e's states
  abbrev left : List ℕ
  left = rows e.first

  abbrev right : List ℕ
  right = rows e.second

  -- what holds while pairs are found from e: e stands at its place, and all that the entries before it lead to stands in the queue
  pub record Ready (m : Marks) : Type 0 where
    pub kept : Kept rows m
    pub queued : at < m.queue.count
    pub here : entry_at m at ≡ e
    pub earlier_placed : (h : ℕ) → h < at → EntryLeads rows m m.queue.count h

  -- from m to m' entries and marks are only added, and the pairs New are marked
  pub record Grows (m m' : Marks) (New : ℕ → ℕ → Type 0) : Type 0 where
    pub ready : Ready m'
    pub more : m.queue.count ≤ m'.queue.count
    pub marks : (n : ℕ) → IsMarked m n → IsMarked m' n
    pub stay : (i : ℕ) → i < m.queue.count → entry_at m' i ≡ entry_at m i
    pub new : (p q : ℕ) → New p q → IsMarked m' (pair_number p q)

  -- the type j leads from e's pair to the pair p, q
  abbrev pub LeadsTo : ℕ → ℕ → ℕ → Type 0
  LeadsTo j p q = Leading left right j p q

  stays : {m : Marks} {New : ℕ → ℕ → Type 0} → Ready m → ((p q : ℕ) → New p q → IsMarked m (pair_number p q)) → Grows m m New
  stays r news = record { ready = r; more = omega arith; marks = λ n t. t; stay = λ i h. refl; new = news }

  grows_then : {m m' m'' : Marks} {A B C : ℕ → ℕ → Type 0} → Grows m m' A → Grows m' m'' B
      → ((p q : ℕ) → C p q → A p q ⊎ B p q) → Grows m m'' C
  grows_then f g split =
      record {
        ready = g.ready;
        more = omega (arith, f.more, g.more);
        marks = λ n t. g.marks n (f.marks n t);
        stay = λ i h. g.stay i (omega (arith, f.more)) ∙ f.stay i h;
        new = λ p q c. ⊎_elim (λ a. g.marks (pair_number p q) (f.new p q a)) (g.new p q) (split p q c);
      }

  grows_if : {m m' : Marks} {A : ℕ → ℕ → Type 0} (b : Bool) → Ready m → (T b → Grows m m' A)
      → Grows m (cond b m' m) (λ p q. T b × A p q)
  grows_if false r g = stays r (λ p q c. absurd c.0)
  grows_if true r g =
      let f = g tt in
      record { ready = f.ready; more = f.more; marks = f.marks; stay = f.stay; new = λ p q c. f.new p q c.1 }

  -- an entry of such a pair was found from e
  led : (queue : List Found) (x : Found) (j p q : ℕ) → found_at queue at ≡ e → x.parent ≡ at → x.by.0 ≡ j → x.first ≡ p → x.second ≡ q
      → LeadsTo j p q → LedTo rows queue x
  led queue x j p q here parent by first second l = rw (parent, here, by, first, second) l

  joins : (m : Marks) (n : ℕ) (x : Found) → Ready m → entry_number x ≡ n → n < most_pairs → get_or m.reached n false ≡ false → x.parent ≡ at
      → LedTo rows m.queue.found x → Grows m (joined m n x) (λ p q. pair_number p q ≡ n)
  joins m n x r is below fresh parent f =
      record {
        ready =
            record {
              kept = join_kept r.kept n x is below fresh (omega (arith, r.queued)) f (λ h l. r.earlier_placed h (omega arith));
              queued = omega (arith, r.queued);
              here = old_entry r.kept n x is below fresh at r.queued ∙ r.here;
              earlier_placed = λ h l. still_leads r.kept n x is below fresh (omega arith) (omega arith) (omega (arith, r.queued)) (r.earlier_placed h l);
            };
        more = omega arith;
        marks = λ k t. set_marks m.reached n k t;
        stay = old_entry r.kept n x is below fresh;
        new = λ p q s. rw s (new_mark r.kept n x is below fresh);
      }

  mark_cases : (m : Marks) (n : ℕ) (x : Found) → Ready m → entry_number x ≡ n → n < most_pairs → x.parent ≡ at → LedTo rows m.queue.found x
      → (b : Bool) → get_or m.reached n false ≡ b
      → Grows m (cond b m (cond (ltb m.queue.count most_pairs) (joined m n x) m)) (λ p q. pair_number p q ≡ n)
  mark_cases m n x r is below parent f true old = stays r (λ p q s. rw s (subst T (sym old) tt))
  mark_cases m n x r is below parent f false fresh =
      rw (lt-ltb m.queue.count most_pairs (room r.kept n x is below fresh)) (joins m n x r is below fresh parent f)

  mark_grows : (m : Marks) (j p q : ℕ) → Ready m → p < most_states → q < most_states → LeadsTo j p q
      → Grows m (mark_of m (pair_found p q j at)) (λ p' q'. pair_number p' q' ≡ pair_number p q)
  unfolding mark_of
  mark_grows m j p q r hp hq l =
      let x : Found = pair_found p q j at in
      mark_cases m (pair_number p q) x r refl (pair_below_most p q hp hq) refl (led m.queue.found x j p q r.here refl refl refl refl l)
      (get_or m.reached (pair_number p q) false) refl

  -- what each entry of a row marks, one after another
  each_grows : (mark : Marks → ℕ → Marks) (row : List ℕ) (New : ℕ → ℕ → ℕ → Type 0)
      → ((x : ℕ) → Contains row x → (m : Marks) → Ready m → Grows m (mark m x) (New x))
      → (m : Marks) → Ready m → Grows m (fold mark m row) (λ p q. (x : ℕ) × Contains row x × New x p q)
  each_grows mark [] New each m r = stays r (λ p q c. absurd (omega (arith, c.1)))
  each_grows mark (y ∷ row) New each m r =
      let one = each y (contains_first y row) m r in
      grows_then one (each_grows mark row New (λ x s. each x (contains_later y row x s)) _ one.ready) split
    where
      split : (p q : ℕ) → (x : ℕ) × Contains (y ∷ row) x × New x p q → New y p q ⊎ ((x : ℕ) × Contains row x × New x p q)
      split p q c =
          ⊎_elim
          (λ (same : y ≡ c.0). inl (rw same c.2))
          (λ rest. inr (c.0, rest, c.2))
          (contains_cases y row c.0 c.1)

  -- what each entry of a row marks is marked for the whole row
  over_grows : (mark : Marks → ℕ → Marks) (row : List ℕ) {New : ℕ → ℕ → ℕ → Type 0} {All : ℕ → ℕ → Type 0}
      → ((x : ℕ) → Contains row x → (m : Marks) → Ready m → Grows m (mark m x) (New x))
      → ((p q : ℕ) → All p q → (x : ℕ) × Contains row x × New x p q)
      → (m : Marks) → Ready m → Grows m (fold mark m row) All
  over_grows mark row {New} each found m r =
      let g = each_grows mark row New each m r in
      record { ready = g.ready; more = g.more; marks = g.marks; stay = g.stay; new = λ p q c. g.new p q (found p q c) }

  -- an entry x of the left row and an entry y of the right one
  both_grows : (x y : ℕ) → Contains left x → Contains right y → (m : Marks) → Ready m
      → Grows m (mark_both x at m y) (λ p q. T (eqb (by_in y) (by_in x)) × (pair_number p q ≡ pair_number (to_in x) (to_in y)))
  both_grows x y sx sy m r =
      grows_if (eqb (by_in y) (by_in x)) r
      (λ t. mark_grows m (by_in x) (to_in x) (to_in y) r (omega arith) (omega arith)
      (record {
        entry = x;
        stands = sx;
        by = refl;
        other = record { entry = y; stands = sy; one_type = eqb→eq (by_in y) (by_in x) t; first = refl; second = refl };
      }))

  with_grows : (x : ℕ) → Contains left x → (m : Marks) → Ready m → Grows m (mark_with right at m x) (LeadsWith right x)
  with_grows x sx =
      over_grows (mark_both x at) right (λ y sy. both_grows x y sx sy)
      (λ p q c. (c.entry, c.stands, (rw (eq-eqb (by_in c.entry) (by_in x) c.one_type) tt, rw (c.first, c.second))))

  -- a type leads from e's pair to the pair p, q
  abbrev pub Led : ℕ → ℕ → Type 0
  Led p q = (j : ℕ) × LeadsTo j p q

  pub step_grows : (m : Marks) → Ready m → Grows m (mark_rows left right at m) Led
  step_grows = over_grows (mark_with right at) left with_grows (λ p q c. (c.1.entry, c.1.stands, c.1.other))
