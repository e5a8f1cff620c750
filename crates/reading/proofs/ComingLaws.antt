-- What a list of moves comes to: the smallest type among them, and the states that they lead to by that type.
use mathlib.Core.Path.{◌≡◌, refl, sym, subst, ap, ◌∙◌}
use mathlib.Core.Logic.{◌↔◌, ◌⊎◌, inl, inr, ⊎_elim, ◌≢◌}
use mathlib.Core.Bool.{Bool, true, false}
use mathlib.Core.List.Memᴰ
use mathlib.Core.List.{List, [], ◌∷◌, ◌++◌, Memᴰ}
use Prim.Native.Nat.{ℕ, ◌^◌, ◌≤◌, ◌<◌}
use native.Mathlib.Omega.{arith}
use lib.Dec.{T, eqb, ltb, ltb→lt, lt→ltb, eqb→eq, eqb_refl}
use Rattle.std.specs.List.{flat_map}
use Rattle.sdtd.specs.Limits.{most_types, most_states}
use Rattle.sdtd.proofs.Basics.{cond_either}
use Rattle.schema.specs.States.{member, insert, no_states}
use Rattle.schema.proofs.Bits.{member_none, insert_below, member-insert}
use Rattle.reading.specs.declared.coming.Least.{Least}
use Rattle.reading.specs.Coming.{least, none_yet, join, Move, move, joins, move_where}

-- c has the smallest type of P, and the states that P has with it; none are kept where P has nothing, and then c is past every type
pub record Smallest (P : ℕ → ℕ → Type 0) (c : Least) : Type 0 where
  pub kept_below : c.kept < 2 ^ most_states
  pub past : c.kept ≡ no_states → most_types ≤ c.of
  pub none : c.kept ≡ no_states → (j q : ℕ) → ¬ P j q
  pub some : c.kept ≢ no_states → (q : ℕ) × P c.of q
  pub least : (j q : ℕ) → P j q → c.of ≤ j
  pub keeps : (q : ℕ) → T (member q c.kept) ↔ P c.of q

pub smallest_same : {P Q : ℕ → ℕ → Type 0} {c : Least} → ((j q : ℕ) → P j q ↔ Q j q) → Smallest P c → Smallest Q c
smallest_same {c = c} same s =
    record {
      kept_below = s.kept_below;
      past = s.past;
      none = λ e j q p. s.none e j q ((same j q).1 p);
      some = λ n. let p = s.some n in (p.0, (same c.of p.0).0 p.1);
      least = λ j q p. s.least j q ((same j q).1 p);
      keeps = λ q. (λ m. (same c.of q).0 ((s.keeps q).0 m), λ p. (s.keeps q).1 ((same c.of q).1 p));
    }

-- P, and the type j with the state q
abbrev With : (ℕ → ℕ → Type 0) → ℕ → ℕ → ℕ → ℕ → Type 0
With P j q k p = P k p ⊎ ((k ≡ j) × (p ≡ q))

-- a set with a state is not the set of none
some_kept : (x q : ℕ) → T (member q x) → x ≢ no_states
some_kept x q m e = member_none q (subst (λ (y : ℕ). T (member q y)) e m)

module _ (P : ℕ → ℕ → Type 0) (c : Least) (j q : ℕ) (state : q < most_states) (s : Smallest P c) where
  -- the state q alone is kept where no P is by the type j and none by a smaller one
  join_first : ((k p : ℕ) → P k p → j < k) → Smallest (With P j q) (least j (insert q no_states))
  join_first larger =
      let here : T (member q (insert q no_states)) = (member-insert q q no_states (omega arith)).1 (inr (refl, state)) in
      record {
        kept_below = insert_below q no_states (omega arith);
        past = λ e. absurd (some_kept (insert q no_states) q here e);
        none = λ e. absurd (some_kept (insert q no_states) q here e);
        some = λ h. (q, inr (refl, refl));
        least = λ k p. ⊎_elim (λ w. omega (arith, larger k p w)) (λ w. omega arith);
        keeps = λ p. (
          λ m. ⊎_elim (λ n. absurd (member_none p n)) (λ e. inr (refl, e.0)) ((member-insert q p no_states (omega arith)).0 m),
          λ w. ⊎_elim (λ n. absurd (omega (arith, larger j p n))) (λ e. (member-insert q p no_states (omega arith)).1 (inr (e.1, state))) w,
        );
      }

  -- a larger type changes nothing
  join_larger : c.kept ≢ no_states → c.of < j → Smallest (With P j q) c
  join_larger n l =
      record {
        kept_below = s.kept_below;
        past = λ e. absurd (n e);
        none = λ e. absurd (n e);
        some = λ h. let w = s.some h in (w.0, inl w.1);
        least = λ k p. ⊎_elim (s.least k p) (λ w. omega arith);
        keeps = λ p. (λ m. inl ((s.keeps p).0 m), ⊎_elim (s.keeps p).1 (λ w. absurd (omega arith)));
      }

  -- the same type adds the state
  join_same : c.of ≡ j → Smallest (With P j q) (least j (insert q c.kept))
  join_same e =
      let insertion : (p : ℕ) → T (member p (insert q c.kept)) ↔ (T (member p c.kept) ⊎ ((p ≡ q) × (q < most_states))) =
      λ p. member-insert q p c.kept s.kept_below in
      let some : insert q c.kept ≢ no_states = some_kept (insert q c.kept) q ((insertion q).1 (inr (refl, state))) in
      record {
        kept_below = insert_below q c.kept s.kept_below;
        past = λ e. absurd (some e);
        none = λ e. absurd (some e);
        some = λ h. (q, inr (refl, refl));
        least = λ k p. ⊎_elim (λ w. omega (arith, s.least k p w)) (λ w. omega arith);
        keeps = λ p. (
          λ m. ⊎_elim (λ n. inl (subst (λ (k : ℕ). P k p) e ((s.keeps p).0 n))) (λ w. inr (refl, w.0)) ((insertion p).0 m),
          ⊎_elim
              (λ w. (insertion p).1 (inl ((s.keeps p).1 (subst (λ (k : ℕ). P k p) (sym e) w))))
              (λ w. (insertion p).1 (inr (w.1, state))),
        );
      }

  join_smallest : j < most_types → Smallest (With P j q) (join c j q)
  unfolding join
  join_smallest type =
      cond_either (Smallest (With P j q)) (eqb j c.of) (λ h. join_same (sym (eqb→eq j c.of h)))
      (λ n. cond_either (Smallest (With P j q)) (ltb j c.of)
      (λ h. join_first (λ k p w. omega (arith, ltb→lt j c.of h, s.least k p w)))
      (λ m. let l = above n m in join_larger (λ e. omega (arith, s.past e)) l))
    where
      above : (T (eqb j c.of) → ⊥) → (T (ltb j c.of) → ⊥) → c.of < j
      above n m =
          let d : ¬ (j ≡ c.of) = λ e. n (rw e (eqb_refl c.of)) in
          let l : ¬ (j < c.of) = λ h. m (lt→ltb j c.of h) in
          omega arith

-- P, and the moves of the list
abbrev WithAll : (ℕ → ℕ → Type 0) → List Move → ℕ → ℕ → Type 0
WithAll P ms j q = P j q ⊎ Memᴰ (move j q) ms

-- the moves of a list are by types and lead to states
abbrev pub MovesFit : List Move → Type 0
MovesFit ms = (j q : ℕ) → Memᴰ (move j q) ms → (j < most_types) × (q < most_states)

-- the first move with P, and the others
with_first : (P : ℕ → ℕ → Type 0) (m : Move) (ms : List Move) (j q : ℕ)
    → WithAll (With P m.by m.to) ms j q ↔ WithAll P (m ∷ ms) j q
with_first P m ms j q = (
  ⊎_elim (⊎_elim inl (λ e. inr (Memᴰ.head (λ i. move (e.0 i) (e.1 i))))) (λ w. inr (Memᴰ.tail w)),
  ⊎_elim (λ p. inl (inl p))
      (λ w. ⊎_elim (λ e. inl (inr (ap (λ (x : Move). x.by) e, ap (λ (x : Move). x.to) e))) inr (Memᴰ.cases_cons w)),
)

joins_on : (P : ℕ → ℕ → Type 0) (ms : List Move) → MovesFit ms → (c : Least) → Smallest P c → Smallest (WithAll P ms) (joins ms c)
unfolding joins
joins_on P [] within c s = smallest_same (λ j q. (inl, ⊎_elim (λ p. p) (λ w. absurd (Memᴰ.not-nil w)))) s
joins_on P (m ∷ ms) within c s =
    let first = within m.by m.to (Memᴰ.head refl) in
    smallest_same (with_first P m ms)
    (joins_on (With P m.by m.to) ms (λ j q w. within j q (Memᴰ.tail w)) (join c m.by m.to)
    (join_smallest P c m.by m.to first.1 s first.0))

-- The moves of a list come to the smallest type among them, and to the states that they lead to by that type.
pub joins_smallest : (ms : List Move) → MovesFit ms → Smallest (λ j q. Memᴰ (move j q) ms) (joins ms none_yet)
joins_smallest ms within = smallest_same (λ j q. (⊎_elim (λ p. absurd p) (λ w. w), inr)) (joins_on (λ j q. ⊥) ms within none_yet first)
  where
    first : Smallest (λ j q. ⊥) none_yet
    first =
        record {
          kept_below = omega arith;
          past = λ e. omega arith;
          none = λ e j q t. t;
          some = λ n. absurd (n refl);
          least = λ j q t. absurd t;
          keeps = λ q. (λ m. absurd (member_none q m), λ t. absurd t);
        }

-- a move does not raise the type
join_lower : (c : Least) (j q : ℕ) → (join c j q).of ≤ c.of
unfolding join
join_lower c j q =
    cond_either Lower (eqb j c.of) (λ h. omega (arith, eqb→eq j c.of h))
    (λ n. cond_either Lower (ltb j c.of) (λ h. omega (arith, ltb→lt j c.of h)) (λ m. omega arith))
  where
    Lower : Least → Type 0
    Lower x = x.of ≤ c.of

joins_lower : (ms : List Move) (c : Least) → (joins ms c).of ≤ c.of
unfolding joins
joins_lower [] c = omega arith
joins_lower (m ∷ ms) c = omega (arith, joins_lower ms (join c m.by m.to), join_lower c m.by m.to)

-- so it is at most the number past every type, as it was
pub joins_most : (ms : List Move) (c x : Least) → x ≡ joins ms c → c.of ≤ most_types → x.of ≤ most_types
joins_most ms c x e l = omega (arith, ap (λ (y : Least). y.of) e, joins_lower ms c)

-- first some moves and then others
pub joins-append : (ms ns : List Move) (c : Least) → joins (ms ++ ns) c ≡ joins ns (joins ms c)
unfolding joins
joins-append [] ns c = refl
joins-append (m ∷ ms) ns c = joins-append ms ns (join c m.by m.to)

-- a move among those of the elements of a list
pub moves_mem : {A : Type 0} (f : A → List Move) (xs : List A) (m : Move) → Memᴰ m (flat_map f xs) ↔ ((x : A) × Memᴰ x xs × Memᴰ m (f x))
moves_mem f xs m = (of_mem xs, λ w. to_mem xs w.0 w.1 w.2)
  where
    of_mem : (ys : List _) → Memᴰ m (flat_map f ys) → (x : _) × Memᴰ x ys × Memᴰ m (f x)
    of_mem [] w = absurd (Memᴰ.not-nil w)
    of_mem (y ∷ ys) w =
        ⊎_elim (λ h. (y, Memᴰ.head refl, h)) (λ h. let r = of_mem ys h in (r.0, Memᴰ.tail r.1, r.2))
        (Memᴰ.append_cases (f y) w)

    to_mem : (ys : List _) (x : _) → Memᴰ x ys → Memᴰ m (f x) → Memᴰ m (flat_map f ys)
    to_mem [] x e w = absurd (Memᴰ.not-nil e)
    to_mem (y ∷ ys) x e w =
        ⊎_elim
        (λ h. Memᴰ.append_left (flat_map f ys) (subst (λ (z : _). Memᴰ m (f z)) h w))
        (λ h. Memᴰ.append_right (f y) (to_mem ys x h w))
        (Memᴰ.cases_cons e)

-- a move where a test holds
pub where_mem : (b : Bool) (k p j q : ℕ) → Memᴰ (move j q) (move_where b k p) ↔ (T b × (j ≡ k) × (q ≡ p))
where_mem true k p j q = (
  λ w.
      let e = Memᴰ.eq_of_singleton w in
      (tt, ap (λ (x : Move). x.by) e, ap (λ (x : Move). x.to) e),
  λ w. Memᴰ.head (λ i. move (w.1 i) (w.2 i)),
)
where_mem false k p j q = (λ w. absurd (Memᴰ.not-nil w), λ w. absurd w.0)

-- A loop over a list: the first of those left is joined, and the others are left.
pub joins_first : {A : Type 0} (f : A → List Move) (x : Least) {left rest : List A} {s : A} {x' y : Least} → left ≡ s ∷ rest → x' ≡ joins (f s) x
    → joins (flat_map f left) x ≡ y → joins (flat_map f rest) x' ≡ y
joins_first f x {left} {rest} {s} e h all =
    rw h (sym (joins-append (f s) (flat_map f rest) x) ∙ ap (λ (ss : List _). joins (flat_map f ss) x) (sym e) ∙ all)

pub joins_none_left : {A : Type 0} (f : A → List Move) (x : Least) {left : List A} {y : Least} → left ≡ [] → joins (flat_map f left) x ≡ y → x ≡ y
unfolding joins
joins_none_left f x e all = ap (λ (ss : List _). joins (flat_map f ss) x) (sym e) ∙ all
